use Rattle.tcp_host_laws.proofs.PollTurns as lemmas
use Rattle.tcp_host_laws.proofs.polls_live_on.Goals as goal

pub returns : goal.returns
returns g c = lemmas.polls_live_on
