use Rattle.tcp_host_laws.proofs.CallLemmas as lemmas
use Rattle.tcp_host_laws.proofs.calls_live_on.Goals as goal

pub returns : goal.returns
returns c = lemmas.calls_live_on
