use Rattle.host_laws.proofs.Interface.SlaacPolls.{polls_end_in_calls}
use Rattle.host_laws.proofs.laws.polls_end_in_calls.Goals as goal

pub returns : goal.returns
returns c = polls_end_in_calls
