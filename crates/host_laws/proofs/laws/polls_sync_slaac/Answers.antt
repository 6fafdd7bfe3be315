use Rattle.host_laws.proofs.Interface.SlaacPolls.{polls_sync_slaac}
use Rattle.host_laws.proofs.laws.polls_sync_slaac.Goals as goal

pub returns : goal.returns
returns c = polls_sync_slaac
