use Rattle.host_laws.proofs.Send.HopsByLists.{sources_near}
use Rattle.host_laws.proofs.restraint.sources_are_near.Goals as goal

pub returns : goal.returns
returns c = sources_near
