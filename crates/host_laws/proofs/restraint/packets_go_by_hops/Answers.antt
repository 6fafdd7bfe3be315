use Rattle.host_laws.proofs.Send.HopsByLists.{go_by_hops}
use Rattle.host_laws.proofs.restraint.packets_go_by_hops.Goals as goal

pub returns : goal.returns
returns c = go_by_hops
