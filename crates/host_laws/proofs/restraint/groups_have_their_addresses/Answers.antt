use Rattle.host_laws.proofs.Send.HopsByLists.{groups_reached}
use Rattle.host_laws.proofs.restraint.groups_have_their_addresses.Goals as goal

pub returns : goal.returns
returns c = groups_reached
