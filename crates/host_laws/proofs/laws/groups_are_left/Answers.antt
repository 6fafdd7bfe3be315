use Rattle.host_laws.proofs.Multicast.SetGroups.{groups_left}
use Rattle.host_laws.proofs.laws.groups_are_left.Goals as goal

pub returns : goal.returns
returns c = groups_left
