use Rattle.host_laws.proofs.Multicast.SetGroups.{groups_joined}
use Rattle.host_laws.proofs.laws.groups_are_joined.Goals as goal

pub returns : goal.returns
returns c = groups_joined
