use Rattle.std.proofs.Common.{refl}
use Rattle.host_machine.proofs.worked_examples.groups_follow_addresses.Goals as goal

pub returns : goal.returns
returns c = record { moved = refl; loopback = refl; without_hardware = refl }
