use Rattle.std.proofs.Common.{refl}
use Rattle.host_machine.proofs.worked_examples.addresses_are_routed_here.Goals as goal

pub returns : goal.returns
returns c = record { given = refl; without = refl; routed = refl; ended = refl; elsewhere = refl; unrouted = refl; group = refl }
