use Rattle.std.proofs.Common.{refl}
use Rattle.host_machine.proofs.worked_examples.replies_are_measured.Goals as goal

pub returns : goal.returns
returns c = record { echo = refl; closed_port = refl; other_protocol = refl }
