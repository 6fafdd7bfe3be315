use Rattle.std.proofs.Common.{refl}
use Rattle.host_machine.proofs.worked_examples.ten_are_cut.Goals as goal

pub returns : goal.returns
returns c = refl
