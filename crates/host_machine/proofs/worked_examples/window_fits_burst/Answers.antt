use Rattle.std.proofs.Common.{refl}
use Rattle.host_machine.proofs.worked_examples.window_fits_burst.Goals as goal

pub returns : goal.returns
returns c = λ r widest. rw widest refl
