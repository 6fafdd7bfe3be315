use Rattle.host_laws.proofs.Interface.OtherSteps.{learn_nobody}
use Rattle.host_laws.proofs.restraint.other_steps_learn_nobody.Goals as goal

pub returns : goal.returns
returns c = learn_nobody
