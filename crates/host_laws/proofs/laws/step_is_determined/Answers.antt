use Rattle.host_laws.proofs.Interface.StepDeterminism.{step_once}
use Rattle.host_laws.proofs.laws.step_is_determined.Goals as goal

pub returns : goal.returns
returns c = step_once
