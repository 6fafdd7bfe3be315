use Rattle.host_laws.proofs.Runs.RunDeterminism.{run_once}
use Rattle.host_laws.proofs.laws.run_is_determined.Goals as goal

pub returns : goal.returns
returns c = run_once
