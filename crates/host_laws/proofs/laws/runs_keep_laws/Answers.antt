use Rattle.host_laws.proofs.Interface.RunConcatenation.{run_laws}
use Rattle.host_laws.proofs.laws.runs_keep_laws.Goals as goal

pub returns : goal.returns
returns c = λ first last places run. run_laws run
