use Rattle.host_laws.proofs.Interface.SingleCalls.{run_unfolds}
use Rattle.host_laws.proofs.laws.runs_unfold.Goals as goal

pub returns : goal.returns
returns c = λ first last places run. run_unfolds run
