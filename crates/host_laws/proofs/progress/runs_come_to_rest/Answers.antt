use Rattle.host_laws.proofs.LessWork.{runs_rest}
use Rattle.host_laws.proofs.progress.runs_come_to_rest.Goals as goal

pub returns : goal.returns
returns c = runs_rest
