use Rattle.host_laws.proofs.LessWork.{make_progress}
use Rattle.host_laws.proofs.progress.polls_make_progress.Goals as goal

pub returns : goal.returns
returns c = make_progress
