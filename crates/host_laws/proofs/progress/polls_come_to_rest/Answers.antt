use Rattle.host_laws.proofs.LessWork.{come_to_rest}
use Rattle.host_laws.proofs.progress.polls_come_to_rest.Goals as goal

pub returns : goal.returns
returns c = come_to_rest
