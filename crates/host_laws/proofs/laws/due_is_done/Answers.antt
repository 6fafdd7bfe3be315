use Rattle.host_laws.proofs.Interface.DueWork.{due_done}
use Rattle.host_laws.proofs.laws.due_is_done.Goals as goal

pub returns : goal.returns
returns c = due_done
