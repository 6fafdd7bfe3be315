use Rattle.host_laws.proofs.Interface.DueWork.{little_stays_due}
use Rattle.host_laws.proofs.laws.little_stays_due.Goals as goal

pub returns : goal.returns
returns c = little_stays_due
