use Rattle.egress_schedule.proofs.GoesOn.{waits_go_on}
use Rattle.egress_schedule.proofs.laws.waits_go_on.Goals as goal

pub returns : goal.returns
returns c = waits_go_on
