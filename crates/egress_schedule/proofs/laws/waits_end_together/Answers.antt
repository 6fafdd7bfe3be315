use Rattle.egress_schedule.proofs.Ends.{waits_end_together}
use Rattle.egress_schedule.proofs.laws.waits_end_together.Goals as goal

pub returns : goal.returns
returns c = waits_end_together
