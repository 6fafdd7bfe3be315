use Rattle.egress_schedule.proofs.Ends.{patience_ends}
use Rattle.egress_schedule.proofs.laws.patience_ends.Goals as goal

pub returns : goal.returns
returns c = patience_ends
