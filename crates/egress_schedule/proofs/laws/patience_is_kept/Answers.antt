use Rattle.egress_schedule.proofs.Kept.{patience_is_kept}
use Rattle.egress_schedule.proofs.laws.patience_is_kept.Goals as goal

pub returns : goal.returns
returns c = patience_is_kept
