use Rattle.egress_schedule.proofs.KnownFirst.{order_is_kept}
use Rattle.egress_schedule.proofs.laws.order_is_kept.Goals as goal

pub returns : goal.returns
returns c = order_is_kept
