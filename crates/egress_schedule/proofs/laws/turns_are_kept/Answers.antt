use Rattle.egress_schedule.proofs.InTurn.{turns_are_kept}
use Rattle.egress_schedule.proofs.laws.turns_are_kept.Goals as goal

pub returns : goal.returns
returns c = turns_are_kept
