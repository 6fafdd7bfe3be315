use Rattle.egress_schedule.proofs.Comes.{turns_stay}
use Rattle.egress_schedule.proofs.laws.turns_stay.Goals as goal

pub returns : goal.returns
returns c = turns_stay
