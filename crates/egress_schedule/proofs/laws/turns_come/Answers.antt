use Rattle.egress_schedule.proofs.Comes.{turns_come}
use Rattle.egress_schedule.proofs.laws.turns_come.Goals as goal

pub returns : goal.returns
returns c = turns_come
