use Rattle.egress_schedule.proofs.Comes.{askers_have_turns}
use Rattle.egress_schedule.proofs.laws.askers_have_turns.Goals as goal

pub returns : goal.returns
returns c = askers_have_turns
