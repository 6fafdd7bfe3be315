use Rattle.egress_schedule.proofs.KnownFirst.{known_pass}
use Rattle.egress_schedule.proofs.laws.known_pass.Goals as goal

pub returns : goal.returns
returns c = known_pass
