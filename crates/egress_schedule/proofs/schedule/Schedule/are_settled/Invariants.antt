use Rattle.std.proofs.Common.{◌≡◌, ◌<◌, ℕ, true}
use Rattle.egress_schedule.specs.Plan.{planned}
use Rattle.egress_schedule.specs.Details.Settled.{is_settled}
use Rattle.egress_schedule.proofs.schedule.Schedule.are_settled.Given as goal

abbrev pub invariant-loop-index : goal.invariant-loop-index
invariant-loop-index g l = (i : ℕ) → i < l.index → is_settled l.now l.end (planned l.self l.sockets) i ≡ true
