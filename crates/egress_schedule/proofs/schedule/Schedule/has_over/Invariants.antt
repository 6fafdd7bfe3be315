use Rattle.std.proofs.Common.{◌≡◌, ◌<◌, ℕ, false}
use Rattle.egress_schedule.specs.Details.Settled.{ends_at}
use Rattle.egress_schedule.proofs.schedule.Schedule.has_over.Given as goal

abbrev pub invariant-loop-index : goal.invariant-loop-index
invariant-loop-index l = (i : ℕ) → i < l.index → ends_at l.now l.self.watches i ≡ false
