use Rattle.std.proofs.Common.{◌≡◌, ◌<◌, ℕ, false, get_or, length}
use Rattle.egress_schedule.specs.Patience.{IsUnnoted, after_look_at}
use Rattle.egress_schedule.specs.Plan.{each_of, idle, planned}
use Rattle.egress_schedule.proofs.schedule.Schedule.look_at_all.Given as goal

abbrev pub invariant-loop-index : goal.invariant-loop-index
invariant-loop-index g l =
    (planned l.self l.sockets ≡ each_of (after_look_at l.now) l.index (planned l.fn.self l.sockets))
    × (length l.self.watches ≡ length l.fn.self.watches)
    × (l.has_notes ≡ false → (i : ℕ) → i < l.index → IsUnnoted (get_or l.self.watches i idle))
