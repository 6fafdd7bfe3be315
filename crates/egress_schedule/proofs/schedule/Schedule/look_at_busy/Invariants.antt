use Rattle.std.proofs.Common.{◌≡◌, ◌≤◌, ◌-◌, ℕ, get_or, length}
use Rattle.std.specs.Prelude.{min}
use Rattle.egress_schedule.specs.Patience.{IsUnnoted, after_look_at}
use Rattle.egress_schedule.specs.Plan.{each_of, idle, planned}
use Rattle.egress_schedule.proofs.schedule.Schedule.look_at_busy.Given as goal

abbrev pub invariant-loop-index : goal.invariant-loop-index
invariant-loop-index g l =
    (planned l.self l.sockets ≡ each_of (after_look_at l.now) (min l.index l.count) (planned l.fn.self l.sockets))
    × (l.index ≤ length l.sockets.places)
    × ((k : ℕ) → l.index ≤ k → IsUnnoted (get_or l.self.watches k idle))

abbrev pub decreases-loop-index : goal.decreases-loop-index
decreases-loop-index g l = l.count - l.index
