use Rattle.std.proofs.Common.{◌≡◌}
use Rattle.egress_schedule.specs.Turns.{after_hold_at}
use Rattle.egress_schedule.specs.Plan.{each_of, planned}
use Rattle.egress_schedule.proofs.schedule.Schedule.hold_all.Given as goal

abbrev pub invariant-loop-index : goal.invariant-loop-index
invariant-loop-index g l =
    planned l.self l.sockets ≡ each_of (after_hold_at l.now l.next) l.index (planned l.fn.self l.fn.sockets)
