use Rattle.std.proofs.Common.{◌≡◌}
use Rattle.egress_schedule.specs.Patience.{after_alignment_at}
use Rattle.egress_schedule.specs.Plan.{each_of, planned}
use Rattle.egress_schedule.proofs.schedule.Schedule.align.Given as goal

abbrev pub invariant-loop-index : goal.invariant-loop-index
invariant-loop-index g l = planned l.self l.sockets ≡ each_of (after_alignment_at l.end) l.index (planned l.fn.self l.fn.sockets)
