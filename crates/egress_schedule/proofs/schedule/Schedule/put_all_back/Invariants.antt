use Rattle.std.proofs.Common.{◌≡◌}
use Rattle.egress_schedule.specs.Asides.{after_putting_back_at}
use Rattle.egress_schedule.specs.Plan.{each_of, planned}
use Rattle.egress_schedule.proofs.schedule.Schedule.put_all_back.Given as goal

abbrev pub invariant-loop-index : goal.invariant-loop-index
invariant-loop-index g l = planned l.self l.sockets ≡ each_of (after_putting_back_at) l.index (planned l.fn.self l.fn.sockets)
