use Rattle.std.proofs.Common.{◌≡◌}
use Rattle.egress_schedule.specs.Passing.{after_passing_at}
use Rattle.egress_schedule.specs.Plan.{each_of, planned}
use Rattle.egress_schedule.proofs.schedule.Schedule.pass_all.Given as goal

abbrev pub invariant-loop-index : goal.invariant-loop-index
invariant-loop-index g l =
    planned l.self l.sockets ≡ each_of (after_passing_at (g.N.Neighbors.knows l.neighbors) l.now) l.index (planned l.fn.self l.fn.sockets)
