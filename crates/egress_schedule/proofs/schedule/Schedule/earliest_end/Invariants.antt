use Rattle.std.proofs.Common.{◌≡◌}
use Rattle.egress_schedule.specs.Patience.{earliest_end}
use Rattle.egress_schedule.proofs.schedule.Schedule.earliest_end.Given as goal

abbrev pub invariant-loop-index : goal.invariant-loop-index
invariant-loop-index l = l.end ≡ earliest_end l.index l.self.watches
