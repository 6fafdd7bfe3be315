use Rattle.std.proofs.Common.{◌≡◌, ◌-◌, length}
use Rattle.egress_schedule.specs.Plan.{first_from, planned}
use Rattle.egress_schedule.specs.Turns.{asks_at}
use Rattle.egress_schedule.proofs.schedule.Schedule.first_to_ask.Given as goal

abbrev pub invariant-loop-index : goal.invariant-loop-index
invariant-loop-index g l =
    first_from (asks_at l.now (planned l.self l.sockets)) l.from (length l.self.watches - l.from)
    ≡ first_from (asks_at l.now (planned l.self l.sockets)) l.index (length l.self.watches - l.index)
