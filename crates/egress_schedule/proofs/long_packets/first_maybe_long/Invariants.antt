use Rattle.std.proofs.Common.{◌≡◌, ◌-◌}
use Rattle.egress_schedule.specs.LongPackets.{may_have_long}
use Rattle.egress_schedule.specs.Plan.{first_from}
use Rattle.egress_schedule.proofs.long_packets.first_maybe_long.Given as goal

abbrev pub invariant-loop-index : goal.invariant-loop-index
invariant-loop-index g l =
    first_from (may_have_long l.ip_mtu l.sockets) 0 l.count ≡ first_from (may_have_long l.ip_mtu l.sockets) l.index (l.count - l.index)
