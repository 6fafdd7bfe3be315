use Rattle.std.proofs.Common.{◌≡◌}
use Rattle.egress_schedule.specs.LongPackets.{after_setting_aside_at}
use Rattle.egress_schedule.specs.Plan.{each_of, planned}
use Rattle.egress_schedule.proofs.schedule.Schedule.set_all_aside.Given as goal

abbrev pub invariant-loop-index : goal.invariant-loop-index
invariant-loop-index g l =
    planned l.self l.sockets ≡ each_of (after_setting_aside_at l.ip_mtu l.now l.next) l.index (planned l.fn.self l.fn.sockets)
