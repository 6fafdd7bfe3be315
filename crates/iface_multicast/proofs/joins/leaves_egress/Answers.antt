use Rattle.std.proofs.Common.{sym, ◌∙◌}
use Rattle.iface_tables.specs.declared.groups.GroupState.TheVariants.{Leaving}
use Rattle.iface_tables.specs.Groups.{leave_reported}
use Rattle.host_machine.specs.Multicast.Joins.{leave_packet}
use Rattle.iface_multicast.proofs.JoinReports.{none_told, one_reported, told_until}
use Rattle.iface_multicast.proofs.joins.leaves_egress.Goals as goal

pub loop-group-init : goal.loop-group-init
loop-group-init g c = none_told Leaving leave_packet leave_reported c.args.context.now (g.met.D.Device.tells_nothing c.args.device.now)

pub returns-then-not-report_leave : goal.returns-then-not-report_leave
returns-then-not-report_leave g c =
    told_until Leaving leave_packet leave_reported c.args.context.now c.report_leave.new.context c.report_leave.result c.if-not-report_leave.true
    (one_reported Leaving leave_packet leave_reported c.args.context.now c.loop-group.context c.report_leave.new.context c.report_leave.result
    c.in-Some.group g.met.D.Device.tells_on c.loop-group.invariant
    (rw c.groups.ensures at (sym c.first_in.ensures.first ∙ c.in-Some.is)) c.report_leave.ensures.told)

pub loop-group-preserved : goal.loop-group-preserved
loop-group-preserved g c =
    rw c.if-not-report_leave.false at
    (one_reported Leaving leave_packet leave_reported c.args.context.now c.loop-group.context c.report_leave.new.context c.report_leave.result
    c.in-Some.group g.met.D.Device.tells_on c.loop-group.invariant
    (rw c.groups.ensures at (sym c.first_in.ensures.first ∙ c.in-Some.is)) c.report_leave.ensures.told)
