use Rattle.std.proofs.Common.{sym, ◌∙◌}
use Rattle.iface_tables.specs.declared.groups.GroupState.TheVariants.{Joining}
use Rattle.iface_tables.specs.Groups.{join_reported}
use Rattle.host_machine.specs.Multicast.Joins.{join_packet}
use Rattle.iface_multicast.proofs.JoinReports.{none_told, one_reported, told_until}
use Rattle.iface_multicast.proofs.joins.joins_egress.Goals as goal

pub loop-group-init : goal.loop-group-init
loop-group-init g c = none_told Joining join_packet join_reported c.args.context.now (g.met.D.Device.tells_nothing c.args.device.now)

pub returns-then-not-report_join : goal.returns-then-not-report_join
returns-then-not-report_join g c =
    told_until Joining join_packet join_reported c.args.context.now c.report_join.new.context c.report_join.result c.if-not-report_join.true
    (one_reported Joining join_packet join_reported c.args.context.now c.loop-group.context c.report_join.new.context c.report_join.result
    c.in-Some.group g.met.D.Device.tells_on c.loop-group.invariant
    (rw c.groups.ensures at (sym c.first_in.ensures.first ∙ c.in-Some.is)) c.report_join.ensures.told)

pub loop-group-preserved : goal.loop-group-preserved
loop-group-preserved g c =
    rw c.if-not-report_join.false at
    (one_reported Joining join_packet join_reported c.args.context.now c.loop-group.context c.report_join.new.context c.report_join.result
    c.in-Some.group g.met.D.Device.tells_on c.loop-group.invariant
    (rw c.groups.ensures at (sym c.first_in.ensures.first ∙ c.in-Some.is)) c.report_join.ensures.told)
