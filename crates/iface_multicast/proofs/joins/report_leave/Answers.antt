use Rattle.std.proofs.Common.{refl, ap}
use Rattle.iface_tables.specs.Groups.{leave_reported}
use Rattle.host_machine.specs.Context.Host.{with_slots}
use Rattle.host_machine.specs.Multicast.Joins.{leave_packet}
use Rattle.iface_multicast.proofs.JoinReports.{reported_it}
use Rattle.iface_multicast.proofs.joins.report_leave.Goals as goal

pub returns-then-granted-clause-told : goal.returns-then-granted-clause-told
returns-then-granted-clause-told g c =
    reported_it leave_packet leave_reported c.args.group.now c.send_leave-granted.result c.args.context.now c.send_leave-granted.new.context
    c.leave_reported.new.context c.send_leave-granted.ensures.told
    (λ slots sockets. rw c.if-granted.true (ap (λ H. with_slots H slots) (c.leave_reported.ensures.groups sockets)))

pub returns-else-granted-clause-told : goal.returns-else-granted-clause-told
returns-else-granted-clause-told g c =
    reported_it leave_packet leave_reported c.args.group.now c.send_leave-granted.result c.args.context.now c.send_leave-granted.new.context
    c.send_leave-granted.new.context c.send_leave-granted.ensures.told (λ slots sockets. rw c.if-granted.false refl)
