use Rattle.std.proofs.Common.{refl, ap}
use Rattle.iface_tables.specs.Groups.{join_reported}
use Rattle.host_machine.specs.Context.Host.{with_slots}
use Rattle.host_machine.specs.Multicast.Joins.{join_packet}
use Rattle.iface_multicast.proofs.JoinReports.{reported_it}
use Rattle.iface_multicast.proofs.joins.report_join.Goals as goal

pub returns-then-granted-clause-told : goal.returns-then-granted-clause-told
returns-then-granted-clause-told g c =
    reported_it join_packet join_reported c.args.group.now c.send_join-granted.result c.args.context.now c.send_join-granted.new.context
    c.join_reported.new.context c.send_join-granted.ensures.told
    (λ slots sockets. rw c.if-granted.true (ap (λ H. with_slots H slots) (c.join_reported.ensures.groups sockets)))

pub returns-else-granted-clause-told : goal.returns-else-granted-clause-told
returns-else-granted-clause-told g c =
    reported_it join_packet join_reported c.args.group.now c.send_join-granted.result c.args.context.now c.send_join-granted.new.context
    c.send_join-granted.new.context c.send_join-granted.ensures.told (λ slots sockets. rw c.if-granted.false refl)
