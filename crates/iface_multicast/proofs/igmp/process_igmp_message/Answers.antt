use Rattle.std.proofs.Common.{ap, ◌∙◌}
use Rattle.host_machine.specs.Context.Host.{with_slots, with_igmp_report}
use Rattle.iface_context.specs.Stands.{host_in}
use Rattle.iface_multicast.proofs.igmp.process_igmp_message.Goals as goal

pub returns-in-MembershipQuery : goal.returns-in-MembershipQuery
returns-in-MembershipQuery c = λ slots sockets. rw c.in-MembershipQuery.is (ap (λ H. with_slots H slots) (c.set_igmp_report.ensures sockets)
    ∙ ap (with_igmp_report (host_in c.args.context.now slots sockets)) c.igmp_report_for-report.ensures.value)
