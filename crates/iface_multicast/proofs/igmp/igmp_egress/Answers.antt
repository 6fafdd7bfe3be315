use Rattle.std.proofs.Common.{sym, ◌∙◌, ap}
use Rattle.std.specs.Option.{option_map}
use Rattle.host_machine.specs.Context.Host.{no_sockets}
use Rattle.iface_context.specs.Details.PacketValues as value_of
use Rattle.iface_context.specs.Stands.{host_of}
use Rattle.iface_multicast.proofs.GroupReports.{next_is, no_address, no_further, not_due, report_goes, report_waits, without_address}
use Rattle.iface_multicast.proofs.igmp.igmp_egress.Goals as goal

pub returns-then-not-has_passed : goal.returns-then-not-has_passed
returns-then-not-has_passed g c =
    not_due c.args.context.now (g.met.D.Device.tells_nothing c.args.device.now)
    (rw (c.igmp_timeout.ensures, c.igmp_report-report.ensures.value, c.now-now.ensures) at (sym c.has_passed.ensures ∙ c.if-not-has_passed.true))

pub returns-in_default : goal.returns-in_default
returns-in_default g c =
    no_further c.args.context.now c.set_igmp_report.new.context (g.met.D.Device.tells_nothing c.args.device.now)
    (rw (c.igmp_timeout.ensures, c.igmp_report-report.ensures.value, c.now-now.ensures) at (sym c.has_passed.ensures ∙ c.if-not-has_passed.false))
    (rw c.igmp_report-report.ensures.value at (sym c.next_group.ensures.value ∙ c.in_default.is)) c.set_igmp_report.ensures

pub returns-in_default-igmp_report : goal.returns-in_default-igmp_report
returns-in_default-igmp_report g c =
    no_address c.args.context.now (c.in-Some.version, c.in-Some.group) (g.met.D.Device.tells_nothing c.args.device.now)
    (rw (c.igmp_timeout.ensures, c.igmp_report-report.ensures.value, c.now-now.ensures) at (sym c.has_passed.ensures ∙ c.if-not-has_passed.false))
    (rw c.igmp_report-report.ensures.value at (sym c.next_group.ensures.value ∙ c.in-Some.is))
    (without_address (host_of c.args.context.now no_sockets) c.in-Some.version c.in-Some.group c.igmp_report.result
    c.igmp_report.ensures.value c.in_default-igmp_report.is)

pub returns-then-send_packet : goal.returns-then-send_packet
returns-then-send_packet g c =
    report_goes c.args.context.now c.send_packet.new.context c.set_igmp_report-then-send_packet.new.context
    (value_of.packet c.in-Some-igmp_report.packet) c.send_packet.result
    (rw (c.igmp_timeout.ensures, c.igmp_report-report.ensures.value, c.now-now.ensures) at (sym c.has_passed.ensures ∙ c.if-not-has_passed.false))
    (next_is (host_of c.args.context.now no_sockets) c.next_group.result c.in-Some.version c.in-Some.group c.igmp_report.result
    (rw c.igmp_report-report.ensures.value at c.next_group.ensures.value) c.in-Some.is c.igmp_report.ensures.value
    ∙ ap (option_map value_of.packet) c.in-Some-igmp_report.is) c.if-send_packet.true c.send_packet.ensures.told
    (λ sockets. rw (c.igmp_report-report.ensures.value, c.now-now.ensures) at
    (rw c.igmp_report_after.ensures.value at (c.set_igmp_report-then-send_packet.ensures sockets)))

pub returns-else-send_packet : goal.returns-else-send_packet
returns-else-send_packet g c =
    report_waits c.args.context.now c.send_packet.new.context (value_of.packet c.in-Some-igmp_report.packet) c.send_packet.result
    (rw (c.igmp_timeout.ensures, c.igmp_report-report.ensures.value, c.now-now.ensures) at (sym c.has_passed.ensures ∙ c.if-not-has_passed.false))
    (next_is (host_of c.args.context.now no_sockets) c.next_group.result c.in-Some.version c.in-Some.group c.igmp_report.result
    (rw c.igmp_report-report.ensures.value at c.next_group.ensures.value) c.in-Some.is c.igmp_report.ensures.value
    ∙ ap (option_map value_of.packet) c.in-Some-igmp_report.is) c.if-send_packet.false c.send_packet.ensures.told
