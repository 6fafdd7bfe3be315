use Rattle.std.proofs.Common.{sym, ◌∙◌}
use Rattle.iface_context.specs.Details.PacketValues as value_of
use Rattle.iface_multicast.proofs.GroupReports.{not_yet, report_ends}
use Rattle.iface_multicast.proofs.mld.mld_egress.Goals as goal

pub returns-then-not-has_passed : goal.returns-then-not-has_passed
returns-then-not-has_passed g c =
    not_yet c.args.context.now (g.met.D.Device.tells_nothing c.args.device.now)
    (rw (c.mld_timeout.ensures, c.mld_report-report.ensures, c.now.ensures) at (sym c.has_passed.ensures ∙ c.if-not-has_passed.true))

pub returns : goal.returns
returns g c =
    report_ends c.args.context.now c.send_packet.new.context c.set_mld_report.new.context
    (value_of.packet c.mld_packet-packet.result) c.send_packet.result
    (rw (c.mld_timeout.ensures, c.mld_report-report.ensures, c.now.ensures) at (sym c.has_passed.ensures ∙ c.if-not-has_passed.false))
    (rw (c.push_records-count.ensures.count, c.as_slice.ensures.value, c.push_records-count.ensures.items, c.mld_report-report.ensures)
    at c.mld_packet-packet.ensures.value)
    c.send_packet.ensures.told c.set_mld_report.ensures
