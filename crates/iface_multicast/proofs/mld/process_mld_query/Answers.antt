use Rattle.std.proofs.Common.{◌≡◌, ap, sym, ◌∙◌}
use Rattle.std.specs.Prelude.{ℤ, pos, ◌+ℤ◌}
use Rattle.iface_tables.specs.declared.report.MldReportState.{MldReportState}
use Rattle.host_machine.specs.Context.Host.{Host, no_sockets, with_slots, with_mld_report}
use Rattle.host_machine.specs.Multicast.Mld.{delay, random_after_draw, mld_report_for}
use Rattle.iface_context.specs.Stands.{host_in, host_of}
use Rattle.iface_multicast.proofs.GroupQueries.{from_near}
use Rattle.iface_multicast.proofs.mld.process_mld_query.Goals as goal

pub returns : goal.returns
returns c = λ slots sockets.
    let old = c.args.context.now in
    let code = c.args.max_resp_code in
    let dst = c.args.header.now.dst_addr in
    let group = c.args.group.now in
    let moment : c.delay-delay.new.context.moment ≡ old.moment = ap (λ (H : Host). H.moment) (c.delay-delay.ensures.drawn no_sockets) in
    let timeout : c.add-timeout.result ≡ old.moment +ℤ pos (delay code old.rand) =
    rw (c.now.ensures, c.delay-delay.ensures.value, moment) at c.add-timeout.ensures in
    let report : c.mld_report_for-report.result ≡ mld_report_for (host_in old slots sockets) dst (old.moment +ℤ pos (delay code old.rand)) group =
    c.mld_report_for-report.ensures ∙ ap (λ (H : Host). mld_report_for H dst c.add-timeout.result group) (c.delay-delay.ensures.drawn no_sockets)
    ∙ ap (λ (t : ℤ). mld_report_for (host_in old slots sockets) dst t group) timeout in
    from_near c.args.header.now code group (host_in old slots sockets) (host_in c.set_mld_report.new.context slots sockets)
    (sym c.is_near.ensures ∙ c.if-not-is_near.false)
    (ap (λ H. with_slots H slots) (c.set_mld_report.ensures sockets)
    ∙ ap (λ (H : Host). with_slots (with_mld_report H c.mld_report_for-report.result) slots) (c.delay-delay.ensures.drawn sockets)
    ∙ ap
    (λ (r : MldReportState). with_slots (with_mld_report (record (host_of old sockets) { random = random_after_draw code old.rand }) r) slots) report)
