use Rattle.std.proofs.Common.{◌≡◌, ◌∙◌, ap, subst, sym, true, false, rules}
use Rattle.host_machine.specs.Context.Host.{no_sockets}
use Rattle.guard.specs.Reports.{kept, kept_mld}
use Rattle.iface_tables.specs.declared.report.IgmpReportState.{IgmpReportState}
use Rattle.interface.specs.Stands.{IsPaced}
use Rattle.iface_host.specs.Properties.{machine_of}
use Rattle.iface_host.proofs.GuardCalls.{paced, reports_left, reports_made}
use Rattle.iface_host.proofs.host.IfaceHost.keep_reports.Goals as goal

pub returns-then-not-standing : goal.returns-then-not-standing
returns-then-not-standing c =
    let off : c.args.standing.now.keeps_reports ≡ false = search rules in
    reports_left c.args.self.now c.args.standing.now off

pub set_igmp_report-requires : goal.set_igmp_report-requires
set_igmp_report-requires c =
    subst (λ (r : IgmpReportState). IsPaced r) (sym c.kept-igmp.ensures)
    (paced c.args.standing.now.igmp c.igmp_report.result c.requires c.igmp_report.ensures.paced)

pub returns : goal.returns
returns c =
    let on : c.args.standing.now.keeps_reports ≡ true = search rules in
    let igmp : c.igmp_report.result ≡ (machine_of c.args.self.now).igmp_report = rw c.deref.ensures at (c.igmp_report.ensures.value no_sockets) in
    let mld : c.mld_report.result ≡ (machine_of c.args.self.now).mld_report = rw c.deref-2.ensures at (c.mld_report.ensures no_sockets) in
    reports_made c.args.self.now c.set_igmp_report.new.self c.set_mld_report.new.self c.args.standing.now c.kept-igmp.result c.kept_mld-mld.result on
    (c.kept-igmp.ensures ∙ ap (kept c.args.standing.now.igmp) igmp) (c.kept_mld-mld.ensures ∙ ap (kept_mld c.args.standing.now.mld) mld)
    (rw c.deref_mut.ensures.value at c.set_igmp_report.ensures) (rw c.deref_mut-2.ensures.value at c.set_mld_report.ensures)
