use Rattle.std.proofs.Common.{◌≡◌, ◌∙◌, ap, List, length}
use Rattle.std.specs.Prelude.{Bool, ◌&&◌}
use Rattle.host_machine.specs.Context.Host.{no_sockets}
use Rattle.iface_tables.specs.Slaac.{SlaacState}
use Rattle.iface_tables.specs.declared.slaac.Prefix.{Prefix}
use Rattle.iface_tables.specs.declared.slaac.Route.{Route}
use Rattle.iface_host.specs.Properties.{machine_of}
use Rattle.iface_host.proofs.host.IfaceHost.standing.Goals as goal

pub returns-clause-standing : goal.returns-clause-standing
returns-clause-standing c =
    let slaac : c.slaac-slaac.result.now ≡ (machine_of c.args.self.now).slaac = rw c.deref.ensures at (c.slaac-slaac.ensures no_sockets) in
    record {
      silence = c.silence_to_keep.ensures;
      limit = c.requires.limit;
      reports = ap (λ (b : Bool). b && c.args.self.now.watch.guard.keeps_reports) c.requires.tells;
      neighbors = ap (λ (b : Bool). b && c.args.self.now.watch.guard.keeps_neighbors) c.requires.tells;
      igmp = rw c.deref-2.ensures at (c.igmp_report.ensures.value no_sockets);
      mld = rw c.deref-3.ensures at (c.mld_report.ensures no_sockets);
      prefixes = ap (λ (l : List Prefix). length l) (c.prefix.ensures.value ∙ ap (λ (s : SlaacState). s.prefixes) slaac);
      routers = ap (λ (l : List Route). length l) (c.routes.ensures.value ∙ ap (λ (s : SlaacState). s.routers) slaac);
      changed = c.has_ra_update.ensures ∙ ap (λ (s : SlaacState). s.changed) slaac;
    }
