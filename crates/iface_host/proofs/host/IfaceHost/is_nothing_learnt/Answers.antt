use Rattle.std.proofs.Common.{◌≡◌, ◌∙◌, ap}
use Rattle.host_machine.specs.Context.Host.{no_sockets}
use Rattle.iface_tables.specs.Slaac.{SlaacState}
use Rattle.iface_host.specs.Properties.{machine_of}
use Rattle.iface_host.proofs.GuardCalls.{learnt_by, learnt_not}
use Rattle.iface_host.proofs.host.IfaceHost.is_nothing_learnt.Goals as goal

pub returns-then-prefix-standing : goal.returns-then-prefix-standing
returns-then-prefix-standing c =
    let slaac : c.slaac-slaac.result.now ≡ (machine_of c.args.self.now).slaac = rw c.deref.ensures at (c.slaac-slaac.ensures no_sockets) in
    learnt_by c.args.self.now c.args.standing.now c.prefix.result.now c.routes.result.now
    (c.prefix.ensures.value ∙ ap (λ (s : SlaacState). s.prefixes) slaac) (c.routes.ensures.value ∙ ap (λ (s : SlaacState). s.routers) slaac)
    c.if-prefix-standing.true

pub returns-else-prefix-standing : goal.returns-else-prefix-standing
returns-else-prefix-standing c =
    let slaac : c.slaac-slaac.result.now ≡ (machine_of c.args.self.now).slaac = rw c.deref.ensures at (c.slaac-slaac.ensures no_sockets) in
    learnt_not c.args.self.now c.args.standing.now c.prefix.result.now (c.prefix.ensures.value ∙ ap (λ (s : SlaacState). s.prefixes) slaac)
    c.if-prefix-standing.false
