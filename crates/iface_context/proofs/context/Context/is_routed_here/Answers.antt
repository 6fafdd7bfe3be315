use Rattle.std.proofs.Common.{refl, sym, ap, ◌∙◌}
use Rattle.host_machine.specs.Context.Host.{is_assigned}
use Rattle.iface_context.proofs.Routing.{found}
use Rattle.iface_context.proofs.context.Context.is_routed_here.Goals as goal

pub returns-in-Some : goal.returns-in-Some
returns-in-Some c =
    let router = found _ _ _ _ c.lookup.ensures ∙ c.in-Some.is in
    rw (sym c.is_unicast.ensures ∙ c.if-not-is_unicast.false, router)
    (c.is_assigned.ensures ∙ ap (λ own. is_assigned own c.in-Some.router) c.as_slice.ensures.value)

pub returns-in-None : goal.returns-in-None
returns-in-None c =
    let router = found _ _ _ _ c.lookup.ensures ∙ c.in-None.is in
    rw (sym c.is_unicast.ensures ∙ c.if-not-is_unicast.false, router) refl
