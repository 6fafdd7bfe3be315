use Rattle.std.proofs.Common.{List, ap, ◌∙◌}
use Rattle.iface_tables.specs.declared.route.Route.{Route}
use Rattle.host_machine.specs.Context.Host.{no_sockets}
use Rattle.iface_host.specs.Calls.{is_routed}
use Rattle.iface_host.proofs.host.IfaceHost.is_routed.Goals as goal

pub returns : goal.returns
returns c = c.is_routed.ensures
    ∙ ap (λ (list : List Route). is_routed c.args.now list c.args.address.now)
    (c.as_slice.ensures.value ∙ rw c.deref.ensures at (c.routes.ensures.items no_sockets))
