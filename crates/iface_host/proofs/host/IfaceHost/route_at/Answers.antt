use Rattle.std.proofs.Common.{List, ap, ◌∙◌}
use Rattle.std.specs.Prelude.{slice_get}
use Rattle.iface_tables.specs.declared.route.Route.{Route}
use Rattle.host_machine.specs.Context.Host.{no_sockets}
use Rattle.iface_host.proofs.host.IfaceHost.route_at.Goals as goal

pub returns : goal.returns
returns c = c.route_in.ensures
    ∙ ap (λ (list : List Route). slice_get list c.args.index) (c.as_slice.ensures.value ∙ rw c.deref.ensures at (c.routes.ensures.items no_sockets))
