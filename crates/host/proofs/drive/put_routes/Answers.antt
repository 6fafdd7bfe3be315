use Rattle.std.proofs.Common.{List, subst}
use Rattle.iface_tables.specs.declared.route.Route.{Route}
use Rattle.interface.specs.Stands.{Becomes}
use Rattle.host.proofs.drive.put_routes.Goals as goal

pub returns : goal.returns
returns c =
    subst (λ (items : List Route). Becomes c.args.interface.now c.take_routes.new.interface (λ H. record H { routes = items }))
    c.copied.ensures c.take_routes.ensures
