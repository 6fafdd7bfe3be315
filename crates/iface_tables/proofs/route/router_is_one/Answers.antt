use Rattle.iface_tables.proofs.RouteLemmas.{routers_are_one}
use Rattle.iface_tables.proofs.route.router_is_one.Goals as goal

pub returns : goal.returns
returns c = routers_are_one
