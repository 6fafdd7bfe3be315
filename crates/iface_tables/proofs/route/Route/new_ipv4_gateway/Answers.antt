use Rattle.iface_tables.proofs.RouteLemmas.{ipv4_gateway_by}
use Rattle.iface_tables.proofs.route.Route.new_ipv4_gateway.Goals as goal

pub returns : goal.returns
returns c = ipv4_gateway_by _ c.args.gateway
