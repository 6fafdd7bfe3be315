use Rattle.iface_tables.proofs.RouteLemmas.{ipv6_gateway_by}
use Rattle.iface_tables.proofs.route.Route.new_ipv6_gateway.Goals as goal

pub returns : goal.returns
returns c = ipv6_gateway_by _ c.args.gateway
