use Rattle.std.proofs.Common.{◌≡◌, drop}
use Rattle.net_base.specs.Instants.{earlier_of, earliest_of}
use Rattle.iface_tables.specs.Slaac.{route_ends}
use Rattle.iface_tables.proofs.slaac.least_route_end.Given as goal

abbrev pub invariant-loop-route : goal.invariant-loop-route
invariant-loop-route l = earlier_of l.least (earliest_of (route_ends (drop l.route-index l.routes) l.now)) ≡ earliest_of (route_ends l.routes l.now)
