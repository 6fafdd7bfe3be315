use Rattle.std.proofs.Common.{◌≡◌, ◌≤◌, ◌++◌, drop, length}
use Rattle.std.specs.Prelude.{filter}
use Rattle.iface_tables.specs.Slaac.{is_route_valid}
use Rattle.iface_tables.proofs.slaac.valid_routes.Given as goal

abbrev pub invariant-loop-route : goal.invariant-loop-route
invariant-loop-route l =
    (l.valid.items ++ filter (is_route_valid l.now) (drop l.route-index l.routes) ≡ filter (is_route_valid l.now) l.routes)
    × (length l.valid.items ≤ l.route-index)
