use Rattle.std.proofs.Common.{◌≡◌, drop}
use Rattle.std.specs.Prelude.{not, ◌&&◌}
use Rattle.std.specs.List.{list_any}
use Rattle.iface_tables.specs.declared.slaac.Route.{Route}
use Rattle.iface_tables.specs.Slaac.{is_route_valid}
use Rattle.iface_tables.specs.Sync.{is_route}
use Rattle.iface_tables.proofs.sync.is_ended_route.Given as goal

abbrev pub invariant-loop-route : goal.invariant-loop-route
invariant-loop-route l =
    list_any (λ (r : Route). not (is_route_valid l.now r) && is_route r l.stored) (drop l.route-index l.routes)
    ≡ list_any (λ (r : Route). not (is_route_valid l.now r) && is_route r l.stored) l.routes
