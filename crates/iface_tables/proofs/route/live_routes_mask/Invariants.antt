use Rattle.std.proofs.Common.{◌≡◌, ℕ, ◌<◌, ◌≤◌, false}
use Rattle.std.specs.Prelude.{Some, slice_get}
use Rattle.iface_tables.specs.declared.route.Route.{Route}
use Rattle.iface_tables.specs.Route.{is_live}
use Rattle.iface_tables.specs.RouteTrie.{has_place}
use Rattle.iface_tables.proofs.route.live_routes_mask.Given as goal

abbrev pub invariant-loop-place : goal.invariant-loop-place
invariant-loop-place l = record {
  done : (k : ℕ) (r : Route) → k < l.place → slice_get l.routes k ≡ Some r → has_place l.live k ≡ is_live r l.timestamp;
  rest : (k : ℕ) → l.place ≤ k → has_place l.live k ≡ false;
}
