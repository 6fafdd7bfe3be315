use Rattle.std.proofs.Common.{◌≡◌, ℕ, ◌<◌, true}
use Rattle.std.specs.Prelude.{ℤ, Some, slice_get}
use Rattle.iface_tables.specs.declared.route.Route.{Route}
use Rattle.iface_tables.specs.Route.{is_live, is_until}
use Rattle.iface_tables.proofs.route.first_end.Given as goal

abbrev pub invariant-loop-route : goal.invariant-loop-route
invariant-loop-route l = (t : ℤ) (k : ℕ) (r : Route) → is_until l.first t ≡ true → k < l.route-index → slice_get l.routes k ≡ Some r
    → is_live r t ≡ true
