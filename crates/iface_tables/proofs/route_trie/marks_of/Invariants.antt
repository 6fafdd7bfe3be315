use Rattle.std.proofs.Common.{◌≡◌, ℕ, ◌<◌, ◌≤◌, false}
use Rattle.std.specs.Prelude.{slice_get}
use Rattle.iface_tables.specs.Route.{cidrs}
use Rattle.iface_tables.specs.RouteTrie.{has_place, is_marked}
use Rattle.iface_tables.proofs.route_trie.marks_of.Given as goal

abbrev pub invariant-loop-place : goal.invariant-loop-place
invariant-loop-place l = record {
  done : (k : ℕ) → k < l.place → has_place l.places k ≡ is_marked l.beginning (slice_get (cidrs l.routes) k);
  rest : (k : ℕ) → l.place ≤ k → has_place l.places k ≡ false;
}
