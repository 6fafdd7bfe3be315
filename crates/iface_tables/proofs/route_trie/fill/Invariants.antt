use Rattle.std.proofs.Common.{◌≡◌, ℕ, ◌+◌, ◌*◌, ◌<◌, ◌≤◌, length, get_or}
use Rattle.iface_tables.specs.declared.route_trie.RouteNode.{RouteNode}
use Rattle.iface_tables.specs.Route.{cidrs}
use Rattle.iface_tables.specs.RouteTrie.{IsNodeOf, start_of}
use Rattle.iface_tables.proofs.route_trie.fill.Given as goal

abbrev pub invariant-loop-i : goal.invariant-loop-i
invariant-loop-i l = record {
  long : length l.nodes ≡ length l.fn.nodes;
  filled : (m : ℕ) (d : RouteNode) → m < l.i → IsNodeOf (cidrs l.routes) (start_of l.network (m + 1)) (get_or l.nodes (2 + 128 * l.place + m) d);
  kept : (k : ℕ) (d : RouteNode) → k ≤ 1 + 128 * l.place → get_or l.nodes k d ≡ get_or l.fn.nodes k d;
}
