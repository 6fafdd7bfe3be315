use Rattle.std.proofs.Common.{◌≡◌, ℕ, ◌<◌, length, get_or}
use Rattle.iface_tables.specs.declared.route_trie.RouteNode.{RouteNode}
use Rattle.iface_tables.specs.Route.{cidrs}
use Rattle.iface_tables.specs.RouteTrie.{HasNodes, IsNodeOf, root_of}
use Rattle.iface_tables.proofs.route_trie.build.Given as goal

abbrev pub invariant-loop-place : goal.invariant-loop-place
invariant-loop-place l = record {
  long : length l.nodes ≡ length l.fn.nodes;
  ipv4 : (d : RouteNode) → IsNodeOf (cidrs l.routes) (root_of 32) (get_or l.nodes 0 d);
  ipv6 : (d : RouteNode) → IsNodeOf (cidrs l.routes) (root_of 128) (get_or l.nodes 1 d);
  filled : (j : ℕ) → j < l.place → HasNodes l.nodes (cidrs l.routes) j;
}
