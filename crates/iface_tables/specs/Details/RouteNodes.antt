-- Where the nodes of a trie lie. No public clause cites this module.
use Rattle.std.specs.Prelude.{List}
use Rattle.iface_tables.specs.declared.route_nodes.RouteNodes.{RouteNodes}
use Rattle.iface_tables.specs.declared.route_nodes.RouteNodes.TheVariants.{Own, Lent}
use Rattle.iface_tables.specs.declared.route_trie.RouteNode.{RouteNode}

-- those in the table itself, or in storage that was handed over
abbrev pub nodes_at : RouteNodes → List RouteNode
nodes_at (Own nodes) = nodes
nodes_at (Lent v) = v.items
