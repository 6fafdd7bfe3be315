use Rattle.std.proofs.Common.{◌≡◌, ◌+◌, drop}
use Rattle.iface_tables.specs.Route.{cidrs}
use Rattle.iface_tables.specs.RouteTrie as spec
use Rattle.iface_tables.specs.RouteTrie.{longer_of}
use Rattle.iface_tables.proofs.route_trie.index_of.Given as goal

abbrev pub invariant-loop-place : goal.invariant-loop-place
invariant-loop-place l =
    l.place + spec.index_of (cidrs (drop l.place l.routes)) (longer_of l.beginning l.bit) ≡ spec.index_of (cidrs l.routes) (longer_of l.beginning l.bit)
