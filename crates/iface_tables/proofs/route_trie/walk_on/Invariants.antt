use Rattle.std.proofs.Common.{◌≡◌, ℕ, ◌+◌, ◌*◌, ◌^◌, ◌%◌, List}
use Rattle.ip_address.specs.declared.cidr.IpCidr.{IpCidr}
use Rattle.ip_address.specs.declared.ip.IpAddress.{IpAddress}
use Rattle.std.specs.Int.RustNames.{bit_and}
use Rattle.iface_tables.specs.RouteTrie.{AreNextBits, IsAt, IsTrieOf}
use Rattle.iface_tables.proofs.route_trie.walk_on.Given as goal

abbrev pub invariant-loop-i : goal.invariant-loop-i
invariant-loop-i l = record {
  bits : l.bits ≡ l.leading * 2 ^ l.i % 2 ^ 64;
  at : (cidrs : List IpCidr) (a : IpAddress) (i : ℕ) → IsTrieOf l.nodes cidrs → IsAt cidrs a l.live i l.from.node.now (bit_and l.from.best.now.places l.live) l.fn.steps
      → AreNextBits a i l.count l.leading
      → IsAt cidrs a l.live (i + l.i) l.node (bit_and l.best.places l.live) l.steps;
}
