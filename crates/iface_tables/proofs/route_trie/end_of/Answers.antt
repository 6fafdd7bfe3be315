use Rattle.std.proofs.Common.{◌<◌, ◌^◌, ap, lit≤, rules}
use Rattle.std.specs.Int.RustNames.{bit_and}
use Rattle.std.proofs.lemmas.Bool.{OnTrue_at}
use Rattle.ip_address.specs.declared.ip.IpAddress.TheVariants.{Ipv4, Ipv6}
use Rattle.iface_tables.specs.declared.route_trie.RouteNode.{RouteNode}
use Rattle.iface_tables.proofs.RouteWalkLemmas.{at_end, at_middle, high_bits, ipv4_bits, ipv4_root, ipv6_root, low_bits}
use Rattle.iface_tables.proofs.route_trie.end_of.Goals as goal

pub walk_on-requires : goal.walk_on-requires
walk_on-requires c =
    let x = c.in-Ipv4.address in
    let e = c.start-root.ensures in
    let fits : x.bits < 2 ^ 32 = search rules in
    let t = c.requires.trie in
    record { at = (t.0, Ipv4 x, 0, t.1, ipv4_root x t.1 fits e.node (ap (λ (n : RouteNode). bit_and n.places c.args.live) e.best) c.requires.first e.counted, rw c.from.ensures (ipv4_bits x fits)) }

pub returns-in-Ipv4 : goal.returns-in-Ipv4
returns-in-Ipv4 c = λ cidrs trie.
    let x = c.in-Ipv4.address in
    let e = c.start-root.ensures in
    let fits : x.bits < 2 ^ 32 = search rules in
    let w =
    c.walk_on.ensures cidrs (Ipv4 x) 0 trie (ipv4_root x trie fits e.node (ap (λ (n : RouteNode). bit_and n.places c.args.live) e.best) c.requires.first e.counted) (rw c.from.ensures (ipv4_bits x fits)) in
    rw c.in-Ipv4.is (at_end 0 32 c.walk_on.result.is_over (lit≤ tt) w)

pub walk_on-middle-requires : goal.walk_on-middle-requires
walk_on-middle-requires c =
    let x = c.in-Ipv6.address in
    let e = c.start-root-in-Ipv6.ensures in
    let fits : x.bits < 2 ^ 128 = search rules in
    let t = c.requires.trie in
    record { at = (t.0, Ipv6 x, 0, t.1, ipv6_root x t.1 fits e.node (ap (λ (n : RouteNode). bit_and n.places c.args.live) e.best) c.requires.first e.counted, rw c.first_half.ensures (high_bits x)) }

pub returns-then-middle : goal.returns-then-middle
returns-then-middle c = λ cidrs trie.
    let x = c.in-Ipv6.address in
    let e = c.start-root-in-Ipv6.ensures in
    let fits : x.bits < 2 ^ 128 = search rules in
    let root = ipv6_root x trie fits e.node (ap (λ (n : RouteNode). bit_and n.places c.args.live) e.best) c.requires.first e.counted in
    let w = c.walk_on-middle.ensures cidrs (Ipv6 x) 0 trie root (rw c.first_half.ensures (high_bits x)) in
    rw c.in-Ipv6.is (w.0, w.1, OnTrue_at c.if-middle.true w.2)

pub walk_on-requires-in-Ipv6 : goal.walk_on-requires-in-Ipv6
walk_on-requires-in-Ipv6 c =
    let x = c.in-Ipv6.address in
    let e = c.start-root-in-Ipv6.ensures in
    let fits : x.bits < 2 ^ 128 = search rules in
    let t = c.requires.trie in
    let root = ipv6_root x t.1 fits e.node (ap (λ (n : RouteNode). bit_and n.places c.args.live) e.best) c.requires.first e.counted in
    let w = c.walk_on-middle.ensures t.0 (Ipv6 x) 0 t.1 root (rw c.first_half.ensures (high_bits x)) in
    record { at = (t.0, Ipv6 x, 64, t.1, at_middle 0 64 c.walk_on-middle.result.is_over c.if-middle.false w, rw c.second_half.ensures (low_bits x)) }

pub returns-else-middle : goal.returns-else-middle
returns-else-middle c = λ cidrs trie.
    let x = c.in-Ipv6.address in
    let e = c.start-root-in-Ipv6.ensures in
    let fits : x.bits < 2 ^ 128 = search rules in
    let root = ipv6_root x trie fits e.node (ap (λ (n : RouteNode). bit_and n.places c.args.live) e.best) c.requires.first e.counted in
    let w = c.walk_on-middle.ensures cidrs (Ipv6 x) 0 trie root (rw c.first_half.ensures (high_bits x)) in
    let middle = at_middle 0 64 c.walk_on-middle.result.is_over c.if-middle.false w in
    let v = c.walk_on-in-Ipv6.ensures cidrs (Ipv6 x) 64 trie middle (rw c.second_half.ensures (low_bits x)) in
    rw c.in-Ipv6.is (at_end 64 64 c.walk_on-in-Ipv6.result.is_over (lit≤ tt) v)
