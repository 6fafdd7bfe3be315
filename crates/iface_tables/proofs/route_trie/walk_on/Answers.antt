use Rattle.std.proofs.Common.{◌≡◌, ◌+◌, ◌*◌, ◌^◌, ◌%◌, ◌∙◌, arith, ap, sym}
use Rattle.iface_tables.specs.RouteTrie.{host_of, number, start_of}
use Rattle.iface_tables.proofs.RouteWalkLemmas.{child_at, child_within, ends_longest, moved_up, none_longer, one_further}
use Rattle.iface_tables.proofs.route_trie.walk_on.Goals as goal

pub visit-node-requires-clause-within : goal.visit-node-requires-clause-within
visit-node-requires-clause-within c =
    let r = c.requires.at in
    let l = c.loop-i in
    let child = child_at r.2 l.i l.bits (l.invariant.at r.0 r.1 r.2 r.3 r.4 r.5) r.5 c.loop-i-test.true l.invariant.bits in
    child_within r.1 (r.2 + l.i + 1) r.3 (c.child_of-child.ensures ∙ child)

pub returns-then-child-eq0 : goal.returns-then-child-eq0
returns-then-child-eq0 c = λ cidrs a i trie first next.
    let l = c.loop-i in
    let at = l.invariant.at cidrs a i trie first next in
    let child = child_at i l.i l.bits at next c.loop-i-test.true l.invariant.bits in
    let n : number cidrs (start_of (host_of a) (i + l.i + 1)) ≡ 0 = sym child ∙ sym c.child_of-child.ensures ∙ c.if-child-eq0.true in
    (i + l.i, at, ends_longest (none_longer cidrs a (i + l.i) n) at, tt)

pub loop-i-preserved : goal.loop-i-preserved
loop-i-preserved c =
    let l = c.loop-i in
    record {
      bits = ap (λ n. n * 2 % 2 ^ 64) l.invariant.bits ∙ moved_up c.args.leading l.i;
      at = λ cidrs a i trie first next.
          let at = l.invariant.at cidrs a i trie first next in
          let child = c.child_of-child.ensures ∙ child_at i l.i l.bits at next c.loop-i-test.true l.invariant.bits in
          one_further i l.i trie at child c.if-child-eq0.false c.visit-node.ensures.node c.better-best.ensures c.visit-node.ensures.counted;
    }

pub returns : goal.returns
returns c = λ cidrs a i trie first next. (i + c.loop-i.i, c.loop-i.invariant.at cidrs a i trie first next, tt, omega arith)
