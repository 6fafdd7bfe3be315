use Rattle.std.proofs.Common.{◌∙◌, arith}
use Rattle.iface_tables.specs.Route.{cidrs}
use Rattle.iface_tables.proofs.RouteTrieLemmas.{length_cidrs, nodes_more, trie_others}
use Rattle.iface_tables.proofs.route_trie.build.Goals as goal

pub loop-place-preserved : goal.loop-place-preserved
loop-place-preserved c =
    let i = c.loop-place.invariant in
    let kept = c.fill.ensures.kept in
    record {
      long = c.fill.ensures.count ∙ i.long;
      ipv4 = λ d. rw (kept 0 d (omega arith)) (i.ipv4 d);
      ipv6 = λ d. rw (kept 1 d (omega arith)) (i.ipv6 d);
      filled = nodes_more (cidrs c.args.routes.now) c.loop-place.nodes c.fill.new.nodes c.loop-place.place kept c.fill.ensures.filled i.filled;
    }

pub returns-clause-trie : goal.returns-clause-trie
returns-clause-trie c =
    let i = c.loop-place.invariant in
    let n = length_cidrs c.args.routes.now in
    record {
      few = omega (arith, n, c.requires.few);
      fits = omega (arith, n, i.long, c.requires.fits);
      ipv4 = i.ipv4;
      ipv6 = i.ipv6;
      others = trie_others (cidrs c.args.routes.now) c.loop-place.nodes (λ j lt. i.filled j (omega (arith, lt, n, c.loop-place-test.false)));
    }
