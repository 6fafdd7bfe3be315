use Rattle.std.proofs.Common.{◌≡◌, ◌≢◌, ◌+◌, ◌*◌, ap, sym, ◌∙◌, arith, get_or-set_other}
use Rattle.std.proofs.lemmas.List.{length-set}
use Rattle.iface_tables.specs.declared.route.Route.{Route}
use Rattle.iface_tables.specs.Route.{cidrs}
use Rattle.iface_tables.specs.RouteTrie.{network_of}
use Rattle.iface_tables.proofs.RouteTrieLemmas.{cidr_there, filled_more, has_nodes}
use Rattle.iface_tables.proofs.route_trie.fill.Goals as goal

pub loop-i-preserved : goal.loop-i-preserved
loop-i-preserved c =
    let i = c.loop-i.invariant in
    let p = c.network_of-network.result in
    let at : 2 + 128 * c.args.place + c.from.result ≡ 2 + 128 * c.args.place + c.loop-i.i = ap (λ n. 2 + 128 * c.args.place + n) c.from.ensures in
    record {
      long = length-set c.loop-i.nodes (2 + 128 * c.args.place + c.from.result) c.node_of.result ∙ i.long;
      filled = rw at (filled_more (cidrs c.args.routes.now) p c.loop-i.nodes (2 + 128 * c.args.place) c.loop-i.i c.node_of.result (omega (
        arith,
        i.long,
        c.requires.fits,
        c.requires.within,
        c.network_of-network.ensures.wide,
        c.network_of-network.ensures.within,
      )) (rw c.start_of-beginning.ensures at c.node_of.ensures) i.filled);
      kept = λ k d le. (let apart : k ≢ 2 + 128 * c.args.place + c.from.result = (λ e. omega arith) in
          get_or-set_other c.loop-i.nodes _ k c.node_of.result d apart ∙ i.kept k d le);
    }

pub returns-clause-filled : goal.returns-clause-filled
returns-clause-filled c =
    let rs = c.args.routes.now in
    let r = c.index-routes-place in
    let at = cidr_there rs c.args.place r.result c.requires.within r.is in
    has_nodes (cidrs rs) c.loop-i.nodes c.args.place c.loop-i.i r.result.cidr c.network_of-network.result at.0
    at.1 (c.network_of-network.ensures.value ∙ ap (λ (x : Route). network_of x.cidr) (sym r.is)) c.loop-i-test.false c.loop-i.invariant.filled
