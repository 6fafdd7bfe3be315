use Rattle.iface_tables.specs.Route.{cidrs}
use Rattle.iface_tables.proofs.RouteLemmas.{best_at}
use Rattle.iface_tables.proofs.route.Routes.best_route.Goals as goal

pub returns-clause-best : goal.returns-clause-best
returns-clause-best c =
    let rs = c.self.inside.storage.items in
    let place = c.best_place-place.result.0 in
    let best = c.best_place-place.ensures.best (cidrs rs) (rw c.as_slice.ensures c.self.invariant.trie) in
    rw (← c.self.view_is, c.route_of.ensures, c.as_slice-routes.ensures) (best_at rs c.args.address.now c.args.timestamp c.live_mask-live.result place
    (rw c.as_slice-routes.ensures at c.live_mask-live.ensures) best)
