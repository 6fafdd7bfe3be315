use Rattle.iface_tables.proofs.RouteWalkLemmas.{ends_best}
use Rattle.iface_tables.proofs.route_trie.best_place.Goals as goal

pub returns-clause-best : goal.returns-clause-best
returns-clause-best c = λ cidrs trie.
    let end = c.end_of-end.ensures cidrs trie in
    ends_best cidrs c.args.address.now c.args.live end.0 c.last_marked.result end.2.most (end.1.best_is c.last_marked.result c.last_marked.ensures)
