use Rattle.iface_tables.proofs.RouteBestLemmas.{best_is_best}
use Rattle.iface_tables.proofs.route.best_is_found.Goals as goal

pub returns : goal.returns
returns c = best_is_best
