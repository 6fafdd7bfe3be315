use Rattle.iface_tables.proofs.NeighborLemmas.{none_in}
use Rattle.iface_tables.proofs.neighbor.Cache.new.Goals as goal

pub returns-clause-of : goal.returns-clause-of
returns-clause-of c = λ m. rw c.new.ensures (none_in m)
