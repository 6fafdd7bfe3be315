use Rattle.iface_tables.proofs.NeighborLemmas.{none_in}
use Rattle.iface_tables.proofs.neighbor.Cache.set_storage.Goals as goal

pub returns-clause-of : goal.returns-clause-of
returns-clause-of c = λ m. rw c.entries_over.ensures (none_in m)
