use Rattle.iface_tables.proofs.NeighborLemmas.{found_from}
use Rattle.iface_tables.proofs.neighbor.from_own_among.Goals as goal

pub returns : goal.returns
returns c = found_from c.args.entries.now c.args.address.now c.index_of.result c.index_of.ensures.value
