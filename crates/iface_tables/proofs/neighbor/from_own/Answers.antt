use Rattle.iface_tables.proofs.NeighborLemmas.{found_from}
use Rattle.iface_tables.proofs.neighbor.from_own.Goals as goal

pub returns-in-Some : goal.returns-in-Some
returns-in-Some c = found_from c.args.entries.now c.args.address.now c.in-Some.index (c.in-Some.ensures).1
