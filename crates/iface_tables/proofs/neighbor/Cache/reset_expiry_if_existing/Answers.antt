use Rattle.iface_tables.proofs.NeighborLemmas.{renewed_in}
use Rattle.iface_tables.proofs.neighbor.Cache.reset_expiry_if_existing.Goals as goal

pub returns-clause-of : goal.returns-clause-of
returns-clause-of c = λ m all. renewed_in m c.self.inside.entries.items c.renew_in.new.entries.items c.args.protocol_addr c.args.hardware_addr _
    c.renew_in.ensures.renews (rw (← c.self.view_is) at all)
