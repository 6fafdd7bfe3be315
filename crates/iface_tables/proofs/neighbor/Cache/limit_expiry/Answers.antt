use Rattle.iface_tables.proofs.NeighborLemmas.{limited_in}
use Rattle.iface_tables.proofs.neighbor.Cache.limit_expiry.Goals as goal

pub returns-clause-of : goal.returns-clause-of
returns-clause-of c = λ m all. limited_in m c.self.inside.entries.items c.limit_in.new.entries.items c.args.protocol_addr _
    c.limit_in.ensures.limits (rw (← c.self.view_is) at all)
