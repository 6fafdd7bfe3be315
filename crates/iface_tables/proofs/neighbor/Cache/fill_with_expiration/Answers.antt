use Rattle.iface_tables.proofs.NeighborLemmas.{put_of}
use Rattle.iface_tables.proofs.neighbor.Cache.fill_with_expiration.Goals as goal

pub returns-clause-of : goal.returns-clause-of
returns-clause-of c =
    λ all. put_of _ _ _ _ c.args.protocol_addr _ (rw c.medium.ensures.value at c.medium.ensures.of) c.put_in.ensures.puts (rw (← c.self.view_is) at all)
