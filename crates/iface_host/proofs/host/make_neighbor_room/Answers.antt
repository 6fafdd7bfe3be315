use Rattle.iface_host.proofs.host.make_neighbor_room.Goals as goal

pub returns : goal.returns
returns c = rw c.in_ok-storage.ensures.exact at c.set_neighbor_storage.ensures
