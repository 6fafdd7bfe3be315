use Rattle.iface_host.proofs.host.make_route_room.Goals as goal

pub returns : goal.returns
returns c = rw (c.in_ok-storage.ensures.exact, c.in_ok-nodes.ensures.exact, c.node_count.ensures, c.min-count.ensures) at c.set_route_storage.ensures
