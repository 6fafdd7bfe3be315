use Rattle.iface_host.proofs.host.make_room.Goals as goal

pub returns : goal.returns
returns c = λ sockets H h. c.in_ok-make_fragment_room.ensures sockets _ (c.in_ok-make_route_room.ensures sockets _
    (c.in_ok-make_neighbor_room.ensures sockets _ (c.set_capacities.ensures sockets H h)))
