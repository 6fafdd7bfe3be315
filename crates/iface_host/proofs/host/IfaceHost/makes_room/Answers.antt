use Rattle.iface_host.proofs.host.IfaceHost.makes_room.Goals as goal

pub returns-in-Some-clause-room : goal.returns-in-Some-clause-room
returns-in-Some-clause-room c = c.makes_room_for.ensures.room c.args.frame.now (rw c.deref.ensures at c.in-Some.ensures)
