-- What C writes of sockets that are to be opened.
use Rattle.iface_host.specs.declared.opening.Rooms.{Rooms}
use Rattle.iface_c.specs.declared.opening.IfaceRooms.{IfaceRooms}

-- how much the queue for what comes and that for what goes hold
abbrev pub rooms_in : IfaceRooms → Rooms
rooms_in r = record {
  received = record { packets = r.received_packets; octets = r.received_octets };
  to_send = record { packets = r.to_send_packets; octets = r.to_send_octets };
}
