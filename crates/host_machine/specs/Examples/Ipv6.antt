-- Worked exchanges over IPv6, computed from the definitions: a neighbour solicits the host of fe80::1/64 and is
-- answered (RFC 4861 7.2.4), and a datagram goes each way.
use Rattle.std.specs.Prelude.{ℕ, pos, List, [], ◌∷◌, Ok}
use Rattle.std.specs.FinMap as map
use Rattle.net_base.specs.Device.{Received, Frame, Sent}
use Rattle.ip_address.specs.declared.ip.IpAddress.{IpAddress}
use Rattle.ip_address.specs.declared.ip.IpAddress.TheVariants as ip
use Rattle.iface_tables.specs.Neighbor.{Neighbors, after_renewal}
use Rattle.sockets.specs.Udp.{UdpSocket}
use Rattle.host_machine.specs.declared.results.PollIngressSingleResult.TheVariants as result
use Rattle.host_machine.specs.Packet.Packet.{Packet, Ipv6, Udp}
use Rattle.host_machine.specs.Send.Dispatch.{Dispatches}
use Rattle.host_machine.specs.Interface.Ingress.{Ingress}
use Rattle.host_machine.specs.Examples.ArpAndEcho as example
use Rattle.host_machine.specs.Examples.Discovery.{host, own, neighbor}
use Rattle.host_machine.specs.Examples.Sockets.{empty_queue, listening_socket, with_socket}

-- fe80::2 at 02:00:00:00:00:02 solicits fe80::1 at its solicited-node group
abbrev pub solicitation : List ℕ
solicitation =
    0x33 ∷ 0x33 ∷ 0xff ∷ 0 ∷ 0 ∷ 0x01 ∷ 0x02 ∷ 0 ∷ 0 ∷ 0 ∷ 0 ∷ 0x02 ∷ 0x86 ∷ 0xdd
    ∷ 0x60 ∷ 0 ∷ 0 ∷ 0 ∷ 0 ∷ 0x20 ∷ 0x3a ∷ 0xff
    ∷ 0xfe ∷ 0x80 ∷ 0 ∷ 0 ∷ 0 ∷ 0 ∷ 0 ∷ 0 ∷ 0 ∷ 0 ∷ 0 ∷ 0 ∷ 0 ∷ 0 ∷ 0 ∷ 0x02
    ∷ 0xff ∷ 0x02 ∷ 0 ∷ 0 ∷ 0 ∷ 0 ∷ 0 ∷ 0 ∷ 0 ∷ 0 ∷ 0 ∷ 0x01 ∷ 0xff ∷ 0 ∷ 0 ∷ 0x01
    ∷ 0x87 ∷ 0 ∷ 0x7a ∷ 0x97 ∷ 0 ∷ 0 ∷ 0 ∷ 0
    ∷ 0xfe ∷ 0x80 ∷ 0 ∷ 0 ∷ 0 ∷ 0 ∷ 0 ∷ 0 ∷ 0 ∷ 0 ∷ 0 ∷ 0 ∷ 0 ∷ 0 ∷ 0 ∷ 0x01
    ∷ 0x01 ∷ 0x01 ∷ 0x02 ∷ 0 ∷ 0 ∷ 0 ∷ 0 ∷ 0x02 ∷ []

-- fe80::1 advertises its hardware address
abbrev pub advertisement : List ℕ
advertisement =
    0x02 ∷ 0 ∷ 0 ∷ 0 ∷ 0 ∷ 0x02 ∷ 0x02 ∷ 0 ∷ 0 ∷ 0 ∷ 0 ∷ 0x01 ∷ 0x86 ∷ 0xdd
    ∷ 0x60 ∷ 0 ∷ 0 ∷ 0 ∷ 0 ∷ 0x20 ∷ 0x3a ∷ 0xff
    ∷ 0xfe ∷ 0x80 ∷ 0 ∷ 0 ∷ 0 ∷ 0 ∷ 0 ∷ 0 ∷ 0 ∷ 0 ∷ 0 ∷ 0 ∷ 0 ∷ 0 ∷ 0 ∷ 0x01
    ∷ 0xfe ∷ 0x80 ∷ 0 ∷ 0 ∷ 0 ∷ 0 ∷ 0 ∷ 0 ∷ 0 ∷ 0 ∷ 0 ∷ 0 ∷ 0 ∷ 0 ∷ 0 ∷ 0x02
    ∷ 0x88 ∷ 0 ∷ 0x38 ∷ 0x1c ∷ 0x40 ∷ 0 ∷ 0 ∷ 0
    ∷ 0xfe ∷ 0x80 ∷ 0 ∷ 0 ∷ 0 ∷ 0 ∷ 0 ∷ 0 ∷ 0 ∷ 0 ∷ 0 ∷ 0 ∷ 0 ∷ 0 ∷ 0 ∷ 0x01
    ∷ 0x02 ∷ 0x01 ∷ 0x02 ∷ 0 ∷ 0 ∷ 0 ∷ 0 ∷ 0x01 ∷ []

-- the sender of the solicitation, as a neighbour
abbrev pub sender : IpAddress
sender = ip.Ipv6 neighbor

abbrev pub neighbors_with_sender : Neighbors
neighbors_with_sender = record {
  room = 4;
  known = map.insert map.empty sender (record { hardware_addr = example.sender_hardware; expires_at = pos 60000000 });
  silent_until = pos 0;
}

-- the same neighbour after another packet from it
abbrev pub neighbors_after_renewal : Neighbors
neighbors_after_renewal = after_renewal neighbors_with_sender sender example.sender_hardware (pos 60000000)

-- the solicitation is answered, and its sender known from then on, so that the answer can be sent
abbrev pub SolicitationIsAnswered : Type 0
SolicitationIsAnswered =
    Ingress (pos 0) result.SocketStateChanged (host 0x1405 (example.no_neighbors (pos 0)))
    (Received (pos 0) (Frame solicitation) ∷ Sent 0 advertisement ∷ []) (example.identify ∷ [])
    (host 0x1406 neighbors_with_sender)

-- `hi` from fe80::2, port 5000, to port 6969 of fe80::1
abbrev pub datagram : List ℕ
datagram =
    0x02 ∷ 0 ∷ 0 ∷ 0 ∷ 0 ∷ 0x01 ∷ 0x02 ∷ 0 ∷ 0 ∷ 0 ∷ 0 ∷ 0x02 ∷ 0x86 ∷ 0xdd
    ∷ 0x60 ∷ 0 ∷ 0 ∷ 0 ∷ 0 ∷ 0x0a ∷ 0x11 ∷ 0x40
    ∷ 0xfe ∷ 0x80 ∷ 0 ∷ 0 ∷ 0 ∷ 0 ∷ 0 ∷ 0 ∷ 0 ∷ 0 ∷ 0 ∷ 0 ∷ 0 ∷ 0 ∷ 0 ∷ 0x02
    ∷ 0xfe ∷ 0x80 ∷ 0 ∷ 0 ∷ 0 ∷ 0 ∷ 0 ∷ 0 ∷ 0 ∷ 0 ∷ 0 ∷ 0 ∷ 0 ∷ 0 ∷ 0 ∷ 0x01
    ∷ 0x13 ∷ 0x88 ∷ 0x1b ∷ 0x39 ∷ 0 ∷ 0x0a ∷ 0x6b ∷ 0xab ∷ 0x68 ∷ 0x69 ∷ []

-- the socket after the datagram was delivered
abbrev pub socket_with_datagram : UdpSocket
socket_with_datagram = record listening_socket {
  rx = record empty_queue { packets = (record { addr = sender; port = 5000 }, 0x68 ∷ 0x69 ∷ []) ∷ [] };
}

-- the datagram is delivered to the socket, and nothing is sent
abbrev pub DatagramIsDelivered : Type 0
DatagramIsDelivered =
    Ingress (pos 0) result.SocketStateChanged (with_socket listening_socket (host 0x1405 neighbors_with_sender))
    (Received (pos 0) (Frame datagram) ∷ []) [] (with_socket socket_with_datagram (host 0x1405 neighbors_after_renewal))

-- `hi` in the other direction, as a packet, and as its frame
abbrev pub packet : Packet
packet = Ipv6 (record {
  src_addr = own;
  dst_addr = neighbor;
  hop_limit = 64;
  payload = Udp (record { src_port = 6969; dst_port = 5000 }) (0x68 ∷ 0x69 ∷ []);
})

abbrev pub frame : List ℕ
frame =
    0x02 ∷ 0 ∷ 0 ∷ 0 ∷ 0 ∷ 0x02 ∷ 0x02 ∷ 0 ∷ 0 ∷ 0 ∷ 0 ∷ 0x01 ∷ 0x86 ∷ 0xdd
    ∷ 0x60 ∷ 0 ∷ 0 ∷ 0 ∷ 0 ∷ 0x0a ∷ 0x11 ∷ 0x40
    ∷ 0xfe ∷ 0x80 ∷ 0 ∷ 0 ∷ 0 ∷ 0 ∷ 0 ∷ 0 ∷ 0 ∷ 0 ∷ 0 ∷ 0 ∷ 0 ∷ 0 ∷ 0 ∷ 0x01
    ∷ 0xfe ∷ 0x80 ∷ 0 ∷ 0 ∷ 0 ∷ 0 ∷ 0 ∷ 0 ∷ 0 ∷ 0 ∷ 0 ∷ 0 ∷ 0 ∷ 0 ∷ 0 ∷ 0x02
    ∷ 0x1b ∷ 0x39 ∷ 0x13 ∷ 0x88 ∷ 0 ∷ 0x0a ∷ 0x6b ∷ 0xab ∷ 0x68 ∷ 0x69 ∷ []

-- the packet is sent to the neighbour that is known
abbrev pub DatagramIsSent : Type 0
DatagramIsSent = Dispatches packet (Ok tt) (host 0x1405 neighbors_with_sender) (frame ∷ []) (example.identify ∷ [])
    (host 0x1406 neighbors_with_sender)
