-- A worked example: a raw socket gets and sends packets of its protocol, and gets no datagram.
use Rattle.std.specs.Prelude.{◌≡◌, ℕ, pos, true, false, List, [], ◌∷◌, drop, Some}
use Rattle.net_base.specs.Device.{Received, Frame, Asked, Sent}
use Rattle.ip_address.specs.declared.protocol.IpProtocol.TheVariants as protocol
use Rattle.ip_wire.specs.declared.ip_packet.IpRepr.TheVariants as repr
use Rattle.sockets.specs.Raw.{RawSocket, packet_to_send}
use Rattle.host_machine.specs.declared.results.PollIngressSingleResult.TheVariants as result
use Rattle.host_machine.specs.declared.results.PollResult.TheVariants as poll
use Rattle.host_machine.specs.Context.Host.{Host}
use Rattle.host_machine.specs.Interface.Egress.{Egress}
use Rattle.host_machine.specs.Interface.Ingress.{Ingress}
use Rattle.host_machine.specs.Examples.ArpAndEcho as example
use Rattle.host_machine.specs.Examples.Sockets.{datagram, listening_raw_socket, port_unreachable}
use Rattle.host_machine.specs.Examples.Sockets.{unknown_protocol_frame, with_raw}
use Rattle.host_laws.specs.RawArrivals.{RawArrival, BringsRaw, with_arrivals}

-- a raw socket for protocol 99 over IPv4, without a packet, and with `abcd` from 192.168.69.100
abbrev pub raw_socket : RawSocket
raw_socket = record listening_raw_socket { protocol = protocol.Unknown 99 }

abbrev pub socket_with_packet : RawSocket
socket_with_packet = record raw_socket {
  rx = record { packets = (tt, drop 14 unknown_protocol_frame) ∷ []; most = 1; limit = 64 };
}

-- the packet in that frame, and the datagram in another
abbrev pub packet : RawArrival
packet = record {
  header = repr.Ipv4 (record {
    src_addr = record { bits = 0xc0a84564 };
    dst_addr = record { bits = 0xc0a84501 };
    next_header = protocol.Unknown 99;
    payload_len = 4;
    hop_limit = 64;
  });
  payload = 0x61 ∷ 0x62 ∷ 0x63 ∷ 0x64 ∷ [];
  is_reassembled = false;
}

abbrev pub datagram_packet : RawArrival
datagram_packet = record {
  header = repr.Ipv4 (record {
    src_addr = record { bits = 0xc0a84564 };
    dst_addr = record { bits = 0xc0a84501 };
    next_header = protocol.Udp;
    payload_len = 10;
    hop_limit = 64;
  });
  payload = 0x13 ∷ 0x88 ∷ 0x1b ∷ 0x39 ∷ 0 ∷ 0x0a ∷ 0x5c ∷ 0xf9 ∷ 0x68 ∷ 0x69 ∷ [];
  is_reassembled = false;
}

abbrev pub host : Host
host = with_raw raw_socket (example.host 0x1405 example.neighbors_with_sender)

-- the same packet from 192.168.69.1 to 192.168.69.100, in its frame; and the socket that has it to send
abbrev pub sent_frame : List ℕ
sent_frame =
    0x02 ∷ 0 ∷ 0 ∷ 0 ∷ 0 ∷ 0x02 ∷ 0x02 ∷ 0 ∷ 0 ∷ 0 ∷ 0 ∷ 0x01 ∷ 0x08 ∷ 0
    ∷ 0x45 ∷ 0 ∷ 0 ∷ 0x18 ∷ 0 ∷ 0 ∷ 0x40 ∷ 0 ∷ 0x40 ∷ 0x63 ∷ 0x2e ∷ 0xcd ∷ 192 ∷ 168 ∷ 69 ∷ 1 ∷ 192 ∷ 168 ∷ 69 ∷ 100
    ∷ 0x61 ∷ 0x62 ∷ 0x63 ∷ 0x64 ∷ []

abbrev pub socket_to_send : RawSocket
socket_to_send =
    record raw_socket { tx = record { packets = (tt, drop 14 sent_frame) ∷ []; most = 1; limit = 64 } }

-- The frame brings the packet, which is appended to the socket's receive queue; then no error is sent. Octets to send
-- that are the same are read as that packet, and a socket that has such octets sends them. Another frame brings a
-- datagram, of which the socket gets nothing, and an error is sent. A frame of ARP brings no packet.
pub record RawPacketArrives : Type 0 where
  pub brings : BringsRaw host unknown_protocol_frame [] packet
  pub queued : with_arrivals true (packet ∷ []) raw_socket ≡ socket_with_packet
  pub call : Ingress (pos 0) result.SocketStateChanged host (Received (pos 0) (Frame unknown_protocol_frame) ∷ []) []
      (with_raw socket_with_packet (example.host 0x1405 example.neighbors_after_renewal))
  pub is_read : packet_to_send raw_socket (drop 14 unknown_protocol_frame)
      ≡ Some (record { header = packet.header; payload = packet.payload })
  pub sent : Egress (pos 0) poll.SocketStateChanged
      (with_raw socket_to_send (example.host 0x1405 example.neighbors_with_sender))
      (Asked (pos 0) true ∷ Sent 0 sent_frame ∷ []) (example.identify ∷ [])
      (with_raw raw_socket (example.host 0x1406 example.neighbors_with_sender))
  pub brings_other : BringsRaw host datagram [] datagram_packet
  pub not_queued : with_arrivals true (datagram_packet ∷ []) raw_socket ≡ raw_socket
  pub other_call : Ingress (pos 0) result.SocketStateChanged host
      (Received (pos 0) (Frame datagram) ∷ Sent 0 port_unreachable ∷ []) (example.identify ∷ [])
      (with_raw raw_socket (example.host 0x1406 example.neighbors_after_renewal))
  pub brings_none : (a : RawArrival) → BringsRaw host example.request [] a → ⊥
