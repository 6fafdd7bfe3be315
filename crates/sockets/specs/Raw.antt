-- Raw sockets, which send and receive whole packets of one protocol.
use Rattle.std.specs.Prelude.{ℕ, ◌/◌, ◌==◌, ◌&&◌, nat_le, Bool, true, false, cond, is_none}
use Rattle.std.specs.Prelude.{List, map, ◌++◌, length, slice_index, slice_range, Option, Some, None}
use Rattle.std.specs.Option.{option_and_then, option_map}
use Rattle.ip_wire.specs.Ipv4Packet.{header_len, total_len}
use Rattle.ip_wire.specs.Ipv4Packet as ipv4
use Rattle.ip_wire.specs.Ipv6Packet as ipv6
use Rattle.ip_wire.specs.IpPacket.{dst_addr, header_text, next_header}
use Rattle.ip_wire.specs.declared.ip_packet.IpRepr.{IpRepr}
use Rattle.ip_wire.specs.declared.ip_packet.IpRepr.TheVariants as repr
use Rattle.ip_address.specs.Protocol.{number_of}
use Rattle.ip_address.specs.declared.ip.IpAddress.{IpAddress}
use Rattle.ip_address.specs.declared.protocol.IpProtocol.{IpProtocol}
use Rattle.ip_address.specs.declared.protocol.IpVersion.{IpVersion}
use Rattle.ip_address.specs.declared.protocol.IpVersion.TheVariants.{Ipv4, Ipv6}
use Rattle.sockets.specs.Queue.{Queued, first_of, put, queue_after_pop, queue_brought_forward}
use Rattle.sockets.specs.declared.poll_at.PollAt.{PollAt}
use Rattle.sockets.specs.declared.poll_at.PollAt.TheVariants.{Now, Ingress}
use Rattle.sockets.specs.declared.raw.Packet.{Packet}

-- the IP version and the protocol of its packets, and the packets received and to send
pub record RawSocket : Type 0 where
  pub version : IpVersion
  pub protocol : IpProtocol
  pub rx : Queued (Unit {0})
  pub tx : Queued (Unit {0})

-- a packet by its header
pub record Sent : Type 0 where
  pub header : IpRepr
  pub payload : List ℕ

-- a packet, apart from where its payload is in memory
abbrev pub value_of : Packet → Sent
value_of p = record { header = p.header; payload = p.payload.now }

-- whether two versions are equal
abbrev pub is_same_version : IpVersion → IpVersion → Bool
is_same_version Ipv4 Ipv4 = true
is_same_version Ipv4 Ipv6 = false
is_same_version Ipv6 Ipv4 = false
is_same_version Ipv6 Ipv6 = true

-- whether the socket accepts packets of a version and a protocol
abbrev pub accepts : RawSocket → IpVersion → IpProtocol → Bool
accepts s version protocol = is_same_version s.version version && (number_of s.protocol == number_of protocol)

-- a packet as it is stored: its header written anew, without options and for a whole packet, and its payload
abbrev pub stored_packet : Bool → IpRepr → List ℕ → List ℕ
stored_packet summed header payload = header_text summed header ++ payload

-- a packet is received
abbrev pub socket_after_delivery : Bool → IpRepr → List ℕ → RawSocket → RawSocket
socket_after_delivery summed header payload s = record s { rx = put s.rx tt (stored_packet summed header payload) }

-- the first packet received is read
abbrev pub socket_after_done : RawSocket → RawSocket
socket_after_done s = record s { rx = queue_after_pop s.rx }

-- a packet is queued for sending
abbrev pub socket_after_send : List ℕ → RawSocket → RawSocket
socket_after_send packet s = record s { tx = put s.tx tt packet }

-- the first packet to send is removed
abbrev pub without_first_to_send : RawSocket → RawSocket
without_first_to_send s = record s { tx = queue_after_pop s.tx }

-- immediately, if there is something to send
abbrev pub poll_at : RawSocket → PollAt
poll_at s = cond (is_none (first_of s.tx.packets)) Ingress Now

-- octets begin with an IPv4 packet (RFC 791 3.1); its checksum isn't verified
abbrev pub is_ipv4 : List ℕ → Bool
is_ipv4 octets =
    nat_le 20 (length octets) && (slice_index octets 0 / 16 == 4) && nat_le 20 (header_len octets)
    && nat_le (header_len octets) (total_len octets) && nat_le (total_len octets) (length octets)

-- octets begin with an IPv6 packet (RFC 8200 3)
abbrev pub is_ipv6 : List ℕ → Bool
is_ipv6 octets = nat_le 40 (length octets) && (slice_index octets 0 / 16 == 6)
    && nat_le (ipv6.end octets) (length octets)

abbrev pub ipv4_in : List ℕ → Sent
ipv4_in octets = record {
  header = repr.Ipv4 (ipv4.header_in octets);
  payload = slice_range octets (header_len octets) (total_len octets);
}

abbrev pub ipv6_in : List ℕ → Sent
ipv6_in octets =
    record { header = repr.Ipv6 (ipv6.header_in octets); payload = slice_range octets 40 (ipv6.end octets) }

-- the packet of an IP version that the octets begin with
abbrev pub packet_in : IpVersion → List ℕ → Option Sent
packet_in Ipv4 octets = cond (is_ipv4 octets) (Some (ipv4_in octets)) None
packet_in Ipv6 octets = cond (is_ipv6 octets) (Some (ipv6_in octets)) None

-- a packet, if it is of the socket's protocol
abbrev pub if_spoken : RawSocket → Sent → Option Sent
if_spoken s p = cond (number_of s.protocol == number_of (next_header p.header)) (Some p) None

-- the packet that the octets begin with, if it is of the socket's version and protocol
abbrev pub packet_to_send : RawSocket → List ℕ → Option Sent
packet_to_send s octets = option_and_then (if_spoken s) (packet_in s.version octets)

-- the first packet to send, if it is of the socket's version and protocol
abbrev pub offered_packet : RawSocket → Option Sent
offered_packet s = option_and_then (λ p. packet_to_send s p.1) (first_of s.tx.packets)

-- the socket after it was asked: the first packet is removed if it isn't of the socket's version and protocol
abbrev pub socket_after_offer : RawSocket → RawSocket
socket_after_offer s = cond (is_none (offered_packet s)) (without_first_to_send s) s

-- the socket after the acknowledgement
abbrev pub socket_after_told : Bool → RawSocket → RawSocket
socket_after_told is_done s = cond is_done (without_first_to_send s) s

-- for which address the packet is that the octets begin with, if it is of the socket's version and protocol
abbrev pub destination_in : RawSocket → List ℕ → Option IpAddress
destination_in s octets = option_map (λ (p : Sent). dst_addr p.header) (packet_to_send s octets)

-- for which addresses the packets to send are, in order
abbrev pub destinations : RawSocket → List (Option IpAddress)
destinations s = map (λ p. destination_in s p.1) s.tx.packets

-- the socket with the one at an index as the first to send
abbrev pub socket_brought_forward : ℕ → RawSocket → RawSocket
socket_brought_forward index s = record s { tx = queue_brought_forward index s.tx }
