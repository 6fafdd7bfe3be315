-- What raw and TCP sockets receive, and ICMP sockets over IPv6: a packet, a segment or an echo reply that comes for a
-- socket with room is last in its queue.
use Rattle.std.specs.Prelude.{◌≡◌, ◌≢◌, ◌⊎◌, ℕ, ◌<◌, ℤ, true, false, List, [], ◌∷◌, ◌++◌, length, slice_get}
use Rattle.std.specs.Prelude.{Some, None}
use Rattle.net_base.specs.Checksum.{is_rx, is_tx}
use Rattle.net_base.specs.Device.{Event, sent_frames}
use Rattle.ip_address.specs.Protocol.{number_of}
use Rattle.ip_address.specs.declared.hardware.HardwareAddress.{HardwareAddress}
use Rattle.ip_address.specs.declared.ip.IpAddress.TheVariants.{Ipv6}
use Rattle.ip_address.specs.declared.protocol.IpProtocol.TheVariants as ip_protocol
use Rattle.ip_wire.specs.declared.ethernet.EthernetProtocol.TheVariants as protocol
use Rattle.ip_wire.specs.declared.ip_packet.IpRepr.{IpRepr}
use Rattle.ip_wire.specs.declared.ip_packet.IpRepr.TheVariants as repr
use Rattle.ip_wire.specs.declared.ipv4_packet.Ipv4Repr.{Ipv4Repr}
use Rattle.ip_wire.specs.declared.tcp.TcpRepr.{TcpRepr}
use Rattle.ip_wire.specs.IpPacket.{header_text, next_header, src_addr, version_of}
use Rattle.ip_wire.specs.Ipv4Packet.{IsIpv4, ipv4_in, is_fragment}
use Rattle.ip_wire.specs.Tcp.{tcp_in}
use Rattle.ip_wire.specs.declared.ipv6_packet.Ipv6Repr.{Ipv6Repr}
use Rattle.ip_address.specs.Ipv6 as ipv6
use Rattle.sockets.specs.Queue.{is_room}
use Rattle.sockets.specs.declared.endpoint.IpEndpoint.{IpEndpoint}
use Rattle.control_wire.specs.Icmpv6.{icmpv6_in}
use Rattle.control_wire.specs.declared.icmpv6.Icmpv6Repr.TheVariants.{EchoReply}
use Rattle.sockets.specs.Icmp.{IcmpSocket}
use Rattle.sockets.specs.declared.icmp.Endpoint.TheVariants.{Ident}
use Rattle.sockets.specs.Raw.{RawSocket}
use Rattle.sockets.specs.Tcp.{TcpSocket, segment_of}
use Rattle.sockets.specs.declared.socket.SocketOf.TheVariants.{Icmp, Raw, Tcp}
use Rattle.host_machine.specs.Context.Host.{Host, is_assigned}
use Rattle.host_machine.specs.Context.Addresses.{is_unicast_v4}
use Rattle.host_machine.specs.Icmp.Icmpv6.{IsMessage}
use Rattle.host_machine.specs.Sockets.Tcp.{IsSegment, destination_of, source_of}
use Rattle.host_laws.specs.Laws.Service.{HasPacketV4, HasPacketV6, HasPayloadV6, IsAccepted, IsOfLink, IsToItself, Takes, packet_in}

-- Raw packets

-- the frame carries a whole IPv4 packet with this header and this payload, from a unicast address that may be a source, to
-- any address
pub record CarriesPacket (own : HardwareAddress) (H : Host) (frame : List ℕ)
    (r : Ipv4Repr) (payload : List ℕ) : Type 0 where
  pub taken : IsAccepted own protocol.Ipv4 frame
  pub is_packet : IsIpv4 (is_rx H.capabilities.checksum.ipv4) (packet_in own frame)
  pub header : (ipv4_in (packet_in own frame)).0 ≡ r
  pub whole : is_fragment (ipv4_in (packet_in own frame)).1 ≡ false
  pub behind : (ipv4_in (packet_in own frame)).2 ≡ payload
  pub sender : is_unicast_v4 H.ip_addrs r.src_addr ≡ true
  pub of_link : IsOfLink r.src_addr

-- a packet as a raw socket gets it: its header is written anew, without options
abbrev pub raw_packet : Host → IpRepr → List ℕ → List ℕ
raw_packet H r payload = header_text (is_tx H.capabilities.checksum.ipv4) r ++ payload

-- the raw socket at an index is for packets of this version and protocol, and has room for this packet
pub record IsRawFor (H : Host) (r : IpRepr) (payload : List ℕ) (i : ℕ) (s : RawSocket) : Type 0 where
  pub here : slice_get H.sockets.places i ≡ Some (Some (Raw s))
  pub version : s.version ≡ version_of r
  pub protocol : number_of s.protocol ≡ number_of (next_header r)
  pub room : is_room s.rx (length (raw_packet H r payload)) ≡ true

-- then the packet is last in its queue
abbrev pub HasRawLast : Host → IpRepr → List ℕ → ℕ → RawSocket → Host → Type 0
HasRawLast old r payload i s new = slice_get new.sockets.places i ≡ Some (Some (Raw (record s {
  rx = record s.rx { packets = s.rx.packets ++ (tt, raw_packet old r payload) ∷ [] };
})))

-- so it is with each raw socket that is for the packet, in the call that receives it: over IPv4 whatever the packet's
-- destination; over IPv6, for a packet to an address assigned to the host and without hop-by-hop options
abbrev pub QueuesRawPackets : ℤ → Host → List Event → Host → Type 0
QueuesRawPackets t old told new =
    (own : HardwareAddress) (frame : List ℕ) (r : Ipv4Repr) (payload : List ℕ) (i : ℕ) (s : RawSocket) →
    Takes own t frame old told new → CarriesPacket own old frame r payload → IsRawFor old (repr.Ipv4 r) payload i s →
    HasRawLast old (repr.Ipv4 r) payload i s new

abbrev pub QueuesRawPacketsV6 : ℤ → Host → List Event → Host → Type 0
QueuesRawPacketsV6 t old told new =
    (own : HardwareAddress) (frame : List ℕ) (r : Ipv6Repr) (payload : List ℕ) (i : ℕ) (s : RawSocket) →
    Takes own t frame old told new → HasPacketV6 own old frame r payload →
    is_assigned old.ip_addrs (Ipv6 r.dst_addr) ≡ true → number_of r.next_header ≢ 0 →
    IsRawFor old (repr.Ipv6 r) payload i s → HasRawLast old (repr.Ipv6 r) payload i s new

abbrev pub RawPacketsAreQueued : Type 0
RawPacketsAreQueued = (t : ℤ) (old new : Host) (told : List Event) →
    QueuesRawPackets t old told new × QueuesRawPacketsV6 t old told new

-- Segments

-- the frame carries a segment (RFC 9293 3.1) with this header and this payload, over IPv4 or IPv6
pub record HasSegment (own : HardwareAddress) (H : Host) (frame : List ℕ) (r : Ipv4Repr)
    (segment : TcpRepr) (octets : List ℕ) : Type 0 where
  pub payload : List ℕ
  pub in_packet : HasPacketV4 own H frame r payload
  pub protocol_is : r.next_header ≡ ip_protocol.Tcp
  pub is_segment : IsSegment H (repr.Ipv4 r) payload
  pub values : tcp_in payload ≡ (segment, octets)

pub record HasSegmentV6 (own : HardwareAddress) (H : Host) (frame : List ℕ) (r : Ipv6Repr)
    (segment : TcpRepr) (octets : List ℕ) : Type 0 where
  pub payload : List ℕ
  pub in_packet : HasPayloadV6 own H frame r ip_protocol.Tcp payload
  pub receiver : ipv6.is_unicast r.dst_addr ≡ true
  pub given : is_assigned H.ip_addrs (Ipv6 r.dst_addr) ≡ true
  pub is_segment : IsSegment H (repr.Ipv6 r) payload
  pub values : tcp_in payload ≡ (segment, octets)

-- a TCP socket is for segments between two endpoints: its port is that of the destination, its address that one or any,
-- and its peer the source or any
pub record IsForSegments (s : TcpSocket) (source destination : IpEndpoint) : Type 0 where
  pub port : s.local.port ≡ destination.port
  pub addr : (s.local.addr ≡ None) ⊎ (s.local.addr ≡ Some destination.addr)
  pub remote : (s.remote ≡ None) ⊎ (s.remote ≡ Some source)

-- the TCP socket at an index is the first that is for a segment in a packet with this header; it isn't aborted, and has
-- room
pub record IsFirstFor (H : Host) (r : IpRepr) (segment : TcpRepr) (octets : List ℕ) (i : ℕ)
    (s : TcpSocket) : Type 0 where
  pub here : slice_get H.sockets.places i ≡ Some (Some (Tcp s))
  pub is_for : IsForSegments s (source_of r segment) (destination_of r segment)
  pub first : (k : ℕ) (other : TcpSocket) → k < i → slice_get H.sockets.places k ≡ Some (Some (Tcp other)) →
      IsForSegments other (source_of r segment) (destination_of r segment) → ⊥
  pub live : s.is_aborted ≡ false
  pub room : is_room s.rx (length octets) ≡ true

-- then the segment is last in its queue, with its sender
abbrev pub HasSegmentLast : IpRepr → TcpRepr → List ℕ → ℕ → TcpSocket → Host → Type 0
HasSegmentLast r segment octets i s new = slice_get new.sockets.places i ≡ Some (Some (Tcp (record s {
  rx = record s.rx { packets = s.rx.packets ++ (segment_of (src_addr r) segment, octets) ∷ [] };
})))

-- and nothing is sent
abbrev pub QueuesSegments : ℤ → Host → List Event → Host → Type 0
QueuesSegments t old told new =
    (own : HardwareAddress) (frame : List ℕ) (r : Ipv4Repr) (segment : TcpRepr) (octets : List ℕ) (i : ℕ)
    (s : TcpSocket) →
    Takes own t frame old told new → IsToItself own frame → HasSegment own old frame r segment octets →
    IsFirstFor old (repr.Ipv4 r) segment octets i s →
    HasSegmentLast (repr.Ipv4 r) segment octets i s new × (sent_frames told ≡ [])

abbrev pub QueuesSegmentsV6 : ℤ → Host → List Event → Host → Type 0
QueuesSegmentsV6 t old told new =
    (own : HardwareAddress) (frame : List ℕ) (r : Ipv6Repr) (segment : TcpRepr) (octets : List ℕ) (i : ℕ)
    (s : TcpSocket) →
    Takes own t frame old told new → HasSegmentV6 own old frame r segment octets →
    IsFirstFor old (repr.Ipv6 r) segment octets i s →
    HasSegmentLast (repr.Ipv6 r) segment octets i s new × (sent_frames told ≡ [])

abbrev pub SegmentsAreQueued : Type 0
SegmentsAreQueued = (t : ℤ) (old new : Host) (told : List Event) →
    QueuesSegments t old told new × QueuesSegmentsV6 t old told new

-- Echo replies over IPv6

-- the frame carries an echo reply with this identifier and this sequence number, as the octets of its message, to an
-- address assigned to the host (RFC 4443 4.2)
pub record HasEchoReplyV6 (own : HardwareAddress) (H : Host) (frame : List ℕ) (r : Ipv6Repr)
    (ident seq_no : ℕ) (message : List ℕ) : Type 0 where
  pub in_packet : HasPayloadV6 own H frame r ip_protocol.Icmpv6 message
  pub given : is_assigned H.ip_addrs (Ipv6 r.dst_addr) ≡ true
  pub is_message : IsMessage H r message
  pub values : (icmpv6_in message).0 ≡ EchoReply ident seq_no

-- an ICMP socket with that identifier, which has room for it, has it last in its queue, with its sender; and nothing is
-- sent
abbrev pub QueuesEchoRepliesV6 : ℤ → Host → List Event → Host → Type 0
QueuesEchoRepliesV6 t old told new =
    (own : HardwareAddress) (frame : List ℕ) (r : Ipv6Repr) (ident seq_no : ℕ) (message : List ℕ) (i : ℕ)
    (s : IcmpSocket) →
    Takes own t frame old told new → HasEchoReplyV6 own old frame r ident seq_no message →
    slice_get old.sockets.places i ≡ Some (Some (Icmp s)) → s.endpoint ≡ Ident ident →
    is_room s.rx (length message) ≡ true →
    (slice_get new.sockets.places i ≡ Some (Some (Icmp (record s {
      rx = record s.rx { packets = s.rx.packets ++ (Ipv6 r.src_addr, message) ∷ [] };
    }))))
    × (sent_frames told ≡ [])

abbrev pub EchoRepliesV6AreQueued : Type 0
EchoRepliesV6AreQueued = (t : ℤ) (old new : Host) (told : List Event) → QueuesEchoRepliesV6 t old told new
