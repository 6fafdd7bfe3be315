-- What a host must do with a payload that comes in fragments: the call that takes the last missing one queues a
-- datagram, and answers an echo request.
use Rattle.std.specs.Prelude.{◌≡◌, ◌<◌, ◌≤◌, ℕ, ◌+◌, ℤ, true, List, [], ◌∷◌, length}
use Rattle.control_wire.specs.declared.icmpv4.Icmpv4Repr.TheVariants.{EchoRequest, EchoReply}
use Rattle.control_wire.specs.Icmpv4.{IsIcmpv4, icmpv4_in}
use Rattle.net_base.specs.Checksum.{is_rx, ip_mtu_of}
use Rattle.net_base.specs.Device.{Event, sent_frames}
use Rattle.ip_address.specs.declared.hardware.HardwareAddress.{HardwareAddress}
use Rattle.ip_address.specs.declared.ip.IpAddress.TheVariants.{Ipv4}
use Rattle.ip_address.specs.declared.protocol.IpProtocol.TheVariants as ip_protocol
use Rattle.ip_wire.specs.declared.ethernet.EthernetProtocol.TheVariants as protocol
use Rattle.ip_wire.specs.declared.ip_packet.IpRepr.TheVariants as repr
use Rattle.ip_wire.specs.declared.ipv4_packet.Ipv4Fragment.{Ipv4Fragment}
use Rattle.ip_wire.specs.declared.ipv4_packet.Ipv4Repr.{Ipv4Repr}
use Rattle.ip_wire.specs.declared.udp.UdpRepr.{UdpRepr}
use Rattle.ip_wire.specs.Ipv4Packet.{IsIpv4, ipv4_in, is_fragment}
use Rattle.ip_wire.specs.Udp.{udp_in}
use Rattle.sockets.specs.Udp.{UdpSocket}
use Rattle.fragmentation.specs.Cuts.{Piece, pieces_of}
use Rattle.host_machine.specs.Context.Note.{Note, slot_notes}
use Rattle.host_machine.specs.Context.Host.{Host, at, is_assigned}
use Rattle.host_machine.specs.Context.Addresses.{is_unicast_v4}
use Rattle.host_machine.specs.Receive.Ipv4.{datagram_header, key_in}
use Rattle.host_machine.specs.Sockets.Udp.{IsDatagram}
use Rattle.host_machine.specs.Context.Pieces.{datagram_of}
use Rattle.host_machine.specs.Packet.Packet.{Icmpv4, PacketV4}
use Rattle.host_machine.specs.Packet.Packet as packet
use Rattle.host_machine.specs.Packet.Frame.{ip_frame, piece_frame}
use Rattle.host_laws.specs.Laws.Arrivals.{rebuilt}
use Rattle.host_laws.specs.Laws.Service.{HasWay, IsAccepted, IsAcceptedBy, IsOfLink, IsQueued, IsToItself, Takes, packet_in}

-- the frame carries a fragment with this header and these fields (RFC 791 3.1), from a unicast address that may be a
-- source, to one assigned to the host
pub record HasFragment (own : HardwareAddress) (H : Host) (frame : List ℕ)
    (r : Ipv4Repr) (fields : Ipv4Fragment) : Type 0 where
  pub taken : IsAccepted own protocol.Ipv4 frame
  pub is_packet : IsIpv4 (is_rx H.capabilities.checksum.ipv4) (packet_in own frame)
  pub header : (ipv4_in (packet_in own frame)).0 ≡ r
  pub fields_are : (ipv4_in (packet_in own frame)).1 ≡ fields
  pub part : is_fragment fields ≡ true
  pub sender : is_unicast_v4 H.ip_addrs r.src_addr ≡ true
  pub of_link : IsOfLink r.src_addr
  pub receiver : is_unicast_v4 H.ip_addrs r.dst_addr ≡ true
  pub given : is_assigned H.ip_addrs (Ipv4 r.dst_addr) ≡ true

-- with such a fragment, a payload was rebuilt under its key, as a call noted; that is a datagram with these ports and
-- this payload (RFC 768)
pub record CompletesDatagram (own : HardwareAddress) (H : Host) (frame : List ℕ) (notes : List Note) (r : Ipv4Repr)
    (ports : UdpRepr) (octets : List ℕ) : Type 0 where
  pub fields : Ipv4Fragment
  pub payload : List ℕ
  pub in_frame : HasFragment own H frame r fields
  pub rebuilds : rebuilt (key_in r fields) (slot_notes notes) ≡ payload ∷ []
  pub protocol_is : r.next_header ≡ ip_protocol.Udp
  pub is_datagram : IsDatagram H (repr.Ipv4 (datagram_header r payload)) payload
  pub values : udp_in payload ≡ (ports, octets)

-- it is queued as one that came in a whole packet, and nothing is sent
abbrev pub QueuesRebuiltDatagrams : ℤ → Host → List Event → Host → Type 0
QueuesRebuiltDatagrams t old told new =
    (own : HardwareAddress) (frame : List ℕ) (r : Ipv4Repr) (ports : UdpRepr) (octets : List ℕ) (i : ℕ)
    (s : UdpSocket) →
    (w : Takes own t frame old told new) → IsToItself own frame → CompletesDatagram own old frame w.notes r ports octets →
    IsAcceptedBy old (Ipv4 r.dst_addr) ports octets i s →
    IsQueued (Ipv4 r.src_addr) ports octets i s old new × (sent_frames told ≡ [])

abbrev pub RebuiltDatagramsAreQueued : Type 0
RebuiltDatagramsAreQueued = (t : ℤ) (old new : Host) (told : List Event) → QueuesRebuiltDatagrams t old told new

-- so with an echo request with this identifier, sequence number and data (RFC 792)
pub record CompletesPing (own : HardwareAddress) (H : Host) (frame : List ℕ) (notes : List Note) (r : Ipv4Repr)
    (ident seq_no : ℕ) (octets : List ℕ) : Type 0 where
  pub fields : Ipv4Fragment
  pub payload : List ℕ
  pub in_frame : HasFragment own H frame r fields
  pub rebuilds : rebuilt (key_in r fields) (slot_notes notes) ≡ payload ∷ []
  pub protocol_is : r.next_header ≡ ip_protocol.Icmp
  pub is_message : IsIcmpv4 (is_rx H.capabilities.checksum.icmpv4) payload
  pub values : icmpv4_in payload ≡ (EchoRequest ident seq_no, octets)

-- it is answered as one that came in a whole packet, if the way back is known and the device takes packets so long
abbrev pub AnswersRebuiltPings : ℤ → Host → List Event → Host → Type 0
AnswersRebuiltPings t old told new =
    (own : HardwareAddress) (frame : List ℕ) (r : Ipv4Repr) (ident seq_no : ℕ) (octets : List ℕ)
    (h : HardwareAddress) →
    (w : Takes own t frame old told new) → IsToItself own frame → CompletesPing own old frame w.notes r ident seq_no octets →
    HasWay own (at old t) (Ipv4 r.src_addr) h →
    28 + length octets ≤ ip_mtu_of old.capabilities →
    sent_frames told ≡ ip_frame old h (packet.Ipv4 (record {
      src_addr = r.dst_addr;
      dst_addr = r.src_addr;
      hop_limit = 64;
      payload = Icmpv4 (EchoReply ident seq_no) octets;
    })) ∷ []

-- the reply to it, as a packet and as a datagram that is cut (RFC 791 3.2): to a hardware address, with an identification
abbrev pub echo_reply : Ipv4Repr → ℕ → ℕ → List ℕ → PacketV4
echo_reply r ident seq_no octets = record {
  src_addr = r.dst_addr;
  dst_addr = r.src_addr;
  hop_limit = 64;
  payload = Icmpv4 (EchoReply ident seq_no) octets;
}

-- the first fragment of a reply was the only frame sent, and the others wait, in place of what waited before
pub record BeginsReply (old : Host) (h : HardwareAddress) (reply : PacketV4) (told : List Event) (new : Host) : Type 0 where
  pub first : Piece
  pub rest : List Piece
  pub pieces_are : pieces_of (datagram_of old h old.ipv4_id reply) ≡ first ∷ rest
  pub sent : sent_frames told ≡ piece_frame old first ∷ []
  pub others_wait : new.left ≡ rest

-- a reply that is longer than the device's packets, of at most 4,096 octets, is sent in fragments
abbrev pub BeginsLongReplies : ℤ → Host → List Event → Host → Type 0
BeginsLongReplies t old told new =
    (own : HardwareAddress) (frame : List ℕ) (r : Ipv4Repr) (ident seq_no : ℕ) (octets : List ℕ)
    (h : HardwareAddress) →
    (w : Takes own t frame old told new) → IsToItself own frame → CompletesPing own old frame w.notes r ident seq_no octets →
    HasWay own (at old t) (Ipv4 r.src_addr) h →
    ip_mtu_of old.capabilities < 28 + length octets → 28 + length octets ≤ 4096 →
    BeginsReply old h (echo_reply r ident seq_no octets) told new

abbrev pub LongPingsAreAnswered : Type 0
LongPingsAreAnswered = (t : ℤ) (old new : Host) (told : List Event) → BeginsLongReplies t old told new

abbrev pub RebuiltPingsAreAnswered : Type 0
RebuiltPingsAreAnswered = (t : ℤ) (old new : Host) (told : List Event) → AnswersRebuiltPings t old told new
