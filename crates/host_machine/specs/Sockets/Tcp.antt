-- TCP, reception of segments (RFC 9293 3.10.7), over either family.
use Rattle.std.specs.Prelude.{◌≡◌, ℕ, Bool, true, false, ◌||◌, List, [], length, slice_set, Option, None, if◌then◌else◌}
use Rattle.std.specs.Option.{option_and_then, option_map}
use Rattle.net_base.specs.Checksum.{is_rx}
use Rattle.ip_address.specs.Ip.{is_unspecified}
use Rattle.ip_wire.specs.declared.ip_packet.IpRepr.{IpRepr}
use Rattle.ip_wire.specs.declared.tcp.TcpRepr.{TcpRepr}
use Rattle.ip_wire.specs.IpPacket.{src_addr, dst_addr}
use Rattle.ip_wire.specs.Tcp.{IsTcp, tcp_in}
use Rattle.sockets.specs.declared.endpoint.IpEndpoint.{IpEndpoint}
use Rattle.sockets.specs.Kinds.{down_tcp, up_tcp}
use Rattle.sockets.specs.Tcp as socket
use Rattle.host_machine.specs.Context.Note.{Note}
use Rattle.host_machine.specs.Context.Host.{Host, Storage, with_places}
use Rattle.host_machine.specs.Sockets.Delivery.{IsFirst, NoneAccepts, changed, holds}
use Rattle.host_machine.specs.Packet.Packet.{Tcp, sent_back}
use Rattle.host_machine.specs.Receive.Reply.{Reply, Ip, IsDropped}

-- the payload of a packet with this header is a segment
abbrev pub IsSegment : Host → IpRepr → List ℕ → Type 0
IsSegment H r octets = IsTcp (is_rx H.capabilities.checksum.tcp) (src_addr r) (dst_addr r) octets

-- the endpoints of a segment
abbrev pub source_of : IpRepr → TcpRepr → IpEndpoint
source_of r t = record { addr = src_addr r; port = t.src_port }

abbrev pub destination_of : IpRepr → TcpRepr → IpEndpoint
destination_of r t = record { addr = dst_addr r; port = t.dst_port }

-- an entry whose socket accepts a segment
abbrev pub accepts : IpRepr → TcpRepr → Storage → Bool
accepts r t place = holds down_tcp (λ s. socket.accepts s (source_of r t) (destination_of r t)) place

-- the entry after its socket got a segment
abbrev pub storage_after_delivery : IpRepr → TcpRepr → List ℕ → Storage → Storage
storage_after_delivery r t payload place =
    changed down_tcp up_tcp (socket.socket_after_delivery (src_addr r) t payload) place

-- the answer of its socket
abbrev pub socket_reply : TcpRepr → List ℕ → Storage → Option TcpRepr
socket_reply t payload place = option_and_then (socket.reply t payload) (option_and_then down_tcp place)

-- a segment without payload in reply to a packet: to its source, from its destination
abbrev pub segment_back : IpRepr → TcpRepr → Reply
segment_back r t = Ip (sent_back r (Tcp t []))

-- the source or the destination is unspecified
abbrev pub is_between_unspecified : IpRepr → Bool
is_between_unspecified r = is_unspecified (src_addr r) || is_unspecified (dst_addr r)

-- the reset for a segment that no socket accepts, unless a raw socket accepted the packet; a reset is never
-- answered (RFC 9293 3.5.2)
abbrev pub reset_for : Bool → TcpRepr → List ℕ → Option TcpRepr
reset_for handled_by_raw_socket t payload =
    if handled_by_raw_socket then None else socket.answer_of t.control t (length payload)

-- how the payload of a packet with this header is processed: the first socket that accepts gets the
-- segment, and may answer it
pub data ProcessesTcp (handled_by_raw_socket : Bool) (r : IpRepr) (H : Host) (octets : List ℕ) (reply : Option Reply)
    (notes : List Note) (new : Host) : Type 0 where
  BetweenUnspecified : is_between_unspecified r ≡ true → IsDropped H reply notes new →
      ProcessesTcp handled_by_raw_socket r H octets reply notes new
  Malformed : is_between_unspecified r ≡ false → (IsSegment H r octets → ⊥) → IsDropped H reply notes new →
      ProcessesTcp handled_by_raw_socket r H octets reply notes new
  Delivered : (index : ℕ) (place : Storage) → is_between_unspecified r ≡ false → IsSegment H r octets →
      IsFirst (accepts r (tcp_in octets).0) H.sockets.places index place →
      reply ≡ option_map (segment_back r) (socket_reply (tcp_in octets).0 (tcp_in octets).1 place) → notes ≡ [] →
      new ≡ with_places H
      (slice_set H.sockets.places index (storage_after_delivery r (tcp_in octets).0 (tcp_in octets).1 place)) →
      ProcessesTcp handled_by_raw_socket r H octets reply notes new
  NotAccepted : is_between_unspecified r ≡ false → IsSegment H r octets →
      NoneAccepts (accepts r (tcp_in octets).0) H.sockets.places →
      reply ≡ option_map (segment_back r) (reset_for handled_by_raw_socket (tcp_in octets).0 (tcp_in octets).1) →
      notes ≡ [] → new ≡ H →
      ProcessesTcp handled_by_raw_socket r H octets reply notes new
