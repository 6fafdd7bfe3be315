-- ICMP sockets (RFC 792, RFC 4443).
use Rattle.std.specs.Prelude.{ℕ, ◌==◌, ◌&&◌, ◌||◌, nat_le, nat_lt, Bool, true, false, cond}
use Rattle.std.specs.Prelude.{if◌then◌else◌, is_none, List, map, length, Option, Some, None}
use Rattle.std.specs.Borrow.{Bor}
use Rattle.std.specs.Option.{option_and_then, option_map}
use Rattle.control_wire.specs.Icmpv4.{type_in, code_in, icmpv4_in}
use Rattle.control_wire.specs.declared.icmp.IcmpRepr.{IcmpRepr}
use Rattle.control_wire.specs.declared.icmp.IcmpRepr.TheVariants as icmp
use Rattle.control_wire.specs.declared.icmpv4.Icmpv4DstUnreachable.{Icmpv4DstUnreachable}
use Rattle.control_wire.specs.declared.icmpv4.Icmpv4DstUnreachable.TheVariants as v4_reason
use Rattle.control_wire.specs.declared.icmpv4.Icmpv4Repr.{Icmpv4Repr}
use Rattle.control_wire.specs.declared.icmpv4.Icmpv4Repr.TheVariants as v4
use Rattle.control_wire.specs.Icmpv6.{icmpv6_in}
use Rattle.control_wire.specs.declared.icmpv6.Icmpv6DstUnreachable.{Icmpv6DstUnreachable}
use Rattle.control_wire.specs.declared.icmpv6.Icmpv6DstUnreachable.TheVariants as v6_reason
use Rattle.control_wire.specs.declared.icmpv6.Icmpv6Repr.{Icmpv6Repr}
use Rattle.control_wire.specs.declared.icmpv6.Icmpv6Repr.TheVariants as v6
use Rattle.ip_wire.specs.Octets.{u16_at}
use Rattle.ip_address.specs.Ip.{is_unspecified}
use Rattle.ip_address.specs.Protocol.{number_of}
use Rattle.ip_address.specs.declared.ip.IpAddress.{IpAddress}
use Rattle.ip_address.specs.declared.ip.IpAddress.TheVariants as address
use Rattle.ip_wire.specs.declared.ip_packet.IpRepr.{IpRepr}
use Rattle.ip_wire.specs.declared.ip_packet.IpRepr.TheVariants as ip
use Rattle.ip_wire.specs.IpPacket.{next_header}
use Rattle.sockets.specs.Queue.{Queued, first_of, put, queue_after_pop, queue_brought_forward}
use Rattle.sockets.specs.Source.{source_of}
use Rattle.sockets.specs.declared.poll_at.PollAt.{PollAt}
use Rattle.sockets.specs.declared.poll_at.PollAt.TheVariants.{Now, Ingress}
use Rattle.sockets.specs.declared.icmp.Endpoint.{Endpoint}
use Rattle.sockets.specs.declared.icmp.Endpoint.TheVariants as endpoint
use Rattle.sockets.specs.declared.icmp.Packet.{Packet}
use Rattle.sockets.specs.declared.icmp.SendError.{SendError}
use Rattle.sockets.specs.declared.icmp.SendError.TheVariants as error

-- which messages it accepts, the hop limit of packets sent, and the messages received and to send, each
-- with the remote address
pub record IcmpSocket : Type 0 where
  pub endpoint : Endpoint
  pub hop_limit : ℕ
  pub rx : Queued IpAddress
  pub tx : Queued IpAddress

-- a message with its source and destination
pub record Sent : Type 0 where
  pub src_addr : IpAddress
  pub dst_addr : IpAddress
  pub hop_limit : ℕ
  pub repr : IcmpRepr
  pub payload : List ℕ

-- a packet, apart from where its payload is in memory
abbrev pub value_of : Packet → Sent
value_of p = record {
  src_addr = p.src_addr;
  dst_addr = p.dst_addr;
  hop_limit = p.hop_limit;
  repr = p.repr;
  payload = p.payload.now;
}

-- echo messages with the identifier
abbrev pub is_echo_of_v4 : ℕ → Icmpv4Repr → Bool
is_echo_of_v4 n (v4.EchoRequest ident seq_no) = n == ident
is_echo_of_v4 n (v4.EchoReply ident seq_no) = n == ident
is_echo_of_v4 n (v4.DstUnreachable reason header) = false
is_echo_of_v4 n (v4.TimeExceeded code header) = false

abbrev pub is_echo_of_v6 : ℕ → Icmpv6Repr → Bool
is_echo_of_v6 n (v6.EchoRequest ident seq_no) = n == ident
is_echo_of_v6 n (v6.EchoReply ident seq_no) = n == ident
is_echo_of_v6 n (v6.DstUnreachable reason header) = false
is_echo_of_v6 n (v6.PktTooBig mtu header) = false
is_echo_of_v6 n (v6.TimeExceeded code header) = false
is_echo_of_v6 n (v6.ParamProblem reason pointer header) = false
is_echo_of_v6 n (v6.Ndisc message) = false
is_echo_of_v6 n (v6.Router message) = false
is_echo_of_v6 n (v6.Mld message) = false

abbrev pub is_echo_of : ℕ → IcmpRepr → Bool
is_echo_of n (icmp.Ipv4 r) = is_echo_of_v4 n r
is_echo_of n (icmp.Ipv6 r) = is_echo_of_v6 n r

-- a quoted UDP datagram from the port, of which at least eight octets are there
abbrev pub is_datagram_from : ℕ → IpRepr → List ℕ → Bool
is_datagram_from port header quoted =
    (number_of (next_header header) == 17) && nat_le 8 (length quoted) && (port == u16_at quoted 0)

-- the reason is an unreachable port
abbrev pub is_port_unreachable_v4 : Icmpv4DstUnreachable → Bool
is_port_unreachable_v4 v4_reason.PortUnreachable = true
is_port_unreachable_v4 v4_reason.ProtoUnreachable = false
is_port_unreachable_v4 (v4_reason.Unknown n) = false

abbrev pub is_port_unreachable_v6 : Icmpv6DstUnreachable → Bool
is_port_unreachable_v6 v6_reason.PortUnreachable = true
is_port_unreachable_v6 (v6_reason.Unknown n) = false

-- port unreachable errors that quote UDP from the port
abbrev pub is_unreachable_from_v4 : ℕ → Icmpv4Repr → List ℕ → Bool
is_unreachable_from_v4 port (v4.DstUnreachable reason header) quoted =
    is_port_unreachable_v4 reason && is_datagram_from port (ip.Ipv4 header) quoted
is_unreachable_from_v4 port (v4.EchoRequest ident seq_no) quoted = false
is_unreachable_from_v4 port (v4.EchoReply ident seq_no) quoted = false
is_unreachable_from_v4 port (v4.TimeExceeded code header) quoted = false

abbrev pub is_unreachable_from_v6 : ℕ → Icmpv6Repr → List ℕ → Bool
is_unreachable_from_v6 port (v6.DstUnreachable reason header) quoted =
    is_port_unreachable_v6 reason && is_datagram_from port (ip.Ipv6 header) quoted
is_unreachable_from_v6 port (v6.EchoRequest ident seq_no) quoted = false
is_unreachable_from_v6 port (v6.EchoReply ident seq_no) quoted = false
is_unreachable_from_v6 port (v6.PktTooBig mtu header) quoted = false
is_unreachable_from_v6 port (v6.TimeExceeded code header) quoted = false
is_unreachable_from_v6 port (v6.ParamProblem reason pointer header) quoted = false
is_unreachable_from_v6 port (v6.Ndisc message) quoted = false
is_unreachable_from_v6 port (v6.Router message) quoted = false
is_unreachable_from_v6 port (v6.Mld message) quoted = false

abbrev pub is_unreachable_from : ℕ → IcmpRepr → List ℕ → Bool
is_unreachable_from port (icmp.Ipv4 r) quoted = is_unreachable_from_v4 port r quoted
is_unreachable_from port (icmp.Ipv6 r) quoted = is_unreachable_from_v6 port r quoted

-- whether a message is for the endpoint
abbrev pub is_for : Endpoint → IcmpRepr → List ℕ → Bool
is_for (endpoint.Ident n) repr payload = is_echo_of n repr
is_for (endpoint.Udp port) repr payload = is_unreachable_from port repr payload

-- whether the socket accepts a message, by its values and its data
abbrev pub accepts : IcmpSocket → IcmpRepr → List ℕ → Bool
accepts s repr payload = is_for s.endpoint repr payload

-- a message is received
abbrev pub socket_after_delivery : IpAddress → List ℕ → IcmpSocket → IcmpSocket
socket_after_delivery remote message s = record s { rx = put s.rx remote message }

-- the first message received is read
abbrev pub socket_after_done : IcmpSocket → IcmpSocket
socket_after_done s = record s { rx = queue_after_pop s.rx }

-- a message is queued for sending
abbrev pub socket_after_send : IpAddress → List ℕ → IcmpSocket → IcmpSocket
socket_after_send remote message s = record s { tx = put s.tx remote message }

-- the first reason not to queue a message, if there is one: an unspecified address; a message longer than the payload
-- of an IPv4 packet with a TCP header; lack of room
abbrev pub refusal : IpAddress → ℕ → Bool → Option SendError
refusal remote len fits =
    if is_unspecified remote then Some error.UnspecifiedAddress else if nat_lt 65495 len then Some error.TooLong
    else if fits then None else Some error.Full

-- the first message to send is removed
abbrev pub without_first_to_send : IcmpSocket → IcmpSocket
without_first_to_send s = record s { tx = queue_after_pop s.tx }

-- immediately, if there is something to send
abbrev pub poll_at : IcmpSocket → PollAt
poll_at s = cond (is_none (first_of s.tx.packets)) Ingress Now

-- octets are an echo message, request or reply, by these types, with code 0; the checksum isn't verified
abbrev pub is_echo : ℕ → ℕ → List ℕ → Bool
is_echo request reply octets =
    nat_le 8 (length octets) && nat_lt (length octets) 65536
    && ((type_in octets == request) || (type_in octets == reply)) && (code_in octets == 0)

-- values and octets, apart from where those are in memory
abbrev pub parts : IcmpRepr × Bor (List ℕ) → IcmpRepr × List ℕ
parts p = (p.0, p.1.now)

-- octets as an echo message to a peer, by the ICMP of the peer's family, and its data
abbrev pub echo_to : IpAddress → List ℕ → Option (IcmpRepr × List ℕ)
echo_to (address.Ipv4 a) octets =
    cond (is_echo 8 0 octets) (Some (icmp.Ipv4 (icmpv4_in octets).0, (icmpv4_in octets).1)) None
echo_to (address.Ipv6 a) octets =
    cond (is_echo 128 129 octets) (Some (icmp.Ipv6 (icmpv6_in octets).0, (icmpv6_in octets).1)) None

-- a message to send to a peer, with this source address
abbrev pub packet_to_send : IcmpSocket → IpAddress → IcmpRepr × List ℕ → IpAddress → Sent
packet_to_send s peer m src =
    record { src_addr = src; dst_addr = peer; hop_limit = s.hop_limit; repr = m.0; payload = m.1 }

-- a message to send, if it is an echo message and has a source address
abbrev pub sent_if : (IpAddress → Option IpAddress) → IcmpSocket → IpAddress × List ℕ → Option Sent
sent_if source s p =
    option_and_then (λ m. option_map (packet_to_send s p.0 m) (source_of source None p.0)) (echo_to p.0 p.1)

-- the first message to send, if it is an echo message and has a source address
abbrev pub offered_packet : (IpAddress → Option IpAddress) → IcmpSocket → Option Sent
offered_packet source s = option_and_then (sent_if source s) (first_of s.tx.packets)

-- the socket after it was asked: the first message is removed if it can't be sent
abbrev pub socket_after_offer : (IpAddress → Option IpAddress) → IcmpSocket → IcmpSocket
socket_after_offer source s = cond (is_none (offered_packet source s)) (without_first_to_send s) s

-- the socket after the acknowledgement
abbrev pub socket_after_told : Bool → IcmpSocket → IcmpSocket
socket_after_told is_done s = cond is_done (without_first_to_send s) s

-- for which addresses the messages to send are, in order
abbrev pub destinations : IcmpSocket → List (Option IpAddress)
destinations s = map (λ p. Some p.0) s.tx.packets

-- the socket with the one at an index as the first to send
abbrev pub socket_brought_forward : ℕ → IcmpSocket → IcmpSocket
socket_brought_forward index s = record s { tx = queue_brought_forward index s.tx }
