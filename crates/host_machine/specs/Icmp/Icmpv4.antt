-- ICMP for IPv4, reception of messages (RFC 792, RFC 1122 3.2.2).
use Rattle.std.specs.Prelude.{◌≡◌, ℕ, Bool, true, false, List, [], take}
use Rattle.std.specs.Prelude.{Option, Some, None, if◌then◌else◌, ◌+◌, ◌-◌, ◌*◌}
use Rattle.std.specs.Option.{option_map}
use Rattle.net_base.specs.Checksum.{is_rx}
use Rattle.ip_address.specs.declared.ipv4.Ipv4Address.{Ipv4Address}
use Rattle.ip_address.specs.declared.cidr.IpCidr.{IpCidr}
use Rattle.ip_wire.specs.declared.ipv4_packet.Ipv4Repr.{Ipv4Repr}
use Rattle.control_wire.specs.declared.icmpv4.Icmpv4Repr.{Icmpv4Repr}
use Rattle.control_wire.specs.declared.icmpv4.Icmpv4Repr.TheVariants.{EchoRequest, EchoReply}
use Rattle.control_wire.specs.declared.icmpv4.Icmpv4Repr.TheVariants.{DstUnreachable, TimeExceeded}
use Rattle.control_wire.specs.declared.icmpv4.Icmpv4DstUnreachable.{Icmpv4DstUnreachable}
use Rattle.ip_address.specs.declared.ip.IpAddress.TheVariants as address
use Rattle.control_wire.specs.declared.icmp.IcmpRepr.TheVariants.{Ipv4 as Ipv4Message}
use Rattle.control_wire.specs.Icmpv4.{IsIcmpv4, icmpv4_in}
use Rattle.host_machine.specs.Context.Note.{Note}
use Rattle.host_machine.specs.Context.Host.{Host}
use Rattle.host_machine.specs.Icmp.Delivery as icmp
use Rattle.host_machine.specs.Context.Addresses.{is_broadcast_v4, is_unicast_v4, ipv4_addr}
use Rattle.host_machine.specs.Packet.Packet.{Ipv4, Icmpv4}
use Rattle.host_machine.specs.Receive.Reply.{Reply, Ip, IsDropped}

-- a message to a packet's source, from an address of the host, with hop limit 64
abbrev pub message_back : Ipv4Repr → Icmpv4Repr → List ℕ → Ipv4Address → Reply
message_back r message octets source =
    Ip (Ipv4 (record { src_addr = source; dst_addr = r.src_addr; hop_limit = 64; payload = Icmpv4 message octets }))

-- whether a message may answer a broadcast: only an echo reply may (RFC 1122 3.2.2, 3.2.2.6)
abbrev pub may_answer_broadcast : Icmpv4Repr → Bool
may_answer_broadcast (EchoReply ident seq_no) = true
may_answer_broadcast (EchoRequest ident seq_no) = false
may_answer_broadcast (DstUnreachable reason header) = false
may_answer_broadcast (TimeExceeded code header) = false

-- the source address of a message in reply to a packet with a unicast source: the packet's destination, if that is
-- unicast; for a broadcast the first IPv4 address of the host, if the message may answer one; otherwise none
abbrev pub reply_source : List IpCidr → Ipv4Repr → Icmpv4Repr → Option Ipv4Address
reply_source own r message =
    if is_unicast_v4 own r.src_addr then
    if is_unicast_v4 own r.dst_addr then Some r.dst_addr else
    if is_broadcast_v4 own r.dst_addr then (if may_answer_broadcast message then ipv4_addr own else None) else None
    else None

-- a message in reply to a packet, if it may be sent
abbrev pub icmpv4_reply : List IpCidr → Ipv4Repr → Icmpv4Repr → List ℕ → Option Reply
icmpv4_reply own r message octets = option_map (message_back r message octets) (reply_source own r message)

-- an echo request is answered with its identifier, sequence number and data; nothing else is
abbrev pub answer_to : List IpCidr → Ipv4Repr → Icmpv4Repr → List ℕ → Option Reply
answer_to own r (EchoRequest ident seq_no) octets = icmpv4_reply own r (EchoReply ident seq_no) octets
answer_to own r (EchoReply ident seq_no) octets = None
answer_to own r (DstUnreachable reason header) octets = None
answer_to own r (TimeExceeded code header) octets = None

-- the part of a packet's payload that an error quotes, so that with two headers and the message's 8 octets it is at
-- most 576 octets long (RFC 1122 3.2.2)
abbrev pub quotation_of : List ℕ → List ℕ
quotation_of payload = take (576 - (20 * 2 + 8)) payload

-- an error in reply to a packet, which quotes it, unless a raw socket accepted it
abbrev pub unreachable : Bool → List IpCidr → Icmpv4DstUnreachable → Ipv4Repr → List ℕ → Option Reply
unreachable handled_by_raw_socket own reason r payload =
    if handled_by_raw_socket then None else icmpv4_reply own r (DstUnreachable reason r) (quotation_of payload)

-- each ICMP socket that accepts the message gets it
abbrev pub host_after_delivery : Ipv4Repr → List ℕ → Host → Host
host_after_delivery r octets H =
    icmp.host_after_delivery (Ipv4Message (icmpv4_in octets).0) (icmpv4_in octets).1 (address.Ipv4 r.src_addr) octets H

-- how the payload of an IPv4 packet with this header is processed
pub data ProcessesIcmpv4 (r : Ipv4Repr) (H : Host) (octets : List ℕ) (reply : Option Reply)
    (notes : List Note) (new : Host) : Type 0 where
  Malformed : (IsIcmpv4 (is_rx H.capabilities.checksum.icmpv4) octets → ⊥) → IsDropped H reply notes new →
      ProcessesIcmpv4 r H octets reply notes new
  Taken : IsIcmpv4 (is_rx H.capabilities.checksum.icmpv4) octets →
      reply ≡ answer_to H.ip_addrs r (icmpv4_in octets).0 (icmpv4_in octets).1 →
      notes ≡ [] → new ≡ host_after_delivery r octets H → ProcessesIcmpv4 r H octets reply notes new
