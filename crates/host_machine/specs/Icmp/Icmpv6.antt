-- ICMPv6, reception of messages, and the errors that a host sends (RFC 4443).
use Rattle.std.specs.Prelude.{◌≡◌, ℕ, Bool, List, [], take, Option, Some, None, if◌then◌else◌, ◌+◌, ◌-◌, ◌*◌}
use Rattle.net_base.specs.Checksum.{is_rx}
use Rattle.ip_address.specs.declared.ipv6.Ipv6Address.{Ipv6Address}
use Rattle.ip_address.specs.declared.ip.IpAddress.TheVariants as address
use Rattle.ip_address.specs.declared.cidr.IpCidr.{IpCidr}
use Rattle.ip_address.specs.Ipv6.{is_unicast}
use Rattle.ip_address.specs.AddressSelection.Ipv6.{source_v6}
use Rattle.ip_wire.specs.declared.ipv6_packet.Ipv6Repr.{Ipv6Repr}
use Rattle.control_wire.specs.declared.icmpv6.Icmpv6Repr.{Icmpv6Repr}
use Rattle.control_wire.specs.declared.icmpv6.Icmpv6Repr.TheVariants.{EchoRequest, EchoReply, DstUnreachable, PktTooBig}
use Rattle.control_wire.specs.declared.icmpv6.Icmpv6Repr.TheVariants.{TimeExceeded, ParamProblem, Ndisc, Router, Mld}
use Rattle.control_wire.specs.declared.icmpv6.Icmpv6DstUnreachable.TheVariants.{PortUnreachable}
use Rattle.control_wire.specs.declared.icmpv6.Icmpv6ParamProblem.{Icmpv6ParamProblem}
use Rattle.control_wire.specs.Icmpv6.{IsIcmpv6, icmpv6_in}
use Rattle.control_wire.specs.declared.icmp.IcmpRepr.TheVariants.{Ipv6 as Ipv6Message}
use Rattle.host_machine.specs.Context.Note.{Note}
use Rattle.host_machine.specs.Context.Host.{Host, with_slaac}
use Rattle.host_machine.specs.Icmp.Delivery as icmp
use Rattle.host_machine.specs.Packet.Packet.{Ipv6, Icmpv6}
use Rattle.host_machine.specs.Receive.Reply.{Reply, Ip, IsDropped}
use Rattle.host_machine.specs.Discovery.Ndisc.{ProcessesNdisc}
use Rattle.host_machine.specs.Multicast.Mld.{ProcessesMld}
use Rattle.host_machine.specs.Discovery.Router.{after_advertisement}

-- the source address of a message in reply to a packet: the packet's destination, if that is unicast, otherwise the
-- source address for its sender (RFC 4443 2.2)
abbrev pub reply_source : List IpCidr → Ipv6Repr → Ipv6Address
reply_source own r = if is_unicast r.dst_addr then r.dst_addr else source_v6 own r.src_addr

-- a message to a packet's source, with hop limit 64
abbrev pub message_back : List IpCidr → Ipv6Repr → Icmpv6Repr → List ℕ → Reply
message_back own r message octets = Ip (Ipv6 (record {
  src_addr = reply_source own r;
  dst_addr = r.src_addr;
  hop_limit = 64;
  payload = Icmpv6 message octets;
}))

-- the part of a packet's payload that an error quotes, so that with two headers and the message's 8 octets it is at
-- most 1,280 octets long (RFC 4443 2.4)
abbrev pub quotation_of : List ℕ → List ℕ
quotation_of payload = take (1280 - (40 * 2 + 8)) payload

-- the error for a port without a listening socket, unless a raw socket accepted the packet (RFC 4443 3.1)
abbrev pub port_unreachable : Bool → List IpCidr → Ipv6Repr → List ℕ → Option Reply
port_unreachable handled_by_raw_socket own r payload = if handled_by_raw_socket then None
    else Some (message_back own r (DstUnreachable PortUnreachable r) (quotation_of payload))

-- a parameter problem for something unrecognized in the packet, with pointer 40, the octet after its
-- header (RFC 4443 3.4)
abbrev pub problem : List IpCidr → Icmpv6ParamProblem → Ipv6Repr → List ℕ → Reply
problem own reason r payload = message_back own r (ParamProblem reason 40 r) (quotation_of payload)

-- each ICMP socket that accepts the message gets it
abbrev pub host_after_delivery : Ipv6Repr → List ℕ → Host → Host
host_after_delivery r octets H =
    icmp.host_after_delivery (Ipv6Message (icmpv6_in octets).0) (icmpv6_in octets).1 (address.Ipv6 r.src_addr) octets H

-- the effect of a message: an echo request is answered with its identifier, sequence number and data; a neighbour
-- message announces a neighbour, or solicits the host; prefixes and routers may be learnt from a router message; a
-- query asks for groups; nothing else has an effect
abbrev pub ProcessesMessage : Ipv6Repr → Icmpv6Repr → List ℕ → Host → Option Reply → List Note → Host → Type 0
ProcessesMessage r (EchoRequest ident seq_no) octets H reply notes new =
    (reply ≡ Some (message_back H.ip_addrs r (EchoReply ident seq_no) octets)) × (notes ≡ []) × (new ≡ H)
ProcessesMessage r (Ndisc message) octets H reply notes new = ProcessesNdisc r message H reply notes new
ProcessesMessage r (Router message) octets H reply notes new = (reply ≡ None) × (notes ≡ [])
    × (new ≡ with_slaac H (after_advertisement message H r))
ProcessesMessage r (Mld message) octets H reply notes new = ProcessesMld r message H reply notes new
ProcessesMessage r (EchoReply ident seq_no) octets H reply notes new = IsDropped H reply notes new
ProcessesMessage r (DstUnreachable reason header) octets H reply notes new = IsDropped H reply notes new
ProcessesMessage r (PktTooBig mtu header) octets H reply notes new = IsDropped H reply notes new
ProcessesMessage r (TimeExceeded code header) octets H reply notes new = IsDropped H reply notes new
ProcessesMessage r (ParamProblem reason pointer header) octets H reply notes new = IsDropped H reply notes new

-- the payload of a packet with this header is a message
abbrev pub IsMessage : Host → Ipv6Repr → List ℕ → Type 0
IsMessage H r octets =
    IsIcmpv6 (is_rx H.capabilities.checksum.icmpv6) (address.Ipv6 r.src_addr) (address.Ipv6 r.dst_addr) octets

-- how the payload of an IPv6 packet with this header is processed
pub data ProcessesIcmpv6 (r : Ipv6Repr) (H : Host) (octets : List ℕ) (reply : Option Reply)
    (notes : List Note) (new : Host) : Type 0 where
  Malformed : (IsMessage H r octets → ⊥) → IsDropped H reply notes new → ProcessesIcmpv6 r H octets reply notes new
  Taken : IsMessage H r octets →
      ProcessesMessage r (icmpv6_in octets).0 (icmpv6_in octets).1 (host_after_delivery r octets H) reply notes new →
      ProcessesIcmpv6 r H octets reply notes new
