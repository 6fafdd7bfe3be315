-- IPv6 neighbour discovery (RFC 4861 7.2): how a host discovers a neighbour, is discovered, and learns from messages.
use Rattle.std.specs.Prelude.{◌≡◌, ◌==◌, ◌&&◌, ◌||◌, not, Bool, true, false}
use Rattle.std.specs.Prelude.{List, [], Option, Some, None, if◌then◌else◌}
use Rattle.std.specs.Int.RustNames.{bit_and}
use Rattle.ip_address.specs.declared.ethernet_address.EthernetAddress.{EthernetAddress}
use Rattle.ip_address.specs.declared.hardware.HardwareAddress.TheVariants as hardware
use Rattle.ip_address.specs.declared.ipv6.Ipv6Address.{Ipv6Address}
use Rattle.ip_address.specs.declared.ip.IpAddress.TheVariants as address
use Rattle.ip_address.specs.EthernetAddress as ethernet
use Rattle.ip_address.specs.Ipv6 as ipv6
use Rattle.ip_address.specs.Ipv6.{solicited_node}
use Rattle.ip_wire.specs.declared.ipv6_packet.Ipv6Repr.{Ipv6Repr}
use Rattle.control_wire.specs.declared.icmpv6.Icmpv6Repr.TheVariants.{Ndisc}
use Rattle.control_wire.specs.declared.ndisc.NdiscNeighborFlags.{NdiscNeighborFlags}
use Rattle.control_wire.specs.declared.ndisc.NdiscRepr.{NdiscRepr}
use Rattle.control_wire.specs.declared.ndisc.NdiscRepr.TheVariants.{NeighborSolicit, NeighborAdvert}
use Rattle.iface_tables.specs.Neighbor.{Neighbors, Fills, answer_of, expiry_from, is_found}
use Rattle.host_machine.specs.Context.Note.{Note}
use Rattle.host_machine.specs.Context.Host.{Host, has_ip_addr, is_assigned, with_neighbors}
use Rattle.host_machine.specs.Context.Addresses.{has_solicited_node}
use Rattle.host_machine.specs.Packet.Packet.{Packet, Ipv6, Icmpv6}
use Rattle.host_machine.specs.Receive.Reply.{Reply, Ip, IsDropped}

-- the solicitation for the hardware address of a target: to its solicited-node group, with the host's own hardware
-- address, and with the hop limit by which receivers see that no router forwarded it
abbrev pub solicitation_for : EthernetAddress → Ipv6Address → Ipv6Address → Packet
solicitation_for own source target = Ipv6 (record {
  src_addr = source;
  dst_addr = solicited_node target;
  hop_limit = 255;
  payload = Icmpv6 (Ndisc (NeighborSolicit target (Some own))) [];
})

-- the Solicited flag
abbrev pub solicited_flag : NdiscNeighborFlags
solicited_flag = record { 0 = 0x40 }

-- the Override flag is set: the address overrides a known one
abbrev pub has_override : NdiscNeighborFlags → Bool
has_override flags = bit_and flags.0 0x20 == 0x20

-- the advertisement that answers a solicitation for a target
abbrev pub advertisement_of : EthernetAddress → Ipv6Repr → Ipv6Address → Packet
advertisement_of own r target = Ipv6 (record {
  src_addr = target;
  dst_addr = r.src_addr;
  hop_limit = 255;
  payload = Icmpv6 (Ndisc (NeighborAdvert solicited_flag target (Some own))) [];
})

-- the link-layer address of a message, if it and the target are unicast
abbrev pub usable_lladdr : Option EthernetAddress → Ipv6Address → Option EthernetAddress
usable_lladdr None target = None
usable_lladdr (Some h) target = if ethernet.is_unicast h && ipv6.is_unicast target then Some h else None

-- a message has a link-layer address, and that address or the target is not unicast
abbrev pub has_no_unicast : Option EthernetAddress → Ipv6Address → Bool
has_no_unicast None target = false
has_no_unicast (Some h) target = not (ethernet.is_unicast h && ipv6.is_unicast target)

-- a neighbour is known at a hardware address for 60 seconds, and nothing else changes
pub record LearnsNeighbor (H : Host) (a : Ipv6Address) (h : EthernetAddress) (new : Host) : Type 0 where
  pub neighbors : Neighbors
  pub filled : Fills H.neighbors neighbors (address.Ipv6 a)
      (record { hardware_addr = hardware.Ethernet h; expires_at = expiry_from H.moment })
  pub same : new ≡ with_neighbors H neighbors

-- the hardware address to learn is learnt, if there is one; otherwise nothing changes
abbrev pub Learns : Option EthernetAddress → Ipv6Address → Host → Host → Type 0
Learns None a H new = new ≡ H
Learns (Some h) a H new = LearnsNeighbor H a h new

-- the hardware address to learn from an advertisement, if it has the Override flag or the sender is
-- unknown (RFC 4861 7.2.5)
abbrev pub advertised_lladdr : Host → Ipv6Repr → NdiscNeighborFlags → Ipv6Address →
    Option EthernetAddress → Option EthernetAddress
advertised_lladdr H r flags target lladdr =
    if has_override flags || not (is_found (answer_of H.neighbors (address.Ipv6 r.src_addr) H.moment))
    then usable_lladdr lladdr target else None

-- a solicitation is for the host: its destination is one of the host's solicited-node groups, or an address assigned to
-- it other than ::1, and its target is an own address (RFC 4861 7.2.3)
abbrev pub is_target : Host → Ipv6Repr → Ipv6Address → Bool
is_target H r target =
    (has_solicited_node H.ip_addrs r.dst_addr
    || (is_assigned H.ip_addrs (address.Ipv6 r.dst_addr) && not (ipv6.is_loopback r.dst_addr)))
    && has_ip_addr H (address.Ipv6 target)

-- a solicitation is answered by an advertisement, if it is for the host (RFC 4861 7.2.4)
abbrev pub answer_by : EthernetAddress → Host → Ipv6Repr → Ipv6Address → Option Reply
answer_by own H r target = if is_target H r target then Some (Ip (advertisement_of own r target)) else None

-- the effect of a message from a neighbour, on a link with hardware addresses
pub data ProcessesNdiscMessage (own : EthernetAddress) (r : Ipv6Repr) (H : Host) (reply : Option Reply)
    (notes : List Note) (new : Host) : NdiscRepr → Type 0 where
  Advertised : (flags : NdiscNeighborFlags) (target : Ipv6Address) (lladdr : Option EthernetAddress) →
      Learns (advertised_lladdr H r flags target lladdr) r.src_addr H new → reply ≡ None → notes ≡ [] →
      ProcessesNdiscMessage own r H reply notes new (NeighborAdvert flags target lladdr)
  NoUnicast : (target : Ipv6Address) (lladdr : Option EthernetAddress) →
      has_no_unicast lladdr target ≡ true → IsDropped H reply notes new →
      ProcessesNdiscMessage own r H reply notes new (NeighborSolicit target lladdr)
  Solicited : (target : Ipv6Address) (lladdr : Option EthernetAddress) → has_no_unicast lladdr target ≡ false →
      Learns (usable_lladdr lladdr target) r.src_addr H new → reply ≡ answer_by own H r target → notes ≡ [] →
      ProcessesNdiscMessage own r H reply notes new (NeighborSolicit target lladdr)

-- messages are processed if no router forwarded them, on a link with hardware addresses (RFC 4861 7.1)
pub data ProcessesNdisc (r : Ipv6Repr) (message : NdiscRepr) (H : Host) (reply : Option Reply)
    (notes : List Note) (new : Host) : Type 0 where
  FromAfar : (r.hop_limit == 255) ≡ false → IsDropped H reply notes new → ProcessesNdisc r message H reply notes new
  WithoutAddresses : H.hardware_addr ≡ hardware.Ip → IsDropped H reply notes new →
      ProcessesNdisc r message H reply notes new
  FromNeighbor : (own : EthernetAddress) → (r.hop_limit == 255) ≡ true → H.hardware_addr ≡ hardware.Ethernet own →
      ProcessesNdiscMessage own r H reply notes new message → ProcessesNdisc r message H reply notes new
