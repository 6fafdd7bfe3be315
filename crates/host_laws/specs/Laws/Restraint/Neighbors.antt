-- Neighbours come from frames: an entry was there, or the frame that a call received told of it (RFC 826, RFC 1122
-- 2.3.2.1, RFC 4861 7.2).
use Rattle.std.specs.Prelude.{◌≡◌, ◌≢◌, ◌⊎◌, ℕ, ◌/◌, ◌%◌, ◌^◌, ℤ, pos, ◌+ℤ◌, true, List, drop, slice_get}
use Rattle.std.specs.Prelude.{slice_index}
use Rattle.std.specs.Prelude.{Some}
use Rattle.std.specs.FinMap as map
use Rattle.net_base.specs.Checksum.{is_rx}
use Rattle.net_base.specs.Device.{Event}
use Rattle.ip_address.specs.Cidr.{address_of}
use Rattle.ip_address.specs.declared.cidr.IpCidr.{IpCidr}
use Rattle.ip_address.specs.declared.ethernet_address.EthernetAddress.{EthernetAddress}
use Rattle.ip_address.specs.declared.hardware.HardwareAddress.{HardwareAddress}
use Rattle.ip_address.specs.declared.hardware.HardwareAddress.TheVariants as hardware
use Rattle.ip_address.specs.declared.ip.IpAddress.{IpAddress}
use Rattle.ip_address.specs.declared.ip.IpAddress.TheVariants.{Ipv4, Ipv6}
use Rattle.ip_address.specs.declared.protocol.IpProtocol.TheVariants as ip_protocol
use Rattle.ip_wire.specs.declared.ethernet.EthernetProtocol.TheVariants as protocol
use Rattle.ip_wire.specs.Arp.{IsArp, arp_in}
use Rattle.ip_wire.specs.Ethernet.{header_in}
use Rattle.ip_wire.specs.Ipv6Packet.{ipv6_in}
use Rattle.ip_wire.specs.HopByHop.{hop_by_hop_in}
use Rattle.control_wire.specs.Icmpv6.{IsIcmpv6, icmpv6_in}
use Rattle.control_wire.specs.declared.icmpv6.Icmpv6Repr.TheVariants.{Ndisc}
use Rattle.control_wire.specs.declared.ndisc.NdiscRepr.{NdiscRepr}
use Rattle.control_wire.specs.declared.ndisc.NdiscRepr.TheVariants.{NeighborAdvert, NeighborSolicit}
use Rattle.iface_tables.specs.declared.neighbor.Neighbor.{Neighbor}
use Rattle.iface_tables.specs.declared.route.Route.{Route}
use Rattle.host_machine.specs.declared.command.Command.{Command}
use Rattle.host_machine.specs.declared.command.Command.TheVariants.{Poll, PollIngressSingle}
use Rattle.host_machine.specs.declared.command.Answer.{Answer}
use Rattle.host_machine.specs.Context.Note.{Note}
use Rattle.host_machine.specs.Context.Host.{Host}
use Rattle.host_machine.specs.Interface.Step.{Act, Step}
use Rattle.host_laws.specs.Laws.Restraint.Foreign.{HasPrefixOf}
use Rattle.host_laws.specs.Laws.Restraint.Readings.{CarriesV4, CarriesV6, Receives, sender_v4, sender_v6}

-- an address was assigned to the host
abbrev pub IsAssigned : List IpCidr → IpAddress → Type 0
IsAssigned own a = (i : ℕ) × (c : IpCidr) × (slice_get own i ≡ Some c) × (address_of c ≡ a)

-- an address has the prefix of a network of the host
abbrev pub IsNear : List IpCidr → IpAddress → Type 0
IsNear own a = (i : ℕ) × (c : IpCidr) × (slice_get own i ≡ Some c) × HasPrefixOf c a

-- an address is the host's: it was assigned to it; or AnyIP is on, and the gateway of a route to it was
pub data IsOwn (H : Host) (a : IpAddress) : Type 0 where
  Assigned : IsAssigned H.ip_addrs a → IsOwn H a
  Routed : (i : ℕ) (r : Route) → H.any_ip ≡ true → slice_get H.routes i ≡ Some r → HasPrefixOf r.cidr a →
      IsAssigned H.ip_addrs r.via_router → IsOwn H a

-- the hardware address of one host: its first octet is even (IEEE 802.3 3.2.3)
abbrev pub IsOneStation : EthernetAddress → Type 0
IsOneStation h = slice_index h.0 0 % 2 ≡ 0

-- a frame has an ARP packet with this sender, for an address of the host: the sender is one host, in a network of it
pub record TellsByArp (H : Host) (frame : List ℕ) (a : IpAddress) (h : EthernetAddress) : Type 0 where
  pub type : (header_in frame).ethertype ≡ protocol.Arp
  pub is_packet : IsArp (drop 14 frame)
  pub address_is : a ≡ Ipv4 (arp_in (drop 14 frame)).source_protocol_addr
  pub hardware_is : h ≡ (arp_in (drop 14 frame)).source_hardware_addr
  pub target : IsOwn H (Ipv4 (arp_in (drop 14 frame)).target_protocol_addr)
  pub near : IsNear H.ip_addrs a
  pub not_nobody : (arp_in (drop 14 frame)).source_protocol_addr.bits ≢ 0
  pub not_all : (arp_in (drop 14 frame)).source_protocol_addr.bits ≢ 0xffff_ffff
  pub no_group : (arp_in (drop 14 frame)).source_protocol_addr.bits / 2 ^ 28 ≢ 14
  pub one : IsOneStation h

-- the octets of a message of ICMPv6 in a packet: after its header, or after hop-by-hop options
pub data HasMessage (packet octets : List ℕ) : Type 0 where
  AfterHeader : (ipv6_in packet).0.next_header ≡ ip_protocol.Icmpv6 → octets ≡ (ipv6_in packet).1 →
      HasMessage packet octets
  AfterOptions : (hop_by_hop_in (ipv6_in packet).1).0.next_header ≡ ip_protocol.Icmpv6 →
      octets ≡ (hop_by_hop_in (ipv6_in packet).1).1 → HasMessage packet octets

-- a message of neighbour discovery gives this hardware address
abbrev pub Gives : NdiscRepr → EthernetAddress → Type 0
Gives (NeighborSolicit target lladdr) h = lladdr ≡ Some h
Gives (NeighborAdvert flags target lladdr) h = lladdr ≡ Some h

-- a frame has a solicitation or an advertisement from this address, which is that of one host, with this hardware
-- address. No router forwarded it, and its checksum is right, where that is verified (RFC 4861 7.1)
pub record TellsByMessage (H : Host) (frame : List ℕ) (a : IpAddress) (h : EthernetAddress) : Type 0 where
  pub packet : List ℕ
  pub octets : List ℕ
  pub message : NdiscRepr
  pub carried : CarriesV6 H.hardware_addr frame packet
  pub hop_limit : slice_index packet 7 ≡ 255
  pub has_message : HasMessage packet octets
  pub address_is : a ≡ Ipv6 (ipv6_in packet).0.src_addr
  pub is_message : IsIcmpv6 (is_rx H.capabilities.checksum.icmpv6)
      (Ipv6 (ipv6_in packet).0.src_addr) (Ipv6 (ipv6_in packet).0.dst_addr) octets
  pub values : (icmpv6_in octets).0 ≡ Ndisc message
  pub hardware_is : Gives message h
  pub not_nobody : (ipv6_in packet).0.src_addr.bits ≢ 0
  pub no_group : (ipv6_in packet).0.src_addr.bits / 2 ^ 120 ≢ 0xff
  pub one : IsOneStation h

-- the hardware address from which a frame came, on a medium with such addresses
abbrev pub sender_in : HardwareAddress → List ℕ → HardwareAddress
sender_in (hardware.Ethernet own) frame = hardware.Ethernet (header_in frame).src_addr
sender_in hardware.Ip frame = hardware.Ip

-- a frame has an IP packet from this address, and came from this hardware address
pub data IsFrom (H : Host) (frame : List ℕ) (a : IpAddress) (h : HardwareAddress) : Type 0 where
  OverIpv4 : (packet : List ℕ) → CarriesV4 H.hardware_addr frame packet → a ≡ sender_v4 packet →
      h ≡ sender_in H.hardware_addr frame → IsFrom H frame a h
  OverIpv6 : (packet : List ℕ) → CarriesV6 H.hardware_addr frame packet → a ≡ sender_v6 packet →
      h ≡ sender_in H.hardware_addr frame → IsFrom H frame a h

-- A neighbour that is known after a call at t: it was known so before. Or it was known at that hardware address, the frame
-- has a packet of just this pair, and it is known until 60 s after t; also one that had ended and wasn't replaced: kept,
-- against RFC 1122 2.3.2.1. Or the frame told of it, and it is known until 60 s after t
pub data CameToBeKnown (t : ℤ) (frame : List ℕ) (old : Host) (a : IpAddress) (n : Neighbor) : Type 0 where
  WasKnown : map.get old.neighbors.known a ≡ Some n → CameToBeKnown t frame old a n
  WasRenewed : (before : Neighbor) → map.get old.neighbors.known a ≡ Some before →
      n ≡ record before { expires_at = t +ℤ pos 60000000 } → IsFrom old frame a before.hardware_addr →
      CameToBeKnown t frame old a n
  WasTold : (own h : EthernetAddress) → old.hardware_addr ≡ hardware.Ethernet own →
      n ≡ record { hardware_addr = hardware.Ethernet h; expires_at = t +ℤ pos 60000000 } →
      TellsByArp old frame a h ⊎ TellsByMessage old frame a h → CameToBeKnown t frame old a n

-- so each neighbour came to be known
abbrev pub LearnsFromFrames : ℤ → List ℕ → Host → Host → Type 0
LearnsFromFrames t frame old new = (a : IpAddress) (n : Neighbor) →
    map.get new.neighbors.known a ≡ Some n → CameToBeKnown t frame old a n

abbrev pub NeighborsComeFromFrames : Type 0
NeighborsComeFromFrames =
    (t : ℤ) (frame : List ℕ) (old new : Host) (told : List Event) (notes : List Note) →
    Receives t frame old told notes new → LearnsFromFrames t frame old new

-- a command that receives frames
abbrev pub MayReceive : Command → Type 0
MayReceive (PollIngressSingle t) = Unit {0}
MayReceive (Poll t budget) = Unit {0}
MayReceive other = ⊥

-- a step of another command makes no neighbour known
abbrev pub LearnsNobody : Host → Host → Type 0
LearnsNobody old new = (a : IpAddress) (n : Neighbor) →
    map.get new.neighbors.known a ≡ Some n → map.get old.neighbors.known a ≡ Some n

abbrev pub OtherStepsLearnNobody : Type 0
OtherStepsLearnNobody =
    (command : Command) (answer : Answer) (old new : Host) (told : List Event) (acts : List Act) (notes : List Note) →
    Step command answer old told acts notes new → (MayReceive command → ⊥) → LearnsNobody old new
