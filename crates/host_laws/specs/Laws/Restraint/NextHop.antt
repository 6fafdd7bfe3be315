-- The next hop of a packet on Ethernet, said by the lists of addresses, routes and neighbours (RFC 1122 3.3.1, 2.3.2,
-- RFC 4861 5.2, 7.2.2), the source for an IPv4 destination, and the hardware addresses of groups (RFC 1112 6.4, RFC
-- 2464 7).
use Rattle.std.specs.Prelude.{◌≡◌, ◌≢◌, ℕ, ◌+◌, ◌-◌, ◌*◌, ◌/◌, ◌%◌, ◌^◌, ◌≤◌, ◌<◌, ℤ, ◌≤ℤ◌, ◌<ℤ◌}
use Rattle.std.specs.Prelude.{List, [], ◌∷◌, ◌++◌, slice_get, Option, Some, None, Ok, Err}
use Rattle.std.specs.FinMap as map
use Rattle.std.specs.List.{AllByRecursion}
use Rattle.ip_address.specs.Cidr.{prefix_len_of}
use Rattle.ip_address.specs.declared.cidr.IpCidr.{IpCidr}
use Rattle.ip_address.specs.declared.cidr.IpCidr.TheVariants as cidr
use Rattle.ip_address.specs.declared.cidr.Ipv4Cidr.{Ipv4Cidr}
use Rattle.ip_address.specs.declared.ethernet_address.EthernetAddress.{EthernetAddress}
use Rattle.ip_address.specs.declared.hardware.HardwareAddress.{HardwareAddress}
use Rattle.ip_address.specs.declared.hardware.HardwareAddress.TheVariants as hardware
use Rattle.ip_address.specs.declared.ip.IpAddress.{IpAddress}
use Rattle.ip_address.specs.declared.ip.IpAddress.TheVariants.{Ipv4, Ipv6}
use Rattle.ip_address.specs.declared.ipv4.Ipv4Address.{Ipv4Address}
use Rattle.ip_address.specs.declared.ipv6.Ipv6Address.{Ipv6Address}
use Rattle.ip_wire.specs.declared.arp.ArpOperation.TheVariants.{Request}
use Rattle.control_wire.specs.declared.icmpv6.Icmpv6Repr.TheVariants.{Ndisc}
use Rattle.control_wire.specs.declared.ndisc.NdiscRepr.TheVariants.{NeighborSolicit}
use Rattle.fragmentation.specs.Cuts.{Piece, pieces_of}
use Rattle.iface_tables.specs.declared.neighbor.Answer.TheVariants.{NotFound, RateLimited}
use Rattle.iface_tables.specs.declared.neighbor.Neighbor.{Neighbor}
use Rattle.iface_tables.specs.declared.route.Route.{Route}
use Rattle.iface_tables.specs.Neighbor.{answer_of}
use Rattle.host_machine.specs.declared.results.DispatchError.TheVariants.{NoRoute, NeighborPending}
use Rattle.host_machine.specs.Context.Note.{Note}
use Rattle.host_machine.specs.Context.Host.{Host}
use Rattle.host_machine.specs.Context.Addresses.{source_for}
use Rattle.host_machine.specs.Packet.Packet.{Packet, PacketV4, Icmpv6}
use Rattle.host_machine.specs.Packet.Packet as packet
use Rattle.host_machine.specs.Packet.Frame.{arp_frame, ip_frame, piece_frame}
use Rattle.host_machine.specs.Send.Outcome.{Outcome}
use Rattle.host_machine.specs.Send.Dispatch.{Dispatches, destination_of}
use Rattle.host_machine.specs.Context.Pieces.{datagram_of}
use Rattle.host_laws.specs.Laws.Restraint.Chosen.{IsChosenFor}
use Rattle.host_laws.specs.Laws.Restraint.Foreign.{HasPrefixOf, last_address}
use Rattle.host_laws.specs.Laws.Restraint.Neighbors.{IsNear}
use Rattle.host_laws.specs.Laws.Restraint.Replies.{IsOneHostV4}

-- an address of one host, as far as a host with these addresses can know
abbrev pub IsOneHost : List IpCidr → IpAddress → Type 0
IsOneHost own (Ipv4 a) = IsOneHostV4 own a.bits
IsOneHost own (Ipv6 a) = (a.bits ≢ 0) × (a.bits / 2 ^ 120 ≢ 0xff)

-- no network in a list has an address
abbrev pub AreApart : List IpCidr → IpAddress → Type 0
AreApart own a = AllByRecursion (λ c. HasPrefixOf c a → ⊥) own

-- a route's lifetime includes a moment, or has no end
abbrev pub Includes : Option ℤ → ℤ → Type 0
Includes None t = Unit {0}
Includes (Some end) t = t ≤ℤ end

-- a route may be used for an address at a moment
pub record MayBeUsed (r : Route) (a : IpAddress) (t : ℤ) : Type 0 where
  pub prefix : HasPrefixOf r.cidr a
  pub live : Includes r.expires_at t

-- the route of the longest prefix among those that may be used, and the last of these
pub record IsLongest (rs : List Route) (a : IpAddress) (t : ℤ) (i : ℕ) (r : Route) : Type 0 where
  pub here : slice_get rs i ≡ Some r
  pub used : MayBeUsed r a t
  pub longest : (k : ℕ) (other : Route) → slice_get rs k ≡ Some other → MayBeUsed other a t →
      prefix_len_of other.cidr ≤ prefix_len_of r.cidr
  pub last : (k : ℕ) (other : Route) → i < k → slice_get rs k ≡ Some other → MayBeUsed other a t →
      prefix_len_of other.cidr < prefix_len_of r.cidr

-- the next hop to an address by these lists: itself, in a network of the host; otherwise the gateway of that route, if
-- it is an address of one host; and none without such a route
pub data HopIs (H : Host) (a : IpAddress) (hop : Option IpAddress) : Type 0 where
  Itself : IsNear H.ip_addrs a → hop ≡ Some a → HopIs H a hop
  Gateway : (i : ℕ) (r : Route) → AreApart H.ip_addrs a → IsLongest H.routes a H.moment i r →
      IsOneHost [] r.via_router → hop ≡ Some r.via_router → HopIs H a hop
  NoRouteTo : AreApart H.ip_addrs a →
      ((i : ℕ) (r : Route) → slice_get H.routes i ≡ Some r → MayBeUsed r a H.moment → ⊥) → hop ≡ None → HopIs H a hop

-- a frame has the packet, or the first of its fragments, for this hardware address
pub data IsSentTo (H : Host) (h : HardwareAddress) (p : Packet) (frame : List ℕ) : Type 0 where
  Whole : frame ≡ ip_frame H h p → IsSentTo H h p frame
  FirstPiece : (id : ℕ) (q : PacketV4) (first : Piece) (rest : List Piece) → p ≡ packet.Ipv4 q →
      pieces_of (datagram_of H h id q) ≡ first ∷ rest → first.destination ≡ h → frame ≡ piece_frame H first →
      IsSentTo H h p frame

-- the source for an IPv4 destination: the first address in whose network it is; without one, the first IPv4 address
pub data IsSourceFor (own : List IpCidr) (a source : Ipv4Address) : Type 0 where
  OnNetwork : (front back : List IpCidr) (n : Ipv4Cidr) → own ≡ front ++ cidr.Ipv4 n ∷ back →
      AreApart front (Ipv4 a) → HasPrefixOf (cidr.Ipv4 n) (Ipv4 a) → source ≡ n.address → IsSourceFor own a source
  FirstOfAll : (front back : List IpCidr) (n : Ipv4Cidr) → own ≡ front ++ cidr.Ipv4 n ∷ back →
      AreApart own (Ipv4 a) → AllByRecursion (λ c. (m : Ipv4Cidr) → c ≢ cidr.Ipv4 m) front → source ≡ n.address →
      IsSourceFor own a source

-- the source that a host chooses is that one
abbrev pub SourcesAreNear : Type 0
SourcesAreNear = (own : List IpCidr) (a source : Ipv4Address) →
    source_for own (Ipv4 a) ≡ Some (Ipv4 source) → IsSourceFor own a source

-- a request for the hardware address of a hop, with the host's own, from the source that the host chooses for it: by ARP,
-- to all hosts (RFC 826); or a solicitation to its solicited-node group (RFC 4861 4.3, 7.2.2)
pub data AsksFor (own : EthernetAddress) (H : Host) (frame : List ℕ) : IpAddress → Type 0 where
  ByArp : (a source : Ipv4Address) → IsSourceFor H.ip_addrs a source → frame ≡ arp_frame (record {
    operation = Request;
    source_hardware_addr = own;
    source_protocol_addr = source;
    target_hardware_addr = record { 0 = 255 ∷ 255 ∷ 255 ∷ 255 ∷ 255 ∷ 255 ∷ [] };
    target_protocol_addr = a;
  }) → AsksFor own H frame (Ipv4 a)
  BySolicitation : (a source : Ipv6Address) (group : EthernetAddress) → IsChosenFor H.ip_addrs (Ipv6 a) (Ipv6 source) →
      frame ≡ ip_frame H (hardware.Ethernet group) (packet.Ipv6 (record {
        src_addr = source;
        dst_addr = record { bits = 0xff02_0000_0000_0000_0000_0001_ff00_0000 + a.bits % 2 ^ 24 };
        hop_limit = 255;
        payload = Icmpv6 (Ndisc (NeighborSolicit a (Some own))) [];
      })) → AsksFor own H frame (Ipv6 a)

-- a neighbour is known at a hardware address: its entry is in the table, and ends later
pub record IsLive (H : Host) (a : IpAddress) (h : HardwareAddress) : Type 0 where
  pub entry : Neighbor
  pub there : map.get H.neighbors.known a ≡ Some entry
  pub hardware_address : entry.hardware_addr ≡ h
  pub live : H.moment <ℤ entry.expires_at

-- what becomes of a packet, by its next hop: without one it isn't sent; it is sent to the hardware address of a known
-- one, whose entry hasn't ended; an unknown one is asked for, if there is no silence and there is a source
pub data GoesByHop (own : EthernetAddress) (H : Host) (p : Packet) (hop : Option IpAddress) (outcome : Outcome)
    (frames : List (List ℕ)) : Type 0 where
  NoHop : hop ≡ None → outcome ≡ Err NoRoute → frames ≡ [] → GoesByHop own H p hop outcome frames
  Known : (a : IpAddress) (h : HardwareAddress) → hop ≡ Some a → IsLive H a h →
      outcome ≡ Ok tt → AllByRecursion (IsSentTo H h p) frames → GoesByHop own H p hop outcome frames
  Silent : (a : IpAddress) → hop ≡ Some a → answer_of H.neighbors a H.moment ≡ RateLimited →
      outcome ≡ Err NeighborPending → frames ≡ [] → GoesByHop own H p hop outcome frames
  Asked : (a : IpAddress) (frame : List ℕ) → hop ≡ Some a → answer_of H.neighbors a H.moment ≡ NotFound →
      outcome ≡ Err NeighborPending → frames ≡ frame ∷ [] → AsksFor own H frame a →
      GoesByHop own H p hop outcome frames
  NoSource : (a : IpAddress) → hop ≡ Some a → answer_of H.neighbors a H.moment ≡ NotFound →
      outcome ≡ Err NoRoute → frames ≡ [] →
      AllByRecursion (λ c. (m : Ipv4Cidr) → c ≢ cidr.Ipv4 m) H.ip_addrs → GoesByHop own H p hop outcome frames

-- each dispatch of a packet to one host goes so
abbrev pub PacketsGoByHops : Type 0
PacketsGoByHops =
    (own : EthernetAddress) (p : Packet) (hop : Option IpAddress) (outcome : Outcome) (H new : Host)
    (frames : List (List ℕ)) (notes : List Note) →
    Dispatches p outcome H frames notes new → H.hardware_addr ≡ hardware.Ethernet own →
    IsOneHost H.ip_addrs (destination_of p) → HopIs H (destination_of p) hop → GoesByHop own H p hop outcome frames

-- the hardware address of an IPv4 group: 01:00:5e, and its low 23 bits
pub record IsOfGroupV4 (g : Ipv4Address) (h : EthernetAddress) : Type 0 where
  pub x : ℕ
  pub y : ℕ
  pub z : ℕ
  pub octets : h.0 ≡ 0x01 ∷ 0x00 ∷ 0x5e ∷ x ∷ y ∷ z ∷ []
  pub low : x * 2 ^ 16 + y * 2 ^ 8 + z ≡ g.bits % 2 ^ 23

-- of an IPv6 group: 33:33, and its low 32 bits
pub record IsOfGroupV6 (g : Ipv6Address) (h : EthernetAddress) : Type 0 where
  pub w : ℕ
  pub x : ℕ
  pub y : ℕ
  pub z : ℕ
  pub octets : h.0 ≡ 0x33 ∷ 0x33 ∷ w ∷ x ∷ y ∷ z ∷ []
  pub low : w * 2 ^ 24 + x * 2 ^ 16 + y * 2 ^ 8 + z ≡ g.bits % 2 ^ 32

abbrev pub IsOfGroup : IpAddress → EthernetAddress → Type 0
IsOfGroup (Ipv4 g) h = IsOfGroupV4 g h
IsOfGroup (Ipv6 g) h = IsOfGroupV6 g h

-- the address of a group: 224.0.0.0/4 or ff00::/8
abbrev pub IsGroup : IpAddress → Type 0
IsGroup (Ipv4 g) = g.bits / 2 ^ 28 ≡ 14
IsGroup (Ipv6 g) = g.bits / 2 ^ 120 ≡ 0xff

-- each dispatch of a packet to a group, by a host with no network that has it, sends to the group's hardware address
abbrev pub GroupsHaveTheirAddresses : Type 0
GroupsHaveTheirAddresses =
    (own : EthernetAddress) (p : Packet) (outcome : Outcome) (H new : Host)
    (frames : List (List ℕ)) (notes : List Note) →
    Dispatches p outcome H frames notes new → H.hardware_addr ≡ hardware.Ethernet own →
    IsGroup (destination_of p) → AreApart H.ip_addrs (destination_of p) →
    (h : EthernetAddress) × IsOfGroup (destination_of p) h × AllByRecursion (IsSentTo H (hardware.Ethernet h) p) frames

-- an address of all hosts: 255.255.255.255, or that of an own network, whose bits after the prefix are ones (RFC 922 7)
pub data IsToAll (own : List IpCidr) : IpAddress → Type 0 where
  OnLink : (a : Ipv4Address) → a.bits ≡ 0xffff_ffff → IsToAll own (Ipv4 a)
  OnNetwork : (a : Ipv4Address) (i : ℕ) (n : Ipv4Cidr) → slice_get own i ≡ Some (cidr.Ipv4 n) → n.prefix_len < 31 →
      a.bits ≡ last_address (32 - n.prefix_len) n.address.bits → IsToAll own (Ipv4 a)
