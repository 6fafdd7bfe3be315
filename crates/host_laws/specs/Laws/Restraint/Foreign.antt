-- Not ours, not touched: a frame to another host (IEEE 802.3 3.2.3), and a packet to an address that is in no list of the
-- host's (RFC 1122 3.2.1.3, RFC 922 7, RFC 1112 7.2, RFC 4291 2.8), or from one that is no host's, has no effect.
use Rattle.std.specs.Prelude.{◌≡◌, ◌≢◌, ◌⊎◌, ℕ, ◌+◌, ◌-◌, ◌*◌, ◌/◌, ◌%◌, ◌^◌, ◌<◌, ℤ, false, true}
use Rattle.std.specs.Prelude.{List, [], slice_get, slice_index, Some}
use Rattle.std.specs.List.{AllByRecursion}
use Rattle.ip_wire.specs.Octets.{u32_at}
use Rattle.net_base.specs.Device.{Event, sent_frames}
use Rattle.ip_address.specs.Cidr.{address_of}
use Rattle.ip_address.specs.declared.cidr.IpCidr.{IpCidr}
use Rattle.ip_address.specs.declared.cidr.Ipv4Cidr.{Ipv4Cidr}
use Rattle.ip_address.specs.declared.cidr.IpCidr.TheVariants as cidr
use Rattle.ip_address.specs.declared.ethernet_address.EthernetAddress.{EthernetAddress}
use Rattle.ip_address.specs.declared.hardware.HardwareAddress.TheVariants as hardware
use Rattle.ip_address.specs.declared.ip.IpAddress.{IpAddress}
use Rattle.ip_address.specs.declared.ip.IpAddress.TheVariants.{Ipv4, Ipv6}
use Rattle.ip_wire.specs.Ethernet.{header_in}
use Rattle.ip_wire.specs.Ipv6Packet.{ipv6_in}
use Rattle.ip_wire.specs.HopByHop.{hop_by_hop_in, first_failure}
use Rattle.ip_wire.specs.declared.hop_by_hop.Ipv6OptionFailureType.TheVariants.{Skip}
use Rattle.ip_address.specs.Protocol.{number_of}
use Rattle.iface_tables.specs.declared.route.Route.{Route}
use Rattle.fragmentation.specs.Slots.{Slots}
use Rattle.iface_tables.specs.declared.groups.Group.{Group}
use Rattle.iface_tables.specs.declared.groups.GroupState.TheVariants.{Leaving}
use Rattle.host_machine.specs.Context.Note.{Note}
use Rattle.host_machine.specs.Context.Host.{Host, Storage, at, with_places, with_slots, without_expired}
use Rattle.host_machine.specs.Receive.Ethernet.{is_for}
use Rattle.host_laws.specs.Laws.Restraint.Readings.{AreSameButRaw, CarriesV4, CarriesV6, Receives}

-- the last of the 2 ^ k addresses that differ from one in the last k bits alone: those are ones
abbrev pub last_address : ℕ → ℕ → ℕ
last_address k a = a / 2 ^ k * 2 ^ k + (2 ^ k - 1)

-- the broadcast address of a network isn't this one: in it all bits after the prefix are ones (RFC 922 7). One of 31
-- or 32 bits has none (RFC 3021)
abbrev pub IsNoBroadcastOf : ℕ → IpCidr → Type 0
IsNoBroadcastOf a (cidr.Ipv4 n) = n.prefix_len < 31 → a ≢ last_address (32 - n.prefix_len) n.address.bits
IsNoBroadcastOf a (cidr.Ipv6 n) = Unit {0}

-- the solicited-node group of an address isn't this one: ff02::1:ff00:0 with its last 24 bits (RFC 4291 2.7.1). The
-- host doesn't listen to that of ::1
abbrev pub IsNoSolicitedNodeOf : ℕ → IpCidr → Type 0
IsNoSolicitedNodeOf a (cidr.Ipv4 n) = Unit {0}
IsNoSolicitedNodeOf a (cidr.Ipv6 n) =
    n.address.bits ≢ 1 → a ≢ 0xff02_0000_0000_0000_0000_0001_ff00_0000 + n.address.bits % 2 ^ 24

-- an address has the prefix of a network
abbrev pub HasPrefixOf : IpCidr → IpAddress → Type 0
HasPrefixOf (cidr.Ipv4 n) (Ipv4 a) = n.address.bits / 2 ^ (32 - n.prefix_len) ≡ a.bits / 2 ^ (32 - n.prefix_len)
HasPrefixOf (cidr.Ipv6 n) (Ipv6 a) = n.address.bits / 2 ^ (128 - n.prefix_len) ≡ a.bits / 2 ^ (128 - n.prefix_len)
HasPrefixOf (cidr.Ipv4 n) (Ipv6 a) = ⊥
HasPrefixOf (cidr.Ipv6 n) (Ipv4 a) = ⊥

-- an address was not assigned to the host; it is no member of a group with that address; and AnyIP is off, or no route
-- to the address has a gateway that was assigned to the host
pub record IsInNoList (H : Host) (a : IpAddress) : Type 0 where
  pub not_assigned : AllByRecursion (λ c. address_of c ≢ a) H.ip_addrs
  pub no_group : AllByRecursion (λ (g : Group). g.addr ≡ a → g.state ≡ Leaving) H.groups
  pub not_routed : (H.any_ip ≡ false) ⊎ AllByRecursion
      (λ (r : Route). HasPrefixOf r.cidr a → AllByRecursion (λ c. address_of c ≢ r.via_router) H.ip_addrs) H.routes

-- an IPv4 address that isn't the host's, nor 255.255.255.255, nor 224.0.0.1, nor the broadcast address of a network of
-- the host
pub record IsForeignV4 (H : Host) (a : ℕ) : Type 0 where
  pub in_no_list : IsInNoList H (Ipv4 (record { bits = a }))
  pub not_limited_broadcast : a ≢ 0xffff_ffff
  pub not_all_hosts : a ≢ 0xe000_0001
  pub no_broadcast : AllByRecursion (IsNoBroadcastOf a) H.ip_addrs

-- an IPv6 address that isn't the host's, nor ::1, nor ff02::1, nor the solicited-node group of an own address
pub record IsForeignV6 (H : Host) (a : ℕ) : Type 0 where
  pub in_no_list : IsInNoList H (Ipv6 (record { bits = a }))
  pub not_loopback : a ≢ 1
  pub not_all_nodes : a ≢ 0xff02_0000_0000_0000_0000_0000_0000_0001
  pub no_solicited_node : AllByRecursion (IsNoSolicitedNodeOf a) H.ip_addrs

-- nothing is sent or noted, and the host is as after the same call without a frame, which drops expired slots
pub record HasNoEffect (t : ℤ) (old : Host) (told : List Event) (notes : List Note) (new : Host) : Type 0 where
  pub silent : sent_frames told ≡ []
  pub unnoted : notes ≡ []
  pub unchanged : new ≡ without_expired old t

-- nothing is sent; of the host only its moment, its slots, and what raw sockets received may be other than before
pub record HasHardlyEffect (t : ℤ) (old : Host) (told : List Event) (new : Host) : Type 0 where
  pub silent : sent_frames told ≡ []
  pub slots : Slots
  pub places : List Storage
  pub raw_only : AreSameButRaw old.sockets.places places
  pub others : new ≡ with_places (with_slots (at old t) slots) places

-- an IPv4 packet to an address that isn't the host's; raw sockets get such packets, and its fragments take slots
abbrev pub DropsForeignPackets : ℤ → List ℕ → Host → List Event → Host → Type 0
DropsForeignPackets t frame old told new = (packet : List ℕ) → CarriesV4 old.hardware_addr frame packet →
    IsForeignV4 old (u32_at packet 16) → HasHardlyEffect t old told new

abbrev pub ForeignPacketsAreDropped : Type 0
ForeignPacketsAreDropped =
    (t : ℤ) (frame : List ℕ) (old new : Host) (told : List Event) (notes : List Note) →
    Receives t frame old told notes new → DropsForeignPackets t frame old told new

-- a packet has no hop-by-hop options, which each host on the way reads (RFC 8200 4.3), or all are to be skipped
abbrev pub AsksNothingOnTheWay : List ℕ → Type 0
AsksNothingOnTheWay packet = (number_of (ipv6_in packet).0.next_header ≢ 0)
    ⊎ (first_failure (hop_by_hop_in (ipv6_in packet).1).0.options.items ≡ Skip)

-- an IPv6 packet to an address that isn't the host's
abbrev pub DropsForeignPacketsV6 : ℤ → List ℕ → Host → List Event → List Note → Host → Type 0
DropsForeignPacketsV6 t frame old told notes new = (packet : List ℕ) → CarriesV6 old.hardware_addr frame packet →
    AsksNothingOnTheWay packet → IsForeignV6 old (ipv6_in packet).0.dst_addr.bits → HasNoEffect t old told notes new

abbrev pub ForeignPacketsV6AreDropped : Type 0
ForeignPacketsV6AreDropped =
    (t : ℤ) (frame : List ℕ) (old new : Host) (told : List Event) (notes : List Note) →
    Receives t frame old told notes new → DropsForeignPacketsV6 t frame old told notes new

-- a frame to another host: its destination isn't the host's hardware address, and the first octet of that is even, so
-- it is that of one host (IEEE 802.3 3.2.3)
abbrev pub DropsFramesForOthers : ℤ → List ℕ → Host → List Event → List Note → Host → Type 0
DropsFramesForOthers t frame old told notes new =
    (own : EthernetAddress) → old.hardware_addr ≡ hardware.Ethernet own →
    (header_in frame).dst_addr.0 ≢ own.0 → slice_index (header_in frame).dst_addr.0 0 % 2 ≡ 0 →
    HasNoEffect t old told notes new

abbrev pub FramesForOthersAreDropped : Type 0
FramesForOthersAreDropped =
    (t : ℤ) (frame : List ℕ) (old new : Host) (told : List Event) (notes : List Note) →
    Receives t frame old told notes new → DropsFramesForOthers t frame old told notes new

-- a host takes the other frames: those to its own hardware address, and those whose first octet is odd, to many hosts.
-- This is of two addresses, and no call is in it
abbrev pub OwnFramesAreTaken : Type 0
OwnFramesAreTaken = (own destination : EthernetAddress) →
    (destination.0 ≡ own.0) ⊎ (slice_index destination.0 0 % 2 ≡ 1) → is_for own destination ≡ true

-- an IPv4 source that is no host's: 255.255.255.255, a group (224.0.0.0/4), or the broadcast address of an own network
pub data IsNoHostV4 (own : List IpCidr) (a : ℕ) : Type 0 where
  LimitedBroadcast : a ≡ 0xffff_ffff → IsNoHostV4 own a
  OfGroup : a / 2 ^ 28 ≡ 14 → IsNoHostV4 own a
  NetworkBroadcast : (i : ℕ) (n : Ipv4Cidr) → slice_get own i ≡ Some (cidr.Ipv4 n) → n.prefix_len < 31 →
      a ≡ last_address (32 - n.prefix_len) n.address.bits → IsNoHostV4 own a

-- an IPv4 packet from such a source (RFC 1122 3.2.1.3)
abbrev pub DropsPacketsFromNoHost : ℤ → List ℕ → Host → List Event → List Note → Host → Type 0
DropsPacketsFromNoHost t frame old told notes new = (packet : List ℕ) → CarriesV4 old.hardware_addr frame packet →
    IsNoHostV4 old.ip_addrs (u32_at packet 12) → HasNoEffect t old told notes new

abbrev pub PacketsFromNoHostAreDropped : Type 0
PacketsFromNoHostAreDropped =
    (t : ℤ) (frame : List ℕ) (old new : Host) (told : List Event) (notes : List Note) →
    Receives t frame old told notes new → DropsPacketsFromNoHost t frame old told notes new

-- an IPv6 packet from a group (ff00::/8) or from :: (RFC 4291 2.5.2, 2.7). Among those from :: are the solicitations of
-- hosts without an address: kept, against RFC 4861 7.2.4, by which all nodes are told
abbrev pub DropsPacketsFromNoHostV6 : ℤ → List ℕ → Host → List Event → List Note → Host → Type 0
DropsPacketsFromNoHostV6 t frame old told notes new = (packet : List ℕ) → CarriesV6 old.hardware_addr frame packet →
    ((ipv6_in packet).0.src_addr.bits ≡ 0) ⊎ ((ipv6_in packet).0.src_addr.bits / 2 ^ 120 ≡ 0xff) →
    HasNoEffect t old told notes new

abbrev pub PacketsFromNoHostV6AreDropped : Type 0
PacketsFromNoHostV6AreDropped =
    (t : ℤ) (frame : List ℕ) (old new : Host) (told : List Event) (notes : List Note) →
    Receives t frame old told notes new → DropsPacketsFromNoHostV6 t frame old told notes new
