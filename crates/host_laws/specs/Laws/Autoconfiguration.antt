-- What a host has of what routers advertised: with room, after maintenance it has an address of each prefix that is valid,
-- and a default route by each router that is. An address goes only with its prefix, a route only with its router (RFC 4862
-- 5.5.3, 5.5.4, RFC 4861 6.3.4).
use Rattle.std.specs.Prelude.{◌≡◌, ◌≢◌, ◌⊎◌, ℕ, ◌+◌, ◌*◌, ◌/◌, ◌^◌, ◌<◌, ◌≤◌, ℤ, pos, ◌+ℤ◌, ◌<ℤ◌, true, List, [], length, slice_get, Option, Some}
use Rattle.std.specs.Int.RustNames.{bit_and}
use Rattle.net_base.specs.Device.{Event, sent_frames}
use Rattle.std.specs.List.{AllByRecursion}
use Rattle.ip_address.specs.Ipv6.{is_unicast}
use Rattle.ip_address.specs.LinkPrefix.{from_link_prefix}
use Rattle.ip_address.specs.declared.cidr.IpCidr.{IpCidr}
use Rattle.ip_address.specs.declared.cidr.IpCidr.TheVariants as cidr
use Rattle.ip_address.specs.declared.cidr.Ipv6Cidr.{Ipv6Cidr}
use Rattle.ip_address.specs.declared.ethernet_address.EthernetAddress.{EthernetAddress}
use Rattle.ip_address.specs.declared.hardware.HardwareAddress.{HardwareAddress}
use Rattle.ip_address.specs.declared.hardware.HardwareAddress.TheVariants as hardware
use Rattle.ip_address.specs.declared.ip.IpAddress.TheVariants.{Ipv6}
use Rattle.ip_address.specs.declared.ipv6.Ipv6Address.{Ipv6Address}
use Rattle.ip_address.specs.declared.protocol.IpProtocol.TheVariants as protocol
use Rattle.ip_wire.specs.declared.ipv6_packet.Ipv6Repr.{Ipv6Repr}
use Rattle.control_wire.specs.Icmpv6.{icmpv6_in}
use Rattle.control_wire.specs.declared.icmpv6.Icmpv6Repr.TheVariants.{Router}
use Rattle.control_wire.specs.declared.prefix_information.NdiscPrefixInformation.{NdiscPrefixInformation}
use Rattle.control_wire.specs.declared.router.NdiscRouterFlags.{NdiscRouterFlags}
use Rattle.control_wire.specs.declared.router.RouterRepr.TheVariants.{RouterAdvert}
use Rattle.iface_tables.specs.declared.route.Route.{Route as StoredRoute}
use Rattle.iface_tables.specs.declared.slaac.Prefix.{Prefix}
use Rattle.iface_tables.specs.declared.slaac.Route.{Route}
use Rattle.host_machine.specs.Context.Host.{Host, at}
use Rattle.host_machine.specs.Interface.Polling.{after_maintenance}
use Rattle.host_machine.specs.Icmp.Icmpv6.{IsMessage}
use Rattle.host_laws.specs.Laws.Service.{HasPayloadV6, Takes}

-- no prefix that makes this address has expired: the host forms it of the prefix and of its hardware address
abbrev pub IsUnended : HardwareAddress → ℤ → List Prefix → Ipv6Cidr → Type 0
IsUnended h t prefixes c = AllByRecursion (λ p. (made : Ipv6Cidr) → from_link_prefix p.cidr h ≡ Some made →
    made.address.bits ≡ c.address.bits → made.prefix_len ≡ c.prefix_len → t <ℤ p.info.valid_until) prefixes

-- an address with this network is in a list
abbrev pub HasAddress : List IpCidr → Ipv6Cidr → Type 0
HasAddress own c = (k : ℕ) × (n : Ipv6Cidr) × (slice_get own k ≡ Some (cidr.Ipv6 n))
    × (n.address.bits ≡ c.address.bits) × (n.prefix_len ≡ c.prefix_len)

-- if what the host learnt changed, each prefix that is valid at the moment of maintenance has its address then, as far as
-- there is room for as many as there are prefixes
abbrev pub AddressesAreFormed : Host → ℤ → Type 0
AddressesAreFormed H t = (i : ℕ) (p : Prefix) (c : Ipv6Cidr) →
    H.slaac.changed ≡ true → slice_get H.slaac.prefixes i ≡ Some p → t <ℤ p.info.valid_until →
    from_link_prefix p.cidr H.hardware_addr ≡ Some c → is_unicast c.address ≡ true →
    length H.ip_addrs + length H.slaac.prefixes ≤ H.addr_room → IsUnended H.hardware_addr t H.slaac.prefixes c →
    HasAddress (after_maintenance (at H t)).ip_addrs c

-- an address stays, changed or not, unless a prefix that makes it has expired
abbrev pub AddressesStay : Host → ℤ → Type 0
AddressesStay H t = (k : ℕ) (c : IpCidr) → slice_get H.ip_addrs k ≡ Some c →
    ((n : Ipv6Cidr) → c ≡ cidr.Ipv6 n → IsUnended H.hardware_addr t H.slaac.prefixes n) →
    (j : ℕ) × (slice_get (after_maintenance (at H t)).ip_addrs j ≡ Some c)

-- a stored route leads where a learnt one does
pub record LeadsAs (r : Route) (s : StoredRoute) : Type 0 where
  pub network : Ipv6Cidr
  pub cidr_is : s.cidr ≡ cidr.Ipv6 network
  pub address : network.address.bits ≡ r.cidr.address.bits
  pub prefix_len : network.prefix_len ≡ r.cidr.prefix_len
  pub via : s.via_router ≡ Ipv6 r.via_router

-- if what the host learnt changed, there is a route by each router that is valid, as far as there is room
abbrev pub RoutesAreFormed : Host → ℤ → Type 0
RoutesAreFormed H t = (i : ℕ) (r : Route) →
    H.slaac.changed ≡ true → slice_get H.slaac.routers i ≡ Some r → t <ℤ r.valid_until →
    length H.routes + length H.slaac.routers ≤ H.route_room →
    (k : ℕ) × (s : StoredRoute) × (slice_get (after_maintenance (at H t)).routes k ≡ Some s) × LeadsAs r s

-- no router by which a stored route leads has ended
abbrev pub IsUnendedRoute : ℤ → List Route → StoredRoute → Type 0
IsUnendedRoute t routers s = AllByRecursion (λ r. LeadsAs r s → t <ℤ r.valid_until) routers

-- a route stays, changed or not, unless a router by which it leads has ended
abbrev pub RoutesStay : Host → ℤ → Type 0
RoutesStay H t = (k : ℕ) (s : StoredRoute) → slice_get H.routes k ≡ Some s → IsUnendedRoute t H.slaac.routers s →
    (j : ℕ) × (slice_get (after_maintenance (at H t)).routes j ≡ Some s)

pub record AdvertisedStands (H : Host) (t : ℤ) : Type 0 where
  pub formed : AddressesAreFormed H t
  pub stay : AddressesStay H t
  pub routes : RoutesAreFormed H t
  pub routes_stay : RoutesStay H t

abbrev pub AdvertisedAddressesStand : Type 0
AdvertisedAddressesStand = (H : Host) (t : ℤ) → AdvertisedStands H t

-- Advertisements received

-- a frame carries an advertisement of a router, with the lifetime of its route and perhaps a prefix: with hop limit 255,
-- from a link-local address to ff02::1 (RFC 4861 4.2, 6.1.2). The host configures itself by routers
pub record BringsAdvertisement (own : EthernetAddress) (H : Host) (frame : List ℕ) (r : Ipv6Repr) (lifetime : ℕ)
    (prefix : Option NdiscPrefixInformation) : Type 0 where
  pub payload : List ℕ
  pub in_packet : HasPayloadV6 (hardware.Ethernet own) H frame r protocol.Icmpv6 payload
  pub is_message : IsMessage H r payload
  pub hop_limit : ℕ
  pub flags : NdiscRouterFlags
  pub lladdr : Option EthernetAddress
  pub values : (icmpv6_in payload).0 ≡ Router (RouterAdvert hop_limit flags lifetime lladdr prefix)
  pub near : r.hop_limit ≡ 255
  pub source : r.src_addr.bits / 2 ^ 118 ≡ 0x3fa
  pub to_all : r.dst_addr.bits ≡ 0xff02_0000_0000_0000_0000_0000_0000_0001
  pub enabled : H.slaac_enabled ≡ true

-- a prefix by which hosts form addresses: its flag A says so, its lifetimes are in order and not 0, and it isn't link-local
-- (RFC 4862 5.5.3)
pub record FormsAddresses (p : NdiscPrefixInformation) : Type 0 where
  pub autonomous : bit_and p.flags.0 0x40 ≡ 0x40
  pub some_time : p.valid_lifetime ≢ 0
  pub in_order : p.preferred_lifetime ≤ p.valid_lifetime
  pub no_link_local : p.prefix.bits / 2 ^ 118 ≢ 0x3fa
  pub len : p.prefix_len ≤ 128

-- a prefix is known, until some moment
abbrev pub IsKnown : List Prefix → NdiscPrefixInformation → ℤ → Type 0
IsKnown prefixes p end = (k : ℕ) × (q : Prefix) × (slice_get prefixes k ≡ Some q) × (q.cidr.address ≡ p.prefix)
    × (q.cidr.prefix_len ≡ p.prefix_len) × (q.info.valid_until ≡ end)

-- after the call that receives it, such a prefix is known until its lifetime ends, if there was room for another; and
-- nothing is sent. What the host learnt has changed, unless the prefix was known before
abbrev pub LearnsPrefixes : ℤ → Host → List Event → Host → Type 0
LearnsPrefixes t old told new =
    (own : EthernetAddress) (frame : List ℕ) (r : Ipv6Repr) (lifetime : ℕ) (p : NdiscPrefixInformation) →
    Takes (hardware.Ethernet own) t frame old told new → BringsAdvertisement own old frame r lifetime (Some p) →
    FormsAddresses p → length old.slaac.prefixes < old.slaac.prefix_room →
    IsKnown new.slaac.prefixes p (t +ℤ pos (p.valid_lifetime * 1_000_000)) × (sent_frames told ≡ [])
    × ((new.slaac.changed ≡ true) ⊎ ((end : ℤ) × IsKnown old.slaac.prefixes p end))

-- a router is known, until some moment
abbrev pub IsKnownRouter : List Route → Ipv6Address → ℤ → Type 0
IsKnownRouter routers router end = (k : ℕ) × (q : Route) × (slice_get routers k ≡ Some q)
    × (q.cidr.address.bits ≡ 0) × (q.cidr.prefix_len ≡ 0) × (q.via_router ≡ router) × (q.valid_until ≡ end)

-- so is its router, as one of a default route, if its lifetime isn't 0 and there was room for another
abbrev pub LearnsRouters : ℤ → Host → List Event → Host → Type 0
LearnsRouters t old told new =
    (own : EthernetAddress) (frame : List ℕ) (r : Ipv6Repr) (lifetime : ℕ) (prefix : Option NdiscPrefixInformation) →
    Takes (hardware.Ethernet own) t frame old told new → BringsAdvertisement own old frame r lifetime prefix →
    lifetime ≢ 0 → length old.slaac.routers < old.slaac.router_room →
    IsKnownRouter new.slaac.routers r.src_addr (t +ℤ pos (lifetime * 1_000_000)) × (sent_frames told ≡ [])
    × ((new.slaac.changed ≡ true) ⊎ ((end : ℤ) × IsKnownRouter old.slaac.routers r.src_addr end))

abbrev pub AdvertisementsAreLearnt : Type 0
AdvertisementsAreLearnt = (t : ℤ) (old new : Host) (told : List Event) →
    LearnsPrefixes t old told new × LearnsRouters t old told new
