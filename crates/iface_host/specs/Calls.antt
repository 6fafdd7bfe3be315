-- What the calls of a host do to the machine's host: addresses, groups and routes.
use Rattle.std.specs.Prelude.{ℕ, ℤ, ◌≡◌, ◌==◌, ◌&&◌, ◌||◌, Bool, false, List, [], ◌∷◌, ◌++◌, Ok, Option, None}
use Rattle.std.specs.List.{list_any, position_or_len, remove}
use Rattle.ip_address.specs.declared.cidr.IpCidr.{IpCidr}
use Rattle.ip_address.specs.declared.cidr.IpCidr.TheVariants as cidr
use Rattle.ip_address.specs.declared.cidr.Ipv4Cidr.{Ipv4Cidr}
use Rattle.ip_address.specs.declared.ip.IpAddress.{IpAddress}
use Rattle.ip_address.specs.declared.ipv4.Ipv4Address.{Ipv4Address}
use Rattle.ip_address.specs.declared.ip.IpAddress.TheVariants as address
use Rattle.iface_tables.specs.declared.groups.Group.{Group}
use Rattle.iface_tables.specs.declared.route.Route.{Route}
use Rattle.iface_tables.specs.Route.{ipv4_gateway, ipv6_gateway, is_ipv4_gateway, is_ipv6_gateway, matches, with_default}
use Rattle.host_machine.specs.Context.Host.{Host as Machine, in_same_network, no_sockets}
use Rattle.host_machine.specs.Multicast.Joins as machine
use Rattle.host_machine.specs.Context.Addresses as addresses
use Rattle.host_machine.specs.Interface.Step.{UpdatesIpAddrs}
use Rattle.interface.specs.Stands.{host_with}
use Rattle.iface_host.specs.declared.host.IfaceHost.{IfaceHost}

-- one network: the same address, and a prefix of the same length
abbrev pub is_same : IpCidr → IpCidr → Bool
is_same (cidr.Ipv4 a) (cidr.Ipv4 b) = (a.address.bits == b.address.bits) && (a.prefix_len == b.prefix_len)
is_same (cidr.Ipv4 a) (cidr.Ipv6 b) = false
is_same (cidr.Ipv6 a) (cidr.Ipv4 b) = false
is_same (cidr.Ipv6 a) (cidr.Ipv6 b) = (a.address.bits == b.address.bits) && (a.prefix_len == b.prefix_len)

-- its own addresses, with their networks
abbrev pub addresses_of : IfaceHost → List IpCidr
addresses_of host = (host_with host.interface.value no_sockets).ip_addrs

-- the own address that packets to a destination are sent from, if there is one
abbrev pub source_for : IfaceHost → IpAddress → Option IpAddress
source_for host remote = addresses.source_for (addresses_of host) remote

-- its groups and its routes
abbrev pub groups_of : IfaceHost → List Group
groups_of host = (host_with host.interface.value no_sockets).groups

abbrev pub routes_of : IfaceHost → List Route
routes_of host = (host_with host.interface.value no_sockets).routes

-- a network of the host, or a route that hasn't ended, has an address
abbrev pub is_routed : ℤ → List Route → IpAddress → Bool
is_routed t routes a = list_any (λ r. matches r a t) routes

abbrev pub has_route : ℤ → IfaceHost → IpAddress → Bool
has_route t host a = in_same_network (addresses_of host) a || is_routed t (routes_of host) a

-- for how many addresses, groups and routes it has room
abbrev pub addr_room_of : IfaceHost → ℕ
addr_room_of host = (host_with host.interface.value no_sockets).addr_room

abbrev pub group_room_of : IfaceHost → ℕ
group_room_of host = (host_with host.interface.value no_sockets).group_room

abbrev pub route_room_of : IfaceHost → ℕ
route_room_of host = (host_with host.interface.value no_sockets).route_room

-- an address comes behind the others
abbrev pub AddsAddress : IpCidr → Machine → Machine → Type 0
AddsAddress added H = UpdatesIpAddrs (H.ip_addrs ++ added ∷ []) (Ok tt) H

-- these are all its addresses
abbrev pub SetsAddresses : List IpCidr → Machine → Machine → Type 0
SetsAddresses list = UpdatesIpAddrs list (Ok tt)

-- the first address with a network is gone
abbrev pub RemovesAddress : IpCidr → Machine → Machine → Type 0
RemovesAddress gone H = UpdatesIpAddrs (remove H.ip_addrs (position_or_len (is_same gone) H.ip_addrs)) (Ok tt) H

abbrev pub JoinsGroup : IpAddress → Machine → Machine → Type 0
JoinsGroup group = machine.JoinsGroup group (Ok tt)

abbrev pub LeavesGroup : IpAddress → Machine → Machine → Type 0
LeavesGroup group = machine.LeavesGroup group (Ok tt)

-- the routes with a default route by a gateway, where there is room for so many
abbrev pub with_default_gateway : ℕ → IpAddress → List Route → List Route
with_default_gateway room (address.Ipv4 gateway) routes = with_default room is_ipv4_gateway routes (ipv4_gateway gateway)
with_default_gateway room (address.Ipv6 gateway) routes = with_default room is_ipv6_gateway routes (ipv6_gateway gateway)

abbrev pub SetsDefault : IpAddress → Machine → Machine → Type 0
SetsDefault gateway H H' = H' ≡ record H { routes = with_default_gateway H.route_room gateway H.routes }

-- a route to a network up to an end, that moment included; for good, if it has none
abbrev pub route_to : IpCidr → IpAddress → Option ℤ → Route
route_to network router end =
    record { cidr = network; via_router = router; preferred_until = None; expires_at = end }

-- a route comes behind the others
abbrev pub AddsRoute : IpCidr → IpAddress → Option ℤ → Machine → Machine → Type 0
AddsRoute network router end H H' = H' ≡ record H { routes = H.routes ++ route_to network router end ∷ [] }

-- the first route to a network is gone
abbrev pub is_to : IpCidr → Route → Bool
is_to network route = is_same network route.cidr

abbrev pub RemovesRoute : IpCidr → Machine → Machine → Type 0
RemovesRoute network H H' = H' ≡ record H { routes = remove H.routes (position_or_len (is_to network) H.routes) }

-- a route to a network of IPv4 by a router
abbrev pub is_via : Ipv4Address → IpAddress → Bool
is_via router (address.Ipv4 a) = a.bits == router.bits
is_via router (address.Ipv6 a) = false

abbrev pub is_way : Ipv4Cidr → Ipv4Address → Route → Bool
is_way network router route = is_same (cidr.Ipv4 network) route.cidr && is_via router route.via_router

abbrev pub RemovesRouteBy : Ipv4Cidr → Ipv4Address → Machine → Machine → Type 0
RemovesRouteBy network router H H' = H' ≡ record H { routes = remove H.routes (position_or_len (is_way network router) H.routes) }
