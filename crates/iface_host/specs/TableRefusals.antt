-- Why a host isn't made, and why calls for addresses, groups, routes and new sockets are refused: the first of the
-- reasons that holds, in their order.
use Rattle.std.specs.Prelude.{ℕ, ℤ, ◌==◌, ◌++◌, ◌||◌, ◌&&◌, nat_le, nat_lt, not, is_some, Bool, false, [], ◌∷◌}
use Rattle.std.specs.Prelude.{List, length, slice_get, Option, Some, None, if◌then◌else◌}
use Rattle.std.specs.List.{position_or_len, remove}
use Rattle.net_base.specs.Checksum.{ip_mtu_of}
use Rattle.ip_address.specs.Hardware.{is_unicast}
use Rattle.ip_address.specs.Ip.{is_broadcast, is_multicast}
use Rattle.ip_address.specs.declared.cidr.IpCidr.{IpCidr}
use Rattle.ip_address.specs.declared.cidr.Ipv4Cidr.{Ipv4Cidr}
use Rattle.ip_address.specs.declared.ip.IpAddress.{IpAddress}
use Rattle.ip_address.specs.declared.ipv4.Ipv4Address.{Ipv4Address}
use Rattle.ip_address.specs.declared.ip.IpAddress.TheVariants.{Ipv4, Ipv6}
use Rattle.sockets.specs.declared.endpoint.IpListenEndpoint.{IpListenEndpoint}
use Rattle.iface_tables.specs.Route as routes
use Rattle.iface_tables.specs.Route.{is_ipv4_gateway, is_ipv6_gateway}
use Rattle.iface_tables.specs.Groups as groups
use Rattle.socket_set.specs.SocketSet.{has_free}
use Rattle.host_machine.specs.Context.Host.{are_assignable}
use Rattle.iface_host.specs.Calls.{addr_room_of, addresses_of, group_room_of, groups_of, route_room_of, is_same, is_to, is_way, routes_of, source_for}
use Rattle.iface_host.specs.Names.{first_unused}
use Rattle.iface_host.specs.Refusals.{moment_refusal}
use Rattle.iface_host.specs.Stands.{capabilities_of}
use Rattle.iface_host.specs.declared.host.IfaceHost.{IfaceHost}
use Rattle.iface_host.specs.declared.host.Settings.{Settings}
use Rattle.iface_host.specs.declared.refusal.Refusal.{Refusal}
use Rattle.iface_host.specs.declared.refusal.Refusal.TheVariants.{BadAddress, BadMtu, BadPort, BadTimeout}
use Rattle.iface_host.specs.declared.refusal.Refusal.TheVariants.{NotThere, NotUnicast, TableFull}

-- the first of two reasons that holds
abbrev pub first_reason : Option Refusal → Option Refusal → Option Refusal
first_reason None second = second
first_reason (Some refusal) second = Some refusal

-- a time that fragments are to wait: none, or longer than a day
abbrev pub timeout_refusal : ℕ → Option Refusal
timeout_refusal timeout =
    if (timeout == 0) || nat_lt 86_400_000_000 timeout then Some BadTimeout else None

-- settings: the hardware address isn't unicast; packets are shorter than 576 octets, or frames longer than 1,514;
-- their time for fragments is refused; or the host would begin at no moment that a caller may give
abbrev pub settings_refusal : Settings → Option Refusal
settings_refusal s =
    if not (is_unicast s.hardware_addr) then Some NotUnicast else
    if nat_lt (ip_mtu_of (capabilities_of s)) 576 || nat_lt 1514 s.frame_len then Some BadMtu else
    first_reason (timeout_refusal s.reassembly_timeout) (moment_refusal s.start)

-- a list of own addresses: one is neither unicast nor unspecified
abbrev pub list_refusal : List IpCidr → Option Refusal
list_refusal list = if are_assignable list then None else Some NotUnicast

-- other own addresses: there is no room for so many, or one can't be an own one
abbrev pub addresses_refusal : IfaceHost → List IpCidr → Option Refusal
addresses_refusal host list = if nat_lt (addr_room_of host) (length list) then Some TableFull else list_refusal list

-- one more own address: there is no room for it
abbrev pub address_refusal : IfaceHost → IpCidr → Option Refusal
address_refusal host cidr =
    if nat_le (addr_room_of host) (length (addresses_of host)) then Some TableFull else list_refusal (addresses_of host ++ cidr ∷ [])

-- an own address less: it isn't there
abbrev pub removal_refusal : IfaceHost → IpCidr → Option Refusal
removal_refusal host cidr =
    let own : List IpCidr = addresses_of host in
    let place : ℕ = position_or_len (is_same cidr) own in
    if nat_lt place (length own) then list_refusal (remove own place) else Some NotThere

-- the own address at a place: none is there
abbrev pub place_refusal : IfaceHost → ℕ → Option Refusal
place_refusal host place = if is_some (slice_get (addresses_of host) place) then None else Some NotThere

-- a group to be joined: it is no group's address; or the host isn't in it, and there is no room for another
abbrev pub join_refusal : IfaceHost → IpAddress → Option Refusal
join_refusal host group =
    if is_multicast group then (if groups.is_refused (group_room_of host) (groups_of host) group then Some TableFull else None)
    else Some BadAddress

-- a group to be left: it is no group's address
abbrev pub leave_refusal : IpAddress → Option Refusal
leave_refusal group = if is_multicast group then None else Some BadAddress

-- a default route: there is no room for a route, and none is a default route of its family
abbrev pub default_route_refusal : IfaceHost → IpAddress → Option Refusal
default_route_refusal host (Ipv4 gateway) =
    if routes.is_refused (route_room_of host) is_ipv4_gateway (routes_of host) then Some TableFull else None
default_route_refusal host (Ipv6 gateway) =
    if routes.is_refused (route_room_of host) is_ipv6_gateway (routes_of host) then Some TableFull else None

-- the end of a route, if it has one: it is no moment that a caller may give
abbrev pub end_refusal : Option ℤ → Option Refusal
end_refusal None = None
end_refusal (Some end) = moment_refusal end

-- one more route: its end is refused, or there is no room for it
abbrev pub route_refusal : IfaceHost → Option ℤ → Option Refusal
route_refusal host end =
    first_reason (end_refusal end) (if nat_le (route_room_of host) (length (routes_of host)) then Some TableFull else None)

-- the route at a place: none is there
abbrev pub route_place_refusal : IfaceHost → ℕ → Option Refusal
route_place_refusal host place = if is_some (slice_get (routes_of host) place) then None else Some NotThere

-- the own address for a destination: there is none
abbrev pub source_refusal : IfaceHost → IpAddress → Option Refusal
source_refusal host remote = if is_some (source_for host remote) then None else Some NotThere

-- a route less: it isn't there
abbrev pub route_removal_refusal : IfaceHost → IpCidr → Option Refusal
route_removal_refusal host network =
    if nat_lt (position_or_len (is_to network) (routes_of host)) (length (routes_of host)) then None else Some NotThere

abbrev pub way_removal_refusal : IfaceHost → Ipv4Cidr → Ipv4Address → Option Refusal
way_removal_refusal host network router =
    if nat_lt (position_or_len (is_way network router) (routes_of host)) (length (routes_of host)) then None else Some NotThere

-- a number may name a socket: it has 32 bits
abbrev pub is_number : Option ℕ → Bool
is_number None = false
is_number (Some n) = nat_lt n 4294967296

-- a socket to be opened, of whatever kind: each number names one, or each place has one
abbrev pub opening_refusal : IfaceHost → Option Refusal
opening_refusal host = if is_number (first_unused host.names) && has_free host.sockets then None else Some TableFull

-- an address that no host has as its own: a group's, or 255.255.255.255 (RFC 1122 3.2.1.3)
abbrev pub is_no_hosts : Option IpAddress → Bool
is_no_hosts None = false
is_no_hosts (Some address) = is_multicast address || is_broadcast address

-- one of UDP: before that, its port is 0, or its address no host's
abbrev pub udp_opening_refusal : IfaceHost → IpListenEndpoint → Option Refusal
udp_opening_refusal host local =
    if local.port == 0 then Some BadPort else
    if is_no_hosts local.addr then Some BadAddress else opening_refusal host
