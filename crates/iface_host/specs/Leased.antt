-- What a server leases to a host: an own address of IPv4, and a default router.
use Rattle.std.specs.Prelude.{ℕ, ◌≡◌, ◌==◌, ◌&&◌, ◌||◌, ◌++◌, nat_lt, Bool, true, false, List, [], ◌∷◌, length}
use Rattle.std.specs.Prelude.{Option, Some, None, Result, Ok, Err, if◌then◌else◌}
use Rattle.std.specs.List.{position_or_len, remove}
use Rattle.ip_address.specs.declared.cidr.IpCidr.{IpCidr}
use Rattle.ip_address.specs.declared.cidr.IpCidr.TheVariants.{Ipv4}
use Rattle.ip_address.specs.declared.ip.IpAddress.{IpAddress}
use Rattle.ip_address.specs.declared.ip.IpAddress.TheVariants as address
use Rattle.ip_address.specs.declared.ipv4.Ipv4Address.{Ipv4Address}
use Rattle.iface_tables.specs.declared.route.Route.{Route}
use Rattle.iface_tables.specs.Route.{ipv4_gateway, is_ipv4_gateway}
use Rattle.host_machine.specs.Context.Host.{Host as Machine, are_assignable}
use Rattle.host_machine.specs.Context.Settings.{after_address_change}
use Rattle.host_machine.specs.declared.results.AddrError.{AddrError}
use Rattle.host_machine.specs.declared.results.AddrError.TheVariants.{NotUnicast}
use Rattle.iface_host.specs.Calls.{addr_room_of, addresses_of, is_same, route_room_of, routes_of}
use Rattle.iface_host.specs.TableRefusals.{list_refusal}
use Rattle.iface_host.specs.declared.host.IfaceHost.{IfaceHost}
use Rattle.iface_host.specs.declared.leased.Leased.{Leased}
use Rattle.iface_host.specs.declared.refusal.Refusal.{Refusal}
use Rattle.iface_host.specs.declared.refusal.Refusal.TheVariants.{TableFull}

-- the first address with a network is gone
abbrev pub without_network : IpCidr → List IpCidr → List IpCidr
without_network network own = remove own (position_or_len (is_same network) own)

abbrev pub without_old : Option Leased → List IpCidr → List IpCidr
without_old None own = own
without_old (Some old) own = without_network (Ipv4 old.network) own

-- the new one comes behind the others
abbrev pub with_new : Option Leased → List IpCidr → List IpCidr
with_new None own = own
with_new (Some new) own = own ++ Ipv4 new.network ∷ []

abbrev pub addresses_with : Option Leased → Option Leased → List IpCidr → List IpCidr
addresses_with old new own = with_new new (without_old old own)

-- a default route of IPv4 by a router (RFC 1122 3.3.1.1)
abbrev pub is_address : Ipv4Address → IpAddress → Bool
is_address a (address.Ipv4 b) = b.bits == a.bits
is_address a (address.Ipv6 b) = false

abbrev pub is_by : Ipv4Address → Route → Bool
is_by router route = is_ipv4_gateway route && is_address router route.via_router

abbrev pub router_of : Option Leased → Option Ipv4Address
router_of None = None
router_of (Some leased) = leased.router

-- the first one by a router is gone
abbrev pub without_router : Ipv4Address → List Route → List Route
without_router router routes = remove routes (position_or_len (is_by router) routes)

abbrev pub without_old_router : Option Ipv4Address → List Route → List Route
without_old_router None routes = routes
without_old_router (Some old) routes = without_router old routes

-- that by the new one comes behind the others
abbrev pub with_new_router : Option Ipv4Address → List Route → List Route
with_new_router None routes = routes
with_new_router (Some new) routes = routes ++ ipv4_gateway new ∷ []

abbrev pub routes_with : Option Leased → Option Leased → List Route → List Route
routes_with old new routes = with_new_router (router_of new) (without_old_router (router_of old) routes)

-- the addresses and the routes are these, unless an address can't be an own one
pub data Replaces (list : List IpCidr) (routes : List Route) (answer : Result (Unit {0}) AddrError) (old new : Machine) : Type 0 where
  Replaced : are_assignable list ≡ true → answer ≡ Ok tt → new ≡ record (after_address_change old list) { routes = routes } →
      Replaces list routes answer old new
  Kept : are_assignable list ≡ false → answer ≡ Err NotUnicast → new ≡ old → Replaces list routes answer old new

-- the addresses are these, and the route by the new router stands in place of that by the old one
abbrev pub PutsLeased : List IpCidr → Option Leased → Option Leased → Result (Unit {0}) AddrError → Machine → Machine → Type 0
PutsLeased list old new answer H = Replaces list (routes_with old new H.routes) answer H

-- what was leased is replaced by what is leased now
abbrev pub ReplacesLeased : Option Leased → Option Leased → Machine → Machine → Type 0
ReplacesLeased old new H = Replaces (addresses_with old new H.ip_addrs) (routes_with old new H.routes) (Ok tt) H

-- more addresses than there is room for, and more routes
abbrev pub are_many_addresses : ℕ → Option Leased → Option Leased → List IpCidr → Bool
are_many_addresses room old new own = nat_lt room (length (addresses_with old new own))

abbrev pub are_many_routes : ℕ → Option Leased → Option Leased → List Route → Bool
are_many_routes room old new routes = nat_lt room (length (routes_with old new routes))

-- there is no room for an address or for a route, or an address can't be an own one
abbrev pub leased_refusal : IfaceHost → Option Leased → Option Leased → Option Refusal
leased_refusal host old new =
    if are_many_addresses (addr_room_of host) old new (addresses_of host)
    || are_many_routes (route_room_of host) old new (routes_of host)
    then Some TableFull else list_refusal (addresses_with old new (addresses_of host))
