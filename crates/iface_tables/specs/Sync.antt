-- How a host's addresses and routes follow what it learnt (RFC 4862 5.5.3, 5.5.4, RFC 4861 6.3.4): those of what is
-- valid are added, those of what has expired are removed.
use Rattle.std.specs.Prelude.{ℕ, ◌&&◌, not, nat_le, ℤ, Bool, false, List, [], ◌∷◌, ◌++◌}
use Rattle.std.specs.Prelude.{length, filter, slice_get, Option, Some, None, if◌then◌else◌}
use Rattle.std.specs.List.{list_any, remove}
use Rattle.ip_address.specs.Ipv6.{is_unicast}
use Rattle.ip_address.specs.declared.cidr.Ipv6Cidr.{Ipv6Cidr}
use Rattle.ip_address.specs.declared.cidr.IpCidr.{IpCidr}
use Rattle.ip_address.specs.declared.cidr.IpCidr.TheVariants.{Ipv4, Ipv6}
use Rattle.ip_address.specs.declared.ip.IpAddress.{IpAddress}
use Rattle.ip_address.specs.declared.ip.IpAddress.TheVariants as address
use Rattle.ip_address.specs.declared.hardware.HardwareAddress.{HardwareAddress}
use Rattle.iface_tables.specs.declared.route.Route.{Route as StoredRoute}
use Rattle.iface_tables.specs.declared.slaac.Prefix.{Prefix}
use Rattle.iface_tables.specs.declared.slaac.Route.{Route}
use Rattle.ip_address.specs.LinkPrefix.{from_link_prefix}
use Rattle.iface_tables.specs.Slaac.{is_prefix_valid, is_route_valid, is_same, is_same_route}

-- whether a stored network is this one, by address and length
abbrev pub is_cidr : Ipv6Cidr → IpCidr → Bool
is_cidr c (Ipv4 n) = false
is_cidr c (Ipv6 n) = is_same n c

-- the addresses with one more: it is appended if it is unicast and isn't there yet, while there is room
abbrev pub with_addr : ℕ → Option Ipv6Cidr → List IpCidr → List IpCidr
with_addr room None own = own
with_addr room (Some c) own = if is_unicast c.address && not (list_any (is_cidr c) own)
    && not (nat_le room (length own)) then own ++ Ipv6 c ∷ [] else own

-- the addresses with that of each prefix that is valid at t appended in order
abbrev pub with_addrs : ℕ → HardwareAddress → ℤ → List Prefix → List IpCidr → List IpCidr
with_addrs room h t [] own = own
with_addrs room h t (p ∷ ps) own =
    with_addrs room h t ps (if is_prefix_valid t p then with_addr room (from_link_prefix p.cidr h) own else own)

-- whether an address is the one formed from a prefix
abbrev pub is_made : Option Ipv6Cidr → Ipv6Cidr → Bool
is_made None c = false
is_made (Some made) c = is_same made c

-- whether an address is one formed from a prefix that has expired
abbrev pub has_ended : HardwareAddress → ℤ → List Prefix → IpCidr → Bool
has_ended h t ps (Ipv4 n) = false
has_ended h t ps (Ipv6 n) = list_any (λ p. not (is_prefix_valid t p) && is_made (from_link_prefix p.cidr h) n) ps

-- the addresses after a sync with the prefixes, where there is room for so many
abbrev pub synced_addrs : ℕ → HardwareAddress → ℤ → List Prefix → List IpCidr → List IpCidr
synced_addrs room h t ps own = filter (λ c. not (has_ended h t ps c)) (with_addrs room h t ps own)

-- whether a stored route is to the same network via the same router
abbrev pub leads_as : Route → IpCidr → IpAddress → Bool
leads_as r (Ipv6 n) (address.Ipv6 router) = is_same_route n router r
leads_as r (Ipv6 n) (address.Ipv4 router) = false
leads_as r (Ipv4 n) (address.Ipv4 router) = false
leads_as r (Ipv4 n) (address.Ipv6 router) = false

abbrev pub is_route : Route → StoredRoute → Bool
is_route r s = leads_as r s.cidr s.via_router

-- a route as it is stored: without expiry, until it is removed
abbrev pub stored_route : Route → StoredRoute
stored_route r =
    record { cidr = Ipv6 r.cidr; via_router = address.Ipv6 r.via_router; preferred_until = None; expires_at = None }

-- the routes with one more: it is appended if it isn't there yet, while there is room
abbrev pub with_route : ℕ → Route → List StoredRoute → List StoredRoute
with_route room r routes = if list_any (is_route r) routes then routes else
    if nat_le room (length routes) then routes else routes ++ stored_route r ∷ []

-- the routes with each one that is valid at t appended in order
abbrev pub with_routes : ℕ → ℤ → List Route → List StoredRoute → List StoredRoute
with_routes room t [] routes = routes
with_routes room t (r ∷ rs) routes = with_routes room t rs (if is_route_valid t r then with_route room r routes else routes)

-- whether a stored route is one that has expired
abbrev pub is_ended_route : ℤ → List Route → StoredRoute → Bool
is_ended_route t rs s = list_any (λ r. not (is_route_valid t r) && is_route r s) rs

-- whether there is a route, and it is one that has expired; the routes without the one at an index, if it is such
abbrev pub is_ended_at : ℤ → List Route → Option StoredRoute → Bool
is_ended_at t rs None = false
is_ended_at t rs (Some s) = is_ended_route t rs s

abbrev pub without_ended_at : ℤ → List Route → List StoredRoute → ℕ → List StoredRoute
without_ended_at t rs routes i = if is_ended_at t rs (slice_get routes i) then remove routes i else routes

-- the routes after a sync with the routers, where there is room for so many
abbrev pub synced_routes : ℕ → ℤ → List Route → List StoredRoute → List StoredRoute
synced_routes room t rs routes = with_routes room t rs (filter (λ s. not (is_ended_route t rs s)) routes)
