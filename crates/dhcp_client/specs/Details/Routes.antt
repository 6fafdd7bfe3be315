-- Routes that a server tells: option 121 has a descriptor of a network and four octets of a router for each (RFC 3442).
use Rattle.std.specs.Prelude.{◌≡◌, ℕ, zero, suc, ◌+◌, ◌-◌, ◌/◌, ◌==◌, ◌&&◌, Bool, true, false, not, nat_lt, nat_le, refl}
use Rattle.std.specs.Prelude.{Option, Some, None, List, [], ◌∷◌, ◌++◌, length, take, slice_index, if◌then◌else◌}
use Rattle.ip_wire.specs.Octets.{u32_at}
use Rattle.ip_address.specs.Ipv4.{address_of}
use Rattle.ip_address.specs.declared.ipv4.Ipv4Address.{Ipv4Address}
use Rattle.dhcp_client.specs.declared.routes.DhcpRoute.{DhcpRoute}
use Rattle.dhcp_client.specs.Addresses.{is_other}

-- a descriptor is the width of the network's mask, and as many octets of the network as have bits of that width
abbrev pub significant : List ℕ → ℕ
significant octets = (slice_index octets 0 + 7) / 8

abbrev pub route_len : List ℕ → ℕ
route_len octets = 5 + significant octets

-- the octets begin with a route: its width is at most 32, and it isn't cut short
abbrev pub begins_route : List ℕ → Bool
begins_route octets = nat_le (slice_index octets 0) 32 && nat_le (route_len octets) (length octets)

abbrev pub network_octet : List ℕ → ℕ → ℕ
network_octet octets i = if nat_lt i (significant octets) then slice_index octets (i + 1) else 0

abbrev pub route_in : List ℕ → DhcpRoute
route_in octets = record {
  network = address_of (network_octet octets 0) (network_octet octets 1) (network_octet octets 2) (network_octet octets 3);
  prefix_len = slice_index octets 0;
  router = record { bits = u32_at octets (1 + significant octets) };
}

-- the routes in what follows the first `skip` octets, up to the first place where none begins
abbrev pub routes_after : ℕ → List ℕ → List DhcpRoute
routes_after skip [] = []
routes_after (suc skip) (x ∷ xs) = routes_after skip xs
routes_after zero (x ∷ xs) = if begins_route (x ∷ xs) then route_in (x ∷ xs) ∷ routes_after (route_len (x ∷ xs) - 1) xs else []

-- there the octets end
abbrev pub are_whole : ℕ → List ℕ → Bool
are_whole skip [] = true
are_whole (suc skip) (x ∷ xs) = are_whole skip xs
are_whole zero (x ∷ xs) = if begins_route (x ∷ xs) then are_whole (route_len (x ∷ xs) - 1) xs else false

-- the data of an option that is there, and isn't malformed
abbrev pub are_routes : List ℕ → Bool
are_routes d = not (length d == 0) && are_whole 0 d

-- the router of the default route, which is to a network of width 0
abbrev pub default_of : List DhcpRoute → Option Ipv4Address
default_of [] = None
default_of (r ∷ rs) = if r.prefix_len == 0 then Some r.router else default_of rs

abbrev pub default_in : List ℕ → Option Ipv4Address
default_in d = default_of (routes_after 0 d)

-- the other routes, by routers that are other hosts. One by 0.0.0.0 says that its network is on the link, and is left out
abbrev pub is_usable : Ipv4Address → DhcpRoute → Bool
is_usable own r = nat_lt 0 r.prefix_len && is_other own r.router

abbrev pub one_if : Bool → DhcpRoute → List DhcpRoute
one_if true r = r ∷ []
one_if false r = []

abbrev pub usable : Ipv4Address → List DhcpRoute → List DhcpRoute
usable own [] = []
usable own (r ∷ rs) = one_if (is_usable own r) r ++ usable own rs

-- there is room for eight
abbrev pub in_eight : List DhcpRoute → List DhcpRoute
in_eight rs = take 8 rs

abbrev pub routes_in : Ipv4Address → List ℕ → List DhcpRoute
routes_in own d = if are_routes d then in_eight (usable own (routes_after 0 d)) else []

-- Examples: descriptors of RFC 3442, each by 10.0.0.1, for a host at 10.0.0.9.

abbrev by_one : List ℕ → List ℕ
by_one d = d ++ 10 ∷ 0 ∷ 0 ∷ 1 ∷ []

abbrev to : Ipv4Address → ℕ → DhcpRoute
to network prefix_len = record { network = network; prefix_len = prefix_len; router = address_of 10 0 0 1 }

-- 10.17.0.0/16, and 10.27.129.0/24
pub two_networks : routes_in (address_of 10 0 0 9) (by_one (16 ∷ 10 ∷ 17 ∷ []) ++ by_one (24 ∷ 10 ∷ 27 ∷ 129 ∷ []))
    ≡ to (address_of 10 17 0 0) 16 ∷ to (address_of 10 27 129 0) 24 ∷ []
two_networks = refl

-- 10.229.0.128/25, and the default route
pub and_the_rest : default_in (by_one (25 ∷ 10 ∷ 229 ∷ 0 ∷ 128 ∷ []) ++ by_one (0 ∷ [])) ≡ Some (address_of 10 0 0 1)
and_the_rest = refl

pub the_rest_apart : routes_in (address_of 10 0 0 9) (by_one (25 ∷ 10 ∷ 229 ∷ 0 ∷ 128 ∷ []) ++ by_one (0 ∷ []))
    ≡ to (address_of 10 229 0 128) 25 ∷ []
the_rest_apart = refl

-- a width of 33, a route without its last octet, and no routes at all
pub too_wide : are_routes (by_one (33 ∷ 10 ∷ 17 ∷ 0 ∷ 0 ∷ 0 ∷ [])) ≡ false
too_wide = refl

pub cut_short : are_routes (16 ∷ 10 ∷ 17 ∷ 10 ∷ 0 ∷ 0 ∷ []) ≡ false
cut_short = refl

pub none_there : are_routes [] ≡ false
none_there = refl

-- by 0.0.0.0, and by the host itself
pub on_the_link : routes_in (address_of 10 0 0 9) (16 ∷ 10 ∷ 17 ∷ 0 ∷ 0 ∷ 0 ∷ 0 ∷ []) ≡ []
on_the_link = refl
