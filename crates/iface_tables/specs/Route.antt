-- Routes (RFC 1122 3.3.1, RFC 4632 5.1): of those that match an address, the one with the longest prefix is used.
use Rattle.std.specs.Prelude.{◌≡◌, ℕ, ◌+◌, ◌-◌, ◌*◌, ◌/◌, ◌<◌, ◌≤◌, ◌==◌, ◌&&◌, nat_le, min, ℤ, Bool, true, false, is_none, if◌then◌else◌}
use Rattle.std.specs.Prelude.{List, [], ◌∷◌, ◌++◌, length, map, slice_get, take, Option, Some, None, Result, Ok, Err}
use Rattle.std.specs.List.{find, position_or_len, remove}
use Rattle.std.specs.Ordering.{int_cmp, is_le}
use Rattle.std.proofs.Common.{lit≤}
use Rattle.arrayvec.specs.ArrayVec.{ArrayVec}
use Rattle.ip_address.specs.Cidr.{contains, is_whole_ipv4, prefix_len_of}
use Rattle.ip_address.specs.declared.ip.IpAddress.{IpAddress}
use Rattle.ip_address.specs.declared.ip.IpAddress.TheVariants as address
use Rattle.ip_address.specs.declared.ipv4.Ipv4Address.{Ipv4Address}
use Rattle.ip_address.specs.declared.ipv6.Ipv6Address.{Ipv6Address}
use Rattle.ip_address.specs.declared.cidr.IpCidr.{IpCidr}
use Rattle.ip_address.specs.declared.cidr.IpCidr.TheVariants.{Ipv4, Ipv6}
use Rattle.iface_tables.specs.declared.route.Route.{Route}
use Rattle.iface_tables.specs.declared.route.RouteTableFull.{RouteTableFull}
use Rattle.iface_tables.specs.declared.route_trie.RouteNode.{RouteNode}
use Rattle.iface_tables.specs.RouteTrie.{IsTrieOf, has_place}
use Rattle.iface_tables.specs.Store.{Stored}

-- a list of at most four routes, as it is passed to a call
abbrev pub Storage : Type 0
Storage = ArrayVec Route

-- the first four routes, or all if there are no more
abbrev pub first_four : List Route → List Route
first_four rs = take 4 rs

abbrev pub FirstFourAreAll : Type 0
FirstFourAreAll = (rs : List Route) → length rs ≤ 4 → first_four rs ≡ rs

-- how many routes storage has room for, by its capacity for routes and for nodes: a route takes 128 nodes, two more are
-- for the roots, and a mask of routes has 32 bits
abbrev pub least_room : ℕ → ℕ → ℕ
least_room routes nodes = min (min routes ((nodes - 2) / 128)) 32

-- how many there is room for over this storage: as many, or four if that is none
abbrev pub route_room_over : ℕ → ℕ → ℕ
route_room_over routes nodes = if least_room routes nodes == 0 then 4 else least_room routes nodes

-- whether a lifetime has not ended at t: it includes its end, or lasts forever
abbrev pub is_until : Option ℤ → ℤ → Bool
is_until None t = true
is_until (Some end) t = is_le (int_cmp t end)

-- whether a route has not expired at t
abbrev pub is_live : Route → ℤ → Bool
is_live r t = is_until r.expires_at t

-- whether a route may be used for an address at t
abbrev pub matches : Route → IpAddress → ℤ → Bool
matches r a t = contains r.cidr a && is_live r t

-- how specific a route is
abbrev pub prefix_len : Route → ℕ
prefix_len r = prefix_len_of r.cidr

-- the route at an index matches, no matching route is more specific, and none after it is as specific
pub record IsBestAt (rs : List Route) (a : IpAddress) (t : ℤ) (place : ℕ) (r : Route) : Type 0 where
  pub is_there : slice_get rs place ≡ Some r
  pub is_match : matches r a t ≡ true
  pub longest : (k : ℕ) (other : Route) →
      slice_get rs k ≡ Some other → matches other a t ≡ true → prefix_len other ≤ prefix_len r
  pub last : (k : ℕ) (other : Route) → place < k → slice_get rs k ≡ Some other →
      matches other a t ≡ true → prefix_len other < prefix_len r

-- the best route to an address at t, or none if none matches
abbrev pub IsBest : List Route → IpAddress → ℤ → Option Route → Type 0
IsBest rs a t (Some r) = (place : ℕ) × IsBestAt rs a t place r
IsBest rs a t None = (k : ℕ) (other : Route) → slice_get rs k ≡ Some other → matches other a t ≡ false

-- of a route and the best of those after it the more specific one; of equally specific ones, the latter
abbrev pub more_specific : Route → Option Route → Route
more_specific r None = r
more_specific r (Some after) = if nat_le (prefix_len r) (prefix_len after) then after else r

-- the best route, found from the end of the list
abbrev pub best : List Route → IpAddress → ℤ → Option Route
best [] a t = None
best (r ∷ rs) a t = if matches r a t then Some (more_specific r (best rs a t)) else best rs a t

-- the gateway of a route, if there is one
abbrev pub router_of : Option Route → Option IpAddress
router_of (Some r) = Some r.via_router
router_of None = None

-- the gateway for an address at t, or none
abbrev pub IsRouter : List Route → IpAddress → ℤ → Option IpAddress → Type 0
IsRouter rs a t router = (best : Option Route) × IsBest rs a t best × (router ≡ router_of best)

-- the best route is what is found from the end of the list
abbrev pub BestIsFound : Type 0
BestIsFound = (rs : List Route) (a : IpAddress) (t : ℤ) → IsBest rs a t (best rs a t)

-- the best route has only one gateway
abbrev pub RouterIsOne : Type 0
RouterIsOne = (rs : List Route) (a : IpAddress) (t : ℤ) (x y : Option IpAddress) →
    IsRouter rs a t x → IsRouter rs a t y → x ≡ y

-- the prefixes of routes, in the same order
abbrev pub cidrs : List Route → List IpCidr
cidrs rs = map (λ r. r.cidr) rs

-- the mask of the indices of routes that have not expired at t
abbrev pub AreLive : List Route → ℤ → ℕ → Type 0
AreLive rs t live = (k : ℕ) (r : Route) → slice_get rs k ≡ Some r → has_place live k ≡ is_live r t

-- while this end has not come, no route has expired
abbrev pub AllLiveUntil : List Route → Option ℤ → Type 0
AllLiveUntil rs end = (t : ℤ) (k : ℕ) (r : Route) → is_until end t ≡ true → slice_get rs k ≡ Some r → is_live r t ≡ true

-- what always holds of a table's routes, of their trie, of how many there is room for, and of the end until which all
-- are live: there is room in the storage and in the nodes, also for four
pub record AreKept (nodes : List RouteNode) (stored : Stored Route) (room : ℕ) (end : Option ℤ) : Type 0 where
  pub trie : IsTrieOf nodes (cidrs stored.items)
  pub live : AllLiveUntil stored.items end
  pub most : room ≤ 32
  pub routes : room ≤ stored.room
  pub four_routes : 4 ≤ stored.room
  pub fits : 2 + 128 * room ≤ length nodes
  pub fits_four : 2 + 128 * 4 ≤ length nodes

-- the route at an index, if there is one
abbrev pub route_at : List Route → Option ℕ → Option Route
route_at rs None = None
route_at rs (Some place) = slice_get rs place

-- 0.0.0.0/0 and ::/0, the networks of all addresses
abbrev pub whole_ipv4 : IpCidr
whole_ipv4 = Ipv4 (record { address = record { bits = 0 }; prefix_len = 0; in_range = lit≤ tt })

abbrev pub whole_ipv6 : IpCidr
whole_ipv6 = Ipv6 (record { address = record { bits = 0 }; prefix_len = 0; in_range = lit≤ tt })

-- the default route via a gateway, without expiry (RFC 1122 3.3.1.1)
abbrev pub ipv4_gateway : Ipv4Address → Route
ipv4_gateway gateway =
    record { cidr = whole_ipv4; via_router = address.Ipv4 gateway; preferred_until = None; expires_at = None }

abbrev pub ipv6_gateway : Ipv6Address → Route
ipv6_gateway gateway =
    record { cidr = whole_ipv6; via_router = address.Ipv6 gateway; preferred_until = None; expires_at = None }

-- exactly ::/0
abbrev pub is_whole_ipv6 : IpCidr → Bool
is_whole_ipv6 (Ipv4 n) = false
is_whole_ipv6 (Ipv6 n) = (n.address.bits == 0) && (n.prefix_len == 0)

-- whether a route is an IPv4 default route
abbrev pub is_ipv4_gateway : Route → Bool
is_ipv4_gateway r = is_whole_ipv4 r.cidr

-- whether a route is an IPv6 default route
abbrev pub is_ipv6_gateway : Route → Bool
is_ipv6_gateway r = is_whole_ipv6 r.cidr

-- the first route of a kind, if there is one
abbrev pub first : (Route → Bool) → List Route → Option Route
first is_kind rs = find is_kind rs

-- the table without the first route of a kind, the others in their order
abbrev pub without_first : (Route → Bool) → List Route → List Route
without_first is_kind rs = remove rs (position_or_len is_kind rs)

-- whether a route is refused in a table with this room: it is full, and there is none of its kind to replace
abbrev pub is_refused : ℕ → (Route → Bool) → List Route → Bool
is_refused room is_kind rs = is_none (first is_kind rs) && nat_le room (length rs)

-- the answer of a call that replaces the first route of a kind
abbrev pub old_or_full : ℕ → (Route → Bool) → List Route → Result (Option Route) RouteTableFull
old_or_full room is_kind rs = if is_refused room is_kind rs then Err (record {}) else Ok (first is_kind rs)

-- the table with a route appended, in place of the first of its kind
abbrev pub with_default : ℕ → (Route → Bool) → List Route → Route → List Route
with_default room is_kind rs r = if is_refused room is_kind rs then rs else without_first is_kind rs ++ r ∷ []

-- a route replaces the first of its kind
pub record Replaces (room : ℕ) (is_kind : Route → Bool) (old : List Route) (r : Route)
    (answer : Result (Option Route) RouteTableFull) (new : List Route) : Type 0 where
  pub answers : answer ≡ old_or_full room is_kind old
  pub leaves : new ≡ with_default room is_kind old r
