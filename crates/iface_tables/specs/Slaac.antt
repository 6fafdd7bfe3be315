-- What is learnt from router advertisements, and when routers are solicited (RFC 4861 6.3, RFC 4862 5.5).
use Rattle.std.specs.Prelude.{ℕ, ◌-◌, ◌*◌, ◌<◌, ◌^◌, ◌≤◌, ◌==◌, min, nat_le, nat_lt, ℤ, pos, ◌+ℤ◌}
use Rattle.std.specs.Prelude.{Bool, true, false, not, ◌&&◌, ◌||◌, if◌then◌else◌, T, List, [], ◌∷◌}
use Rattle.std.specs.Prelude.{◌++◌, length, map, filter, Option, Some, None, slice_set}
use Rattle.std.specs.List.{list_any, position_or_len}
use Rattle.std.specs.Ordering.{int_cmp, is_lt, is_le}
use Rattle.std.proofs.Common.{lit≤}
use Rattle.ip_address.specs.Ipv6.{is_link_local}
use Rattle.ip_address.specs.declared.ipv6.Ipv6Address.{Ipv6Address}
use Rattle.ip_address.specs.declared.cidr.Ipv6Cidr.{Ipv6Cidr}
use Rattle.control_wire.specs.declared.prefix_information.NdiscPrefixInformation.{NdiscPrefixInformation}
use Rattle.control_wire.specs.PrefixInformation.{is_for_addresses, is_valid_prefix_info}
use Rattle.net_base.specs.Instants.{earlier_of, earliest_of}
use Rattle.iface_tables.specs.declared.slaac.Phase.{Phase}
use Rattle.iface_tables.specs.declared.slaac.Phase.TheVariants as phase
use Rattle.iface_tables.specs.declared.slaac.PrefixInfo.{PrefixInfo}
use Rattle.iface_tables.specs.declared.slaac.Prefix.{Prefix}
use Rattle.iface_tables.specs.declared.slaac.Route.{Route}

-- the known prefixes and routers and for how many there is room, the phase of router discovery, when the next
-- solicitation may be sent and how many are left, and whether what is known changed
pub record SlaacState : Type 0 where
  pub prefixes : List Prefix
  pub prefix_room : ℕ
  pub routers : List Route
  pub router_room : ℕ
  pub phase : Phase
  pub retry_at : ℤ
  pub left : ℕ
  pub changed : Bool

-- at first there is room for two prefixes and four routers, nothing is known, and three solicitations may be sent, the
-- first one immediately (RFC 4861 6.3.7, 10)
abbrev pub initial_state : SlaacState
initial_state = record {
  prefixes = [];
  prefix_room = 2;
  routers = [];
  router_room = 4;
  phase = phase.Start;
  retry_at = pos 0;
  left = 3;
  changed = false;
}

-- the state with room for so many prefixes and routers, at most eight of each; what is known stays
abbrev pub with_room : SlaacState → ℕ → ℕ → SlaacState
with_room s prefixes routers = record s { prefix_room = min prefixes 8; router_room = min routers 8 }

-- whether a lifetime with this end includes t; it doesn't include its end (RFC 4862 5.5.4)
abbrev pub is_before : ℤ → ℤ → Bool
is_before t end = is_lt (int_cmp t end)

-- whether two networks are equal, by address and length
abbrev pub is_same : Ipv6Cidr → Ipv6Cidr → Bool
is_same c d = (c.address.bits == d.address.bits) && (c.prefix_len == d.prefix_len)

-- whether an entry is for this prefix
abbrev pub is_of : Ipv6Cidr → Prefix → Bool
is_of c p = is_same p.cidr c

-- the index of a prefix, or the length
abbrev pub prefix_index : List Prefix → Ipv6Cidr → ℕ
prefix_index ps c = position_or_len (is_of c) ps

-- whether a prefix is known
abbrev pub knows_prefix : List Prefix → Ipv6Cidr → Bool
knows_prefix ps c = nat_lt (prefix_index ps c) (length ps)

-- whether there is no room for another prefix, where there is room for so many
abbrev pub is_prefix_full : ℕ → List Prefix → Bool
is_prefix_full room ps = nat_le room (length ps)

-- whether a prefix is valid at t
abbrev pub is_prefix_valid : ℤ → Prefix → Bool
is_prefix_valid t p = is_before t p.info.valid_until

-- a lifetime of this many seconds, in microseconds; and one that a field of 32 bits can hold (RFC 4861 4.6.2)
abbrev pub seconds : ℕ → ℕ
seconds n = n * 1000000

abbrev pub IsLifetime : ℕ → Type 0
IsLifetime d = d < seconds (2 ^ 32)

-- the ends of the lifetimes of a prefix that is advertised at t (RFC 4862 5.5.3)
abbrev pub info_from : NdiscPrefixInformation → ℤ → PrefixInfo
info_from p t = record {
  preferred_until = t +ℤ pos (seconds p.preferred_lifetime);
  valid_until = t +ℤ pos (seconds p.valid_lifetime);
}

-- the ends of the lifetimes of a prefix that is withdrawn: it is no longer valid
abbrev pub info_withdrawn : PrefixInfo
info_withdrawn = record { preferred_until = pos 0; valid_until = pos 0 }

-- the network of an address and a length, if the length is at most 128
abbrev pub cidr_by : (a : Ipv6Address) (n : ℕ) (b : Bool) → (T b → n ≤ 128) → Option Ipv6Cidr
cidr_by a n true h = Some (record { address = a; prefix_len = n; in_range = h tt })
cidr_by a n false h = None

abbrev pub cidr_from : Ipv6Address → ℕ → Option Ipv6Cidr
cidr_from a n = cidr_by a n (nat_le n 128) lit≤

-- whether addresses may be formed from a prefix: its flag says so, its lifetimes are in order, and unless it is
-- withdrawn it isn't link-local (RFC 4862 5.5.3)
abbrev pub makes_addresses : NdiscPrefixInformation → Bool
makes_addresses p = is_valid_prefix_info p && is_for_addresses p.flags
    && ((p.valid_lifetime == 0) || not (is_link_local p.prefix))

-- the prefix that is learnt, if any: one from which addresses may be formed, of at most 128 bits
abbrev pub advertised_prefix : NdiscPrefixInformation → Option Ipv6Cidr
advertised_prefix p = if makes_addresses p then cidr_from p.prefix p.prefix_len else None

-- the prefixes with these lifetimes of a known one
abbrev pub with_info : List Prefix → Ipv6Cidr → PrefixInfo → List Prefix
with_info ps c info = slice_set ps (prefix_index ps c) (record { cidr = c; info = info })

-- the prefixes with a valid one: a new one is appended, or ignored if there is no room
abbrev pub with_prefix : ℕ → List Prefix → Ipv6Cidr → PrefixInfo → List Prefix
with_prefix room ps c info =
    if knows_prefix ps c then with_info ps c info else
    if is_prefix_full room ps then ps else ps ++ record { cidr = c; info = info } ∷ []

-- the prefixes after one, if known, is withdrawn
abbrev pub prefixes_after_withdrawal : List Prefix → Ipv6Cidr → List Prefix
prefixes_after_withdrawal ps c = if knows_prefix ps c then with_info ps c info_withdrawn else ps

-- the prefixes after an advertisement: a valid lifetime of zero withdraws the prefix, any other sets its
-- lifetimes (RFC 4862 5.5.3)
abbrev pub prefixes_by : Option Ipv6Cidr → ℕ → List Prefix → NdiscPrefixInformation → ℤ → List Prefix
prefixes_by None room ps p t = ps
prefixes_by (Some c) room ps p t =
    if p.valid_lifetime == 0 then prefixes_after_withdrawal ps c else with_prefix room ps c (info_from p t)

abbrev pub prefixes_after : Option NdiscPrefixInformation → ℕ → List Prefix → ℤ → List Prefix
prefixes_after None room ps t = ps
prefixes_after (Some p) room ps t = prefixes_by (advertised_prefix p) room ps p t

-- whether an advertised prefix is news: a known one is withdrawn, or a new one has room. A renewal is not
abbrev pub is_prefix_news_by : Option Ipv6Cidr → ℕ → List Prefix → NdiscPrefixInformation → Bool
is_prefix_news_by None room ps p = false
is_prefix_news_by (Some c) room ps p =
    if p.valid_lifetime == 0 then knows_prefix ps c else not (knows_prefix ps c || is_prefix_full room ps)

abbrev pub is_prefix_news : Option NdiscPrefixInformation → ℕ → List Prefix → Bool
is_prefix_news None room ps = false
is_prefix_news (Some p) room ps = is_prefix_news_by (advertised_prefix p) room ps p

-- ::/0, the network of all addresses
abbrev pub whole : Ipv6Cidr
whole = record { address = record { bits = 0 }; prefix_len = 0; in_range = lit≤ tt }

-- the default route via a router, until the end of its lifetime (RFC 4861 6.3.4)
abbrev pub default_route : Ipv6Address → ℤ → Route
default_route router end = record { cidr = whole; via_router = router; valid_until = end }

-- whether a route is the one to a network via a router
abbrev pub is_same_route : Ipv6Cidr → Ipv6Address → Route → Bool
is_same_route c router r = is_same r.cidr c && (r.via_router.bits == router.bits)

-- the index of the default route via a router, or the length
abbrev pub router_index : List Route → Ipv6Address → ℕ
router_index rs router = position_or_len (is_same_route whole router) rs

-- whether a router is known
abbrev pub knows_router : List Route → Ipv6Address → Bool
knows_router rs router = nat_lt (router_index rs router) (length rs)

-- whether there is no room for another router, where there is room for so many
abbrev pub is_router_full : ℕ → List Route → Bool
is_router_full room rs = nat_le room (length rs)

-- whether a router is valid at t
abbrev pub is_route_valid : ℤ → Route → Bool
is_route_valid t r = is_before t r.valid_until

-- the routers with this end of a known one's lifetime
abbrev pub with_end : List Route → Ipv6Address → ℤ → List Route
with_end rs router end = slice_set rs (router_index rs router) (default_route router end)

-- the routers with a valid one: a new one is appended, if there is room
abbrev pub with_router : ℕ → List Route → Ipv6Address → ℤ → List Route
with_router room rs router end =
    if knows_router rs router then with_end rs router end else
    if is_router_full room rs then rs else rs ++ default_route router end ∷ []

-- the routers after one, if known, is withdrawn
abbrev pub without_router : List Route → Ipv6Address → List Route
without_router rs router = if knows_router rs router then with_end rs router (pos 0) else rs

-- the routers after an advertisement: its router is valid for this lifetime; a lifetime of zero
-- withdraws it (RFC 4861 6.3.4)
abbrev pub routers_after : ℕ → List Route → Ipv6Address → ℕ → ℤ → List Route
routers_after room rs router lifetime t =
    if lifetime == 0 then without_router rs router else with_router room rs router (t +ℤ pos lifetime)

-- whether the router of an advertisement is news: a known one is withdrawn, or a new one is there, whether there
-- is room for it or not
abbrev pub is_router_news : List Route → Ipv6Address → ℕ → Bool
is_router_news rs router lifetime = if lifetime == 0 then knows_router rs router else not (knows_router rs router)

-- an answer ends router discovery (RFC 4861 6.3.7)
abbrev pub phase_after_answer : Phase → Phase
phase_after_answer phase.Start = phase.Start
phase_after_answer phase.Discovering = phase.Maintaining
phase_after_answer phase.Maintaining = phase.Maintaining
phase_after_answer phase.None = phase.None

-- the state after an advertisement from a router, with the lifetime of its route and perhaps a prefix, at t
abbrev pub slaac_after_message : SlaacState → Ipv6Address → ℕ → Option NdiscPrefixInformation → ℤ → SlaacState
slaac_after_message s router lifetime prefix t = record {
  prefixes = prefixes_after prefix s.prefix_room s.prefixes t;
  prefix_room = s.prefix_room;
  routers = routers_after s.router_room s.routers router lifetime t;
  router_room = s.router_room;
  phase = phase_after_answer s.phase;
  retry_at = s.retry_at;
  left = s.left;
  changed = s.changed || is_prefix_news prefix s.prefix_room s.prefixes || is_router_news s.routers router lifetime;
}

-- whether something that is known has expired by t
abbrev pub has_ended : SlaacState → ℤ → Bool
has_ended s t = list_any (λ p. not (is_prefix_valid t p)) s.prefixes
    || list_any (λ r. not (is_route_valid t r)) s.routers

-- whether a sync of addresses and routes is required: what is known changed, or some of it has expired
abbrev pub sync_required : SlaacState → ℤ → Bool
sync_required s t = s.changed || has_ended s t

-- the state after a sync: what is valid at t, in its order
abbrev pub slaac_after_update : SlaacState → ℤ → SlaacState
slaac_after_update s t = record s {
  prefixes = filter (is_prefix_valid t) s.prefixes;
  routers = filter (is_route_valid t) s.routers;
  changed = false;
}

-- whether router discovery goes on
abbrev pub is_searching : Phase → Bool
is_searching phase.Start = true
is_searching phase.Discovering = true
is_searching phase.Maintaining = false
is_searching phase.None = false

-- whether router discovery goes on, and the time of the next solicitation has come
abbrev pub is_its_time : SlaacState → ℤ → Bool
is_its_time s t = is_searching s.phase && is_le (int_cmp s.retry_at t)

-- whether a solicitation has to be sent at t (RFC 4861 6.3.7)
abbrev pub rs_required : SlaacState → ℤ → Bool
rs_required s t = is_its_time s t && nat_lt 0 s.left

-- a solicitation was sent at t: one less is left, and the next may be sent 4 s later (RFC 4861 6.3.7, 10)
abbrev pub slaac_after_sent : SlaacState → ℤ → SlaacState
slaac_after_sent s t = record s { phase = phase.Discovering; retry_at = t +ℤ pos 4000000; left = s.left - 1 }

-- the state after a solicitation at t. If it wasn't due yet nothing changes; if none was left, discovery ends
abbrev pub rs_sent : SlaacState → ℤ → SlaacState
rs_sent s t =
    if is_its_time s t then if s.left == 0 then record s { phase = phase.None } else slaac_after_sent s t else s

-- when the next solicitation may be sent, if one may
abbrev pub retry_at : SlaacState → Option ℤ
retry_at s = if is_searching s.phase && nat_lt 0 s.left then Some s.retry_at else None

-- the expiries after t of what is known
abbrev pub prefix_ends : List Prefix → ℤ → List ℤ
prefix_ends ps t = filter (is_before t) (map (λ (p : Prefix). p.info.valid_until) ps)

abbrev pub route_ends : List Route → ℤ → List ℤ
route_ends rs t = filter (is_before t) (map (λ (r : Route). r.valid_until) rs)

-- the earliest of them, if there are any
abbrev pub end_at : SlaacState → ℤ → Option ℤ
end_at s t = earlier_of (earliest_of (prefix_ends s.prefixes t)) (earliest_of (route_ends s.routers t))

-- when there is work next, as seen at t
abbrev pub poll_at : SlaacState → ℤ → Option ℤ
poll_at s t = earlier_of (retry_at s) (end_at s t)
