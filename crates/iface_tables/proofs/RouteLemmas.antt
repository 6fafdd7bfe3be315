-- The best route: how it moves with one more route behind, and that it is the only one.
use Rattle.std.proofs.Common.{◌≡◌, ◌≢◌, ◌<◌, ◌≤◌, inl, inr, ℕ, zero, suc, ◌+◌, Bool, true, false}
use Rattle.std.proofs.Common.{List, [], ◌∷◌, ◌++◌, length, get_or, refl, sym, ap, ◌∙◌, arith}
use Rattle.std.specs.Prelude.{ℤ, ◌&&◌, nat_le, Option, Some, None, Ok, Err, slice_get}
use Rattle.std.proofs.Common.{lit≤}
use Rattle.std.specs.List.{position_or_len, remove}
use Rattle.std.proofs.Math.Bridge.{le_prop}
use Rattle.std.proofs.lemmas.List.Folds.{find_at}
use Rattle.ip_address.specs.declared.ip.IpAddress.TheVariants.{Ipv4, Ipv6}
use Rattle.ip_address.specs.declared.ipv4.Ipv4Address.{Ipv4Address}
use Rattle.ip_address.specs.declared.ipv6.Ipv6Address.{Ipv6Address}
use Rattle.ip_address.specs.declared.cidr.IpCidr.TheVariants as cidr
use Rattle.ip_address.specs.Cidr.{contains, prefix_len_of}
use Rattle.ip_address.specs.declared.cidr.IpCidr.{IpCidr}
use Rattle.std.proofs.lemmas.Bool.{cases_eq, cases_order, eq-eqb}
use Rattle.std.proofs.lemmas.Nat.Bits.{bit_at_ones}
use Rattle.std.proofs.lemmas.Bool.Decides.{nat_tests}
use Rattle.std.proofs.lemmas.Option.{slice_get_cases, slice_get_read, slice_get_within}
use Rattle.ip_address.specs.declared.ip.IpAddress.{IpAddress}
use Rattle.iface_tables.specs.declared.route.Route.{Route}
use Rattle.iface_tables.specs.Route.{AllLiveUntil, AreLive, IsBest, IsBestAt, Replaces, RouterIsOne, cidrs, first, ipv4_gateway}
use Rattle.iface_tables.specs.Route.{ipv6_gateway, is_live, is_until, matches, prefix_len, route_at, router_of}
use Rattle.iface_tables.specs.RouteTrie.{IsBestPlace, IsCandidate, has_place}
use Rattle.iface_tables.proofs.RouteTrieLemmas.{both}

pub some_is : (x y : Route) → Some x ≡ Some y → x ≡ y
some_is x y e = cc

-- a place of the prefixes is one of the routes
route_there : (rs : List Route) (k : ℕ) (c : IpCidr) → slice_get (cidrs rs) k ≡ Some c → (r : Route) × (slice_get rs k ≡ Some r) × (r.cidr ≡ c)
route_there [] k c h = absurd (let t : None ≡ Some c = h in cc)
route_there (r ∷ rs) zero c h = (r, refl, (let t : Some r.cidr ≡ Some c = h in cc))
route_there (r ∷ rs) (suc k) c h = route_there rs k c h

prefix_there : (rs : List Route) (k : ℕ) (r : Route) → slice_get rs k ≡ Some r → slice_get (cidrs rs) k ≡ Some r.cidr
prefix_there [] k r h = absurd (let t : None ≡ Some r = h in cc)
prefix_there (x ∷ rs) zero r h = ap (λ (y : Route). Some y.cidr) (some_is x r h)
prefix_there (x ∷ rs) (suc k) r h = prefix_there rs k r h

-- a route that matches is one to be chosen from
chosen_from : (rs : List Route) (a : IpAddress) (t : ℤ) (live : ℕ) (k : ℕ) (r : Route) →
    AreLive rs t live → slice_get rs k ≡ Some r → matches r a t ≡ true
    → IsCandidate (cidrs rs) a live k (prefix_len r)
chosen_from rs a t live k r alive there match =
    let m = both (contains r.cidr a) (is_live r t) match in
    record { prefix = r.cidr; is_there = prefix_there rs k r there; is_match = m.0; is_live = alive k r there ∙ m.1; len = refl }

-- the best place is that of the best route
pub best_at : (rs : List Route) (a : IpAddress) (t : ℤ) (live : ℕ) (best : Option ℕ) → AreLive rs t live → IsBestPlace (cidrs rs) a live best
    → IsBest rs a t (route_at rs best)
best_at rs a t live None alive best = λ k other there.
    elim (matches other a t) as (λ m. matches other a t ≡ m → m ≡ false) [
      | true ↦ λ m. absurd (best k (prefix_len other) (chosen_from rs a t live k other alive there m))
      | false ↦ λ m. refl
    ] refl
best_at rs a t live (Some place) alive best =
    let at = route_there rs place best.1.prefix best.1.is_there in
    let match : matches at.0 a t ≡ true = rw (at.2, best.1.is_match, sym (alive place at.0 at.1) ∙ best.1.is_live) refl in
    let len : prefix_len at.0 ≡ best.0 = ap prefix_len_of at.2 ∙ best.1.len in
    let is : IsBestAt rs a t place at.0 = record {
      is_there = at.1;
      is_match = match;
      longest = λ k other there m. (let h = best.2 k (prefix_len other) (chosen_from rs a t live k other alive there m) in omega (arith, h.0, len));
      last = λ k other after there m.
          (let h = best.2 k (prefix_len other) (chosen_from rs a t live k other alive there m) in omega (arith, h.1 after, len));
    } in
    rw at.1 (place, is)

-- one place more is looked at
pub live_more : (rs : List Route) (t : ℤ) (mask new i : ℕ) (x : Route) → i < length rs → x ≡ get_or rs i x → has_place new i ≡ is_live x t
    → ((k : ℕ) → k ≢ i → has_place new k ≡ has_place mask k)
    → ((k : ℕ) (r : Route) → k < i → slice_get rs k ≡ Some r → has_place mask k ≡ is_live r t) → (k : ℕ) (r : Route) →
    k < i + 1 → slice_get rs k ≡ Some r
    → has_place new k ≡ is_live r t
live_more rs t mask new i x within is tested kept done k r lt there =
    elim (cases_eq k i) [
      | inl at ↦
          let same : x ≡ r = some_is x r (sym (slice_get_read rs (length rs) i x refl within is) ∙ ap (slice_get rs) (sym at) ∙ there) in
          rw at (tested ∙ ap (λ (y : Route). is_live y t) same)
      | inr other ↦ kept k other ∙ done k r (omega arith) there
    ]

-- a first end with one route more
pub ends_more : (rs : List Route) (old new : Option ℤ) (i : ℕ) (x : Route) → i < length rs → x ≡ get_or rs i x
    → ((t : ℤ) → is_until new t ≡ (is_until old t && is_until x.expires_at t))
    → ((t : ℤ) (k : ℕ) (r : Route) → is_until old t ≡ true → k < i → slice_get rs k ≡ Some r → is_live r t ≡ true)
    → (t : ℤ) (k : ℕ) (r : Route) → is_until new t ≡ true → k < i + 1 → slice_get rs k ≡ Some r → is_live r t ≡ true
ends_more rs old new i x within is first done t k r until lt there =
    let parts = both (is_until old t) (is_until x.expires_at t) (sym (first t) ∙ until) in
    elim (cases_eq k i) [
      | inl at ↦
          let same : x ≡ r = some_is x r (sym (slice_get_read rs (length rs) i x refl within is) ∙ ap (slice_get rs) (sym at) ∙ there) in
          ap (λ (y : Route). is_live y t) (sym same) ∙ parts.1
      | inr other ↦ done t k r parts.0 (omega arith) there
    ]

-- the mask of all indices, where no route has expired
pub all_live : (rs : List Route) (end : Option ℤ) (t : ℤ) → length rs ≤ 32 → AllLiveUntil rs end → is_until end t ≡ true → AreLive rs t 4294967295
all_live rs end t few all until k r there =
    let lt = slice_get_within rs k r there in
    eq-eqb _ _ (bit_at_ones 32 k (omega (arith, lt, few))) ∙ sym (all t k r until there)

pub live_all : (rs : List Route) (t : ℤ) (mask i : ℕ) → length rs ≤ i
    → ((k : ℕ) (r : Route) → k < i → slice_get rs k ≡ Some r → has_place mask k ≡ is_live r t) → AreLive rs t mask
live_all rs t mask i past done k r there = let lt = slice_get_within rs k r there in done k r (omega arith) there

-- two best routes stand at one place
best_is_one : (rs : List Route) (a : IpAddress) (t : ℤ) (x y : Option Route) → IsBest rs a t x → IsBest rs a t y → x ≡ y
best_is_one rs a t None None b c = refl
best_is_one rs a t None (Some s) b c = absurd (let f = b c.0 s c.1.is_there in let m = c.1.is_match in cc)
best_is_one rs a t (Some r) None b c = absurd (let f = c b.0 r b.1.is_there in let m = b.1.is_match in cc)
best_is_one rs a t (Some r) (Some s) b c =
    elim (cases_order b.0 c.0) [
      | inl same ↦ sym b.1.is_there ∙ ap (slice_get rs) same ∙ c.1.is_there
      | inr rest ↦ elim rest [
        | inl before ↦ absurd
            (let l = b.1.last c.0 s before c.1.is_there c.1.is_match in let m = c.1.longest b.0 r b.1.is_there b.1.is_match in omega (arith, l, m))
        | inr after ↦ absurd
            (let l = c.1.last b.0 r after b.1.is_there b.1.is_match in let m = b.1.longest c.0 s c.1.is_there c.1.is_match in omega (arith, l, m))
      ]
    ]

pub routers_are_one : RouterIsOne
routers_are_one rs a t x y b c = b.2 ∙ ap router_of (best_is_one rs a t b.0 c.0 b.1 c.1) ∙ sym c.2

-- the first route of a kind stands at its place
pub first_is : (is_kind : Route → Bool) (rs : List Route) → first is_kind rs ≡ slice_get rs (position_or_len is_kind rs)
first_is is_kind rs = find_at is_kind rs

-- nothing is taken out from past the end
pub remove_past : (rs : List Route) (i : ℕ) → length rs ≤ i → remove rs i ≡ rs
remove_past [] zero h = refl
remove_past [] (suc i) h = refl
remove_past (r ∷ rs) zero h = absurd (omega arith)
remove_past (r ∷ rs) (suc i) h = ap (λ l. r ∷ l) (remove_past rs i (omega arith))

-- a default route, whatever shows that its prefix is not too long
pub ipv4_gateway_by : (h : 0 ≤ 32) (g : Ipv4Address) → record {
  cidr = cidr.Ipv4 (record { address = record { bits = 0 }; prefix_len = 0; in_range = h });
  via_router = Ipv4 g;
  preferred_until = None;
  expires_at = None;
} ≡ ipv4_gateway g
ipv4_gateway_by h g =
    let of : 0 ≤ 32 → Route = λ p. record {
      cidr = cidr.Ipv4 (record { address = record { bits = 0 }; prefix_len = 0; in_range = p });
      via_router = Ipv4 g;
      preferred_until = None;
      expires_at = None;
    } in
    ap of (le_prop h (lit≤ tt))

pub ipv6_gateway_by : (h : 0 ≤ 128) (g : Ipv6Address) → record {
  cidr = cidr.Ipv6 (record { address = record { bits = 0 }; prefix_len = 0; in_range = h });
  via_router = Ipv6 g;
  preferred_until = None;
  expires_at = None;
} ≡ ipv6_gateway g
ipv6_gateway_by h g =
    let of : 0 ≤ 128 → Route = λ p. record {
      cidr = cidr.Ipv6 (record { address = record { bits = 0 }; prefix_len = 0; in_range = p });
      via_router = Ipv6 g;
      preferred_until = None;
      expires_at = None;
    } in
    ap of (le_prop h (lit≤ tt))

-- the first of a kind made room
pub replaces_first : (room : ℕ) (is_kind : Route → Bool) (rs : List Route) (r old : Route) (i : ℕ) →
    i ≡ position_or_len is_kind rs → Some old ≡ slice_get rs i → Replaces room is_kind rs r (Ok (Some old)) (remove rs i ++ r ∷ [])
replaces_first room is_kind rs r old i at is =
    let f : first is_kind rs ≡ Some old = first_is is_kind rs ∙ ap (slice_get rs) (sym at) ∙ sym is in
    record { answers = rw f refl; leaves = rw (f, at) refl }

-- where nothing stands, nothing is taken out
remove_none : (rs : List Route) (i : ℕ) → None ≡ slice_get rs i → remove rs i ≡ rs
remove_none rs i is = elim (slice_get_cases rs i).1 [ inl h ↦ absurd (let t : None ≡ Some h.0 = is ∙ h.2 in cc) | inr h ↦ remove_past rs i h.0 ]

-- none of its kind is there
none_first : (is_kind : Route → Bool) (rs : List Route) (i : ℕ) → i ≡ position_or_len is_kind rs → None ≡ slice_get rs i → first is_kind rs ≡ None
none_first is_kind rs i at is = first_is is_kind rs ∙ ap (slice_get rs) (sym at) ∙ sym is

-- and there is room
pub replaces_none : (room : ℕ) (is_kind : Route → Bool) (rs : List Route) (r : Route) (i : ℕ) →
    i ≡ position_or_len is_kind rs → None ≡ slice_get rs i → length (remove rs i) < room → Replaces room is_kind rs r (Ok None) (remove rs i ++ r ∷ [])
replaces_none room is_kind rs r i at is free =
    let f = none_first is_kind rs i at is in
    let kept = remove_none rs i is in
    let n : nat_le room (length rs) ≡ false = small _ (rw kept at free) in
    record { answers = rw (f, n) refl; leaves = rw (f, n, at) refl }
  where
    small : (n : ℕ) → n < room → nat_le room n ≡ false
    small n h = grind (arith, nat_tests)

-- or none
pub replaces_nothing : (room : ℕ) (is_kind : Route → Bool) (rs : List Route) (r : Route) (i : ℕ) →
    i ≡ position_or_len is_kind rs → None ≡ slice_get rs i → room ≤ length (remove rs i) → Replaces room is_kind rs r (Err (record {})) (remove rs i)
replaces_nothing room is_kind rs r i at is full =
    let f = none_first is_kind rs i at is in
    let kept = remove_none rs i is in
    let n : nat_le room (length rs) ≡ true = large _ (rw kept at full) in
    record { answers = rw (f, n) refl; leaves = rw (f, n) kept }
  where
    large : (n : ℕ) → room ≤ n → nat_le room n ≡ true
    large n h = grind (arith, nat_tests)
