-- What routers advertised stands after maintenance.
use Rattle.std.proofs.Common.{◌≡◌, ℕ, zero, suc, ◌+◌, ◌<◌, ◌≤◌, Bool, true, false, List, [], ◌∷◌, ◌++◌, length, refl, sym, ◌∙◌, ap, subst}
use Rattle.std.proofs.Common.{Option, Some, None, arith}
use Rattle.std.specs.Prelude.{ℤ, ◌<ℤ◌, ◌==◌, ◌&&◌, ◌||◌, not, nat_le, slice_get, if◌then◌else◌}
use Rattle.std.specs.List.{filter, list_any}
use Rattle.std.specs.Cmp.{int_cmp_is}
use Rattle.std.specs.Ordering.{int_cmp, is_lt}
use Rattle.std.specs.declared.cmp.Ordering.TheVariants.{Less}
use Rattle.std.proofs.lemmas.Bool.Decides.{Decides-eqb, nat_tests}
use Rattle.std.proofs.lemmas.List.{length-append}
use Rattle.ip_address.specs.Ipv6.{is_unicast}
use Rattle.ip_address.specs.LinkPrefix.{from_link_prefix}
use Rattle.ip_address.specs.declared.cidr.IpCidr.{IpCidr}
use Rattle.ip_address.specs.declared.cidr.IpCidr.TheVariants as cidr
use Rattle.ip_address.specs.declared.cidr.Ipv6Cidr.{Ipv6Cidr}
use Rattle.ip_address.specs.declared.hardware.HardwareAddress.{HardwareAddress}
use Rattle.ip_address.specs.declared.ip.IpAddress.{IpAddress}
use Rattle.ip_address.specs.declared.ip.IpAddress.TheVariants as address
use Rattle.iface_tables.specs.declared.route.Route.{Route as StoredRoute}
use Rattle.iface_tables.specs.Slaac.{is_before, is_prefix_valid, is_route_valid, is_same, sync_required}
use Rattle.iface_tables.specs.Sync.{has_ended, is_cidr, is_ended_route, is_made, is_route, leads_as, stored_route, with_addr}
use Rattle.iface_tables.specs.Sync.{with_addrs, with_route, with_routes}
use Rattle.iface_tables.specs.declared.slaac.Prefix.{Prefix}
use Rattle.iface_tables.specs.declared.slaac.Route.{Route}
use Rattle.host_machine.specs.Context.Host.{Host, at, without_expired}
use Rattle.host_machine.specs.Context.Autoconfiguration.{with_slaac_applied}
use Rattle.host_laws.specs.Laws.Autoconfiguration.{AddressesAreFormed, AddressesStay, AdvertisedAddressesStand, HasAddress, IsUnended, LeadsAs}
use Rattle.host_laws.specs.Laws.Autoconfiguration.{IsUnendedRoute, RoutesAreFormed, RoutesStay}
use Rattle.host_laws.proofs.Discovery.LearntNeighbors.{and_both}

before : (t x : ℤ) → t <ℤ x → is_before t x ≡ true
before t x less = let e : is_lt (int_cmp t x) ≡ true = rw (← int_cmp_is t x Less less) refl in e

same_bits : (n : ℕ) → (n == n) ≡ true
same_bits n = grind (arith, nat_tests)

-- Lists

-- what passes a test is among what does
passed : {X : Type 0} (f : X → Bool) (xs : List X) (k : ℕ) (x : X) → slice_get xs k ≡ Some x → f x ≡ true →
    (j : ℕ) × (slice_get (filter f xs) j ≡ Some x)
passed f [] k x here passes = absurd cc
passed f (y ∷ xs) zero x here passes =
    let one : y ≡ x = cc in
    let e : f y ≡ true = ap f one ∙ passes in
    (0, rw e here)
passed {X} f (y ∷ xs) (suc k) x here passes = by (f y) refl (passed f xs k x here passes) where
  by : (b : Bool) → f y ≡ b → ((j : ℕ) × (slice_get (filter f xs) j ≡ Some x)) → (j : ℕ) × (slice_get (filter f (y ∷ xs)) j ≡ Some x)
  by true e rest = (suc rest.0, rw e rest.1)
  by false e rest = (rest.0, rw e rest.1)

fewer : {X : Type 0} (f : X → Bool) (xs : List X) → length (filter f xs) ≤ length xs
fewer f [] = omega arith
fewer f (x ∷ xs) = by (f x) refl (fewer f xs) where
  by : (b : Bool) → f x ≡ b → length (filter f xs) ≤ length xs → length (filter f (x ∷ xs)) ≤ length (x ∷ xs)
  by true e few = rw e (omega (arith, few))
  by false e few = rw e (omega (arith, few))

-- an element stays where a list is longer
in_front : {X : Type 0} (xs ys : List X) (k : ℕ) (x : X) → slice_get xs k ≡ Some x → slice_get (xs ++ ys) k ≡ Some x
in_front [] ys k x here = absurd cc
in_front (y ∷ xs) ys zero x here = here
in_front (y ∷ xs) ys (suc k) x here = in_front xs ys k x here

at_last : {X : Type 0} (xs : List X) (x : X) → slice_get (xs ++ x ∷ []) (length xs) ≡ Some x
at_last [] x = refl
at_last (y ∷ xs) x = at_last xs x

found : {X : Type 0} (f : X → Bool) (xs : List X) → list_any f xs ≡ true → (k : ℕ) × (x : X) × (slice_get xs k ≡ Some x) × (f x ≡ true)
found f [] e = absurd cc
found {X} f (x ∷ xs) e = by (f x) refl e (λ later. found f xs later) where
  by : (b : Bool) → f x ≡ b → (b || list_any f xs) ≡ true →
      (list_any f xs ≡ true → (k : ℕ) × (y : X) × (slice_get xs k ≡ Some y) × (f y ≡ true)) →
      (k : ℕ) × (y : X) × (slice_get (x ∷ xs) k ≡ Some y) × (f y ≡ true)
  by true is any rest = (0, x, refl, is)
  by false is any rest = let r = rest any in (suc r.0, r.1, r.2, r.3)

-- Addresses

is_same_as : (n c : Ipv6Cidr) → is_same n c ≡ true → (n.address.bits ≡ c.address.bits) × (n.prefix_len ≡ c.prefix_len)
is_same_as n c e =
    let parts = and_both (n.address.bits == c.address.bits) (n.prefix_len == c.prefix_len) e in
    ((Decides-eqb n.address.bits c.address.bits).0 parts.0, (Decides-eqb n.prefix_len c.prefix_len).0 parts.1)

-- the one of a prefix is there, where there is room
one_more : (room : ℕ) (own : List IpCidr) (c : Ipv6Cidr) → is_unicast c.address ≡ true → length own < room →
    HasAddress (with_addr room (Some c) own) c
one_more room own c unicast below = by (list_any (is_cidr c) own) refl where
  full : nat_le room (length own) ≡ false
  full = grind (arith, nat_tests)

  by : (b : Bool) → list_any (is_cidr c) own ≡ b → HasAddress (with_addr room (Some c) own) c
  by true e =
      let x = found (is_cidr c) own e in rw (unicast, e) (there x.0 x.1 x.2 x.3) where
        there : (k : ℕ) (n : IpCidr) → slice_get own k ≡ Some n → is_cidr c n ≡ true → HasAddress own c
        there k (cidr.Ipv4 n) here is = absurd cc
        there k (cidr.Ipv6 n) here is = let same = is_same_as n c is in (k, n, here, same.0, same.1)
  by false e = rw (unicast, e, full) (length own, c, at_last own (cidr.Ipv6 c), refl, refl)

keeps_one : (room : ℕ) (o : Option Ipv6Cidr) (own : List IpCidr) (k : ℕ) (x : IpCidr) → slice_get own k ≡ Some x →
    slice_get (with_addr room o own) k ≡ Some x
keeps_one room None own k x here = here
keeps_one room (Some c) own k x here = by (is_unicast c.address && not (list_any (is_cidr c) own) && not (nat_le room (length own))) where
  by : (b : Bool) → slice_get (if b then own ++ cidr.Ipv6 c ∷ [] else own) k ≡ Some x
  by true = in_front own (cidr.Ipv6 c ∷ []) k x here
  by false = here

one_longer : (room : ℕ) (o : Option Ipv6Cidr) (own : List IpCidr) → length (with_addr room o own) ≤ length own + 1
one_longer room None own = omega arith
one_longer room (Some c) own = by (is_unicast c.address && not (list_any (is_cidr c) own) && not (nat_le room (length own))) where
  by : (b : Bool) → length (if b then own ++ cidr.Ipv6 c ∷ [] else own) ≤ length own + 1
  by true = let l = length-append own (cidr.Ipv6 c ∷ []) in omega (arith, l)
  by false = omega arith

-- the list after one prefix
abbrev step : ℕ → HardwareAddress → ℤ → Prefix → List IpCidr → List IpCidr
step room h t p own = if is_prefix_valid t p then with_addr room (from_link_prefix p.cidr h) own else own

step_keeps : (room : ℕ) (h : HardwareAddress) (t : ℤ) (p : Prefix) (own : List IpCidr) (k : ℕ) (x : IpCidr) → slice_get own k ≡ Some x →
    slice_get (step room h t p own) k ≡ Some x
step_keeps room h t p own k x here = by (is_prefix_valid t p) where
  by : (b : Bool) → slice_get (if b then with_addr room (from_link_prefix p.cidr h) own else own) k ≡ Some x
  by true = keeps_one room (from_link_prefix p.cidr h) own k x here
  by false = here

step_longer : (room : ℕ) (h : HardwareAddress) (t : ℤ) (p : Prefix) (own : List IpCidr) → length (step room h t p own) ≤ length own + 1
step_longer room h t p own = by (is_prefix_valid t p) where
  by : (b : Bool) → length (if b then with_addr room (from_link_prefix p.cidr h) own else own) ≤ length own + 1
  by true = one_longer room (from_link_prefix p.cidr h) own
  by false = omega arith

keeps : (room : ℕ) (h : HardwareAddress) (t : ℤ) (ps : List Prefix) (own : List IpCidr) (k : ℕ) (x : IpCidr) → slice_get own k ≡ Some x →
    slice_get (with_addrs room h t ps own) k ≡ Some x
keeps room h t [] own k x here = here
keeps room h t (p ∷ ps) own k x here = keeps room h t ps (step room h t p own) k x (step_keeps room h t p own k x here)

has : (room : ℕ) (h : HardwareAddress) (t : ℤ) (ps : List Prefix) (own : List IpCidr) (i : ℕ) (p : Prefix) (c : Ipv6Cidr) →
    slice_get ps i ≡ Some p → t <ℤ p.info.valid_until → from_link_prefix p.cidr h ≡ Some c → is_unicast c.address ≡ true →
    length own + length ps ≤ room → HasAddress (with_addrs room h t ps own) c
has room h t [] own i p c here valid makes unicast few = absurd cc
has room h t (q ∷ ps) own zero p c here valid makes unicast few =
    let one : q ≡ p = cc in
    let now : HasAddress (step room h t q own) c = subst (λ x. HasAddress (step room h t x own) c) (sym one)
    (rw (before t p.info.valid_until valid, makes) (one_more room own c unicast (omega (arith, few)))) in
    (now.0, now.1, keeps room h t ps (step room h t q own) now.0 (cidr.Ipv6 now.1) now.2, now.3, now.4)
has room h t (q ∷ ps) own (suc i) p c here valid makes unicast few =
    let l = step_longer room h t q own in
    has room h t ps (step room h t q own) i p c here valid makes unicast (omega (arith, few, l))

-- it isn't among those that end
not_ended : (h : HardwareAddress) (t : ℤ) (ps : List Prefix) (n : Ipv6Cidr) → IsUnended h t ps n → has_ended h t ps (cidr.Ipv6 n) ≡ false
not_ended h t [] n all = refl
not_ended h t (p ∷ ps) n all = by (is_prefix_valid t p) (from_link_prefix p.cidr h) refl refl (not_ended h t ps n all.1) where
  by : (b : Bool) (o : Option Ipv6Cidr) → is_prefix_valid t p ≡ b → from_link_prefix p.cidr h ≡ o →
      list_any (λ q. not (is_prefix_valid t q) && is_made (from_link_prefix q.cidr h) n) ps ≡ false →
      has_ended h t (p ∷ ps) (cidr.Ipv6 n) ≡ false
  by true o valid made rest = rw valid rest
  by false None valid made rest = rw (valid, made) rest
  by false (Some m) valid made rest = of (is_same m n) refl where
    of : (b : Bool) → is_same m n ≡ b → has_ended h t (p ∷ ps) (cidr.Ipv6 n) ≡ false
    of false e = rw (valid, made, e) rest
    of true e =
        let same = is_same_as m n e in
        let lives = before t p.info.valid_until (all.0 m made same.0 same.1) in
        let bad : true ≡ false = sym lives ∙ valid in absurd cc

-- Routes

leads : (r : Route) (s : StoredRoute) → is_route r s ≡ true → LeadsAs r s
leads r s e = by s.cidr s.via_router refl refl e where
  by : (c : IpCidr) (v : IpAddress) → s.cidr ≡ c → s.via_router ≡ v → leads_as r c v ≡ true → LeadsAs r s
  by (cidr.Ipv4 n) (address.Ipv4 v) a b e = absurd cc
  by (cidr.Ipv4 n) (address.Ipv6 v) a b e = absurd cc
  by (cidr.Ipv6 n) (address.Ipv4 v) a b e = absurd cc
  by (cidr.Ipv6 n) (address.Ipv6 v) a b e =
      let parts = and_both (is_same r.cidr n) (r.via_router.bits == v.bits) e in
      let same = is_same_as r.cidr n parts.0 in record {
        network = n;
        cidr_is = a;
        address = sym same.0;
        prefix_len = sym same.1;
        via = b ∙ ap (λ m. address.Ipv6 (record { bits = m })) (sym ((Decides-eqb r.via_router.bits v.bits).0 parts.1));
      }

stored_leads : (r : Route) → LeadsAs r (stored_route r)
stored_leads r = record { network = r.cidr; cidr_is = refl; address = refl; prefix_len = refl; via = refl }

abbrev HasRoute : List StoredRoute → Route → Type 0
HasRoute routes r = (k : ℕ) × (s : StoredRoute) × (slice_get routes k ≡ Some s) × LeadsAs r s

one_route : (room : ℕ) (r : Route) (routes : List StoredRoute) → length routes < room → HasRoute (with_route room r routes) r
one_route room r routes below = by (list_any (is_route r) routes) refl where
  full : nat_le room (length routes) ≡ false
  full = grind (arith, nat_tests)

  by : (b : Bool) → list_any (is_route r) routes ≡ b → HasRoute (with_route room r routes) r
  by true e = let x = found (is_route r) routes e in rw e (x.0, x.1, x.2, leads r x.1 x.3)
  by false e = rw (e, full) (length routes, stored_route r, at_last routes (stored_route r), stored_leads r)

route_keeps : (room : ℕ) (r : Route) (routes : List StoredRoute) (k : ℕ) (s : StoredRoute) → slice_get routes k ≡ Some s →
    slice_get (with_route room r routes) k ≡ Some s
route_keeps room r routes k s here = by (list_any (is_route r) routes) (nat_le room (length routes)) where
  by : (a b : Bool) → slice_get (if a then routes else if b then routes else routes ++ stored_route r ∷ []) k ≡ Some s
  by true b = here
  by false true = here
  by false false = in_front routes (stored_route r ∷ []) k s here

route_longer : (room : ℕ) (r : Route) (routes : List StoredRoute) → length (with_route room r routes) ≤ length routes + 1
route_longer room r routes = by (list_any (is_route r) routes) (nat_le room (length routes)) where
  by : (a b : Bool) → length (if a then routes else if b then routes else routes ++ stored_route r ∷ []) ≤ length routes + 1
  by true b = omega arith
  by false true = omega arith
  by false false = let l = length-append routes (stored_route r ∷ []) in omega (arith, l)

abbrev route_step : ℕ → ℤ → Route → List StoredRoute → List StoredRoute
route_step room t r routes = if is_route_valid t r then with_route room r routes else routes

routes_keep : (room : ℕ) (t : ℤ) (rs : List Route) (routes : List StoredRoute) (k : ℕ) (s : StoredRoute) → slice_get routes k ≡ Some s →
    slice_get (with_routes room t rs routes) k ≡ Some s
routes_keep room t [] routes k s here = here
routes_keep room t (r ∷ rs) routes k s here = routes_keep room t rs (route_step room t r routes) k s (by (is_route_valid t r)) where
  by : (b : Bool) → slice_get (if b then with_route room r routes else routes) k ≡ Some s
  by true = route_keeps room r routes k s here
  by false = here

has_route : (room : ℕ) (t : ℤ) (rs : List Route) (routes : List StoredRoute) (i : ℕ) (r : Route) → slice_get rs i ≡ Some r →
    t <ℤ r.valid_until → length routes + length rs ≤ room → HasRoute (with_routes room t rs routes) r
has_route room t [] routes i r here valid few = absurd cc
has_route room t (q ∷ rs) routes zero r here valid few =
    let one : q ≡ r = cc in
    let now : HasRoute (route_step room t q routes) r = subst (λ x. HasRoute (route_step room t x routes) r) (sym one)
    (rw (before t r.valid_until valid) (one_route room r routes (omega (arith, few)))) in
    (now.0, now.1, routes_keep room t rs (route_step room t q routes) now.0 now.1 now.2, now.3)
has_route room t (q ∷ rs) routes (suc i) r here valid few = has_route room t rs (route_step room t q routes) i r here valid (by (is_route_valid t q)) where
  by : (b : Bool) → length (if b then with_route room q routes else routes) + length rs ≤ room
  by true = let l = route_longer room q routes in omega (arith, few, l)
  by false = omega (arith, few)

-- it isn't among those that end
route_not_ended : (t : ℤ) (rs : List Route) (s : StoredRoute) → IsUnendedRoute t rs s → is_ended_route t rs s ≡ false
route_not_ended t [] s all = refl
route_not_ended t (r ∷ rs) s all = by (is_route_valid t r) (is_route r s) refl refl (route_not_ended t rs s all.1) where
  by : (b c : Bool) → is_route_valid t r ≡ b → is_route r s ≡ c → is_ended_route t rs s ≡ false →
      ((not b && c) || list_any (λ q. not (is_route_valid t q) && is_route q s) rs) ≡ false
  by true c valid same rest = rest
  by false false valid same rest = rest
  by false true valid same rest =
      let lives = before t r.valid_until (all.0 (leads r s same)) in
      let bad : true ≡ false = sym lives ∙ valid in absurd cc

-- Maintenance

formed : (H : Host) (t : ℤ) → AddressesAreFormed H t
formed H t i p c changed here valid makes unicast room unended =
    let x = has H.addr_room H.hardware_addr t H.slaac.prefixes H.ip_addrs i p c here valid makes unicast room in
    let same : IsUnended H.hardware_addr t H.slaac.prefixes x.1 =
    unended_as H.slaac.prefixes x.1 x.3 x.4 unended in
    let kept = passed (λ n. not (has_ended H.hardware_addr t H.slaac.prefixes n)) (with_addrs H.addr_room H.hardware_addr t H.slaac.prefixes H.ip_addrs)
    x.0 (cidr.Ipv6 x.1) x.2 (rw (not_ended H.hardware_addr t H.slaac.prefixes x.1 same) refl) in
    rw changed (kept.0, x.1, kept.1, x.3, x.4) where
      unended_as : (ps : List Prefix) (n : Ipv6Cidr) → n.address.bits ≡ c.address.bits → n.prefix_len ≡ c.prefix_len →
          IsUnended H.hardware_addr t ps c → IsUnended H.hardware_addr t ps n
      unended_as [] n a b all = tt
      unended_as (q ∷ ps) n a b all = (λ made m d e. all.0 made m (d ∙ a) (e ∙ b), unended_as ps n a b all.1)

stay : (H : Host) (t : ℤ) → AddressesStay H t
stay H t k c here unended = by (sync_required H.slaac t) where
  passes : (n : IpCidr) → c ≡ n → not (has_ended H.hardware_addr t H.slaac.prefixes n) ≡ true
  passes (cidr.Ipv4 n) e = refl
  passes (cidr.Ipv6 n) e = rw (not_ended H.hardware_addr t H.slaac.prefixes n (unended n e)) refl

  by : (b : Bool) → (j : ℕ) × (slice_get (if b then with_slaac_applied (without_expired (at H t) t) else without_expired (at H t) t).ip_addrs j ≡ Some c)
  by false = (k, here)
  by true = passed (λ n. not (has_ended H.hardware_addr t H.slaac.prefixes n)) (with_addrs H.addr_room H.hardware_addr t H.slaac.prefixes H.ip_addrs)
      k c (keeps H.addr_room H.hardware_addr t H.slaac.prefixes H.ip_addrs k c here) (passes c refl)

routed : (H : Host) (t : ℤ) → RoutesAreFormed H t
routed H t i r changed here valid room =
    let few = fewer (λ s. not (is_ended_route t H.slaac.routers s)) H.routes in
    let x = has_route H.route_room t H.slaac.routers (filter (λ s. not (is_ended_route t H.slaac.routers s)) H.routes) i r here valid (omega (arith, room, few)) in
    rw changed x

routes_stay : (H : Host) (t : ℤ) → RoutesStay H t
routes_stay H t k s here unended = by (sync_required H.slaac t) where
  by : (b : Bool) →
      (j : ℕ) × (slice_get (if b then with_slaac_applied (without_expired (at H t) t) else without_expired (at H t) t).routes j ≡ Some s)
  by false = (k, here)
  by true =
      let left = passed (λ r. not (is_ended_route t H.slaac.routers r)) H.routes k s here
      (rw (route_not_ended t H.slaac.routers s unended) refl) in
      (left.0, routes_keep H.route_room t H.slaac.routers (filter (λ r. not (is_ended_route t H.slaac.routers r)) H.routes) left.0 s left.1)

pub advertised_stands : AdvertisedAddressesStand
advertised_stands H t = record { formed = formed H t; stay = stay H t; routes = routed H t; routes_stay = routes_stay H t }
