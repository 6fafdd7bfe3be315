-- What is known of a destination at a moment was known at each one before, while nothing is learnt and no route expires.
use Rattle.std.proofs.Common.{◌≡◌, ℕ, List, refl, sym, ◌∙◌, ap, arith, Option, Some, None}
use Rattle.std.specs.Prelude.{ℤ, ◌≤ℤ◌, ◌<ℤ◌, Bool, true, false, ◌&&◌, if◌then◌else◌, slice_get}
use Rattle.std.specs.Cmp.{int_cmp_is, int_ranks}
use Rattle.std.specs.FinMap as map
use Rattle.std.proofs.lemmas.Int.{by_lt_z, ints}
use Rattle.std.specs.declared.cmp.Ordering.{Ordering}
use Rattle.std.specs.declared.cmp.Ordering.TheVariants.{Less, Equal, Greater}
use Rattle.std.specs.Ordering.{int_cmp, is_lt, is_le, MatchOrdering}
use Rattle.ip_address.specs.Cidr.{contains}
use Rattle.ip_address.specs.declared.ip.IpAddress.{IpAddress}
use Rattle.iface_tables.specs.declared.neighbor.Neighbor.{Neighbor}
use Rattle.iface_tables.specs.declared.neighbor.Answer.TheVariants.{Found, NotFound, RateLimited}
use Rattle.iface_tables.specs.declared.route.Route.{Route}
use Rattle.iface_tables.specs.Neighbor.{answer_from, is_before, is_found, answer_without_entry}
use Rattle.iface_tables.specs.Route.{IsBest, IsRouter, is_until, matches}
use Rattle.socket_set.specs.SocketMeta.{Wait, IsAnswerFor}
use Rattle.host_machine.specs.Context.Host.{Host, at}
use Rattle.host_machine.specs.Send.Hops.{IsNextHop, OnLink, ByRouter, is_known_hop, HasNeighbor, OfNoHost, OfHost}
use Rattle.host_laws.specs.Laws.Quiet.{RoutesLast}

-- orders of moments, by their comparison
ranked_lt : (t end : ℤ) (o : Ordering) → MatchOrdering o (t <ℤ end) (t ≡ end) (end <ℤ t) → is_lt o ≡ true → t <ℤ end
ranked_lt t end Less m is = m
ranked_lt t end Equal m is = absurd cc
ranked_lt t end Greater m is = absurd cc

ranked_le : (t end : ℤ) (o : Ordering) → MatchOrdering o (t <ℤ end) (t ≡ end) (end <ℤ t) → t ≤ℤ end → is_le o ≡ true
ranked_le t end Less m le = refl
ranked_le t end Equal m le = refl
ranked_le t end Greater m le = absurd (omega (arith, ints))

-- neighbours only age
not_missing : (b : Bool) → is_found (if b then RateLimited else NotFound) ≡ true → ⊥
not_missing true found = absurd cc
not_missing false found = absurd cc

found_by : (n : Neighbor) (silent t0 t : ℤ) (b : Bool) → t0 ≤ℤ t → is_before t n.expires_at ≡ b →
    is_found (if b then Found n.hardware_addr else answer_without_entry silent t) ≡ true → is_found (answer_from (Some n) silent t0) ≡ true
found_by n silent t0 t true later is found =
    let end : t <ℤ n.expires_at = ranked_lt t n.expires_at (int_cmp t n.expires_at) (int_ranks t n.expires_at) is in
    let before : t0 <ℤ n.expires_at = omega (arith, ints) in
    rw (← int_cmp_is t0 n.expires_at Less before) refl
found_by n silent t0 t false later is found = absurd (not_missing (is_before t silent) found)

found_before : (e : Option Neighbor) (silent t0 t : ℤ) →
    t0 ≤ℤ t → is_found (answer_from e silent t) ≡ true → is_found (answer_from e silent t0) ≡ true
found_before None silent t0 t later found = absurd (not_missing (is_before t silent) found)
found_before (Some n) silent t0 t later found = found_by n silent t0 t (is_before t n.expires_at) later refl found

hop_before : (H : Host) (t0 : ℤ) (hop : Option IpAddress) → t0 ≤ℤ H.moment → is_known_hop H hop ≡ true → is_known_hop (at H t0) hop ≡ true
hop_before H t0 None later known = known
hop_before H t0 (Some a) later known = found_before (map.get H.neighbors.known a) H.neighbors.silent_until t0 H.moment later known

-- a route that lasts is as live as before
live_before : (end : Option ℤ) (t0 t : ℤ) → t0 ≤ℤ t → ((x : ℤ) → end ≡ Some x → t0 ≤ℤ x → t ≤ℤ x) → is_until end t0 ≡ is_until end t
live_before None t0 t later lasts = refl
live_before (Some x) t0 t later lasts =
    by_lt_z x t0
    (λ gone. let gone_later : x <ℤ t = omega (arith, ints) in rw (← int_cmp_is t0 x Greater gone, ← int_cmp_is t x Greater gone_later) refl)
    (λ there. ranked_le t0 x (int_cmp t0 x) (int_ranks t0 x) there ∙ sym (ranked_le t x (int_cmp t x) (int_ranks t x) (lasts x refl there)))

module _ (rs : List Route) (a : IpAddress) (t0 t : ℤ) (later : t0 ≤ℤ t) (last : RoutesLast rs t0 t) where
  matches_before : (k : ℕ) (r : Route) → slice_get rs k ≡ Some r → matches r a t0 ≡ matches r a t
  matches_before k r is = ap (λ b. contains r.cidr a && b) (live_before r.expires_at t0 t later (λ x e from. last k r x is e from))

  best_before : (best : Option Route) → IsBest rs a t best → IsBest rs a t0 best
  best_before None none = λ k other is. matches_before k other is ∙ none k other is
  best_before (Some r) (place, b) = (
    place,
    record {
      is_there = b.is_there;
      is_match = matches_before place r b.is_there ∙ b.is_match;
      longest = λ k other is m. b.longest k other is (sym (matches_before k other is) ∙ m);
      last = λ k other after is m. b.last k other after is (sym (matches_before k other is) ∙ m);
    },
  )

  router_before : (router : Option IpAddress) → IsRouter rs a t router → IsRouter rs a t0 router
  router_before router (best, is, e) = (best, best_before best is, e)

hop_is_before : {H : Host} {a : IpAddress} {hop : Option IpAddress} (t0 : ℤ) →
    t0 ≤ℤ H.moment → RoutesLast H.routes t0 H.moment → IsNextHop H a hop → IsNextHop (at H t0) a hop
hop_is_before t0 later last (OnLink own e) = OnLink own e
hop_is_before {H} {a} t0 later last (ByRouter router other r e) = ByRouter router other (router_before H.routes a t0 H.moment later last router r) e

-- what was told of a wait's destination before
pub record Knew (H : Host) (t0 : ℤ) (wait : Wait) (known : Bool) : Type 0 where
  pub was : Bool
  pub told : IsAnswerFor (HasNeighbor (at H t0)) wait was
  pub stays : known ≡ true → was ≡ true

hop_knew : {H : Host} {known : Bool} (a : IpAddress) (end t0 : ℤ) →
    t0 ≤ℤ H.moment → RoutesLast H.routes t0 H.moment → HasNeighbor H a known → Knew H t0 (Some (a, end)) known
hop_knew {H} {known} a end t0 later last (OfNoHost none e) = record { was = known; told = OfNoHost none e; stays = λ k. k }
hop_knew {H} a end t0 later last (OfHost hop one n e) = record {
  was = is_known_hop (at H t0) hop;
  told = OfHost hop one (hop_is_before t0 later last n) refl;
  stays = λ k. hop_before H t0 hop later (sym e ∙ k);
}

pub knew : (H : Host) (t0 : ℤ) (wait : Wait) (known : Bool) →
    t0 ≤ℤ H.moment → RoutesLast H.routes t0 H.moment → IsAnswerFor (HasNeighbor H) wait known → Knew H t0 wait known
knew H t0 None known later last told = record { was = known; told = tt; stays = λ k. k }
knew H t0 (Some w) known later last told = hop_knew w.0 w.1 t0 later last told
