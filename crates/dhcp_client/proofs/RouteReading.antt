-- Routes are read one after the other.
use Rattle.std.proofs.Common.{◌≡◌, ℕ, zero, suc, ◌+◌, ◌-◌, ◌≤◌, Bool, true, false, List, [], ◌∷◌, ◌++◌, Option, Some, None}
use Rattle.std.proofs.Common.{length, take, drop, refl, sym, ap, ◌∙◌, append_assoc, append-nil, arith, eqb}
use Rattle.std.specs.Prelude.{IsTrue, ◌==◌, slice_index, if◌then◌else◌}
use Rattle.std.proofs.lemmas.Bool.Decides.{nat_tests}
use Rattle.std.proofs.lemmas.Bool.{and_parts, leb-true, false_from_ne_true}
use Rattle.ip_address.specs.declared.ipv4.Ipv4Address.{Ipv4Address}
use Rattle.dhcp_client.specs.declared.routes.DhcpRoute.{DhcpRoute}
use Rattle.dhcp_client.specs.Details.Routes.{route_len, begins_route, route_in, routes_after, are_whole, default_of, default_in, is_usable, one_if, usable, in_eight}

-- what is cut off before isn't there after
take_over : (n : ℕ) (a b : List DhcpRoute) → take n (take n a ++ b) ≡ take n (a ++ b)
take_over zero a b = refl
take_over (suc n) [] b = refl
take_over (suc n) (x ∷ xs) b = ap (λ (ys : List DhcpRoute). x ∷ ys) (take_over n xs b)

take_all : (n : ℕ) (a : List DhcpRoute) → length a ≤ n → take n a ≡ a
take_all zero [] h = refl
take_all zero (x ∷ xs) h = absurd (omega (arith, h))
take_all (suc n) [] h = refl
take_all (suc n) (x ∷ xs) h = ap (λ (ys : List DhcpRoute). x ∷ ys) (take_all n xs (omega (arith, h)))

take_full : (n : ℕ) (a b : List DhcpRoute) → length a ≡ n → take n (a ++ b) ≡ a
take_full zero [] b h = refl
take_full zero (x ∷ xs) b h = absurd (omega (arith, h))
take_full (suc n) [] b h = absurd (omega (arith, h))
take_full (suc n) (x ∷ xs) b h = ap (λ (ys : List DhcpRoute). x ∷ ys) (take_full n xs b (omega (arith, h)))

-- those that fit are there as they are
pub fit : (a : List DhcpRoute) → length a ≤ 8 → a ≡ in_eight (a ++ [])
fit a h = sym (ap in_eight (append-nil a) ∙ take_all 8 a h)

-- one more, for which there is room; or none
pub one_more : (a : List DhcpRoute) (r : DhcpRoute) → length (a ++ r ∷ []) ≤ 8 → a ++ r ∷ [] ≡ in_eight (a ++ one_if true r)
one_more a r h = sym (take_all 8 (a ++ r ∷ []) h)

pub no_more : (a : List DhcpRoute) (b : Bool) (r : DhcpRoute) → length a ≡ 8 → a ≡ in_eight (a ++ one_if b r)
no_more a b r h = sym (take_full 8 a (one_if b r) h)

skipped : (skip : ℕ) (octets : List ℕ) → routes_after skip octets ≡ routes_after 0 (drop skip octets)
skipped zero octets = refl
skipped (suc skip) [] = refl
skipped (suc skip) (x ∷ xs) = skipped skip xs

skipped_whole : (skip : ℕ) (octets : List ℕ) → are_whole skip octets ≡ are_whole 0 (drop skip octets)
skipped_whole zero octets = refl
skipped_whole (suc skip) [] = refl
skipped_whole (suc skip) (x ∷ xs) = skipped_whole skip xs

five : (octets : List ℕ) → route_len octets ≡ suc (route_len octets - 1)
five octets = omega arith

pub fits : (octets : List ℕ) → IsTrue (begins_route octets) → route_len octets ≤ length octets
fits octets h = leb-true _ _ (and_parts _ _ h).1

pub narrow : (octets : List ℕ) → IsTrue (begins_route octets) → slice_index octets 0 ≤ 32
narrow octets h = leb-true _ _ (and_parts _ _ h).0

-- the first route, and those after it
pub first_route : (octets : List ℕ) → IsTrue (begins_route octets) →
    routes_after 0 octets ≡ route_in octets ∷ routes_after 0 (drop (route_len octets) octets)
first_route [] h = absurd (cc)
first_route (x ∷ xs) h =
    let n = route_len (x ∷ xs) in
    let rest : drop (n - 1) xs ≡ drop n (x ∷ xs) = ap (λ (k : ℕ). drop k (x ∷ xs)) (sym (five (x ∷ xs))) in
    rw h (ap (λ (rs : List DhcpRoute). route_in (x ∷ xs) ∷ rs) (skipped (n - 1) xs ∙ ap (routes_after 0) rest))

pub ended : (octets : List ℕ) → begins_route octets ≡ false → routes_after 0 octets ≡ []
ended [] h = refl
ended (x ∷ xs) h = rw h refl

pub whole_next : (octets : List ℕ) → IsTrue (begins_route octets) → are_whole 0 octets ≡ are_whole 0 (drop (route_len octets) octets)
whole_next [] h = absurd (cc)
whole_next (x ∷ xs) h =
    let n = route_len (x ∷ xs) in
    let rest : drop (n - 1) xs ≡ drop n (x ∷ xs) = ap (λ (k : ℕ). drop k (x ∷ xs)) (sym (five (x ∷ xs))) in
    rw h (skipped_whole (n - 1) xs ∙ ap (are_whole 0) rest)

-- where none begins, they are whole if nothing is left
pub whole_ended : (b : Bool) (octets : List ℕ) → b ≡ (length octets == 0) → ¬ (IsTrue (begins_route octets)) → b ≡ are_whole 0 octets
whole_ended b [] e h = e
whole_ended b (x ∷ xs) e h =
    let none : begins_route (x ∷ xs) ≡ false = false_from_ne_true (begins_route (x ∷ xs)) h in
    let more : (length (x ∷ xs) == 0) ≡ false = grind (arith, nat_tests) in
    rw none (e ∙ more)

-- a route is read
pub next_usable : (own : Ipv4Address) (octets rest : List ℕ) (before after : List DhcpRoute) → IsTrue (begins_route octets) →
    rest ≡ drop (route_len octets) octets → after ≡ in_eight (before ++ one_if (is_usable own (route_in octets)) (route_in octets)) →
    in_eight (after ++ usable own (routes_after 0 rest)) ≡ in_eight (before ++ usable own (routes_after 0 octets))
next_usable own octets rest before after h er ea =
    let r = route_in octets in
    let more = usable own (routes_after 0 (drop (route_len octets) octets)) in
    rw (ea, er)
    (take_over 8 (before ++ one_if (is_usable own r) r) more
    ∙ ap in_eight (append_assoc before (one_if (is_usable own r) r) more)
    ∙ ap (λ (rs : List DhcpRoute). in_eight (before ++ usable own rs)) (sym (first_route octets h)))

-- where none begins, all have been read
pub all_usable : (own : Ipv4Address) (octets : List ℕ) (before : List DhcpRoute) → ¬ (IsTrue (begins_route octets)) → length before ≤ 8 →
    before ≡ in_eight (before ++ usable own (routes_after 0 octets))
all_usable own octets before h le = rw (ended octets (false_from_ne_true (begins_route octets) h)) (fit before le)

-- the first route is the default one, or it isn't, or there is none
pub default_here : (octets : List ℕ) → IsTrue (begins_route octets) → ((route_in octets).prefix_len == 0) ≡ true →
    Some (route_in octets).router ≡ default_in octets
default_here octets h is = rw (first_route octets h, is) refl

pub default_later : (octets rest : List ℕ) → IsTrue (begins_route octets) → rest ≡ drop (route_len octets) octets →
    ((route_in octets).prefix_len == 0) ≡ false → default_in rest ≡ default_in octets
default_later octets rest h er is = rw (first_route octets h, is, er) refl

pub no_default : (octets : List ℕ) → ¬ (IsTrue (begins_route octets)) → default_in octets ≡ None
no_default octets h = rw (ended octets (false_from_ne_true (begins_route octets) h)) refl
