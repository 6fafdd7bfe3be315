-- Where there is a candidate, there is a best one.
use Rattle.std.proofs.Common.{◌≡◌, ℕ, Bool, true, false, List, [], ◌∷◌, Some, refl, sym, ap, ◌∙◌, arith, inl, inr}
use Rattle.std.specs.Prelude.{cond, not, ◌==◌, ◌&&◌, ◌||◌, ◌⊎◌, nat_lt, IsSome}
use Rattle.std.specs.List.{list_any}
use Rattle.std.proofs.lemmas.Bool.Decides.{nat_tests}
use Rattle.ip_address.specs.declared.ipv6.Ipv6Address.{Ipv6Address}
use Rattle.ip_address.specs.declared.cidr.Ipv4Cidr.{Ipv4Cidr}
use Rattle.ip_address.specs.declared.cidr.Ipv6Cidr.{Ipv6Cidr}
use Rattle.ip_address.specs.declared.cidr.IpCidr.{IpCidr}
use Rattle.ip_address.specs.declared.cidr.IpCidr.TheVariants as cidr
use Rattle.ip_address.specs.Ipv6.{scope_of}
use Rattle.ip_address.specs.AddressSelection.Ipv6.{has_better_scope, common_prefix_len, is_preferred, is_candidate, is_candidate_of, beats, is_best, first_best}

-- by scope, and then by the length of the common prefix
abbrev by_scope : ℕ → ℕ → ℕ → ℕ → ℕ → Bool
by_scope x y z p q = cond (has_better_scope x y z) true (cond (has_better_scope y x z) false (nat_lt q p))

by_scope_itself : (x z p : ℕ) → by_scope x x z p p ≡ false
by_scope_itself x z p = grind (arith, nat_tests)

by_scope_trans : (x y w z p q r : ℕ) → by_scope x y z p q ≡ true → by_scope y w z q r ≡ true → by_scope x w z p r ≡ true
by_scope_trans x y w z p q r a b = grind (arith, nat_tests)

-- and before that by whether it is the destination
abbrev by_all : Bool → Bool → ℕ → ℕ → ℕ → ℕ → ℕ → Bool
by_all s t x y z p q = cond (s && not t) true (cond (t && not s) false (by_scope x y z p q))

by_all_itself : (s : Bool) (x z p : ℕ) → by_all s s x x z p p ≡ false
by_all_itself true x z p = by_scope_itself x z p
by_all_itself false x z p = by_scope_itself x z p

by_all_trans : (s t u : Bool) (x y w z p q r : ℕ) → by_all s t x y z p q ≡ true → by_all t u y w z q r ≡ true → by_all s u x w z p r ≡ true
by_all_trans true true true x y w z p q r a b = by_scope_trans x y w z p q r a b
by_all_trans true true false x y w z p q r a b = refl
by_all_trans true false true x y w z p q r a b = cc
by_all_trans true false false x y w z p q r a b = refl
by_all_trans false true u x y w z p q r a b = cc
by_all_trans false false true x y w z p q r a b = cc
by_all_trans false false false x y w z p q r a b = by_scope_trans x y w z p q r a b

preferred_itself : (d : Ipv6Address) (a : Ipv6Cidr) → is_preferred a a d ≡ false
preferred_itself d a = by_all_itself (a.address.bits == d.bits) (scope_of a.address) (scope_of d) (common_prefix_len a d)

preferred_trans : (d : Ipv6Address) (a b c : Ipv6Cidr) → is_preferred a b d ≡ true → is_preferred b c d ≡ true → is_preferred a c d ≡ true
preferred_trans d a b c = by_all_trans (a.address.bits == d.bits) (b.address.bits == d.bits) (c.address.bits == d.bits) (scope_of a.address)
    (scope_of b.address) (scope_of c.address) (scope_of d) (common_prefix_len a d) (common_prefix_len b d) (common_prefix_len c d)

-- it is one of them
abbrev IsAmong : IpCidr → List IpCidr → Type 0
IsAmong x [] = ⊥
IsAmong x (y ∷ ys) = (x ≡ y) ⊎ IsAmong x ys

-- one of them is a candidate that no candidate among them beats
record HasBest (d : Ipv6Address) (all : List IpCidr) : Type 0 where
  best : Ipv6Cidr
  among : IsAmong (cidr.Ipv6 best) all
  candidate : is_candidate d best ≡ true
  unbeaten : list_any (beats d best) all ≡ false

not_both : (b : Bool) → b ≡ true → b ≡ false → ⊥
not_both b h k = cc

either : (a b : Bool) → a ≡ false → b ≡ false → a || b ≡ false
either a b h k = rw (h, k) refl

neither : (a b : Bool) → a || b ≡ false → (a ≡ false) × (b ≡ false)
neither true b h = cc
neither false b h = (refl, h)

both_true : (a b : Bool) → a && b ≡ true → (a ≡ true) × (b ≡ true)
both_true true b h = (refl, h)
both_true false b h = cc

none_beats : (d : Ipv6Address) (a : Ipv6Cidr) (all : List IpCidr) → list_any (is_candidate_of d) all ≡ false → list_any (beats d a) all ≡ false
none_beats d a [] h = refl
none_beats d a (cidr.Ipv4 x ∷ all) h = none_beats d a all h
none_beats d a (cidr.Ipv6 x ∷ all) h =
    let n = neither (is_candidate d x) (list_any (is_candidate_of d) all) h in
    either (is_candidate d x && is_preferred x a d) (list_any (beats d a) all) (ap (λ b. b && is_preferred x a d) n.0) (none_beats d a all n.1)

-- what is preferred to an unbeaten one is unbeaten
less_beaten : (d : Ipv6Address) (a b x : Ipv6Cidr) → is_preferred a b d ≡ true → is_candidate d x && is_preferred x b d ≡ false →
    is_candidate d x && is_preferred x a d ≡ false
less_beaten d a b x h none =
    elim (is_candidate d x && is_preferred x a d) as (λ t. is_candidate d x && is_preferred x a d ≡ t → t ≡ false) [
      | true ↦ λ e.
          let both = both_true (is_candidate d x) (is_preferred x a d) e in
          absurd (not_both _ (rw both.0 (preferred_trans d x a b both.1 h)) none)
      | false ↦ λ e. refl
    ] refl

unbeaten_by : (d : Ipv6Address) (a b : Ipv6Cidr) (all : List IpCidr) →
    is_preferred a b d ≡ true → list_any (beats d b) all ≡ false → list_any (beats d a) all ≡ false
unbeaten_by d a b [] h none = refl
unbeaten_by d a b (cidr.Ipv4 x ∷ all) h none = unbeaten_by d a b all h none
unbeaten_by d a b (cidr.Ipv6 x ∷ all) h none =
    let n = neither (is_candidate d x && is_preferred x b d) (list_any (beats d b) all) none in
    either (is_candidate d x && is_preferred x a d) (list_any (beats d a) all) (less_beaten d a b x h n.0) (unbeaten_by d a b all h n.1)

no_match : (b c : Bool) → c ≡ false → b && c ≡ false
no_match true c h = h
no_match false c h = refl

one_more : (d : Ipv6Address) (x : Ipv6Cidr) (all : List IpCidr) → is_candidate d x ≡ true → HasBest d all → HasBest d (cidr.Ipv6 x ∷ all)
one_more d x all c h =
    elim (is_preferred x h.best d) as (λ t. is_preferred x h.best d ≡ t → HasBest d (cidr.Ipv6 x ∷ all)) [
      | true ↦ λ e. record {
        best = x;
        among = inl refl;
        candidate = c;
        unbeaten = either (is_candidate d x && is_preferred x x d) (list_any (beats d x) all)
            (no_match (is_candidate d x) (is_preferred x x d) (preferred_itself d x)) (unbeaten_by d x h.best all e h.unbeaten);
      }
      | false ↦ λ e. record {
        best = h.best;
        among = inr h.among;
        candidate = h.candidate;
        unbeaten = either (is_candidate d x && is_preferred x h.best d) (list_any (beats d h.best) all)
            (no_match (is_candidate d x) (is_preferred x h.best d) e) h.unbeaten;
      }
    ] refl

only_one : (d : Ipv6Address) (x : Ipv6Cidr) (all : List IpCidr) →
    is_candidate d x ≡ true → list_any (is_candidate_of d) all ≡ false → HasBest d (cidr.Ipv6 x ∷ all)
only_one d x all c none = record {
  best = x;
  among = inl refl;
  candidate = c;
  unbeaten = either (is_candidate d x && is_preferred x x d) (list_any (beats d x) all)
      (no_match (is_candidate d x) (is_preferred x x d) (preferred_itself d x)) (none_beats d x all none);
}

other_one : (d : Ipv6Address) (x : Ipv6Cidr) (all : List IpCidr) → is_candidate d x ≡ false → HasBest d all → HasBest d (cidr.Ipv6 x ∷ all)
other_one d x all off h = record {
  best = h.best;
  among = inr h.among;
  candidate = h.candidate;
  unbeaten =
      either (is_candidate d x && is_preferred x h.best d) (list_any (beats d h.best) all) (ap (λ b. b && is_preferred x h.best d) off) h.unbeaten;
}

second : (a b : Bool) → a || b ≡ true → a ≡ false → b ≡ true
second true b h e = absurd (not_both true refl e)
second false b h e = h

best_of : (d : Ipv6Address) (all : List IpCidr) → list_any (is_candidate_of d) all ≡ true → HasBest d all
best_of d [] h = absurd (not_both false h refl)
best_of d (cidr.Ipv4 x ∷ all) h = let rest = best_of d all h in
    record { best = rest.best; among = inr rest.among; candidate = rest.candidate; unbeaten = rest.unbeaten }
best_of d (cidr.Ipv6 x ∷ all) h =
    elim (is_candidate d x) as (λ t. is_candidate d x ≡ t → HasBest d (cidr.Ipv6 x ∷ all)) [
      | true ↦ λ c.
          elim (list_any (is_candidate_of d) all) as (λ t. list_any (is_candidate_of d) all ≡ t → HasBest d (cidr.Ipv6 x ∷ all)) [
            | true ↦ λ some. one_more d x all c (best_of d all some)
            | false ↦ λ none. only_one d x all c none
          ] refl
      | false ↦ λ off. other_one d x all off (best_of d all (second (is_candidate d x) (list_any (is_candidate_of d) all) h off))
    ] refl

-- the first of them is found
other_family : {P : Type 0} (a : Ipv6Cidr) (x : Ipv4Cidr) → cidr.Ipv6 a ≡ cidr.Ipv4 x → P
other_family a x e = cc

same_cidr : (a x : Ipv6Cidr) → cidr.Ipv6 a ≡ cidr.Ipv6 x → a ≡ x
same_cidr a x e = cc

found : (own : List IpCidr) (d : Ipv6Address) (some : List IpCidr) (a : Ipv6Cidr) →
    IsAmong (cidr.Ipv6 a) some → is_best own d a ≡ true → IsSome (first_best own d some)
found own d [] a m h = absurd m
found own d (cidr.Ipv4 x ∷ some) a m h = elim m [ inl e ↦ other_family a x e | inr rest ↦ found own d some a rest h ]
found own d (cidr.Ipv6 x ∷ some) a m h =
    elim (is_best own d x) as (λ t. is_best own d x ≡ t → IsSome (cond t (Some x.address) (first_best own d some))) [
      | true ↦ λ e. refl
      | false ↦ λ e. elim m [
        | inl same ↦ absurd (not_both (is_best own d x) (ap (is_best own d) (sym (same_cidr a x same)) ∙ h) e)
        | inr rest ↦ found own d some a rest h
      ]
    ] refl

pub best_is_there : (own : List IpCidr) (d : Ipv6Address) → list_any (is_candidate_of d) own ≡ true → IsSome (first_best own d own)
best_is_there own d h = let it = best_of d own h in found own d own it.best it.among (rw (it.candidate, it.unbeaten) refl)
