-- There are slots for which places stand that are apart.
use Rattle.std.proofs.Common.{◌≡◌, ◌<◌, ◌≤◌, ◌+◌, ◌-◌, ℕ, suc, Bool, true, false, List, [], ◌∷◌, Option, Some, None}
use Rattle.std.proofs.Common.{length, take, drop, get_or, slice_get, refl, sym, ap, subst, ◌∙◌, arith}
use Rattle.std.specs.Prelude.{nat_le, nat_lt, ◌&&◌, ◌||◌}
use Rattle.std.proofs.lemmas.Bool.Decides.{nat_tests}
use Rattle.std.proofs.Common.{length-take}
use Rattle.std.proofs.lemmas.List.{get_or-take, get_or-drop, length-drop}
use Rattle.std.specs.FinMap as map
use Rattle.std.specs.FinMap.{get-empty}
use Rattle.net_base.specs.declared.assembler.Range.{Range}
use Rattle.net_base.specs.Ranges.{AreSeparate, covered}
use Rattle.fragmentation.specs.declared.key.FragKey.{FragKey}
use Rattle.fragmentation.specs.Keys.{key_cmp}
use Rattle.fragmentation.specs.Fragments.{Fragment, Got, is_covered, octet_at, has_place}
use Rattle.fragmentation.specs.Slots.{Slot, Held, Slots}
use Rattle.fragmentation.specs.Assembly.{Assembly, IsSound, AllSound, AreApart, with_keys, keys_of}
use Rattle.fragmentation.specs.Stands.{Gathers, StandsFor, StandForHeld, StandForSlots}
use Rattle.fragmentation.proofs.KeyLemmas.{get_put, get_out_apart, put_out, out_absent}
use Rattle.fragmentation.proofs.SlotsLemmas.{cases, key_is}

-- the octets of a range as a fragment
abbrev range_fragment : List ℕ → Range → Fragment
range_fragment xs r = record { offset = r.start; octets = take (r.end - r.start) (drop r.start xs); is_last = false }

abbrev range_fragments : List ℕ → List Range → List Fragment
range_fragments xs [] = []
range_fragments xs (r ∷ rs) = range_fragment xs r ∷ range_fragments xs rs

last_place : (r : Range) (rs : List Range) → r.start < r.end → covered (r ∷ rs) (r.end - 1) ≡ true
last_place r rs h = grind (arith, nat_tests)

in_rest : (r : Range) (rs : List Range) (p : ℕ) → covered rs p ≡ true → covered (r ∷ rs) p ≡ true
in_rest r rs p h = grind (arith, nat_tests)

long : (xs : List ℕ) (r : Range) → r.start < r.end → r.end ≤ length xs → r.start + length (take (r.end - r.start) (drop r.start xs)) ≡ r.end
long xs r h k = omega (arith, length-take (r.end - r.start) (drop r.start xs), length-drop r.start xs)

end_within : (xs : List ℕ) (r : Range) (rs : List Range) → r.start < r.end → ((p : ℕ) → covered (r ∷ rs) p ≡ true → p < length xs) → r.end ≤ length xs
end_within xs r rs h w = let k = w (r.end - 1) (last_place r rs h) in omega arith

has_range : (xs : List ℕ) (r : Range) (p : ℕ) →
    r.start < r.end → r.end ≤ length xs → has_place (range_fragment xs r) p ≡ nat_le r.start p && nat_lt p r.end
has_range xs r p h k = ap (λ n. nat_le r.start p && nat_lt p n) (long xs r h k)

-- they have the places of the ranges
covered_as : (xs : List ℕ) (from : ℕ) (rs : List Range) → AreSeparate from rs → ((p : ℕ) → covered rs p ≡ true → p < length xs) → (p : ℕ) →
    covered rs p ≡ is_covered (range_fragments xs rs) p
covered_as xs from [] s w p = refl
covered_as xs from (r ∷ rs) s w p =
    ap (λ b. b || covered rs p) (sym (has_range xs r p s.1 (end_within xs r rs s.1 w)))
    ∙ ap (λ b. has_place (range_fragment xs r) p || b) (covered_as xs (r.end + 1) rs s.2 (λ q h. w q (in_rest r rs q h)) p)

-- and their octets there
octet_in : (xs : List ℕ) (r : Range) (p : ℕ) → nat_le r.start p && nat_lt p r.end ≡ true →
    get_or xs p 0 ≡ get_or (take (r.end - r.start) (drop r.start xs)) (p - r.start) 0
octet_in xs r p h =
    let low : r.start ≤ p = grind (arith, nat_tests) in
    let high : p < r.end = grind (arith, nat_tests) in
    sym (get_or-take (r.end - r.start) (drop r.start xs) (p - r.start) 0 (omega arith)
    ∙ get_or-drop r.start xs (p - r.start) 0 ∙ ap (λ i. get_or xs i 0) (omega arith))

one_of : (b c : Bool) → b || c ≡ true → c ≡ false → b ≡ true
one_of true c h e = refl
one_of false c h e = sym e ∙ h

octets_as : (xs : List ℕ) (from : ℕ) (rs : List Range) → AreSeparate from rs → ((p : ℕ) → covered rs p ≡ true → p < length xs) → (p : ℕ) →
    covered rs p ≡ true → get_or xs p 0 ≡ octet_at (range_fragments xs rs) p
octets_as xs from [] s w p h = cc
octets_as xs from (r ∷ rs) s w p h =
    let rest : (q : ℕ) → covered rs q ≡ true → q < length xs = λ q k. w q (in_rest r rs q k) in
    elim (covered rs p) as (λ b. covered rs p ≡ b → get_or xs p 0 ≡ octet_at (range_fragments xs (r ∷ rs)) p) [
      | true ↦ λ t. rw (sym (covered_as xs (r.end + 1) rs s.2 rest p) ∙ t) (octets_as xs (r.end + 1) rs s.2 rest p t)
      | false ↦ λ t. rw (sym (covered_as xs (r.end + 1) rs s.2 rest p) ∙ t) (octet_in xs r p (one_of _ (covered rs p) h t))
    ] refl

-- what a place may have got
abbrev got_of : {K : Type 0} → Assembly K → Got
got_of s = record { total = s.total; fragments = range_fragments s.octets s.ranges }

abbrev slot_of : {K : Type 0} → Assembly K → Slot
slot_of s = record { got = got_of s; ends = s.expires_at }

module _ {K : Type 0} where
  gathers_it : (s : Assembly K) → IsSound s → Gathers s (got_of s)
  gathers_it s h =
      let within : (p : ℕ) → covered s.ranges p ≡ true → p < length s.octets = λ p k. let l = h.ranges.within p k in omega (arith, h.octets, l) in
      record {
        total = refl;
        places = covered_as s.octets 0 s.ranges h.ranges.separate within;
        octets = λ p k. octets_as s.octets 0 s.ranges h.ranges.separate within p (covered_as s.octets 0 s.ranges h.ranges.separate within p ∙ k);
      }

  stands_it : (s : Assembly K) → IsSound s → StandsFor s (slot_of s)
  stands_it s h = record { ends = refl; got = gathers_it s h }

  pub all_with : (os : List (Option K)) (ss : List (Assembly K)) → AllSound ss → AllSound (with_keys os ss)
  all_with [] ss h = tt
  all_with (o ∷ os) [] h = tt
  all_with (o ∷ os) (s ∷ ss) h = (record { ranges = h.0.ranges; octets = h.0.octets }, all_with os ss h.1)

apart_tail : {K : Type 0} (o : Option K) (os : List (Option K)) → AreApart (o ∷ os) → AreApart os
apart_tail o os h i j k a b = let e = h (suc i) (suc j) k a b in omega arith

zero_suc : (n : ℕ) → 0 ≡ suc n → ⊥
zero_suc n e = omega arith

-- a key that no place has has no slot
no_slot : (ss : List (Assembly FragKey)) (m : Held) (k : FragKey) →
    StandForHeld ss m → ((i : ℕ) → slice_get (keys_of ss) i ≡ Some (Some k) → ⊥) → map.get m k ≡ None
no_slot [] m k h none = ap (λ (n : Held). map.get n k) h ∙ get-empty key_cmp k
no_slot (s ∷ ss) m k h none =
    cases (λ k. k) s (StandForHeld ss) m (λ o. ((i : ℕ) → slice_get (o ∷ keys_of ss) i ≡ Some (Some k) → ⊥) → map.get m k ≡ None) h
    (λ _ others none. no_slot ss m k others (λ i e. none (suc i) e))
    (λ j _ at others none. sym (get_out_apart m j k (λ same. none 0 (ap (λ (q : FragKey). Some (Some q)) (sym same))))
    ∙ no_slot ss (map.remove m j) k others (λ i e. none (suc i) e))
    none

-- a taken place stands for a slot of its key, and the others for the rest
with_slot : (s : Assembly FragKey) (ss : List (Assembly FragKey)) (m : Held) (k : FragKey) →
    s.key ≡ Some k → IsSound s → StandForHeld ss m → map.get m k ≡ None → StandForHeld (s ∷ ss) (map.insert m k (slot_of s))
with_slot s ss m k e sound h none =
    key_is (λ k. k) s (StandForHeld ss) (map.insert m k (slot_of s)) (Some k) e (
      record { slot = slot_of s; found = get_put m k (slot_of s); stands = stands_it s sound },
      subst (StandForHeld ss) (sym (put_out m k (slot_of s) ∙ out_absent m k none)) h,
    )

all_stand : (ss : List (Assembly FragKey)) → AllSound ss → AreApart (keys_of ss) → (m : Held) × StandForHeld ss m
all_stand [] sound apart = (map.empty, refl)
all_stand (s ∷ ss) sound apart =
    let rest = all_stand ss sound.1 (apart_tail s.key (keys_of ss) apart) in
    elim s.key as (λ o. s.key ≡ o → (m : Held) × StandForHeld (s ∷ ss) m) [
      | None ↦ λ e. (rest.0, key_is (λ k. k) s (StandForHeld ss) rest.0 None e rest.1)
      | Some k ↦ λ e. (
        map.insert rest.0 k (slot_of s),
        with_slot s ss rest.0 k e sound.0 rest.1
            (no_slot ss rest.0 k rest.1 (λ i there. zero_suc i (apart 0 (suc i) k (ap (λ (o : Option FragKey). Some o) e) there))),
      )
    ] refl

-- where no key is there twice
pub some_slots : (ss : List (Assembly FragKey)) → AllSound ss → AreApart (keys_of ss) → (slots : Slots) × StandForSlots ss slots
some_slots ss sound apart =
    let m = all_stand ss sound apart in
    (record { room = length ss; held = m.0 }, record { room = refl; held = m.1 })
