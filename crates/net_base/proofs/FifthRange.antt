-- A range that is put beside others merges with one, or is one more.
use Rattle.std.proofs.Common.{◌≡◌, ◌<◌, ◌≤◌, ◌+◌, ℕ, Bool, true, false, List, [], ◌∷◌, length, refl, arith, ◌⊎◌, inl, inr}
use Rattle.std.proofs.lemmas.Bool.Decides.{nat_tests}
use Rattle.std.specs.Prelude.{cond, nat_lt, nat_le}
use Rattle.net_base.specs.declared.assembler.Range.{Range}
use Rattle.net_base.specs.Ranges.{AreSeparate, range_union, absorb, put_range}
use Rattle.net_base.specs.Details.RangesLaws.{FifthTouchesNone, TouchesNone}

-- what is merged is at most one range more
absorbed_len : (m : Range) (rs : List Range) → length (absorb m rs) ≤ length rs + 1
absorbed_len m [] = omega arith
absorbed_len m (r ∷ rs) = by (nat_le r.start m.end) (absorbed_len (range_union m r) rs) where
  by : (b : Bool) → length (absorb (range_union m r) rs) ≤ length rs + 1 →
      length (cond b (absorb (range_union m r) rs) (m ∷ r ∷ rs)) ≤ length (r ∷ rs) + 1
  by true few = omega (arith, few)
  by false few = omega arith

-- a range that ends before the first touches none
before_all : (start end from : ℕ) (rs : List Range) → AreSeparate from rs → end < from → TouchesNone start end rs
before_all start end from [] separate before = tt
before_all start end from (r ∷ rs) separate before =
    let low = separate.0 in
    let some = separate.1 in
    (inr (omega (arith, low, before)), before_all start end (r.end + 1) rs separate.2 (omega (arith, low, some, before)))

-- a range touches none, or it doesn't add one
touches_or : (start end from : ℕ) (rs : List Range) → AreSeparate from rs → TouchesNone start end rs ⊎ (length (put_range start end rs) ≤ length rs)
touches_or start end from [] separate = inl tt
touches_or start end from (r ∷ rs) separate = by (nat_le start r.end) refl (touches_or start end (r.end + 1) rs separate.2) where
  merges : (b : Bool) → nat_le r.start end ≡ b → TouchesNone start end (r ∷ rs)
      ⊎ (length (cond b (absorb (range_union (record { start = start; end = end }) r) rs) (record { start = start; end = end } ∷ r ∷ rs))
      ≤ length (r ∷ rs))
  merges true e = inr (omega (arith, absorbed_len (range_union (record { start = start; end = end }) r) rs))
  merges false e =
      let before : end < r.start = grind (arith, nat_tests, e) in
      let some = separate.1 in
      inl (inr before, before_all start end (r.end + 1) rs separate.2 (omega (arith, some, before)))

  follows : r.end < start → TouchesNone start end rs ⊎ (length (put_range start end rs) ≤ length rs) →
      TouchesNone start end (r ∷ rs) ⊎ (length (r ∷ put_range start end rs) ≤ length (r ∷ rs))
  follows behind (inl none) = inl (inl behind, none)
  follows behind (inr few) = inr (omega (arith, few))

  by : (b : Bool) → nat_le start r.end ≡ b → TouchesNone start end rs ⊎ (length (put_range start end rs) ≤ length rs) → TouchesNone start end (r ∷ rs)
      ⊎ (length (cond b (absorb (record { start = start; end = end }) (r ∷ rs)) (r ∷ put_range start end rs)) ≤ length (r ∷ rs))
  by true e rest = merges (nat_le r.start end) refl
  by false e rest = follows (grind (arith, nat_tests, e)) rest

-- a range that touches none adds one
adds_one : (start end from : ℕ) (rs : List Range) → start < end → AreSeparate from rs → TouchesNone start end rs →
    length (put_range start end rs) ≡ length rs + 1
adds_one start end from [] order separate none = refl
adds_one start end from (r ∷ rs) order separate none = by none.0 (adds_one start end (r.end + 1) rs order separate.2 none.1) where
  by : (r.end < start) ⊎ (end < r.start) → length (put_range start end rs) ≡ length rs + 1 →
      length (put_range start end (r ∷ rs)) ≡ length (r ∷ rs) + 1
  by (inl behind) one =
      let test : nat_le start r.end ≡ false = grind (arith, nat_tests, behind) in
      rw test (omega (arith, one))
  by (inr before) one =
      let some = separate.1 in
      let test : nat_le start r.end ≡ true = grind (arith, nat_tests, before, order, some) in
      let apart : nat_le r.start end ≡ false = grind (arith, nat_tests, before) in
      rw (test, apart) (omega arith)

pub fifth_touches_none : FifthTouchesNone
fifth_touches_none start end rs separate few order =
    let test : nat_lt start end ≡ true = grind (arith, nat_tests, order) in
    rw test (
      λ more. only more (touches_or start end 0 rs separate),
      λ both. let four = both.0 in let one = adds_one start end 0 rs order separate both.1 in omega (arith, four, one),
    ) where
      only : 4 < length (put_range start end rs) → TouchesNone start end rs ⊎ (length (put_range start end rs) ≤ length rs) →
          (length rs ≡ 4) × TouchesNone start end rs
      only more (inl none) = let one = adds_one start end 0 rs order separate none in (omega (arith, one, more, few), none)
      only more (inr less) = absurd (omega (arith, more, less, few))
