-- Covered offsets as ranges in order, apart from each other.
use Rattle.std.specs.Prelude.{◌≡◌, ℕ, ◌+◌, ◌<◌, ◌≤◌, min, max, nat_lt, nat_le, ◌&&◌, ◌||◌}
use Rattle.std.specs.Prelude.{Bool, false, cond, List, [], ◌∷◌, length, drop, slice_index_or, ◌==◌}
use Rattle.net_base.specs.declared.assembler.Range.{Range}

-- no range is empty, the first starts at `from` or later, and each starts above the end of the one before, so
-- that none touches another
abbrev pub AreSeparate : ℕ → List Range → Type 0
AreSeparate from [] = Unit {0}
AreSeparate from (r ∷ rs) = (from ≤ r.start) × (r.start < r.end) × AreSeparate (r.end + 1) rs

-- whether an offset is covered
abbrev pub covered : List Range → ℕ → Bool
covered [] p = false
covered (r ∷ rs) p = (nat_le r.start p && nat_lt p r.end) || covered rs p

abbrev pub range_union : Range → Range → Range
range_union a b = record { start = min a.start b.start; end = max a.end b.end }

-- how many ranges end below start
abbrev pub places_before : ℕ → List Range → ℕ
places_before start [] = 0
places_before start (r ∷ rs) = cond (nat_le start r.end) 0 (places_before start rs + 1)

-- the range m, merged with the ranges that it meets, before the others
abbrev pub absorb : Range → List Range → List Range
absorb m [] = m ∷ []
absorb m (r ∷ rs) = cond (nat_le r.start m.end) (absorb (range_union m r) rs) (m ∷ r ∷ rs)

-- the ranges with the offsets from start to below end covered too
abbrev pub put_range : ℕ → ℕ → List Range → List Range
put_range start end [] = record { start = start; end = end } ∷ []
put_range start end (r ∷ rs) =
    cond (nat_le start r.end) (absorb (record { start = start; end = end }) (r ∷ rs)) (r ∷ put_range start end rs)

abbrev pub add_range : ℕ → ℕ → List Range → List Range
add_range start end rs = cond (nat_lt start end) (put_range start end rs) rs

-- how many offsets are covered from 0 on
abbrev pub front : List Range → ℕ
front [] = 0
front (r ∷ rs) = cond (r.start == 0) r.end 0

-- a range that ends at `end` meets the one at index i
pub record IsMet (rs : List Range) (i end : ℕ) : Type 0 where
  pub within : i < length rs
  pub takes : (m : Range) (d : Range) →
      m.end ≡ end → absorb m (drop i rs) ≡ absorb (range_union m (slice_index_or rs i d)) (drop (i + 1) rs)

-- a range that ends at `end` stays apart before index i
pub record IsApart (rs : List Range) (i end : ℕ) : Type 0 where
  pub alone : (m : Range) → m.end ≡ end → absorb m (drop i rs) ≡ m ∷ drop i rs

-- new covers the offsets of old and those from start to below end, and no others
abbrev pub Covers : List Range → List Range → ℕ → ℕ → Type 0
Covers old new start end = (p : ℕ) → covered new p ≡ ((nat_le start p && nat_lt p end) || covered old p)

-- new is a list of separate ranges that cover the offsets of old and those from start to below end, and no others
pub record IsUnion (old new : List Range) (start end : ℕ) : Type 0 where
  pub separate : AreSeparate 0 new
  pub covers : Covers old new start end
