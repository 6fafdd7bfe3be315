-- Which ranges are refused.
use Rattle.std.specs.Prelude.{◌≡◌, ◌⊎◌, ◌↔◌, ℕ, ◌<◌, ◌≤◌, List, [], ◌∷◌, length}
use Rattle.net_base.specs.declared.assembler.Range.{Range}
use Rattle.net_base.specs.Ranges.{AreSeparate, add_range}

-- the range from start to below end neither overlaps nor touches any of these
abbrev pub TouchesNone : ℕ → ℕ → List Range → Type 0
TouchesNone start end [] = Unit {0}
TouchesNone start end (r ∷ rs) = ((r.end < start) ⊎ (end < r.start)) × TouchesNone start end rs

-- of at most four ranges more than four come, with a range that isn't empty, exactly if there are four and
-- it touches none of them
abbrev pub FifthTouchesNone : Type 0
FifthTouchesNone =
    (start end : ℕ) (rs : List Range) → AreSeparate 0 rs → length rs ≤ 4 → start < end →
    (4 < length (add_range start end rs)) ↔ ((length rs ≡ 4) × TouchesNone start end rs)
