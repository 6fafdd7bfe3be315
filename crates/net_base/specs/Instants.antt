-- The earlier of instants.
use Rattle.std.specs.Prelude.{ℤ, List, [], ◌∷◌, Option, Some, None, if◌then◌else◌}
use Rattle.std.specs.Ordering.{int_cmp, is_lt}

-- the earlier of two instants; `None` means never
abbrev pub earlier_of : Option ℤ → Option ℤ → Option ℤ
earlier_of None b = b
earlier_of (Some a) None = Some a
earlier_of (Some a) (Some b) = if is_lt (int_cmp b a) then Some b else Some a

-- the earliest of instants, or none if there are none
abbrev pub earliest_of : List ℤ → Option ℤ
earliest_of [] = None
earliest_of (x ∷ xs) = earlier_of (Some x) (earliest_of xs)
