-- When a report is due.
use Rattle.std.specs.Prelude.{ℤ, Bool, true, false, Option, Some, None, if◌then◌else◌}
use Rattle.std.specs.Ordering.{int_cmp, is_lt}

-- a moment that has passed
abbrev pub has_passed : Option ℤ → ℤ → Bool
has_passed None now = false
has_passed (Some t) now = if is_lt (int_cmp now t) then false else true

abbrev pub later_of : ℤ → ℤ → ℤ
later_of a b = if is_lt (int_cmp a b) then b else a
