-- Instants and spans, in microseconds.
use Rattle.std.specs.Prelude.{ℕ, ◌+◌, ◌^◌, min, nat_le, Bool, false, Option, Some, None}

-- later than any instant that a caller may give: a span that ends there never ends
abbrev pub never : ℕ
never = 2 ^ 63

-- a span after an instant
abbrev pub later : ℕ → ℕ → ℕ
later now span = min never (now + span)

-- the timer has ended
abbrev pub has_passed : Option ℕ → ℕ → Bool
has_passed None now = false
has_passed (Some t) now = nat_le t now
