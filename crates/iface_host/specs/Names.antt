-- The numbers by which sockets are named.
use Rattle.std.specs.Prelude.{ℕ, is_none, List, slice_get, Option}
use Rattle.std.specs.Option.{option_and_then}
use Rattle.std.specs.List.{position}

-- the handle of the socket that a number names, if it names one
abbrev pub handle_named : List (Option ℕ) → ℕ → Option ℕ
handle_named names n = option_and_then (λ handle. handle) (slice_get names n)

-- the least number that names none, if there is one
abbrev pub first_unused : List (Option ℕ) → Option ℕ
first_unused names = position is_none names
