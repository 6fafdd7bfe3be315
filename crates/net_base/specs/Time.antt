-- Moments.
use Rattle.std.specs.Prelude.{ℤ, pos, ◌+ℤ◌, ◌≤ℤ◌, ◌^◌}

-- a moment that a caller may give: from 0 to 2 ^ 62 microseconds
pub record IsMoment (t : ℤ) : Type 0 where
  pub low : pos 0 ≤ℤ t
  pub high : t ≤ℤ pos (2 ^ 62)

-- the end of the silence after a discovery at t: 1 s later (RFC 1122 2.3.2.1)
abbrev pub silence_from : ℤ → ℤ
silence_from t = t +ℤ pos 1000000
