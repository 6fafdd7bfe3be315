-- What C writes of a socket's options.
use Rattle.std.specs.Prelude.{ℕ, ◌==◌, Option, Some, None, if◌then◌else◌}

-- a hop limit as C writes it: 0 is none
abbrev pub hop_limit_in : ℕ → Option ℕ
hop_limit_in n = if n == 0 then None else Some n
