-- Hex digits that fit into a buffer.
use Rattle.std.specs.Prelude.{◌≡◌, ◌≤◌, ◌<◌, ◌*◌, ◌%◌, ℕ, List, length}
use Rattle.std.specs.List.{AllPass}
use Rattle.hex.specs.Hex.{is_hex_digit}

-- an even number of hex digits, at least two, for at most this many octets
pub record IsHexUpTo (room : ℕ) (digits : List ℕ) : Type 0 where
  pub some : 0 < length digits
  pub even : length digits % 2 ≡ 0
  pub fit : length digits ≤ 2 * room
  pub valid : AllPass is_hex_digit digits
