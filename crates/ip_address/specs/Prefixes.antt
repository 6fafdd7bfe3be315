-- Prefixes of numbers with a fixed number of bits.
use Rattle.std.specs.Prelude.{◌≡◌, ◌↔◌, ℕ, zero, suc, ◌+◌, ◌*◌, ◌-◌, ◌/◌, ◌%◌, ◌^◌, ◌<◌}
use Rattle.std.specs.Prelude.{◌≤◌, ◌==◌, nat_eq, min, Bool, true, List, [], ◌∷◌, take}
use Rattle.std.specs.List.{common_prefix_len}

-- the w bits of a number, the highest first
unfoldable pub bits : ℕ → ℕ → List ℕ
bits zero a = []
bits (suc w) a = a / 2 ^ w % 2 ∷ bits w a

-- the first n of w bits agree: the two numbers are equal without their other bits
abbrev pub agrees : ℕ → ℕ → ℕ → ℕ → Bool
agrees w n a b = a / 2 ^ (w - n) == b / 2 ^ (w - n)

-- the number of leading bits of w that agree, at most n
abbrev pub common_bits : ℕ → ℕ → ℕ → ℕ → ℕ
common_bits w a b n = min (common_prefix_len nat_eq (bits w a) (bits w b)) n

-- the number whose first n of w bits are those of a, and whose others are ones
abbrev pub last_of : ℕ → ℕ → ℕ → ℕ
last_of w n a = a / 2 ^ (w - n) * 2 ^ (w - n) + (2 ^ (w - n) - 1)

-- the first n bits agree exactly if the two lists of bits begin alike
abbrev pub AgreesByBits : Type 0
AgreesByBits = (w n a b : ℕ) → n ≤ w → a < 2 ^ w → b < 2 ^ w →
    (agrees w n a b ≡ true) ↔ (take n (bits w a) ≡ take n (bits w b))
