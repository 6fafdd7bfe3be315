-- The Internet checksum (RFC 1071).
use Rattle.std.specs.Prelude.{◌≡◌, ℕ, zero, suc, ◌+◌, ◌-◌, ◌*◌, ◌/◌, ◌%◌, ◌<◌, ◌^◌, List, [], ◌∷◌}

-- the sum of the 16-bit words of two octets each, the first octet high; a last odd octet is the high half of a word
unfoldable pub word_sum : List ℕ → ℕ
word_sum [] = 0
word_sum (a ∷ []) = a * 256
word_sum (a ∷ b ∷ rest) = a * 256 + b + word_sum rest

-- a sum with its carries folded in: 0 for 0, otherwise its remainder modulo 65535, taken from 1 to 65535
abbrev pub folded_sum : ℕ → ℕ
folded_sum zero = 0
folded_sum (suc n) = n % 65535 + 1

-- the ones' complement of the folded sum
abbrev pub checksum_of : List ℕ → ℕ
checksum_of octets = 65535 - folded_sum (word_sum octets)

-- folding is adding the carries to the lower 16 bits, until there are none
abbrev pub FoldsCarries : Type 0
FoldsCarries = (n : ℕ) → (n < 2 ^ 16 → folded_sum n ≡ n) × (folded_sum n ≡ folded_sum (n / 2 ^ 16 + n % 2 ^ 16))
