-- The last address of a network, by setting the bits behind its prefix.
use Rattle.std.proofs.Common.{◌≡◌, ℕ, ◌+◌, ◌-◌, ◌*◌, ◌/◌, ◌%◌, ◌<◌, ◌≤◌, ◌^◌, suc, ap, sym, ◌∙◌, mul_assoc, arith}
use Rattle.std.specs.Prelude.{bit_or}
use Rattle.std.proofs.lemmas.Nat.{pow_pos, shr_split, or_lt, or_block, le_or_r, mod_below}
use Rattle.std.proofs.lemmas.Nat.Bits.{ones_shr}
use Rattle.std.specs.Int.Bits.{or_zero_r}
use Rattle.ip_address.specs.Prefixes.{last_of}

-- to set the low k bits of a number
or_ones : (a k : ℕ) → bit_or a (2 ^ k - 1) ≡ a / 2 ^ k * 2 ^ k + (2 ^ k - 1)
or_ones a k =
    let some = pow_pos k in
    let low : a % 2 ^ k < 2 ^ k = mod_below a (2 ^ k) some in
    let ones : 2 ^ k - 1 < 2 ^ k = omega (arith, some) in
    let parts : bit_or (a / 2 ^ k * 2 ^ k + a % 2 ^ k) (0 * 2 ^ k + (2 ^ k - 1)) ≡ bit_or (a / 2 ^ k) 0 * 2 ^ k + bit_or (a % 2 ^ k) (2 ^ k - 1) =
    or_block k (a / 2 ^ k) 0 (a % 2 ^ k) (2 ^ k - 1) low ones in
    let all : bit_or (a % 2 ^ k) (2 ^ k - 1) ≡ 2 ^ k - 1 = omega (arith, or_lt k (a % 2 ^ k) (2 ^ k - 1) low ones, le_or_r (a % 2 ^ k) (2 ^ k - 1)) in
    let high : bit_or (a / 2 ^ k) 0 ≡ a / 2 ^ k = or_zero_r (a / 2 ^ k) in
    let one : 0 * 2 ^ k + (2 ^ k - 1) ≡ 2 ^ k - 1 = omega arith in
    rw (shr_split a k, one, high, all) at parts

pub or-max : (a p : ℕ) → p ≤ 32 → bit_or a (4294967295 / 2 ^ p) ≡ last_of 32 p a
or-max a p le = rw (ones_shr 32 p le) (or_ones a (32 - p))

-- where two bits or more are set so, the number ends in two ones
pub ends_in_ones : (a p : ℕ) → p < 31 → last_of 32 p a % 4 ≡ 3
ends_in_ones a p lt =
    let m = 2 ^ (30 - p) in
    let some = pow_pos (30 - p) in
    let bits : 32 - p ≡ suc (suc (30 - p)) = omega (arith, lt) in
    let size : 2 ^ (32 - p) ≡ m * 4 = ap (λ (n : ℕ). 2 ^ n) bits ∙ omega arith in
    let q = a / 2 ^ (32 - p) in
    let whole : q * 2 ^ (32 - p) ≡ q * m * 4 = ap (λ (n : ℕ). q * n) size ∙ sym (mul_assoc q m 4) in
    omega (arith, some, size, whole)

pub ruleset last_address = (or-max)
