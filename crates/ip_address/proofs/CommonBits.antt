-- How many leading bits agree.
use Rattle.std.proofs.Common.{◌≡◌, ℕ, zero, suc, ◌+◌, ◌*◌, ◌/◌, ◌%◌, ◌<◌, ◌≤◌, ◌^◌, ◌≢◌}
use Rattle.std.proofs.Common.{Bool, true, false, cond, eqb, refl, sym, ap, ◌∙◌, one-add, pow-suc, arith}
use Rattle.std.specs.Int.Bits.{bit_xor}
use Rattle.std.specs.Int.Count.{count_leading_zeros}
use Rattle.std.specs.List.{common_prefix_len}
use Rattle.std.proofs.lemmas.Nat.{mod-pow-add, xor_lt, mod_below}
use Rattle.std.proofs.Math.Nat.{mod-eq_of_lt}
use Rattle.std.proofs.Math.Pow.{pow_pos}
use lib.Count.{leading_unique}
use Rattle.std.proofs.lemmas.Nat.Bits.{bit_at_xor}
use Rattle.std.proofs.lemmas.Bool.{eqb-true, eqb-false}
use Rattle.ip_address.specs.Prefixes.{bits}

-- the highest of w + 1 bits, and the others
split : (x w d : ℕ) → x / 2 ^ w % 2 ≡ d → x % 2 ^ suc w ≡ d * 2 ^ w + x % 2 ^ w
split x w d e = rw (← one-add w) (mod-pow-add x 1 w ∙ ap (λ (t : ℕ). t * 2 ^ w + x % 2 ^ w) e)

agreed : ℕ → ℕ → ℕ → ℕ
agreed w a b = common_prefix_len eqb (bits w a) (bits w b)

-- r bits agree before x, of w bits, has its first 1
record Leads (w r x : ℕ) : Type 0 where
  after : ℕ
  len : r + after ≡ w
  below : x < 2 ^ after
  above : 2 ^ after ≤ 2 * x + 1

step_by : (w a b : ℕ) (t : Bool) → eqb (a / 2 ^ w % 2) (b / 2 ^ w % 2) ≡ t → Leads w (agreed w a b) (bit_xor a b % 2 ^ w) →
    Leads (suc w) (cond t (1 + agreed w a b) 0) (bit_xor a b % 2 ^ suc w)
step_by w a b true e h =
    let same : a / 2 ^ w % 2 ≡ b / 2 ^ w % 2 = eqb-true _ _ e in
    let bit : bit_xor a b / 2 ^ w % 2 ≡ 0 = bit_at_xor a b w ∙ omega (arith, same) in
    let x : bit_xor a b % 2 ^ suc w ≡ bit_xor a b % 2 ^ w = omega (arith, split (bit_xor a b) w 0 bit) in
    rw x (record { after = h.after; len = omega (arith, h.len); below = h.below; above = h.above })
step_by w a b false e h =
    let other : a / 2 ^ w % 2 ≢ b / 2 ^ w % 2 = eqb-false _ _ e in
    let bit : bit_xor a b / 2 ^ w % 2 ≡ 1 = bit_at_xor a b w ∙ omega (arith, other) in
    let x : bit_xor a b % 2 ^ suc w ≡ 2 ^ w + bit_xor a b % 2 ^ w = omega (arith, split (bit_xor a b) w 1 bit) in
    let low : bit_xor a b % 2 ^ w < 2 ^ w = mod_below (bit_xor a b) (2 ^ w) (pow_pos w) in
    let twice : 2 ^ suc w ≡ 2 ^ w * 2 = pow-suc 2 w in
    record { after = suc w; len = omega arith; below = omega (arith, twice, x, low); above = omega (arith, twice, x, low) }

leads : (w a b : ℕ) → Leads w (agreed w a b) (bit_xor a b % 2 ^ w)
unfolding agreed bits
leads zero a b = record { after = 0; len = refl; below = omega arith; above = omega arith }
leads (suc w) a b = step_by w a b (eqb (a / 2 ^ w % 2) (b / 2 ^ w % 2)) refl (leads w a b)

-- the bits that agree are those before the first 1 of the exclusive or
pub leading_zeros_xor : (w a b : ℕ) → a < 2 ^ w → b < 2 ^ w → count_leading_zeros w (bit_xor a b) ≡ common_prefix_len eqb (bits w a) (bits w b)
unfolding agreed
leading_zeros_xor w a b la lb =
    let h = leads w a b in
    let x : bit_xor a b % 2 ^ w ≡ bit_xor a b = mod-eq_of_lt (xor_lt w a b la lb) in
    let below : bit_xor a b < 2 ^ h.after = rw x at h.below in
    let above : 2 ^ h.after ≤ 2 * bit_xor a b + 1 = rw x at h.above in
    sym (leading_unique w (bit_xor a b) (agreed w a b) h.after h.len below above)

pub ruleset common = (leading_zeros_xor)
