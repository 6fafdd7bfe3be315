-- Masks of places.
use Rattle.std.proofs.Common.{◌≡◌, ◌≢◌, ◌<◌, ◌≤◌, inl, inr, ℕ, suc, ◌+◌, ◌-◌, ◌*◌, ◌/◌, ◌%◌, ◌^◌, true, false, refl, sym, ap, ◌∙◌, arith}
use Rattle.std.specs.Prelude.{Some, ◌==◌}
use Rattle.std.specs.Int.{bit_at, w32}
use Rattle.std.specs.Int.RustNames.{bit_and, bit_or}
use Rattle.std.proofs.Math.Nat.{pow-suc}
use Rattle.std.proofs.lemmas.Bool.{cases_lt, eq-eqb, eqb-false, eqb-true}
use Rattle.std.proofs.lemmas.Nat.{div_below, le-div, leading_top, pow_pos}
use Rattle.std.proofs.lemmas.Nat.Bits.{bit_at-lt, bit_at-zero, bit_at_above, bit_at_and, bit_at_set_other, bit_at_set_same, same_from_bits}
use Rattle.std.specs.Int.Count.{count_leading_zeros}
use Rattle.iface_tables.specs.RouteTrie.{IsLastOf, has_place}

-- no place
pub empty_has : (k : ℕ) → has_place 0 k ≡ false
empty_has k = ap (λ (n : ℕ). n == 1) (bit_at-zero k)

pub empty_is : (mask : ℕ) → ((k : ℕ) → has_place mask k ≡ false) → mask ≡ 0
empty_is mask none = same_from_bits mask 0 (λ k. unset k ∙ sym (bit_at-zero k))
  where
    unset : (k : ℕ) → bit_at mask k ≡ 0
    unset k = let lt = bit_at-lt mask k in let n = eqb-false (bit_at mask k) 1 (none k) in omega (arith, lt, n)

-- a place more
pub more_has : (mask place : ℕ) → place < 32 → has_place (bit_or mask (1 * 2 ^ place % 2 ^ 32)) place ≡ true
more_has mask place within = eq-eqb _ _ (bit_at_set_same w32 mask place within)

pub more_keeps : (mask place k : ℕ) → place < 32 → k ≢ place → has_place (bit_or mask (1 * 2 ^ place % 2 ^ 32)) k ≡ has_place mask k
more_keeps mask place k within other = ap (λ (n : ℕ). n == 1) (bit_at_set_other w32 mask place within k other)

pub more_rest : (mask place : ℕ) → place < 32 → ((k : ℕ) → place ≤ k → has_place mask k ≡ false) → (k : ℕ) → place + 1 ≤ k
    → has_place (bit_or mask (1 * 2 ^ place % 2 ^ 32)) k ≡ false
more_rest mask place within rest k past = more_keeps mask place k within (omega arith) ∙ rest k (omega arith)

-- what both of two masks have
pub both_have : (a b k : ℕ) → has_place a k ≡ true → has_place b k ≡ true → has_place (bit_and a b) k ≡ true
both_have a b k h i = eq-eqb _ _ (bit_at_and a b k ∙ (let x = eqb-true (bit_at a k) 1 h in let y = eqb-true (bit_at b k) 1 i in rw (x, y) refl))

pub each_has : (a b k : ℕ) → has_place (bit_and a b) k ≡ true → (has_place a k ≡ true) × (has_place b k ≡ true)
each_has a b k h =
    let m = sym (bit_at_and a b k) ∙ eqb-true (bit_at (bit_and a b) k) 1 h in
    let x = bit_at-lt a k in
    let y = bit_at-lt b k in
    (eq-eqb _ _ (omega (arith, m, x, y)), eq-eqb _ _ (omega (arith, m, x, y)))

-- the last place by the count of leading zeros
pub last_is : (mask place : ℕ) → mask ≢ 0 → mask < 2 ^ 32 → place ≡ 31 - count_leading_zeros 32 mask → IsLastOf mask (Some place)
last_is mask place some fits is =
    let top = leading_top 32 mask (omega arith) fits in
    let at : place ≡ top.0 = omega (arith, is, top.1) in
    rw at (set mask top.0 top.2 top.3, below mask top.0 top.3)
  where
    set : (n j : ℕ) → 2 ^ j ≤ n → n < 2 ^ suc j → has_place n j ≡ true
    set n j low high =
        let l : 1 ≤ n / 2 ^ j = le-div 1 n (2 ^ j) (pow_pos j) (omega arith) in
        let h : n / 2 ^ j < 2 = div_below n (2 ^ j) 2 (pow_pos j) (let e = pow-suc 2 j in omega (arith, e)) in
        let e : n / 2 ^ j ≡ 1 = omega arith in
        rw e refl

    below : (n j : ℕ) → n < 2 ^ suc j → (k : ℕ) → has_place n k ≡ true → k ≤ j
    below n j high k h =
        elim (cases_lt j k) [
          | inl lt ↦ absurd (let z = bit_at_above n (suc j) k high (omega arith) in let o = eqb-true (bit_at n k) 1 h in omega (arith, z, o))
          | inr le ↦ le
        ]
