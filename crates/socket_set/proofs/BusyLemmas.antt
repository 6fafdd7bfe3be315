-- Marks of places, bit by bit.
use lib.Pow.{pow-add}
use Rattle.std.proofs.Common.{◌≡◌, ℕ, ◌+◌, ◌-◌, ◌*◌, ◌/◌, ◌%◌, ◌^◌, ◌<◌, ◌≤◌, List, [], ◌∷◌, length}
use Rattle.std.proofs.Common.{get_or, zero, suc, refl, sym, ap, ◌∙◌, ◌⊎◌, inl, inr, arith, w64}
use Rattle.std.specs.Prelude.{◌≢◌, ◌↔◌, slice_set}
use Rattle.std.specs.Int.{bit_at, trailing_zeros}
use Rattle.std.proofs.Math.Nat.{div-div-eq-div-mul}
use Rattle.std.proofs.lemmas.Bool.{cases_eq, cases_lt}
use Rattle.std.proofs.lemmas.List.{get_or-set_same, get_or-set_other}
use Rattle.std.proofs.lemmas.Nat.Bits.{bit_at-trailing_zeros, bit_at-zero, bit_at_above, bit_at_ones}
use Rattle.socket_set.specs.Details.Busy.{IsClear, mark_of}

zero_one : {n : ℕ} → n ≡ 0 → n ≡ 1 → ⊥
zero_one is isn_t = omega (arith, is, isn_t)

-- the bits of a word that was shifted
pub shifted : (word k j : ℕ) → bit_at (word / 2 ^ k) j ≡ bit_at word (k + j)
shifted word k j = ap (λ (n : ℕ). n % 2) (div-div-eq-div-mul word (2 ^ k) (2 ^ j) ∙ ap (λ (d : ℕ). word / d) (sym (pow-add 2 k j)))

-- words with all bits set
abbrev pub AllOnes : List ℕ → Type 0
AllOnes [] = Unit {0}
AllOnes (word ∷ words) = (word ≡ 18446744073709551615) × AllOnes words

ones_at : (words : List ℕ) (at : ℕ) → AllOnes words → at < length words → get_or words at 0 ≡ 18446744073709551615
ones_at [] at ones within = absurd (omega arith)
ones_at (word ∷ words) zero ones within = ones.0
ones_at (word ∷ words) (suc at) ones within = ones_at words at ones.1 (omega arith)

-- no mark of them is clear
pub none_clear : (words : List ℕ) (i : ℕ) → AllOnes words → length words ≡ 16 → IsClear words i → ⊥
none_clear words i ones all is =
    let marked = is.marked in
    zero_one is.clear (ap (λ (w : ℕ). bit_at w (i % 64)) (ones_at words (i / 64) ones (omega arith)) ∙ bit_at_ones 64 (i % 64) (omega arith))

module _ (words : List ℕ) where
  -- a mark, by its word and its bit
  mark_is : (i at bit : ℕ) → i ≡ 64 * at + bit → bit < 64 → mark_of words i ≡ bit_at (get_or words at 0) bit
  mark_is i at bit is within =
      let word : i / 64 ≡ at = omega arith in
      let place : i % 64 ≡ bit = omega arith in
      rw (word, place) refl

  -- a mark whose bit was set
  pub mark_set : (i word : ℕ) → i / 64 < length words → bit_at word (i % 64) ≡ 1 → IsClear (slice_set words (i / 64) word) i → ⊥
  mark_set i word within one is = zero_one is.clear (ap (λ (w : ℕ). bit_at w (i % 64)) (get_or-set_same words (i / 64) word 0 within) ∙ one)

  -- a mark whose bit was cleared
  pub mark_cleared : (i word : ℕ) → i < 1024 → i / 64 < length words → bit_at word (i % 64) ≡ 0 → IsClear (slice_set words (i / 64) word) i
  mark_cleared i word marked within none =
      record { marked = marked; clear = ap (λ (w : ℕ). bit_at w (i % 64)) (get_or-set_same words (i / 64) word 0 within) ∙ none }

  -- the marks of others, where only one bit of a word may have changed
  mark_other : (k word i : ℕ) → k / 64 < length words → ((j : ℕ) → j < 64 → j ≢ k % 64 → bit_at word j ≡ bit_at (get_or words (k / 64) 0) j) → i ≢ k →
      mark_of (slice_set words (k / 64) word) i ≡ mark_of words i
  mark_other k word i within same other = by (cases_eq (i / 64) (k / 64)) where
    by : ((i / 64 ≡ k / 64) ⊎ (i / 64 ≡ k / 64 → ⊥)) → mark_of (slice_set words (k / 64) word) i ≡ mark_of words i
    by (inl is) =
        let apart : i % 64 ≢ k % 64 = λ equal. other (omega (arith, is, equal)) in
        let bit : bit_at word (i % 64) ≡ bit_at (get_or words (k / 64) 0) (i % 64) = same (i % 64) (omega arith) apart in
        rw is (ap (λ (w : ℕ). bit_at w (i % 64)) (get_or-set_same words (k / 64) word 0 within) ∙ bit)
    by (inr isn_t) = ap (λ (w : ℕ). bit_at w (i % 64)) (get_or-set_other words (k / 64) (i / 64) word 0 isn_t)

  pub others_stay : (k word : ℕ) → k / 64 < length words → ((j : ℕ) → j < 64 → j ≢ k % 64 → bit_at word j ≡ bit_at (get_or words (k / 64) 0) j) →
      (i : ℕ) → i ≢ k → IsClear (slice_set words (k / 64) word) i ↔ IsClear words i
  others_stay k word within same i other =
      let e = mark_other k word i within same other in (
        λ is. record { marked = is.marked; clear = sym e ∙ is.clear },
        λ is. record { marked = is.marked; clear = e ∙ is.clear },
      )

-- what is left of a word from a bit on: the marks of the places from one on
module _ (words : List ℕ) (from at k rest : ℕ) (is : from ≡ 64 * at + k) (bits : (j : ℕ) → bit_at rest j ≡ bit_at (get_or words at 0) (k + j)) where
  -- no bit is left
  pub none_left : (i : ℕ) → at < 16 → rest ≡ 0 → from ≤ i → i < 64 * (at + 1) → IsClear words i
  none_left i within none after before =
      let bit : bit_at (get_or words at 0) (k + (i - from)) ≡ 0 = sym (bits (i - from))
      ∙ ap (λ (w : ℕ). bit_at w (i - from)) none ∙ bit_at-zero (i - from) in
      record { marked = omega arith; clear = mark_is words i at (k + (i - from)) (omega arith) (omega arith) ∙ bit }

  -- the lowest bit that is left
  lowest_within : get_or words at 0 < 2 ^ 64 → 0 < rest → rest < 2 ^ 64 → k + trailing_zeros w64 rest < 64
  lowest_within fits some rest_fits = by (cases_lt (k + trailing_zeros w64 rest) 64) where
    by : ((k + trailing_zeros w64 rest < 64) ⊎ (64 ≤ k + trailing_zeros w64 rest)) → k + trailing_zeros w64 rest < 64
    by (inl within) = within
    by (inr past) =
        let lowest = bit_at-trailing_zeros w64 rest some rest_fits in
        absurd
        (zero_one (bit_at_above (get_or words at 0) 64 (k + trailing_zeros w64 rest) fits past) (sym (bits (trailing_zeros w64 rest)) ∙ lowest.1))

  pub lowest_set : (i : ℕ) → i ≡ from + trailing_zeros w64 rest → get_or words at 0 < 2 ^ 64 → 0 < rest → rest < 2 ^ 64 → IsClear words i → ⊥
  lowest_set i here fits some rest_fits clear =
      let tz = trailing_zeros w64 rest in
      let lowest = bit_at-trailing_zeros w64 rest some rest_fits in
      zero_one (sym (mark_is words i at (k + tz) (omega arith) (lowest_within fits some rest_fits)) ∙ clear.clear) (sym (bits tz) ∙ lowest.1)

  -- the places before it
  pub below_lowest : (i : ℕ) → at < 16 → get_or words at 0 < 2 ^ 64 → 0 < rest → rest < 2 ^ 64 → from ≤ i →
      i < from + trailing_zeros w64 rest → IsClear words i
  below_lowest i within fits some rest_fits after before =
      let lowest = bit_at-trailing_zeros w64 rest some rest_fits in
      let last = lowest_within fits some rest_fits in
      let bit : bit_at (get_or words at 0) (k + (i - from)) ≡ 0 = sym (bits (i - from)) ∙ lowest.2 (i - from) (omega arith) in
      record { marked = omega arith; clear = mark_is words i at (k + (i - from)) (omega arith) (omega arith) ∙ bit }

-- a whole word is left from its first bit on
pub all_of_it : (word j : ℕ) → bit_at word j ≡ bit_at word (0 + j)
all_of_it word j = let same : j ≡ 0 + j = omega arith in ap (bit_at word) same

-- the places before a word and those from it on
pub before_or_from : {A : Type 0} (i first : ℕ) → (i < first → A) → (first ≤ i → A) → A
before_or_from {A} i first before from = by (cases_lt i first) where
  by : ((i < first) ⊎ (first ≤ i)) → A
  by (inl is) = before is
  by (inr is) = from is
