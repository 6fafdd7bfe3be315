-- Leading bits, and division.
use Rattle.std.proofs.Common.{◌≡◌, ℕ, zero, suc, ◌+◌, ◌-◌, ◌/◌, ◌%◌, ◌<◌, ◌≤◌, ◌^◌, List, ◌∷◌, take, refl, sym, ap, ◌∙◌, pow-add, arith}
use Rattle.std.proofs.Math.Nat.{div-div-eq-div-mul, div-eq_of_lt, pow-suc, sub-zero}
use Rattle.std.proofs.lemmas.Bool.{eq-eqb, eqb-true}
use Rattle.ip_address.specs.Prefixes.{bits, AgreesByBits}

halved : (a k : ℕ) → a / 2 ^ suc k ≡ a / 2 ^ k / 2
halved a k = rw (pow-suc, ← div-div-eq-div-mul) refl

head_of : (x y : ℕ) (xs ys : List ℕ) → x ∷ xs ≡ y ∷ ys → x ≡ y
head_of x y xs ys e = cc

tail_of : (x y : ℕ) (xs ys : List ℕ) → x ∷ xs ≡ y ∷ ys → xs ≡ ys
tail_of x y xs ys e = cc

-- numbers that agree above w bits, and in the first n of the w bits below, agree above the w - n bits
pub agree_from_bits : (w n a b : ℕ) → n ≤ w → a / 2 ^ w ≡ b / 2 ^ w → take n (bits w a) ≡ take n (bits w b) → a / 2 ^ (w - n) ≡ b / 2 ^ (w - n)
unfolding bits
agree_from_bits w zero a b le high e = rw sub-zero high
agree_from_bits zero (suc n) a b le high e = absurd (omega arith)
agree_from_bits (suc w) (suc n) a b le high e =
    let h : a / 2 ^ w % 2 ≡ b / 2 ^ w % 2 = head_of _ _ _ _ e in
    let more : a / 2 ^ w ≡ b / 2 ^ w = omega (arith, h, high, halved a w, halved b w) in
    let less : suc w - suc n ≡ w - n = omega arith in
    rw less (agree_from_bits w n a b (omega arith) more (tail_of _ _ _ _ e))

above : (a j k : ℕ) → a / 2 ^ (j + k) ≡ a / 2 ^ j / 2 ^ k
above a j k = rw (pow-add, ← div-div-eq-div-mul) refl

pub bits_from_agree : (w n a b : ℕ) → n ≤ w → a / 2 ^ (w - n) ≡ b / 2 ^ (w - n) → take n (bits w a) ≡ take n (bits w b)
unfolding bits
bits_from_agree w zero a b le e = refl
bits_from_agree zero (suc n) a b le e = refl
bits_from_agree (suc w) (suc n) a b le e =
    let less : suc w - suc n ≡ w - n = omega arith in
    let same : a / 2 ^ (w - n) ≡ b / 2 ^ (w - n) = rw less at e in
    let split : (w - n) + n ≡ w = omega arith in
    let here : a / 2 ^ w ≡ b / 2 ^ w = rw (← split) (above a (w - n) n ∙ ap (λ (q : ℕ). q / 2 ^ n) same ∙ sym (above b (w - n) n)) in
    rw (here, bits_from_agree w n a b (omega arith) same) refl

none : (a w : ℕ) → a < 2 ^ w → a / 2 ^ w ≡ 0
none a w lt = div-eq_of_lt lt

pub agrees_by_bits : AgreesByBits
agrees_by_bits w n a b le la lb = (
  λ yes. bits_from_agree w n a b le (eqb-true _ _ yes),
  λ same. eq-eqb _ _ (agree_from_bits w n a b le (rw (none a w la, none b w lb) refl) same),
)
