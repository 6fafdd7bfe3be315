-- Addresses of six octets, by their octets.
use Rattle.std.proofs.Common.{◌≡◌, ℕ, ◌+◌, ◌*◌, ◌<◌, nat_eq, List, [], ◌∷◌, length, slice_index_or, refl, arith}
use Rattle.std.proofs.lemmas.Bool.Decides.{nat_tests}
use Rattle.std.specs.Str.{bytes_eq}

-- a list of six
pub record Six (xs : List ℕ) : Type 0 where
  pub a : ℕ
  pub b : ℕ
  pub c : ℕ
  pub d : ℕ
  pub e : ℕ
  pub f : ℕ
  pub is : xs ≡ a ∷ b ∷ c ∷ d ∷ e ∷ f ∷ []

pub six : (xs : List ℕ) → length xs ≡ 6 → Six xs
six [] h = absurd (omega arith)
six (a ∷ []) h = absurd (omega arith)
six (a ∷ b ∷ []) h = absurd (omega arith)
six (a ∷ b ∷ c ∷ []) h = absurd (omega arith)
six (a ∷ b ∷ c ∷ d ∷ []) h = absurd (omega arith)
six (a ∷ b ∷ c ∷ d ∷ e ∷ []) h = absurd (omega arith)
six (a ∷ b ∷ c ∷ d ∷ e ∷ f ∷ []) h = record { a = a; b = b; c = c; d = d; e = e; f = f; is = refl }
six (a ∷ b ∷ c ∷ d ∷ e ∷ f ∷ g ∷ xs) h = absurd (omega arith)

of_octets : (a b c d e f a' b' c' d' e' f' m p q : ℕ) → a < 256 → b < 256 → c < 256 → d < 256 → e < 256 → f < 256 → a' < 256 →
    b' < 256 → c' < 256 → d' < 256 → e' < 256 → f' < 256 →
    m ≡ a + b * 256 + c * 65536 + d * 16777216 → m ≡ a' + b' * 256 + c' * 65536 + d' * 16777216 → p ≡ e + f * 256 → q ≡ e' + f' * 256 →
    nat_eq p q ≡ bytes_eq (a ∷ b ∷ c ∷ d ∷ e ∷ f ∷ []) (a' ∷ b' ∷ c' ∷ d' ∷ e' ∷ f' ∷ [])
of_octets a b c d e f a' b' c' d' e' f' m p q ha hb hc hd he hf ha' hb' hc' hd' he' hf' first second third fourth =
    grind (arith, nat_tests, ha, hb, hc, hd, he, hf, ha', hb', hc', hd', he', hf', first, second, third, fourth)

-- they are the same exactly if the two numbers are that they are read as, of four octets and of two
pub same : (xs ys : List ℕ) (m p q : ℕ) → length xs ≡ 6 → length ys ≡ 6 → ((i : ℕ) → slice_index_or xs i 0 < 256) →
    ((i : ℕ) → slice_index_or ys i 0 < 256) →
    m ≡ slice_index_or xs 0 0 + slice_index_or xs 1 0 * 256 + slice_index_or xs 2 0 * 65536 + slice_index_or xs 3 0 * 16777216 →
    m ≡ slice_index_or ys 0 0 + slice_index_or ys 1 0 * 256 + slice_index_or ys 2 0 * 65536 + slice_index_or ys 3 0 * 16777216 →
    p ≡ slice_index_or xs 4 0 + slice_index_or xs 5 0 * 256 → q ≡ slice_index_or ys 4 0 + slice_index_or ys 5 0 * 256 → nat_eq p q ≡ bytes_eq xs ys
same xs ys m p q x_six y_six hx hy first second third fourth =
    let x = six xs x_six in
    let y = six ys y_six in
    let hx' : (i : ℕ) → slice_index_or (x.a ∷ x.b ∷ x.c ∷ x.d ∷ x.e ∷ x.f ∷ []) i 0 < 256 = rw x.is at hx in
    let hy' : (i : ℕ) → slice_index_or (y.a ∷ y.b ∷ y.c ∷ y.d ∷ y.e ∷ y.f ∷ []) i 0 < 256 = rw y.is at hy in
    rw (x.is, y.is) (of_octets x.a x.b x.c x.d x.e x.f y.a y.b y.c y.d y.e y.f m p q (hx' 0) (hx' 1) (hx' 2) (hx' 3) (hx' 4) (hx' 5)
    (hy' 0) (hy' 1) (hy' 2) (hy' 3) (hy' 4) (hy' 5)
    (rw x.is at first) (rw y.is at second) (rw x.is at third) (rw y.is at fourth))
