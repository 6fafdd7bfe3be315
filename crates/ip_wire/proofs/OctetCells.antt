-- Octets at places of a list.
use Rattle.std.proofs.Common.{◌≡◌, ℕ, zero, suc, ◌+◌, ◌*◌, ◌/◌, ◌%◌, ◌<◌, ◌≤◌, List, [], ◌∷◌}
use Rattle.std.proofs.Common.{length, get_or, take, drop, refl, ap, ◌∙◌, add-one, arith}
use Rattle.std.proofs.Math.Seq.{drop-cons}
use Rattle.std.specs.Int.{w16, w32, to_be_bytes}

-- n elements from a place on
unfoldable pub cells : ℕ → ℕ → List ℕ → List ℕ
cells zero i xs = []
cells (suc n) i xs = get_or xs i 0 ∷ cells n (i + 1) xs

pub take-cells : (n i : ℕ) (xs : List ℕ) → i + n ≤ length xs → take n (drop i xs) ≡ cells n i xs
unfolding cells
take-cells zero i xs h = refl
take-cells (suc n) i xs h =
    let lt : i < length xs = omega arith in
    let here : take (suc n) (drop i xs) ≡ get_or xs i 0 ∷ take n (drop (i + 1) xs) = rw (add-one, drop-cons xs i 0) refl in
    here ∙ ap (λ (t : List ℕ). get_or xs i 0 ∷ t) (take-cells n (i + 1) xs (omega arith))

-- two octets are the number that they write, and so are four
pub two_octets : (a b : ℕ) → a < 256 → b < 256 → to_be_bytes w16 (a * 256 + b) ≡ a ∷ b ∷ []
two_octets a b la lb =
    let high : (a * 256 + b) / 256 % 256 ≡ a = omega arith in
    let low : (a * 256 + b) % 256 ≡ b = omega arith in
    rw (high, low) refl

pub four_octets : (a b c d : ℕ) → a < 256 → b < 256 → c < 256 → d < 256 →
    to_be_bytes w32 (a * 16777216 + b * 65536 + c * 256 + d) ≡ a ∷ b ∷ c ∷ d ∷ []
four_octets a b c d la lb lc ld =
    let first : (a * 16777216 + b * 65536 + c * 256 + d) / 16777216 % 256 ≡ a = omega arith in
    let second : (a * 16777216 + b * 65536 + c * 256 + d) / 65536 % 256 ≡ b = omega arith in
    let third : (a * 16777216 + b * 65536 + c * 256 + d) / 256 % 256 ≡ c = omega arith in
    let fourth : (a * 16777216 + b * 65536 + c * 256 + d) % 256 ≡ d = omega arith in
    rw (first, second, third, fourth) refl
