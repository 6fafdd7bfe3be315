-- The place of the first separator.
use Rattle.std.proofs.Common.{◌≡◌, ◌≢◌, ℕ, ◌<◌, ◌==◌, List, length, get_or, arith}
use Rattle.std.specs.List.{position_or_len}
use Rattle.std.proofs.lemmas.Bool.{eq-eqb, ne_eqb}
use Rattle.std.proofs.lemmas.List.Sums.{position_or_len_is}

pub first_at : (s : ℕ) (xs : List ℕ) (i : ℕ) →
    i < length xs → get_or xs i 0 ≡ s → ((k : ℕ) → k < i → get_or xs k 0 ≢ s) → position_or_len (λ x. x == s) xs ≡ i
first_at s xs i inside here before =
    position_or_len_is (λ x. x == s) xs i 0 (omega arith) (λ k below. ne_eqb (get_or xs k 0) s (before k below)) (λ w. eq-eqb (get_or xs i 0) s here)

pub none_at : (s : ℕ) (xs : List ℕ) → ((k : ℕ) → k < length xs → get_or xs k 0 ≢ s) → position_or_len (λ x. x == s) xs ≡ length xs
none_at s xs none =
    position_or_len_is (λ x. x == s) xs (length xs) 0 (omega arith) (λ k below. ne_eqb (get_or xs k 0) s (none k below)) (λ w. absurd (omega arith))
