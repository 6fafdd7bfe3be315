-- An element of a list that is written over, taken out, or put.
use Rattle.std.proofs.Common.{◌≡◌, ℕ, zero, suc, ◌<◌, List, [], ◌∷◌, ◌++◌, length, drop, refl, ap, ◌∙◌, arith}
use Rattle.std.specs.Prelude.{slice_set}
use Rattle.std.specs.List.{insert, refill, remove}
use Rattle.std.proofs.lemmas.List.{take-append-le}
use Rattle.std.proofs.Math.Seq.{take-length}

module _ {X : Type 0} where
  -- an element that is written over is one that was put among the others
  pub set_is_insert : (xs : List X) (h : ℕ) (x : X) → h < length xs → slice_set xs h x ≡ insert (remove xs h) h x
  set_is_insert [] h x lt = absurd (omega arith)
  set_is_insert (a ∷ xs) zero x lt = refl
  set_is_insert (a ∷ xs) (suc h) x lt = ap (λ l. a ∷ l) (set_is_insert xs h x (omega arith))

  -- the last element is taken out
  pub remove_last : (xs : List X) (x : X) → remove (xs ++ x ∷ []) (length xs) ≡ xs
  remove_last [] x = refl
  remove_last (y ∷ xs) x =
      let n : length (y ∷ xs) ≡ suc (length xs) = omega arith in
      ap (remove ((y ∷ xs) ++ x ∷ [])) n ∙ ap (λ l. y ∷ l) (remove_last xs x)

  -- a slice that was written over whole
  pub refilled : (xs ws : List X) → length ws ≡ length xs → refill (length xs) xs ws ≡ ws
  refilled xs ws n = rw (← n) (take-append-le (length ws) ws (drop (length ws) xs) (omega arith) ∙ take-length ws)
