-- Places of a set.
use Rattle.std.proofs.Common.{◌≡◌, ◌<◌, ◌≤◌, ◌+◌, ℕ, suc, Bool, true, false, List, [], ◌∷◌, ◌++◌}
use Rattle.std.proofs.Common.{take, length, slice_set, refl, ap, ◌∙◌, arith}
use Rattle.std.proofs.lemmas.Bool.Decides.{nat_tests}
use Rattle.std.proofs.lemmas.List.{take_all, drop_all, append-nil}
use Rattle.std.specs.List.{refill}
use Rattle.std.specs.Prelude.{cond, is_none, ◌==◌}
use Rattle.fragmentation.specs.Slots.{slot_room_over}
use Rattle.fragmentation.specs.Details.Place.{slots_at, with_slot_at}
use Rattle.fragmentation.specs.declared.place.Place.{Place}
use Rattle.fragmentation.specs.declared.place.Place.TheVariants.{Own, Lent}
use Rattle.fragmentation.specs.Assembly.{Assembly, index_of_key, free_slot, slot_for, has_key}

pub choose_keyed : (k n f : ℕ) → k < n → cond (k == n) f k ≡ k
choose_keyed k n f h = grind (arith, nat_tests)

pub choose_free : (k n f : ℕ) → k ≡ n → cond (k == n) f k ≡ f
choose_free k n f h = grind (arith, nat_tests)

module _ {K : Type 0} where
  pub index_of_key-le : (eq : K → K → Bool) (k : K) (ss : List (Assembly K)) → index_of_key eq k ss ≤ length ss
  index_of_key-le eq k [] = omega arith
  index_of_key-le eq k (s ∷ ss) =
      elim (has_key eq k s.key) as (λ b. cond b 0 (index_of_key eq k ss + 1) ≤ suc (length ss)) [
        | true ↦ omega arith
        | false ↦ let h = index_of_key-le eq k ss in omega arith
      ]

  pub free_slot-le : (ss : List (Assembly K)) → free_slot ss ≤ length ss
  free_slot-le [] = omega arith
  free_slot-le (s ∷ ss) =
      elim (is_none s.key) as (λ b. cond b 0 (free_slot ss + 1) ≤ suc (length ss)) [
        | true ↦ omega arith
        | false ↦ let h = free_slot-le ss in omega arith
      ]

  -- a place is at most the length
  pub slot_for-le : (eq : K → K → Bool) (k : K) (ss : List (Assembly K)) → slot_for eq k ss ≤ length ss
  slot_for-le eq k ss = elim (index_of_key eq k ss == length ss) as (λ b. cond b (free_slot ss) (index_of_key eq k ss) ≤ length ss) [
    | true ↦ free_slot-le ss
    | false ↦ index_of_key-le eq k ss
  ]

-- a list that is written anew through a slice of it
pub refilled : {A : Type 0} (xs ws : List A) → length ws ≡ length xs → refill (length xs) xs ws ≡ ws
refilled xs ws e = ap (take (length xs)) (ap (λ ys. ws ++ ys) (drop_all (length ws) xs (omega arith)) ∙ append-nil ws)
    ∙ take_all (length xs) ws (omega arith)

-- a write of a slot, wherever the slots are
pub slots_at-with_slot_at : {K : Type 0} (p : Place K) (i : ℕ) (w : Assembly K) → slots_at (with_slot_at p i w) ≡ slice_set (slots_at p) i w
slots_at-with_slot_at (Own slots) i w = refl
slots_at-with_slot_at (Lent slots) i w = refl

-- storage that has capacity has as many slots
pub slot_room_over-some : (n : ℕ) → (n ≡ 0 → ⊥) → n ≡ slot_room_over n
slot_room_over-some n h = grind (arith, nat_tests)
