-- Who holds each of some slots, and until when.
use Rattle.std.specs.Prelude.{ℕ, zero, suc, ◌+◌, ℤ, Bool, is_some, length, if◌then◌else◌, List, [], ◌∷◌, Option, Some, None}
use Rattle.fragmentation.specs.Assembly.{Assembly, slot_after_free}
use Rattle.fragmentation.specs.declared.holder.Holder.{Holder}

-- how many of the first n numbers have a property
abbrev pub count_below : (ℕ → Bool) → ℕ → ℕ
count_below p zero = 0
count_below p (suc n) = count_below p n + (if p n then 1 else 0)

module _ {K : Type 0} where
  -- the holder with this key, if there is one
  abbrev pub holder_by : ℤ → Option K → Option (Holder K)
  holder_by ends None = None
  holder_by ends (Some key) = Some (record { key = key; expires_at = ends })

  -- who holds a slot, if it is taken
  abbrev pub holder_of : Assembly K → Option (Holder K)
  holder_of s = holder_by s.expires_at s.key

  -- who holds the slot at an index, if there is one, and it is taken
  abbrev pub holder_at : ℕ → List (Assembly K) → Option (Holder K)
  holder_at i [] = None
  holder_at zero (s ∷ ss) = holder_of s
  holder_at (suc i) (s ∷ ss) = holder_at i ss

  -- the slots after the one at an index was freed
  abbrev pub released_at : ℕ → List (Assembly K) → List (Assembly K)
  released_at i [] = []
  released_at zero (s ∷ ss) = slot_after_free s ∷ ss
  released_at (suc i) (s ∷ ss) = s ∷ released_at i ss

  -- how many of some slots are taken
  abbrev pub taken_of : List (Assembly K) → ℕ
  taken_of ss = count_below (λ i. is_some (holder_at i ss)) (length ss)
