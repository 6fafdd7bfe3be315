-- Where the slots of a set are. No public clause cites this module.
use Rattle.std.specs.Prelude.{ℕ, List, slice_set}
use Rattle.fragmentation.specs.Assembly.{Assembly}
use Rattle.fragmentation.specs.declared.place.Place.{Place}
use Rattle.fragmentation.specs.declared.place.Place.TheVariants.{Own, Lent}

module _ {K : Type 0} where
  -- those in the set itself, or in storage that was handed over
  abbrev pub slots_at : Place K → List (Assembly K)
  slots_at (Own slots) = slots
  slots_at (Lent slots) = slots

  -- a place after a write of the slot at an index
  abbrev pub with_slot_at : Place K → ℕ → Assembly K → Place K
  with_slot_at (Own slots) i w = Own (slice_set slots i w)
  with_slot_at (Lent slots) i w = Lent (slice_set slots i w)
