-- What passes a guard, passes unaltered and in order.
use Rattle.std.specs.Prelude.{◌≡◌, ℕ, true, false, pos, List, [], ◌∷◌}
use Rattle.guard.specs.Laws.{Arrival}
use Rattle.guard.specs.Watch.{admits, after_arrival}
use Rattle.guard.specs.declared.watch.Watch.{Watch}

-- a host gets to see these of some frames, as its guard judges one after another
pub data Sees : Watch → (arrived : List Arrival) → (seen : List (List ℕ)) → Watch → Type 0 where
  None : (w : Watch) → Sees w [] [] w
  Passed : (w w' : Watch) (a : Arrival) (later : List Arrival) (seen : List (List ℕ)) →
      admits (pos a.at) a.frame a.hardware a.own w ≡ true →
      Sees (after_arrival (pos a.at) a.frame a.hardware a.own w) later seen w' → Sees w (a ∷ later) (a.frame ∷ seen) w'
  Dropped : (w w' : Watch) (a : Arrival) (later : List Arrival) (seen : List (List ℕ)) →
      admits (pos a.at) a.frame a.hardware a.own w ≡ false →
      Sees (after_arrival (pos a.at) a.frame a.hardware a.own w) later seen w' → Sees w (a ∷ later) seen w'

-- some are left of others, in their order
pub data AreOf : (some all : List (List ℕ)) → Type 0 where
  End : AreOf [] []
  Kept : (f : List ℕ) (some all : List (List ℕ)) → AreOf some all → AreOf (f ∷ some) (f ∷ all)
  Left : (f : List ℕ) (some all : List (List ℕ)) → AreOf some all → AreOf some (f ∷ all)

abbrev pub frames_of : List Arrival → List (List ℕ)
frames_of [] = []
frames_of (a ∷ later) = a.frame ∷ frames_of later

-- The frames that a host sees are of those that arrived, as they were, and in their order
abbrev pub PassInOrder : Type 0
PassInOrder = (w w' : Watch) (arrived : List Arrival) (seen : List (List ℕ)) → Sees w arrived seen w' → AreOf seen (frames_of arrived)

-- Behind a guard that is off it sees all, and the guard stays
abbrev pub OffChangesNothing : Type 0
OffChangesNothing =
    (w w' : Watch) (arrived : List Arrival) (seen : List (List ℕ)) → w.is_on ≡ false → Sees w arrived seen w' →
    (seen ≡ frames_of arrived) × (w' ≡ w)
