-- Which slots the assemblers of a set stand for.
use Rattle.std.specs.Prelude.{◌≡◌, ℕ, Bool, true, List, [], ◌∷◌, ◌++◌, Option, Some, None, length, slice_index, if◌then◌else◌}
use Rattle.std.specs.FinMap as map
use Rattle.net_base.specs.Ranges.{covered}
use Rattle.fragmentation.specs.declared.key.FragKey.{FragKey}
use Rattle.fragmentation.specs.Fragments.{Fragment, Got, is_covered, octet_at, keeps_few}
use Rattle.fragmentation.specs.Slots.{Slot, Held, Slots}
use Rattle.fragmentation.specs.Assembly.{Assembly}

-- the fragment with these octets at an offset
abbrev pub fragment : ℕ → List ℕ → Bool → Fragment
fragment offset octets is_last = record { offset = offset; octets = octets; is_last = is_last }

-- a fragment is kept if it makes at most four ranges; it sets no total
abbrev pub with_kept : Got → Fragment → Got
with_kept g f = record g { fragments = if keeps_few g.fragments f then g.fragments ++ f ∷ [] else g.fragments }

abbrev pub with_total : Got → ℕ → Got
with_total g n = record g { total = Some n }

-- the total is the one that was set, the offsets are those of the fragments, and at each is the octet of the
-- last of them that has one
pub record Gathers {K : Type 0} (s : Assembly K) (g : Got) : Type 0 where
  pub total : s.total ≡ g.total
  pub places : (p : ℕ) → covered s.ranges p ≡ is_covered g.fragments p
  pub octets : (p : ℕ) → is_covered g.fragments p ≡ true → slice_index s.octets p ≡ octet_at g.fragments p

module _ {K : Type 0} where
  pub record StandsFor (s : Assembly K) (slot : Slot) : Type 0 where
    pub ends : s.expires_at ≡ slot.ends
    pub got : Gathers s slot.got

  -- the key has a slot among those taken, for which s stands
  pub record StandsAt (s : Assembly K) (k : FragKey) (held : Held) : Type 0 where
    pub slot : Slot
    pub found : map.get held k ≡ Some slot
    pub stands : StandsFor s slot

module _ {K : Type 0} (key_of : K → FragKey) where
  -- a taken assembler stands for the slot of its key, and the others for the rest of the slots; a
  -- free one stands for none
  abbrev pub StandsBefore : Assembly K → Option K → (Held → Type 0) → Held → Type 0
  StandsBefore s None Others held = Others held
  StandsBefore s (Some k) Others held = StandsAt s (key_of k) held × Others (map.remove held (key_of k))

  -- each taken assembler stands for the slot of its key, no two of them for the same, and no other slots are taken
  abbrev pub StandForHeldOf : List (Assembly K) → Held → Type 0
  StandForHeldOf [] held = held ≡ map.empty
  StandForHeldOf (s ∷ ss) held = StandsBefore s s.key (StandForHeldOf ss) held

  -- there are as many assemblers as slots, and they stand for those taken
  pub record StandForSlotsOf (ss : List (Assembly K)) (slots : Slots) : Type 0 where
    pub room : length ss ≡ slots.room
    pub held : StandForHeldOf ss slots.held

-- if the keys are those of the slots
abbrev pub StandForHeld : List (Assembly FragKey) → Held → Type 0
StandForHeld = StandForHeldOf (λ k. k)

abbrev pub StandForSlots : List (Assembly FragKey) → Slots → Type 0
StandForSlots = StandForSlotsOf (λ k. k)
