-- Reassembly (RFC 791 3.2): a fragment is added to those received before under its key.
use Rattle.std.specs.Prelude.{◌≡◌, ℕ, ℤ, ◌≤◌, true, false, List, [], ◌∷◌, ◌++◌, Option, Some, None}
use Rattle.std.specs.FinMap as map
use Rattle.fragmentation.specs.declared.key.FragKey.{FragKey}
use Rattle.fragmentation.specs.Fragments.{Fragment, no_fragments, is_fit, with_one, IsRebuilt}
use Rattle.fragmentation.specs.Slots.{Slot, Slots, slot_of, with_slot, without_slot, HasFree}

-- the notes about slots: a slot is taken for a key; a fragment arrived under a key, whether or not it is accepted; and
-- the datagram of a key is reassembled, which frees its slot
pub data SlotNote : Type 0 where
  Take : (key : FragKey) → SlotNote
  Arrival : (key : FragKey) → (fragment : Fragment) → SlotNote
  Rebuild : (key : FragKey) → (octets : List ℕ) → SlotNote

-- the slot of a key, or a new one with this expiry if one is free
pub data Enters (ends : ℤ) (key : FragKey) (slots : Slots) (slot : Slot) (notes : List SlotNote) : Type 0 where
  Stood : slot_of slots key ≡ Some slot → notes ≡ [] → Enters ends key slots slot notes
  Taken : slot_of slots key ≡ None → HasFree slots → slot ≡ record { got = no_fragments; ends = ends } →
      notes ≡ Take key ∷ [] → Enters ends key slots slot notes

-- a fragment under a key, and the datagram that it completes, if it does: there is no slot for it; it isn't fit; others
-- are missing; or the datagram is reassembled, and the slot freed
pub data Reassembles (ends : ℤ) (key : FragKey) (f : Fragment) (result : Option (List ℕ)) (slots : Slots)
    (notes : List SlotNote) (new : Slots) : Type 0 where
  NoSlot : slot_of slots key ≡ None → slots.room ≤ map.len slots.held → result ≡ None → notes ≡ Arrival key f ∷ [] → new ≡ slots →
      Reassembles ends key f result slots notes new
  Unfit : (slot : Slot) (first : List SlotNote) →
      Enters ends key slots slot first → is_fit slot.got.total f ≡ false → result ≡ None →
      notes ≡ first ++ Arrival key f ∷ [] → new ≡ with_slot slots key slot →
      Reassembles ends key f result slots notes new
  Waits : (slot : Slot) (first : List SlotNote) → Enters ends key slots slot first → is_fit slot.got.total f ≡ true →
      ((octets : List ℕ) → IsRebuilt (with_one slot.got f) octets → ⊥) → result ≡ None →
      notes ≡ first ++ Arrival key f ∷ [] →
      new ≡ with_slot slots key (record slot { got = with_one slot.got f }) →
      Reassembles ends key f result slots notes new
  Rebuilt : (slot : Slot) (first : List SlotNote) (octets : List ℕ) →
      Enters ends key slots slot first → is_fit slot.got.total f ≡ true →
      IsRebuilt (with_one slot.got f) octets → result ≡ Some octets →
      notes ≡ first ++ (Arrival key f ∷ Rebuild key octets ∷ []) →
      new ≡ without_slot slots key → Reassembles ends key f result slots notes new
