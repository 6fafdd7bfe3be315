-- The slots for reassembly, each with what was received under its key since it was taken (RFC 791 3.2).
use Rattle.std.specs.Prelude.{ℕ, ℤ, ◌<◌, ◌==◌, if◌then◌else◌, Bool, false, not, Option, Some, None, int_lt}
use Rattle.std.specs.FinMap as map
use Rattle.std.specs.FinMap.{FinMap}
use Rattle.fragmentation.specs.Fragments.{Got}
use Rattle.fragmentation.specs.declared.key.FragKey.{FragKey}
use Rattle.fragmentation.specs.Keys.{key_cmp}

-- what was received since a slot was taken, and the slot's expiry, which was set then
pub record Slot : Type 0 where
  pub got : Got
  pub ends : ℤ

-- slots that are taken, by the key that the fragments of one datagram share
abbrev pub Held : Type 0
Held = FinMap key_cmp Slot

-- how many slots there are, and those that are taken
pub record Slots : Type 0 where
  pub room : ℕ
  pub held : Held

-- so many slots, all free
abbrev pub free_slots : ℕ → Slots
free_slots room = record { room = room; held = map.empty }

-- how many slots there are over storage of this capacity: as many, or two in the set itself if it has none
abbrev pub slot_room_over : ℕ → ℕ
slot_room_over capacity = if capacity == 0 then 2 else capacity

-- the slot of a key, if it has one
abbrev pub slot_of : Slots → FragKey → Option Slot
slot_of slots key = map.get slots.held key

-- with a slot for a key, and without one
abbrev pub with_slot : Slots → FragKey → Slot → Slots
with_slot slots key slot = record slots { held = map.insert slots.held key slot }

abbrev pub without_slot : Slots → FragKey → Slots
without_slot slots key = record slots { held = map.remove slots.held key }

-- there is a free slot
abbrev pub HasFree : Slots → Type 0
HasFree slots = map.len slots.held < slots.room

-- whether a slot, if there is one, expires before t
abbrev pub has_ended : ℤ → Option Slot → Bool
has_ended t None = false
has_ended t (Some s) = int_lt s.ends t

-- those taken that have not expired at t
abbrev pub held_at : ℤ → Held → Held
held_at t held = map.retain_keys held (λ k. not (has_ended t (map.get held k)))

-- the slots at t: those that have expired are free
abbrev pub live_at : ℤ → Slots → Slots
live_at t slots = record slots { held = held_at t slots.held }
