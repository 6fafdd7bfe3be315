-- What is promised of the slots for fragments, by who holds them, how many hold one, and for how long.
use Rattle.std.specs.Prelude.{ℕ, ℤ, ◌≡◌, ◌<◌, ◌-◌, ◌⊎◌, nat_lt, Bool, true, false, List, length, Some, None}
use Rattle.fragmentation.specs.declared.key.FragKey.{FragKey}
use Rattle.fragmentation.specs.declared.holder.Holder.{Holder}
use Rattle.fragmentation.specs.Details.Holders.{holder_at, released_at, count_below}
use Rattle.iface_receive.specs.FragmentKey.{CarriesFragment}
use Rattle.iface_host.specs.Fragments.{MakesRoom, counts_as_known, has_few, holds_known, holds_stranger, is_old, is_served, slots_of}
use Rattle.iface_host.specs.Properties.{machine_of}
use Rattle.iface_host.specs.declared.host.IfaceHost.{IfaceHost}

-- how many slots there are, how many are held by who counts as known, and how many by strangers
abbrev pub room_of : IfaceHost → ℕ
room_of host = length (slots_of host)

abbrev pub known_in : ℤ → IfaceHost → ℕ
known_in t host = count_below (holds_known t host) (room_of host)

abbrev pub strangers_in : ℤ → IfaceHost → ℕ
strangers_in t host = count_below (holds_stranger t host) (room_of host)

-- What is in a slot for less than half a second stays, whatever fragment comes: if a known neighbour sent it, or if strangers hold no
-- more than half of the slots
abbrev pub YoungStay : Type 0
YoungStay = (t : ℤ) (frame : List ℕ) (taken : Bool) (old new : IfaceHost) → MakesRoom t frame taken old new →
    (i : ℕ) (h : Holder FragKey) → holder_at i (slots_of old) ≡ Some h → is_old t old i ≡ false →
    (holds_known t old i ≡ true) ⊎ (nat_lt (room_of old - strangers_in t old) (strangers_in t old) ≡ false) →
    holder_at i (slots_of new) ≡ Some h

-- a slot is free
pub record IsFreeAt (i : ℕ) (host : IfaceHost) : Type 0 where
  pub there : i < room_of host
  pub free : holder_at i (slots_of host) ≡ None

-- A known neighbour's fragment finds a slot, while known neighbours hold fewer than half of them: it is one of a datagram that has one, or
-- one is free then
abbrev pub KnownFindRoom : Type 0
KnownFindRoom = (t : ℤ) (frame : List ℕ) (taken : Bool) (old new : IfaceHost) → MakesRoom t frame taken old new →
    (key : FragKey) → CarriesFragment key (machine_of old) frame → counts_as_known t old key.src_addr ≡ true →
    nat_lt (known_in t old) (room_of old - known_in t old) ≡ true →
    (taken ≡ true) × ((is_served key new ≡ true) ⊎ ((i : ℕ) × IsFreeAt i new))

-- A stranger's fragment of a datagram without a slot is taken, once half of the slots are, only while strangers hold fewer than half, or in
-- place of a stranger's that has waited for half a second
abbrev pub StrangersHoldHalf : Type 0
StrangersHoldHalf = (t : ℤ) (frame : List ℕ) (old new : IfaceHost) → MakesRoom t frame true old new →
    (key : FragKey) → CarriesFragment key (machine_of old) frame → counts_as_known t old key.src_addr ≡ false →
    is_served key old ≡ false → has_few old ≡ false →
    (nat_lt (strangers_in t old) (room_of old - strangers_in t old) ≡ true)
    ⊎ ((i : ℕ) × (holds_stranger t old i ≡ true) × (is_old t old i ≡ true) × (slots_of new ≡ released_at i (slots_of old)))
