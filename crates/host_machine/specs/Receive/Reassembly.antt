-- Reassembly by a host (RFC 791 3.2, RFC 1122 3.3.2): the rule for a fragment, with the host's
-- slots, moment and timeout.
use Rattle.std.specs.Prelude.{◌≡◌, ℕ, ℤ, pos, ◌+ℤ◌, List, map, Option}
use Rattle.fragmentation.specs.declared.key.FragKey.{FragKey}
use Rattle.fragmentation.specs.Fragments.{Fragment}
use Rattle.fragmentation.specs.Slots.{Slots}
use Rattle.fragmentation.specs.Reassembly.{SlotNote, Reassembles}
use Rattle.host_machine.specs.Context.Note.{Note, OfSlots}
use Rattle.host_machine.specs.Context.Host.{Host, with_slots}

-- the expiry of a slot that is taken at a moment: when the timeout has passed
abbrev pub slot_end : ℤ → ℕ → ℤ
slot_end t timeout = t +ℤ pos timeout

-- a fragment under a key, and the datagram that it completes, if it does; a slot that is taken now
-- expires after the timeout
pub record TakesFragment (key : FragKey) (f : Fragment) (result : Option (List ℕ)) (H : Host)
    (notes : List Note) (new : Host) : Type 0 where
  pub slots : Slots
  pub slot_notes : List SlotNote
  pub reassembles : Reassembles (slot_end H.moment H.reassembly_timeout) key f result H.slots slot_notes slots
  pub noted : notes ≡ map OfSlots slot_notes
  pub changed : new ≡ with_slots H slots
