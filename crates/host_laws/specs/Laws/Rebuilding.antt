-- What a run reassembles: each datagram consists of what arrived under its key since its slot was taken (RFC 791 3.2).
use Rattle.std.specs.Prelude.{List, [], ◌∷◌, Option, Some, None, if◌then◌else◌}
use Rattle.fragmentation.specs.declared.key.FragKey.{FragKey}
use Rattle.fragmentation.specs.Keys.{same_key}
use Rattle.fragmentation.specs.Fragments.{Got, no_fragments, with_one, IsRebuilt}
use Rattle.fragmentation.specs.Slots.{Slot, slot_of}
use Rattle.fragmentation.specs.Reassembly.{SlotNote, Take, Arrival, Rebuild}
use Rattle.host_machine.specs.Context.Host.{Host}

-- what was received under each key
abbrev pub History : Type 0
History = FragKey → Got

abbrev pub got_in : Option Slot → Got
got_in None = no_fragments
got_in (Some s) = s.got

-- where a run begins: what the slots hold
abbrev pub first_history : Host → History
first_history H = λ k. got_in (slot_of H.slots k)

abbrev pub put : History → FragKey → Got → History
put h k g = λ j. if same_key j k then g else h j

-- what was received under each key since its slot was taken: the fragments that arrived, as far as they are accepted
abbrev pub history : History → List SlotNote → History
history h [] = h
history h (Take k ∷ notes) = history (put h k no_fragments) notes
history h (Arrival k f ∷ notes) = history (put h k (with_one (h k) f)) notes
history h (Rebuild k octets ∷ notes) = history h notes

-- each reassembled datagram is what was received under its key since its slot was taken
abbrev pub AreRebuilt : History → List SlotNote → Type 0
AreRebuilt h [] = Unit {0}
AreRebuilt h (Take k ∷ notes) = AreRebuilt (put h k no_fragments) notes
AreRebuilt h (Arrival k f ∷ notes) = AreRebuilt (put h k (with_one (h k) f)) notes
AreRebuilt h (Rebuild k octets ∷ notes) = IsRebuilt (h k) octets × AreRebuilt h notes
