-- The fragments that arrive under one key in a run, and what is reassembled from a payload's fragments.
use Rattle.std.specs.Prelude.{◌≡◌, ◌⊎◌, ℕ, ◌<◌, ◌≤◌, ℤ, pos, ◌+ℤ◌, ◌≤ℤ◌, true}
use Rattle.std.specs.Prelude.{List, [], ◌∷◌, ◌++◌, length, Option, Some, None, if◌then◌else◌}
use Rattle.std.specs.List.{AllByRecursion, Contains}
use Rattle.fragmentation.specs.declared.key.FragKey.{FragKey}
use Rattle.fragmentation.specs.Keys.{same_key}
use Rattle.fragmentation.specs.Fragments.{Fragment, keeps_few}
use Rattle.fragmentation.specs.Slots.{Slot, Slots, slot_of, HasFree, live_at}
use Rattle.fragmentation.specs.Reassembly.{SlotNote, Take, Arrival, Rebuild}
use Rattle.fragmentation.specs.Cuts.{cut}
use Rattle.host_machine.specs.declared.command.Command.{Command}
use Rattle.host_machine.specs.declared.command.Command.TheVariants.{PollIngressSingle, Poll}
use Rattle.host_machine.specs.declared.command.Command.TheVariants.{PollMaintenance, SetReassemblyTimeout}
use Rattle.host_machine.specs.Context.Note.{slot_notes}
use Rattle.host_machine.specs.Context.Host.{Host}
use Rattle.host_machine.specs.Interface.Run.{Transition, Run, notes_in}
use Rattle.host_laws.specs.Laws.Frames.{all_arrivals}
use Rattle.host_laws.specs.Laws.Unfolded.{IsSingle}

-- the fragments that arrived under a key, in order
abbrev pub arrivals_under : FragKey → List SlotNote → List Fragment
arrivals_under key [] = []
arrivals_under key (Take k ∷ notes) = arrivals_under key notes
arrivals_under key (Arrival k f ∷ notes) =
    if same_key key k then f ∷ arrivals_under key notes else arrivals_under key notes
arrivals_under key (Rebuild k octets ∷ notes) = arrivals_under key notes

-- the payloads reassembled under a key, in order
abbrev pub rebuilt : FragKey → List SlotNote → List (List ℕ)
rebuilt key [] = []
rebuilt key (Take k ∷ notes) = rebuilt key notes
rebuilt key (Arrival k f ∷ notes) = rebuilt key notes
rebuilt key (Rebuild k octets ∷ notes) = if same_key key k then octets ∷ rebuilt key notes else rebuilt key notes

-- all notes about slots, in order
abbrev pub slot_notes_in : List Transition → List SlotNote
slot_notes_in transitions = slot_notes (notes_in transitions)

-- the moment at which a command drops expired slots, if it does: commands that poll for frames do, and maintenance
abbrev pub expiry_time_of : Command → Option ℤ
expiry_time_of (PollIngressSingle t) = Some t
expiry_time_of (Poll t budget) = Some t
expiry_time_of (PollMaintenance t) = Some t
expiry_time_of other = None

abbrev pub live_by : Option ℤ → Slots → Slots
live_by None slots = slots
live_by (Some t) slots = live_at t slots

-- the slots when a command receives its first frame
abbrev pub slots_then : Command → Slots → Slots
slots_then c slots = live_by (expiry_time_of c) slots

-- a single call that doesn't drop the slot of a key; if a fragment arrives under the key without a slot, a slot is free
pub record IsServed (key : FragKey) (p : Transition) : Type 0 where
  pub single : IsSingle p.command
  pub kept : slot_of (slots_then p.command p.before.slots) key ≡ slot_of p.before.slots key
  pub room : 0 < length (arrivals_under key (slot_notes p.notes)) → slot_of p.before.slots key ≡ None →
      HasFree (slots_then p.command p.before.slots)

-- each fragment after these leaves at most four separate ranges
abbrev pub KeepFew : List Fragment → List Fragment → Type 0
KeepFew so_far [] = Unit {0}
KeepFew so_far (f ∷ fs) = (keeps_few so_far f ≡ true) × KeepFew (so_far ++ f ∷ []) fs

-- If all fragments of one payload arrive under a key, in any order and with repeats before the last missing one, the
-- payload is reassembled at that one and not before. At first no slot has the key; one is free at the first fragment;
-- the slot isn't dropped; no other fragment arrives under the key; and each fragment leaves at most four separate
-- ranges. A poll is taken as its single calls.
abbrev pub PiecesAreRebuilt : Type 0
PiecesAreRebuilt =
    (first last : Host) (transitions : List Transition) (p : Transition) (key : FragKey)
    (m : ℕ) (payload : List ℕ) (f : Fragment) →
    Run first (transitions ++ p ∷ []) last → 0 < m → length payload ≤ 4096 →
    slot_of first.slots key ≡ None → arrivals_under key (slot_notes p.notes) ≡ f ∷ [] →
    AllByRecursion (Contains (cut m payload)) (arrivals_under key (slot_notes_in transitions) ++ f ∷ []) →
    ((g : Fragment) → Contains (cut m payload) g →
    Contains (arrivals_under key (slot_notes_in transitions) ++ f ∷ []) g) →
    (Contains (arrivals_under key (slot_notes_in transitions)) f → ⊥) →
    KeepFew [] (arrivals_under key (slot_notes_in transitions) ++ f ∷ []) →
    AllByRecursion (IsServed key) (transitions ++ p ∷ []) →
    (rebuilt key (slot_notes_in transitions) ≡ []) × (rebuilt key (slot_notes p.notes) ≡ payload ∷ [])

-- a command within a time from t0 to the end, which is no longer than any timeout that the command sets
pub record IsInTime (t0 end : ℤ) (c : Command) : Type 0 where
  pub polls : (t : ℤ) → expiry_time_of c ≡ Some t → (t0 ≤ℤ t) × (t ≤ℤ end)
  pub timeouts : (timeout : ℕ) → c ≡ SetReassemblyTimeout timeout → end ≤ℤ (t0 +ℤ pos timeout)

-- All fragments of a payload arrive within a time that is no longer than any timeout, at a host with two slots or more,
-- beside fragments of at most one other datagram. Then the payload is reassembled when the last missing fragment
-- arrives, which is the next note about slots. Not before. This law goes by moments, and holds for polls too.
abbrev pub PiecesArriveInTime : Type 0
PiecesArriveInTime =
    (first last : Host) (transitions : List Transition) (before after : List SlotNote) (key other : FragKey)
    (t0 end : ℤ) (m : ℕ) (payload : List ℕ) (f : Fragment) →
    Run first transitions last → 0 < m → length payload ≤ 4096 →
    slot_notes_in transitions ≡ before ++ Arrival key f ∷ after →
    AllByRecursion (λ p. IsInTime t0 end p.command) transitions → end ≤ℤ (t0 +ℤ pos first.reassembly_timeout) → 2 ≤ first.slots.room →
    slot_of first.slots key ≡ None → ((k : FragKey) (s : Slot) → slot_of first.slots k ≡ Some s → k ≡ other) →
    AllByRecursion (λ c. (c.0 ≡ key) ⊎ (c.0 ≡ other)) (all_arrivals before) →
    AllByRecursion (Contains (cut m payload)) (arrivals_under key before ++ f ∷ []) →
    ((g : Fragment) → Contains (cut m payload) g → Contains (arrivals_under key before ++ f ∷ []) g) →
    (Contains (arrivals_under key before) f → ⊥) →
    KeepFew [] (arrivals_under key before ++ f ∷ []) →
    (rebuilt key before ≡ []) × (rest : List SlotNote) × (after ≡ Rebuild key payload ∷ rest)

-- a fragment that follows at most three others leaves at most four separate ranges
abbrev pub FragmentsLeaveFewRanges : Type 0
FragmentsLeaveFewRanges = (so_far : List Fragment) (f : Fragment) → length so_far ≤ 3 → keeps_few so_far f ≡ true
