-- Each datagram that is rebuilt is what was got under its key since its slot was taken.
use Rattle.std.proofs.Common.{◌≡◌, ℕ, List, [], ◌∷◌, ◌++◌, refl, sym, ◌∙◌, ap, Option, Some, None}
use Rattle.std.specs.Prelude.{ℤ, Bool, true, false, cond, not, if◌then◌else◌}
use Rattle.std.specs.Cmp.{eq_by_cmp_equiv}
use Rattle.std.specs.FinMap as map
use Rattle.std.specs.FinMap.{get-insert, get-remove}
use Rattle.fragmentation.specs.Fragments.{Fragment, Got, no_fragments, is_fit, with_one}
use Rattle.fragmentation.specs.declared.key.FragKey.{FragKey}
use Rattle.fragmentation.specs.Keys.{same_key}
use Rattle.fragmentation.specs.Slots.{Slot, Slots, with_slot, without_slot, has_ended}
use Rattle.fragmentation.specs.Reassembly.{SlotNote, Take, Arrival, Rebuild, Enters, Stood, Taken, Reassembles, NoSlot, Unfit, Waits, Rebuilt}
use Rattle.host_machine.specs.Context.Note.{Note, slot_notes}
use Rattle.host_machine.specs.Context.Host.{Host}
use Rattle.host_machine.specs.Receive.Reassembly.{TakesFragment}
use Rattle.host_laws.specs.Laws.Rebuilding.{History, first_history, put, history, AreRebuilt}
use Rattle.host_machine.specs.Interface.Run.{Transition, Run, notes_in}
use Rattle.host_machine.proofs.Receive.Keys.{key_total, same_is, get-live_at}
use Rattle.host_laws.proofs.Context.NotesBySubject.{slot_notes-append, slot_notes-slots}
use Rattle.host_laws.proofs.Context.UnchangedFields.{Keeps}
use Rattle.host_laws.proofs.Runs.Walk.{walk}

-- each slot that is taken has what the history says
abbrev Tracks : Slots → History → Type 0
Tracks slots h = (k : FragKey) (s : Slot) → map.get slots.held k ≡ Some s → h k ≡ s.got

record Tells (h : History) (notes : List SlotNote) (slots : Slots) : Type 0 where
  rebuilt : AreRebuilt h notes
  tracks : Tracks slots (history h notes)

abbrev RebuiltOver : Host → List (List ℕ) → List Note → Host → Type 0
RebuiltOver old frames notes new = (h : History) → Tracks old.slots h → Tells h (slot_notes notes) new.slots

pub history-append : (h : History) (xs ys : List SlotNote) → history h (xs ++ ys) ≡ history (history h xs) ys
history-append h [] ys = refl
history-append h (Take k ∷ xs) ys = history-append (put h k no_fragments) xs ys
history-append h (Arrival k f ∷ xs) ys = history-append (put h k (with_one (h k) f)) xs ys
history-append h (Rebuild k octets ∷ xs) ys = history-append h xs ys

rebuilt_on : (h : History) (xs ys : List SlotNote) → AreRebuilt h xs → AreRebuilt (history h xs) ys → AreRebuilt h (xs ++ ys)
rebuilt_on h [] ys a b = b
rebuilt_on h (Take k ∷ xs) ys a b = rebuilt_on (put h k no_fragments) xs ys a b
rebuilt_on h (Arrival k f ∷ xs) ys a b = rebuilt_on (put h k (with_one (h k) f)) xs ys a b
rebuilt_on h (Rebuild k octets ∷ xs) ys a b = (a.0, rebuilt_on h xs ys a.1 b)

tells_on : (h : History) (xs ys : List SlotNote) (mid slots : Slots) → Tells h xs mid → Tells (history h xs) ys slots → Tells h (xs ++ ys) slots
tells_on h xs ys mid slots a b = record { rebuilt = rebuilt_on h xs ys a.rebuilt b.rebuilt; tracks = rw history-append b.tracks }

keeps : (old new : Host) → Keeps old new → RebuiltOver old [] [] new
keeps old new k = λ h t. record { rebuilt = tt; tracks = let e : new.slots ≡ old.slots = ap (λ (K : Host). K.slots) k.same in rw e t }

on : (a b c : Host) (fs gs : List (List ℕ)) (xs ys : List Note) →
    RebuiltOver a fs xs b → RebuiltOver b gs ys c → RebuiltOver a (fs ++ gs) (xs ++ ys) c
on a b c fs gs xs ys one two = λ h t. let first = one h t in
    rw slot_notes-append (tells_on h (slot_notes xs) (slot_notes ys) b.slots c.slots first (two (history h (slot_notes xs)) first.tracks))

pub test_same : (k : FragKey) → same_key k k ≡ true
test_same k = (eq_by_cmp_equiv key_total).refl k

-- another slot for a key, and what it has in the history
put_at : (h : History) (slots : Slots) (key k : FragKey) (slot s : Slot) (g : Got) (b : Bool) → same_key k key ≡ b →
    ((j : FragKey) (s' : Slot) → same_key j key ≡ false → map.get slots.held j ≡ Some s' → h j ≡ s'.got) → g ≡ slot.got →
    cond b (Some slot) (map.get slots.held k) ≡ Some s → (if b then g else h k) ≡ s.got
put_at h slots key k slot s g true is others here e = let same : slot ≡ s = cc in here ∙ ap (λ (x : Slot). x.got) same
put_at h slots key k slot s g false is others here e = others k s is e

put_tracks : (h : History) (slots : Slots) (key : FragKey) (slot : Slot) (g : Got) →
    ((j : FragKey) (s' : Slot) → same_key j key ≡ false → map.get slots.held j ≡ Some s' → h j ≡ s'.got) → g ≡ slot.got →
    Tracks (with_slot slots key slot) (put h key g)
put_tracks h slots key slot g others here =
    λ k s e. put_at h slots key k slot s g (same_key k key) refl others here (sym (get-insert key_total slots.held key slot k) ∙ e)

others_of : (h : History) (slots : Slots) (key : FragKey) (g : Got) → Tracks slots h → (j : FragKey) (s' : Slot) →
    same_key j key ≡ false → map.get slots.held j ≡ Some s' → put h key g j ≡ s'.got
others_of h slots key g t j s' f e = rw f (t j s' e)

-- the history once a slot is entered: nothing else changes, and the key has what the slot has
record Entered (h : History) (first : List SlotNote) (slots : Slots) (key : FragKey) (slot : Slot) : Type 0 where
  rebuilt : AreRebuilt h first
  others : (j : FragKey) (s' : Slot) → same_key j key ≡ false → map.get slots.held j ≡ Some s' → history h first j ≡ s'.got
  here : history h first key ≡ slot.got

entered : (ends : ℤ) (slots : Slots) (key : FragKey) (slot : Slot) (first : List SlotNote) (h : History) →
    Tracks slots h → Enters ends key slots slot first → Entered h first slots key slot
entered ends slots key slot first h t (Stood stood n) = rw n (record { rebuilt = tt; others = λ j s' f e. t j s' e; here = t key slot stood })
entered ends slots key slot first h t (Taken none room is n) =
    rw (n, is) (record { rebuilt = tt; others = others_of h slots key no_fragments t; here = rw (test_same key) refl })

with_here : (h : History) (key : FragKey) (f : Fragment) (got : Got) → h key ≡ got → with_one (h key) f ≡ with_one got f
with_here h key f got e = ap (λ g. with_one g f) e

arrival_tells : (h : History) (slots : Slots) (key : FragKey) (slot slot' : Slot) (f : Fragment) (first : List SlotNote) →
    Entered h first slots key slot → with_one slot.got f ≡ slot'.got →
    Tells h (first ++ Arrival key f ∷ []) (with_slot slots key slot')
arrival_tells h slots key slot slot' f first e is = record {
  rebuilt = rebuilt_on h first (Arrival key f ∷ []) e.rebuilt tt;
  tracks = rw history-append (put_tracks (history h first) slots key slot' _ e.others (with_here (history h first) key f slot.got e.here ∙ is));
}

unfit_same : (g : Got) (f : Fragment) → is_fit g.total f ≡ false → with_one g f ≡ g
unfit_same g f e = rw e refl

removed : (h : History) (slots : Slots) (key : FragKey) (g : Got) →
    ((j : FragKey) (s' : Slot) → same_key j key ≡ false → map.get slots.held j ≡ Some s' → h j ≡ s'.got) →
    Tracks (without_slot slots key) (put h key g)
removed h slots key g others = λ k s e. by k s (same_key k key) refl (sym (get-remove key_total slots.held key k) ∙ e) where
  by : (k : FragKey) (s : Slot) (b : Bool) → same_key k key ≡ b → cond b None (map.get slots.held k) ≡ Some s → (if b then g else h k) ≡ s.got
  by k s true is e = absurd cc
  by k s false is e = others k s is e

-- what a fragment leads to
reassembled : (ends : ℤ) (slots : Slots) (key : FragKey) (f : Fragment) (result : Option (List ℕ)) (notes : List SlotNote) (new : Slots) →
    Reassembles ends key f result slots notes new →
    (h : History) → Tracks slots h → Tells h notes new
reassembled ends slots key f result notes new (NoSlot none full r n e) = λ h t.
    rw (n, e) (record { rebuilt = tt; tracks = λ k s at. by h t k s at (same_key k key) refl }) where
      by : (h : History) → Tracks slots h → (k : FragKey) (s : Slot) → map.get slots.held k ≡ Some s → (b : Bool) →
          same_key k key ≡ b → (if b then with_one (h key) f else h k) ≡ s.got
      by h t k s at true is = let e : map.get slots.held k ≡ None = rw (same_is k key is) none in absurd cc
      by h t k s at false is = t k s at
reassembled ends slots key f result notes new (Unfit slot first enters u r n e) = λ h t.
    rw (n, e) (arrival_tells h slots key slot slot f first (entered ends slots key slot first h t enters) (unfit_same slot.got f u))
reassembled ends slots key f result notes new (Waits slot first enters u w r n e) = λ h t.
    rw (n, e) (arrival_tells h slots key slot _ f first (entered ends slots key slot first h t enters) refl)
reassembled ends slots key f result notes new (Rebuilt slot first octets enters u w r n e) = λ h t.
    let started = entered ends slots key slot first h t enters in
    let same : put (history h first) key (with_one (history h first key) f) key ≡ with_one slot.got f =
    rw (test_same key) (with_here (history h first) key f slot.got started.here) in
    rw (n, e) (record {
      rebuilt = rebuilt_on h first (Arrival key f ∷ Rebuild key octets ∷ []) started.rebuilt (rw same w, tt);
      tracks = rw history-append (removed (history h first) slots key _ started.others);
    })

fragments : (H : Host) (key : FragKey) (f : Fragment) (result : Option (List ℕ)) (notes : List Note) (new : Host) →
    TakesFragment key f result H notes new → RebuiltOver H [] notes new
fragments H key f result notes new t = λ h tracks.
    rw (t.noted, t.changed, slot_notes-slots t.slot_notes) (reassembled _ H.slots key f result t.slot_notes t.slots t.reassembles h tracks)

pub live_then : (t : ℤ) (o : Option Slot) (s : Slot) (b : Bool) → (if b then o else None) ≡ Some s → o ≡ Some s
live_then t o s true e = e
live_then t o s false e = absurd cc

began_tracks : (H : Host) → Tracks H.slots (first_history H)
began_tracks H k s e = rw e refl

abbrev nothing_told : {h : History} {slots : Slots} → Tracks slots h → Tells h [] slots
nothing_told t = record { rebuilt = tt; tracks = t }

-- over a whole run
pub run_rebuilt : {first last : Host} {transitions : List Transition} →
    Run first transitions last → AreRebuilt (first_history first) (slot_notes (notes_in transitions))
run_rebuilt {first} r =
    (walk RebuiltOver keeps on
    (λ H own source target mine. λ h t. record { rebuilt = tt; tracks = t })
    (λ H hop unknown. λ h t. record { rebuilt = tt; tracks = t })
    (λ H. λ h t. record { rebuilt = tt; tracks = t })
    (λ H h p reached. λ h' t. record { rebuilt = tt; tracks = t })
    (λ H h id p first rest e form reached. λ h' t. record { rebuilt = tt; tracks = t })
    (λ H t. λ h tracks. record {
      rebuilt = tt;
      tracks = λ k s e. tracks k s (live_then t (map.get H.slots.held k) s (not (has_ended t (map.get H.slots.held k))) (sym (get-live_at t H.slots k) ∙ e));
    })
    fragments
    (λ H p rest e. λ h t. record { rebuilt = tt; tracks = t })
    (λ H r'. λ h t. record { rebuilt = tt; tracks = t })
    (λ H h. λ h' t. record { rebuilt = tt; tracks = t })
    (λ H list. λ h t. record { rebuilt = tt; tracks = t })
    (λ H timeout. λ h t. record { rebuilt = tt; tracks = t })
    r (first_history first) (began_tracks first)).rebuilt
