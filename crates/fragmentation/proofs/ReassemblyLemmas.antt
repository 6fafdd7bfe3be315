-- What a fragment does to places, told by the slots that they stand for.
use Rattle.std.proofs.Common.{◌≡◌, ◌<◌, ◌≤◌, ℕ, ℤ, Bool, true, false, List, [], ◌∷◌, ◌++◌, Option, Some, None}
use Rattle.std.proofs.Common.{length, get_or, slice_set, refl, sym, ap, ◌∙◌, arith, inl, inr}
use Rattle.std.proofs.lemmas.List.{length-set}
use Rattle.std.specs.Prelude.{◌==◌, ◌⊎◌, IsSome, IfSome, option_map}
use Rattle.std.specs.Borrow.{Bor}
use Rattle.std.proofs.lemmas.Bool.Decides.{nat_tests}
use Rattle.std.specs.Ordering.{eq_by_cmp}
use Rattle.fragmentation.specs.declared.key.FragKey.{FragKey}
use Rattle.fragmentation.specs.Keys.{key_cmp}
use Rattle.fragmentation.specs.Fragments.{Fragment, Got, no_fragments, is_fit, with_one, IsWhole, IsRebuilt}
use Rattle.fragmentation.specs.Slots.{Slot, Slots, HasFree, slot_of, with_slot, without_slot}
use Rattle.fragmentation.specs.Reassembly.{SlotNote, Take, Arrival, Rebuild, Enters, Stood, Taken, NoSlot, Unfit, Waits, Rebuilt}
use Rattle.fragmentation.specs.Assembly.{Assembly, index_of_key, free_slot, slot_for, taken}
use Rattle.fragmentation.specs.Stands.{Gathers, StandsFor, StandsAt, StandForSlots}
use Rattle.fragmentation.specs.Details.Lending.{FreedIfLent}
use Rattle.fragmentation.specs.Details.Reassembled.{Reassembled}
use Rattle.fragmentation.proofs.PlacesLemmas.{choose_keyed, choose_free, index_of_key-le}
use Rattle.fragmentation.proofs.SlotsLemmas.{there, MayServe, put_at, free_at, has_room, is_full, free_key, keyed_key, not_there}

-- the place has the key now, and stands for the slot that the fragment enters
record Entered (ends : ℤ) (k : FragKey) (m : Slots) (s : Assembly FragKey) : Type 0 where
  slot : Slot
  notes : List SlotNote
  enters : Enters ends k m slot notes
  key : s.key ≡ Some k
  stands : StandsFor s slot

taken_kept : (k j : FragKey) (ends : ℤ) (s : Assembly FragKey) → s.key ≡ Some j → taken k ends s ≡ s
taken_kept k j ends s e = rw e refl

taken_new : (k : FragKey) (ends : ℤ) (s : Assembly FragKey) →
    s.key ≡ None → taken k ends s ≡ record { key = Some k; expires_at = ends; total = None; ranges = []; octets = s.octets }
taken_new k ends s e = rw e refl

stood : (ends : ℤ) (k : FragKey) (m : Slots) (s new : Assembly FragKey) →
    s.key ≡ Some k → StandsAt s k m.held → new ≡ taken k ends s → Entered ends k m new
stood ends k m s new e at is =
    rw (is, taken_kept k k ends s e) (record { slot = at.slot; notes = []; enters = Stood at.found refl; key = e; stands = at.stands })

fresh : (ends : ℤ) (k : FragKey) (m : Slots) (s new : Assembly FragKey) →
    s.key ≡ None → slot_of m k ≡ None → HasFree m → new ≡ taken k ends s → Entered ends k m new
fresh ends k m s new e none room is =
    rw (is, taken_new k ends s e) (record {
      slot = record { got = no_fragments; ends = ends };
      notes = Take k ∷ [];
      enters = Taken none room refl refl;
      key = refl;
      stands = record { ends = refl; got = record { total = refl; places = λ p. refl; octets = λ p h. cc } };
    })

below_or_at : (a n : ℕ) → a ≤ n → (a < n) ⊎ (a ≡ n)
below_or_at a n h = elim (a == n) as (λ b. a == n ≡ b → (a < n) ⊎ (a ≡ n)) [
  | true ↦ λ t. inr (grind (arith, nat_tests))
  | false ↦ λ t. inl (grind (arith, nat_tests))
] refl

long : (ss : List (Assembly FragKey)) (i : ℕ) (s : Assembly FragKey) → length (slice_set ss i s) ≡ length ss
long ss i s = length-set ss i s

no_some : false ≡ true → ⊥
no_some e = cc

pub below : (p n : ℕ) → p ≤ n → (p ≡ n → false ≡ true) → p < n
below p n h apart = elim (below_or_at p n h) [ inl l ↦ l | inr e ↦ absurd (no_some (apart e)) ]

module _ (eq : FragKey → FragKey → Bool) (exact : (a b : FragKey) → eq a b ≡ eq_by_cmp key_cmp a b) (ends : ℤ) (k : FragKey) (m : Slots)
    (ss : List (Assembly FragKey)) (h : StandForSlots ss m) where
  may_serve : (d : Assembly FragKey) → slot_for eq k ss < length ss → MayServe (get_or ss (slot_for eq k ss) d) k m.held
  may_serve d l =
      elim (below_or_at (index_of_key eq k ss) (length ss) (index_of_key-le eq k ss)) [
        | inl below ↦ rw (choose_keyed (index_of_key eq k ss) (length ss) (free_slot ss) below) (inl (keyed_key eq exact k ss d below))
        | inr at ↦
            let e = choose_free (index_of_key eq k ss) (length ss) (free_slot ss) at in
            rw e (inr (free_key ss d (rw e at l), not_there eq exact k ss m.held at h.held))
      ]

  entered : (new : Assembly FragKey) → slot_for eq k ss < length ss → new ≡ taken k ends (get_or ss (slot_for eq k ss) new) → Entered ends k m new
  entered new l is =
      elim (below_or_at (index_of_key eq k ss) (length ss) (index_of_key-le eq k ss)) [
        | inl below ↦
            let e = choose_keyed (index_of_key eq k ss) (length ss) (free_slot ss) below in
            let key = keyed_key eq exact k ss new below in
            stood ends k m (get_or ss (index_of_key eq k ss) new) new key (there ss m.held (index_of_key eq k ss) k new below key h.held) (rw e at is)
        | inr at ↦
            let e = choose_free (index_of_key eq k ss) (length ss) (free_slot ss) at in
            let room = has_room ss m.held (rw e at l) h.held in
            let count = h.room in
            fresh ends k m (get_or ss (free_slot ss) new) new (free_key ss new (rw e at l))
            (not_there eq exact k ss m.held at h.held) (omega arith) (rw e at is)
      ]

  pub no_slot : (f : Fragment) → slot_for eq k ss ≡ length ss → Reassembled ends k f None m ss
  no_slot f full =
      elim (below_or_at (index_of_key eq k ss) (length ss) (index_of_key-le eq k ss)) [
        | inl below ↦ let e = choose_keyed (index_of_key eq k ss) (length ss) (free_slot ss) below in absurd (omega arith)
        | inr at ↦
            let e = choose_free (index_of_key eq k ss) (length ss) (free_slot ss) at in
            let full = is_full ss m.held (sym e ∙ full) h.held in
            let count = h.room in
            record { notes = Arrival k f ∷ []; new = m; rule = NoSlot (not_there eq exact k ss m.held at h.held) (omega arith) refl refl refl; stands = h }
      ]

  pub unfit : (f : Fragment) (s : Assembly FragKey) → slot_for eq k ss < length ss → s ≡ taken k ends (get_or ss (slot_for eq k ss) s) →
      is_fit s.total f ≡ false → Reassembled ends k f None m (slice_set ss (slot_for eq k ss) s)
  unfit f s l is fit =
      let en = entered s l is in
      record {
        notes = en.notes ++ Arrival k f ∷ [];
        new = with_slot m k en.slot;
        rule = Unfit en.slot en.notes en.enters (ap (λ (t : Option ℕ). is_fit t f) (sym en.stands.got.total) ∙ fit) refl refl refl;
        stands = record {
          room = long ss (slot_for eq k ss) s ∙ h.room;
          held = put_at ss m.held (slot_for eq k ss) k s s en.slot l (may_serve s l) en.key en.stands h.held;
        };
      }

  pub waits : (f : Fragment) (s new : Assembly FragKey) → slot_for eq k ss < length ss → s ≡ taken k ends (get_or ss (slot_for eq k ss) s) →
      is_fit s.total f ≡ true → new.key ≡ s.key → new.expires_at ≡ s.expires_at
      → ((g : Got) → Gathers s g → Gathers new (with_one g f)) → ((g : Got) → Gathers new g → ((n : ℕ) × IsWhole g n) → ⊥) →
      Reassembled ends k f None m (slice_set ss (slot_for eq k ss) new)
  waits f s new l is fit key end more part =
      let en = entered s l is in
      let got = more en.slot.got en.stands.got in
      let slot : Slot = record en.slot { got = with_one en.slot.got f } in
      record {
        notes = en.notes ++ Arrival k f ∷ [];
        new = with_slot m k slot;
        rule = Waits en.slot en.notes en.enters (ap (λ (t : Option ℕ). is_fit t f) (sym en.stands.got.total) ∙ fit)
            (λ octets b. part (with_one en.slot.got f) got (length octets, b.whole)) refl refl refl;
        stands = record {
          room = long ss (slot_for eq k ss) new ∙ h.room;
          held = put_at ss m.held (slot_for eq k ss) k s new slot l (may_serve s l) (key ∙ en.key)
              (record { ends = end ∙ en.stands.ends; got = got }) h.held;
        };
      }

  pub rebuilt : (f : Fragment) (s new freed : Assembly FragKey) (octets : List ℕ) →
      slot_for eq k ss < length ss → s ≡ taken k ends (get_or ss (slot_for eq k ss) s) → is_fit s.total f ≡ true
      → ((g : Got) → Gathers s g → Gathers new (with_one g f)) → ((g : Got) → Gathers new g → IsRebuilt g octets) → freed.key ≡ None →
      Reassembled ends k f (Some octets) m (slice_set ss (slot_for eq k ss) freed)
  rebuilt f s new freed octets l is fit more whole free =
      let en = entered s l is in
      record {
        notes = en.notes ++ (Arrival k f ∷ Rebuild k octets ∷ []);
        new = without_slot m k;
        rule = Rebuilt en.slot en.notes octets en.enters (ap (λ (t : Option ℕ). is_fit t f) (sym en.stands.got.total) ∙ fit)
            (whole (with_one en.slot.got f) (more en.slot.got en.stands.got)) refl refl refl;
        stands = record {
          room = long ss (slot_for eq k ss) freed ∙ h.room;
          held = free_at ss m.held (slot_for eq k ss) k s freed l (may_serve s l) free h.held;
        };
      }

  -- a fit fragment, and what is lent then
  pub fit_then : (f : Fragment) (s new final : Assembly FragKey) (r : Option (Bor (List ℕ))) → slot_for eq k ss < length ss →
      s ≡ taken k ends (get_or ss (slot_for eq k ss) s) → is_fit s.total f ≡ true → new.key ≡ s.key → new.expires_at ≡ s.expires_at
      → ((g : Got) → Gathers s g → Gathers new (with_one g f)) → FreedIfLent new r final
      → ((g : Got) → Gathers new g → (IsSome r → (n : ℕ) × IsWhole g n) × (((n : ℕ) × IsWhole g n) → IsSome r)) →
      IfSome r (λ b. (g : Got) → Gathers new g → IsRebuilt g b.now)
      → Reassembled ends k f (option_map (λ b. b.now) r) m (slice_set ss (slot_for eq k ss) final)
  fit_then f s new final None l is fit key end more freed found whole =
      rw freed (waits f s new l is fit key end more (λ g got w. no_some ((found g got).1 w)))
  fit_then f s new final (Some b) l is fit key end more freed found whole =
      rebuilt f s new final b.now l is fit more whole (ap (λ (x : Assembly FragKey). x.key) freed)
