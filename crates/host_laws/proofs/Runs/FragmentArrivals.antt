-- Where all pieces of a payload come under a key, the payload is rebuilt at the last one that was missing.
use Rattle.std.proofs.Common.{◌≡◌, ℕ, ◌<◌, ◌≤◌, List, [], ◌∷◌, ◌++◌, length, append_assoc, refl, sym, ◌∙◌, ap, subst, arith, Option, Some, None}
use Rattle.std.proofs.lemmas.List.{append-nil}
use Rattle.std.proofs.lemmas.Bool.Decides.{nat_tests}
use Rattle.std.specs.Prelude.{ℤ, Bool, true, false, ◌==◌, ◌&&◌, nat_le, if◌then◌else◌}
use Rattle.std.specs.List.{AllByRecursion, Contains}
use Rattle.std.specs.FinMap as map
use Rattle.std.specs.FinMap.{get-insert, get-remove}
use Rattle.net_base.specs.Device.{Event, Reception, Received, Frame, Nothing, Withheld, handed_frames}
use Rattle.host_machine.specs.declared.command.Command.{Command}
use Rattle.host_machine.specs.declared.command.Command.TheVariants as command
use Rattle.host_machine.specs.declared.command.Answer.{Answer}
use Rattle.host_machine.specs.declared.results.PollIngressSingleResult.{PollIngressSingleResult}
use Rattle.host_machine.specs.declared.results.PollResult.{PollResult}
use Rattle.fragmentation.specs.Fragments.{Fragment, Got, end_of, is_fit, allows, keeps_few, with_one, IsRebuilt}
use Rattle.fragmentation.specs.declared.key.FragKey.{FragKey}
use Rattle.fragmentation.specs.Keys.{same_key}
use Rattle.fragmentation.specs.Slots.{Slot, Slots, HasFree, live_at}
use Rattle.fragmentation.specs.Reassembly.{SlotNote, Take, Arrival, Rebuild, Enters, Stood, Taken, Reassembles, NoSlot, Unfit, Waits, Rebuilt}
use Rattle.fragmentation.specs.Cuts.{piece_at, count, cut}
use Rattle.host_machine.specs.Context.Note.{Note, slot_notes}
use Rattle.host_machine.specs.Context.Host.{Host, without_expired}
use Rattle.iface_tables.specs.Slaac.{sync_required}
use Rattle.host_machine.specs.Context.Autoconfiguration.{with_slaac_applied}
use Rattle.host_machine.specs.Packet.Frame.{sends}
use Rattle.host_machine.specs.Interface.Ingress.{Ingress}
use Rattle.host_machine.specs.Interface.Egress.{Egress}
use Rattle.host_machine.specs.Receive.Reassembly.{TakesFragment, slot_end}
use Rattle.host_machine.specs.Interface.Step.{Act, Step}
use Rattle.host_machine.specs.Interface.Step as step
use Rattle.host_machine.specs.Interface.Run.{Transition, Run, Ends, Then, notes_in}
use Rattle.host_laws.specs.Laws.Arrivals.{arrivals_under, rebuilt, slot_notes_in, slots_then, IsServed, KeepFew, PiecesAreRebuilt}
use Rattle.host_laws.specs.Laws.Frames.{Brings, Bring, NoFrame, OneBrings, NoneBrings, all_arrivals, receiving_host, ArrivesInFrames}
use Rattle.host_machine.proofs.Receive.Keys.{key_total, same_is}
use Rattle.host_laws.proofs.Runs.ReassemblyOrigin.{test_same}
use Rattle.host_machine.proofs.Receive.Pieces.{IsIn, is_in, contains_in, in_left, IsPiece, piece_in, in_cut, count_below}
use Rattle.host_machine.proofs.Receive.Pieces.{IsPartOf, part_of, AreParts, parts_of, IsTotal, total_is, total_from}
use Rattle.host_machine.proofs.Receive.Pieces.{total_from-append, all_got, rebuilds_payload, complete, incomplete}
use Rattle.host_laws.proofs.Receive.SlotEffects.{StepView, NoPart, APart, step_view, ingress_view}
use Rattle.host_laws.proofs.Receive.SlotEffects.{egress_still, egress_hands_none, handed_frames-append}
use Rattle.host_laws.proofs.Context.NotesBySubject.{slot_notes-append}
use Rattle.host_laws.proofs.Receive.Malformed.{handed_frames-sends, handed_frames-received}
use Rattle.host_laws.proofs.Interface.PollCalls.{worked}
use Rattle.host_laws.proofs.Context.UnchangedFields.{rest_of}
use Rattle.host_laws.proofs.Runs.Walk.{ingress, egressed}

pub arrivals_under-append : (key : FragKey) (xs ys : List SlotNote) → arrivals_under key (xs ++ ys) ≡ arrivals_under key xs ++ arrivals_under key ys
arrivals_under-append key [] ys = refl
arrivals_under-append key (Take k ∷ xs) ys = arrivals_under-append key xs ys
arrivals_under-append key (Arrival k f ∷ xs) ys = by (same_key key k) (arrivals_under-append key xs ys) where
  by : (b : Bool) → arrivals_under key (xs ++ ys) ≡ arrivals_under key xs ++ arrivals_under key ys →
      (if b then f ∷ arrivals_under key (xs ++ ys) else arrivals_under key (xs ++ ys))
      ≡ (if b then f ∷ arrivals_under key xs else arrivals_under key xs) ++ arrivals_under key ys
  by true e = ap (λ fs. f ∷ fs) e
  by false e = e
arrivals_under-append key (Rebuild k octets ∷ xs) ys = arrivals_under-append key xs ys

pub rebuilt-append : (key : FragKey) (xs ys : List SlotNote) → rebuilt key (xs ++ ys) ≡ rebuilt key xs ++ rebuilt key ys
rebuilt-append key [] ys = refl
rebuilt-append key (Take k ∷ xs) ys = rebuilt-append key xs ys
rebuilt-append key (Arrival k f ∷ xs) ys = rebuilt-append key xs ys
rebuilt-append key (Rebuild k octets ∷ xs) ys = by (same_key key k) (rebuilt-append key xs ys) where
  by : (b : Bool) → rebuilt key (xs ++ ys) ≡ rebuilt key xs ++ rebuilt key ys →
      (if b then octets ∷ rebuilt key (xs ++ ys) else rebuilt key (xs ++ ys))
      ≡ (if b then octets ∷ rebuilt key xs else rebuilt key xs) ++ rebuilt key ys
  by true e = ap (λ os. octets ∷ os) e
  by false e = e

-- entering a slot brings nothing
entered_arrival : {ends : ℤ} {slots : Slots} {k : FragKey} {slot : Slot} {first : List SlotNote} (key : FragKey) →
    Enters ends k slots slot first → arrivals_under key first ≡ []
entered_arrival key (Stood s n) = ap (arrivals_under key) n
entered_arrival key (Taken none room s n) = ap (arrivals_under key) n

entered_rebuilt : {ends : ℤ} {slots : Slots} {k : FragKey} {slot : Slot} {first : List SlotNote} (key : FragKey) →
    Enters ends k slots slot first → rebuilt key first ≡ []
entered_rebuilt key (Stood s n) = ap (rebuilt key) n
entered_rebuilt key (Taken none room s n) = ap (rebuilt key) n

arrivals_after : {ends : ℤ} {slots : Slots} {k : FragKey} {slot : Slot} {first : List SlotNote} (key : FragKey) (rest : List SlotNote) →
    Enters ends k slots slot first → arrivals_under key (first ++ rest) ≡ arrivals_under key rest
arrivals_after {first = first} key rest e = arrivals_under-append key first rest ∙ rw (entered_arrival key e) refl

pub rebuilt_after : {ends : ℤ} {slots : Slots} {k : FragKey} {slot : Slot} {first : List SlotNote} (key : FragKey) (rest : List SlotNote) →
    Enters ends k slots slot first → rebuilt key (first ++ rest) ≡ rebuilt key rest
rebuilt_after {first = first} key rest e = rebuilt-append key first rest ∙ rw (entered_rebuilt key e) refl

-- the fragment that comes is the one
pub arrivals_of : {ends : ℤ} {slots new : Slots} {k : FragKey} {f : Fragment} {result : Option (List ℕ)} {notes : List SlotNote} (key : FragKey) →
    Reassembles ends k f result slots notes new → arrivals_under key notes ≡ (if same_key key k then f ∷ [] else [])
arrivals_of key (NoSlot none full r n e) = ap (arrivals_under key) n
arrivals_of {k = k} {f = f} key (Unfit slot first enters u r n e) = ap (arrivals_under key) n ∙ arrivals_after key (Arrival k f ∷ []) enters
arrivals_of {k = k} {f = f} key (Waits slot first enters u w r n e) = ap (arrivals_under key) n ∙ arrivals_after key (Arrival k f ∷ []) enters
arrivals_of {k = k} {f = f} key (Rebuilt slot first octets enters u w r n e) = ap (arrivals_under key) n
    ∙ arrivals_after key (Arrival k f ∷ Rebuild k octets ∷ []) enters

-- a fragment under another key changes nothing
pub record Aside (key : FragKey) (slots : Slots) (notes : List SlotNote) (new : Slots) : Type 0 where
  pub none : rebuilt key notes ≡ []
  pub same : map.get new.held key ≡ map.get slots.held key

pub inserted : (slots : Slots) (k key : FragKey) (s : Slot) → same_key key k ≡ false → map.get (map.insert slots.held k s) key ≡ map.get slots.held key
inserted slots k key s other = get-insert key_total slots.held k s key ∙ rw other refl

pub removed : (slots : Slots) (k key : FragKey) → same_key key k ≡ false → map.get (map.remove slots.held k) key ≡ map.get slots.held key
removed slots k key other = get-remove key_total slots.held k key ∙ rw other refl

pub aside : {ends : ℤ} {slots new : Slots} {k : FragKey} {f : Fragment} {result : Option (List ℕ)} {notes : List SlotNote} (key : FragKey) →
    same_key key k ≡ false → Reassembles ends k f result slots notes new → Aside key slots notes new
aside key other (NoSlot none full r n e) = record { none = ap (rebuilt key) n; same = ap (λ x. map.get x.held key) e }
aside {slots = slots} {k = k} {f = f} key other (Unfit slot first enters u r n e) =
    record {
      none = ap (rebuilt key) n ∙ rebuilt_after key (Arrival k f ∷ []) enters;
      same = ap (λ x. map.get x.held key) e ∙ inserted slots k key _ other;
    }
aside {slots = slots} {k = k} {f = f} key other (Waits slot first enters u w r n e) =
    record {
      none = ap (rebuilt key) n ∙ rebuilt_after key (Arrival k f ∷ []) enters;
      same = ap (λ x. map.get x.held key) e ∙ inserted slots k key _ other;
    }
aside {slots = slots} {k = k} {f = f} key other (Rebuilt slot first octets enters u w r n e) =
    record {
      none = ap (rebuilt key) n ∙ rebuilt_after key (Arrival k f ∷ Rebuild k octets ∷ []) enters ∙ rw other refl;
      same = ap (λ x. map.get x.held key) e ∙ removed slots k key other;
    }

-- the slot of the key has what came so far
pub data Holding (key : FragKey) (slots : Slots) (so_far : List Fragment) : Type 0 where
  Empty : so_far ≡ [] → map.get slots.held key ≡ None → Holding key slots so_far
  Full : (s : Slot) → map.get slots.held key ≡ Some s → s.got ≡ all_got so_far → Holding key slots so_far

pub holding_same : {key : FragKey} {slots others : Slots} {so_far : List Fragment} →
    map.get others.held key ≡ map.get slots.held key → Holding key slots so_far → Holding key others so_far
holding_same e (Empty n g) = Empty n (e ∙ g)
holding_same e (Full s g h) = Full s (e ∙ g) h

entered_got : {ends : ℤ} {slots : Slots} {key : FragKey} {slot : Slot} {first : List SlotNote} {so_far : List Fragment} →
    Holding key slots so_far → Enters ends key slots slot first → slot.got ≡ all_got so_far
entered_got {slot = slot} (Empty n g) (Stood s e) = let bad : None ≡ Some slot = sym g ∙ s in absurd cc
entered_got (Empty n g) (Taken none room s e) = ap (λ (x : Slot). x.got) s ∙ rw n refl
entered_got {slot = slot} (Full s g h) (Stood s' e) = let same : s ≡ slot = by (sym g ∙ s') in ap (λ (x : Slot). x.got) (sym same) ∙ h where
  by : Some s ≡ Some slot → s ≡ slot
  by q = cc
entered_got (Full s g h) (Taken none room s' e) = let bad : None ≡ Some s = sym none ∙ g in absurd cc

-- a part of the payload is fit
fits : (payload : List ℕ) (t : Option ℕ) (f : Fragment) → length payload ≤ 4096 → IsTotal (length payload) t → IsPartOf payload f → is_fit t f ≡ true
fits payload t f short total part =
    both (nat_le (end_of f) 4096) (if f.is_last then allows t (end_of f) else true)
    (below (end_of f) (omega (arith, part.within))) (last f.is_last refl) where
      both : (a b : Bool) → a ≡ true → b ≡ true → (a && b) ≡ true
      both a b x y = rw (x, y) refl

      below : (n : ℕ) → n ≤ 4096 → nat_le n 4096 ≡ true
      below n h = grind (arith, nat_tests)

      allowed : (o : Option ℕ) → IsTotal (length payload) o → end_of f ≡ length payload → allows o (end_of f) ≡ true
      allowed None is e = refl
      allowed (Some x) is e = let same : x ≡ length payload = is x refl in test x (end_of f) (omega arith) where
        test : (a b : ℕ) → a ≡ b → (a == b) ≡ true
        test a b h = grind (arith, nat_tests)

      last : (b : Bool) → f.is_last ≡ b → (if b then allows t (end_of f) else true) ≡ true
      last true e = allowed t total (part.last e)
      last false e = refl

more_got : (so_far : List Fragment) (f : Fragment) → is_fit (total_from None so_far) f ≡ true → keeps_few so_far f ≡ true →
    with_one (all_got so_far) f ≡ all_got (so_far ++ f ∷ [])
more_got so_far f fit few =
    rw (fit, few) (ap (λ (t : Option ℕ). record { total = t; fragments = so_far ++ f ∷ [] }) (sym (total_from-append None so_far (f ∷ []))))

-- what one piece leads to: it is kept, or the datagram is rebuilt
data After (key : FragKey) (f : Fragment) (so_far : List Fragment) (notes : List SlotNote) (new : Slots) : Type 0 where
  Kept : ((octets : List ℕ) → IsRebuilt (all_got (so_far ++ f ∷ [])) octets → ⊥) → rebuilt key notes ≡ [] →
      Holding key new (so_far ++ f ∷ []) → After key f so_far notes new
  Done : (octets : List ℕ) → IsRebuilt (all_got (so_far ++ f ∷ [])) octets → rebuilt key notes ≡ octets ∷ [] → After key f so_far notes new

pub no_total : (n : ℕ) → IsTotal n None
no_total n = λ x e. absurd cc

one_piece : (payload : List ℕ) (ends : ℤ) (slots : Slots) (key : FragKey) (f : Fragment) (result : Option (List ℕ)) (notes : List SlotNote)
    (new : Slots) (so_far : List Fragment) → length payload ≤ 4096 → AreParts payload so_far → IsPartOf payload f →
    keeps_few so_far f ≡ true → Holding key slots so_far → (map.get slots.held key ≡ None → HasFree slots) →
    Reassembles ends key f result slots notes new → After key f so_far notes new
one_piece payload ends slots key f result notes new so_far short parts part few holding room r = by r where
  fit : is_fit (total_from None so_far) f ≡ true
  fit = fits payload (total_from None so_far) f short (total_is payload None so_far parts (no_total (length payload))) part

  got_more : (slot : Slot) → slot.got ≡ all_got so_far → with_one slot.got f ≡ all_got (so_far ++ f ∷ [])
  got_more slot e = ap (λ g. with_one g f) e ∙ more_got so_far f fit few

  two_ways : (b : Bool) → b ≡ true → b ≡ false → ⊥
  two_ways b h k = cc

  is_fit_too : (slot : Slot) → slot.got ≡ all_got so_far → is_fit slot.got.total f ≡ true
  is_fit_too slot e = ap (λ (g : Got). is_fit g.total f) e ∙ fit

  by : Reassembles ends key f result slots notes new → After key f so_far notes new
  by (NoSlot none full r n e) = let l = room none in absurd (omega arith)
  by (Unfit slot first enters u r n e) = absurd (two_ways _ (is_fit_too slot (entered_got holding enters)) u)
  by (Waits slot first enters u w r n e) =
      let g = got_more slot (entered_got holding enters) in
      Kept (λ octets is. w octets (rw g is)) (ap (rebuilt key) n ∙ rebuilt_after key (Arrival key f ∷ []) enters)
      (Full (record slot { got = with_one slot.got f })
      (ap (λ x. map.get x.held key) e ∙ get-insert key_total slots.held key _ key ∙ rw (test_same key) refl) g)
  by (Rebuilt slot first octets enters u w r n e) =
      let g = got_more slot (entered_got holding enters) in
      Done octets (rw g at w) (ap (rebuilt key) n ∙ rebuilt_after key (Arrival key f ∷ Rebuild key octets ∷ []) enters ∙ rw (test_same key) refl)

-- the premises, where some pieces came already
pub record Coming (m : ℕ) (payload : List ℕ) (so_far coming : List Fragment) (f : Fragment) : Type 0 where
  pub so_far_are : AllByRecursion (IsPiece m payload) so_far
  pub coming_are : AllByRecursion (IsPiece m payload) coming
  pub last_is : IsPiece m payload f
  pub none : IsIn f (so_far ++ coming) → ⊥
  pub all : (k : ℕ) → k < count m (length payload) → IsIn (piece_at m payload k) ((so_far ++ coming) ++ f ∷ [])
  pub few : KeepFew so_far (coming ++ f ∷ [])

pub all_push : {X : Type 0} (P : X → Type 0) (xs ys : List X) → AllByRecursion P xs → AllByRecursion P ys → AllByRecursion P (xs ++ ys)
all_push P [] ys a b = b
all_push P (x ∷ xs) ys a b = (a.0, all_push P xs ys a.1 b)

pub comes_next : (m : ℕ) (payload : List ℕ) (so_far coming : List Fragment) (g f : Fragment) →
    Coming m payload so_far (g ∷ coming) f → Coming m payload (so_far ++ g ∷ []) coming f
comes_next m payload so_far coming g f c =
    let e : (so_far ++ g ∷ []) ++ coming ≡ so_far ++ (g ∷ coming) = append_assoc so_far (g ∷ []) coming in
    record {
      so_far_are = all_push (IsPiece m payload) so_far (g ∷ []) c.so_far_are (c.coming_are.0, tt);
      coming_are = c.coming_are.1;
      last_is = c.last_is;
      none = λ i. c.none (subst (λ xs. IsIn f xs) e i);
      all = λ k l. subst (λ xs. IsIn (piece_at m payload k) (xs ++ f ∷ [])) (sym e) (c.all k l);
      few = c.few.1;
    }

-- one step of a run
pub record Steps (H : Host) (p : Transition) (rest : List Transition) (last : Host) : Type 0 where
  pub step : Step p.command p.answer H p.told p.acts p.notes p.after
  pub began : p.before ≡ H
  pub run : Run p.after rest last

pub run_head : {H last : Host} {p : Transition} {rest : List Transition} → Run H (p ∷ rest) last → Steps H p rest last
run_head (Then s r) = record { step = s; began = refl; run = r }

pub nothing_came : (f : Fragment) → [] ≡ f ∷ [] → ⊥
nothing_came f e = cc

pub same_fragment : (f g : Fragment) → f ∷ [] ≡ g ∷ [] → f ≡ g
same_fragment f g e = cc

live_slots : (p : Transition) (t : ℤ) → p.command ≡ command.PollIngressSingle t → slots_then p.command p.before.slots ≡ live_at t p.before.slots
live_slots p t e = ap (λ c. slots_then c p.before.slots) e

module _ (m : ℕ) (payload : List ℕ) (key : FragKey) (pos : 0 < m) (short : length payload ≤ 4096) where
  pub not_yet : (so_far coming : List Fragment) (f : Fragment) → Coming m payload so_far coming f → (octets : List ℕ) →
      IsRebuilt (all_got so_far) octets → ⊥
  not_yet so_far coming f c =
      incomplete m payload so_far f pos c.so_far_are (parts_of m payload so_far pos c.so_far_are) c.last_is (λ i. c.none (in_left so_far coming f i))

  -- where the slots are those of the step's beginning
  start : {p : Transition} {t : ℤ} {so_far : List Fragment} → p.command ≡ command.PollIngressSingle t → IsServed key p →
      Holding key p.before.slots so_far → Holding key (live_at t p.before.slots) so_far
  start {p} {t} e served h = holding_same (sym (ap (λ s. map.get s.held key) (live_slots p t e)) ∙ served.kept) h

  room : {p : Transition} {t : ℤ} {f : Fragment} → p.command ≡ command.PollIngressSingle t → IsServed key p →
      arrivals_under key (slot_notes p.notes) ≡ f ∷ [] → map.get (live_at t p.before.slots).held key ≡ None →
      HasFree (live_at t p.before.slots)
  room {p} {t} {f} e served one none =
      let some : 0 < length (arrivals_under key (slot_notes p.notes)) = rw one (omega arith) in
      let before : map.get p.before.slots.held key ≡ None = sym served.kept ∙ ap (λ s. map.get s.held key) (live_slots p t e) ∙ none in
      subst HasFree (live_slots p t e) (served.room some before)

  pub last_piece : (p : Transition) (so_far : List Fragment) (f : Fragment) →
      StepView p.command p.before p.told p.notes p.after → Holding key p.before.slots so_far → Coming m payload so_far [] f → IsServed key p →
      arrivals_under key (slot_notes p.notes) ≡ f ∷ [] → rebuilt key (slot_notes p.notes) ≡ payload ∷ []
  last_piece p so_far f (NoPart none n s) holding c served one = absurd (nothing_came f (sym (ap (arrivals_under key) n) ∙ one))
  last_piece p so_far f (APart t frame k g result e h b r) holding c served one = by (same_key key k) refl (sym (arrivals_of key r) ∙ one) where
    some : 0 < length payload
    some = let l = count_below m (length payload) c.last_is.number pos c.last_is.below in omega arith

    parts : AreParts payload so_far
    parts = parts_of m payload so_far pos c.so_far_are

    all : AreParts payload (so_far ++ f ∷ [])
    all = parts_of m payload (so_far ++ f ∷ []) pos (all_push (IsPiece m payload) so_far (f ∷ []) c.so_far_are (c.last_is, tt))

    whole : IsRebuilt (all_got (so_far ++ f ∷ [])) payload
    whole = complete m payload (so_far ++ f ∷ []) pos some all
        (λ j l. subst (λ xs. IsIn (piece_at m payload j) (xs ++ f ∷ [])) (append-nil so_far) (c.all j l))

    ending : After key f so_far (slot_notes p.notes) p.after.slots → rebuilt key (slot_notes p.notes) ≡ payload ∷ []
    ending (Kept none unnoted hold) = absurd (none payload whole)
    ending (Done octets is noted) =
        noted ∙ ap (λ (os : List ℕ). os ∷ [])
        (rebuilds_payload payload
        (all_got (so_far ++ f ∷ [])) octets (total_is payload None (so_far ++ f ∷ []) all (no_total (length payload))) all is)

    by : (x : Bool) → same_key key k ≡ x → (if x then g ∷ [] else []) ≡ f ∷ [] → rebuilt key (slot_notes p.notes) ≡ payload ∷ []
    by true is same =
        let r' : Reassembles (slot_end t p.before.reassembly_timeout) key f result (live_at t p.before.slots) (slot_notes p.notes) p.after.slots =
        rw (same_is key k is, ← same_fragment g f same) r in
        ending (one_piece payload (slot_end t p.before.reassembly_timeout) (live_at t p.before.slots) key f result (slot_notes p.notes)
        p.after.slots so_far short parts (part_of m payload f pos c.last_is) c.few.0 (start e served holding) (room e served one) r')
    by false is same = absurd (nothing_came f same)

  -- one step before the last piece
  pub record Went (p : Transition) (so_far : List Fragment) : Type 0 where
    pub none : rebuilt key (slot_notes p.notes) ≡ []
    pub holding : Holding key p.after.slots (so_far ++ arrivals_under key (slot_notes p.notes))

  pub one_step : (p : Transition) (so_far coming : List Fragment) (f : Fragment) →
      StepView p.command p.before p.told p.notes p.after → Holding key p.before.slots so_far →
      Coming m payload so_far (arrivals_under key (slot_notes p.notes) ++ coming) f → IsServed key p → Went p so_far
  one_step p so_far coming f (NoPart none n s) holding c served = record {
    none = ap (rebuilt key) n;
    holding = rw (n, append-nil) (holding_same (ap (λ x. map.get x.held key) s ∙ served.kept) holding);
  }
  one_step p so_far coming f (APart t frame k g result e h b r) holding c served = by (same_key key k) refl where
    parts : AreParts payload so_far
    parts = parts_of m payload so_far pos c.so_far_are

    ending : arrivals_under key (slot_notes p.notes) ≡ g ∷ [] → Coming m payload so_far (g ∷ coming) f →
        After key g so_far (slot_notes p.notes) p.after.slots → Went p so_far
    ending one c' (Kept none unnoted hold) = record { none = unnoted; holding = rw one hold }
    ending one c' (Done octets is noted) = absurd (not_yet (so_far ++ g ∷ []) coming f (comes_next m payload so_far coming g f c') octets is)

    by : (x : Bool) → same_key key k ≡ x → Went p so_far
    by true is =
        let one : arrivals_under key (slot_notes p.notes) ≡ g ∷ [] = arrivals_of key r ∙ rw is refl in
        let c' : Coming m payload so_far (g ∷ coming) f = rw one at c in
        let r' : Reassembles (slot_end t p.before.reassembly_timeout) key g result (live_at t p.before.slots) (slot_notes p.notes) p.after.slots =
        rw (same_is key k is) r in
        ending one c' (one_piece payload (slot_end t p.before.reassembly_timeout) (live_at t p.before.slots) key g result (slot_notes p.notes)
        p.after.slots so_far short parts (part_of m payload g pos c'.coming_are.0) c'.few.0 (start e served holding) (room e served one) r')
    by false is =
        let one : arrivals_under key (slot_notes p.notes) ≡ [] = arrivals_of key r ∙ rw is refl in
        let a = aside key is r in
        record { none = a.none; holding = rw (one, append-nil) (holding_same a.same (start e served holding)) }

  pub coming_on : (cs so_far coming : List Fragment) (f : Fragment) →
      Coming m payload so_far (cs ++ coming) f → Coming m payload (so_far ++ cs) coming f
  coming_on [] so_far coming f c = rw append-nil c
  coming_on (g ∷ cs) so_far coming f c = subst (λ xs. Coming m payload xs coming f) (append_assoc so_far (g ∷ []) cs)
      (coming_on cs (so_far ++ g ∷ []) coming f (comes_next m payload so_far (cs ++ coming) g f c))

  go : (transitions : List Transition) (p : Transition) (H last : Host) (so_far : List Fragment) (f : Fragment) →
      Run H (transitions ++ p ∷ []) last → Holding key H.slots so_far →
      Coming m payload so_far (arrivals_under key (slot_notes_in transitions)) f → arrivals_under key (slot_notes p.notes) ≡ f ∷ [] →
      AllByRecursion (IsServed key) (transitions ++ p ∷ []) →
      (rebuilt key (slot_notes_in transitions) ≡ []) × (rebuilt key (slot_notes p.notes) ≡ payload ∷ [])
  go [] p H last so_far f run holding c one served =
      let h = run_head run in
      let s : Step p.command p.answer p.before p.told p.acts p.notes p.after = rw h.began h.step in
      (refl, last_piece p so_far f (step_view served.0.single s) (rw h.began holding) c served.0 one)
  go (q ∷ transitions) p H last so_far f run holding c one served =
      let h = run_head run in
      let parts : slot_notes (q.notes ++ notes_in transitions) ≡ slot_notes q.notes ++ slot_notes (notes_in transitions) =
      slot_notes-append q.notes (notes_in transitions) in
      let arrivals_are : arrivals_under key (slot_notes (q.notes ++ notes_in transitions))
      ≡ arrivals_under key (slot_notes q.notes) ++ arrivals_under key (slot_notes (notes_in transitions)) = ap (arrivals_under key) parts
      ∙ arrivals_under-append key (slot_notes q.notes) (slot_notes (notes_in transitions)) in
      let c' : Coming m payload so_far (arrivals_under key (slot_notes q.notes) ++ arrivals_under key (slot_notes (notes_in transitions))) f =
      rw arrivals_are at c in
      let s : Step q.command q.answer q.before q.told q.acts q.notes q.after = rw h.began h.step in
      let w =
      one_step q so_far (arrivals_under key (slot_notes (notes_in transitions))) f (step_view served.0.single s) (rw h.began holding) c' served.0 in
      let rest = go transitions p q.after last (so_far ++ arrivals_under key (slot_notes q.notes)) f h.run w.holding
      (coming_on (arrivals_under key (slot_notes q.notes)) so_far (arrivals_under key (slot_notes (notes_in transitions))) f c') one served.1 in
      (ap (rebuilt key) parts ∙ rebuilt-append key (slot_notes q.notes) (slot_notes (notes_in transitions)) ∙ rw (w.none, rest.0) refl, rest.1)

pub pieces_are : (m : ℕ) (payload : List ℕ) (fs : List Fragment) →
    AllByRecursion (Contains (cut m payload)) fs → AllByRecursion (IsPiece m payload) fs
pieces_are m payload [] all = tt
pieces_are m payload (f ∷ fs) all = (piece_in m payload f all.0, pieces_are m payload fs all.1)

pub all_left : {X : Type 0} (P : X → Type 0) (xs ys : List X) → AllByRecursion P (xs ++ ys) → AllByRecursion P xs × AllByRecursion P ys
all_left P [] ys a = (tt, a)
all_left P (x ∷ xs) ys a = let r = all_left P xs ys a.1 in ((a.0, r.0), r.1)

pub pieces_rebuilt : PiecesAreRebuilt
pieces_rebuilt first last transitions p key m payload f run pos short empty one pieces all none few served =
    let are = all_left (IsPiece m payload) (arrivals_under key (slot_notes_in transitions)) (f ∷ []) (pieces_are m payload _ pieces) in
    go m payload key pos short transitions p first last [] f run (Empty refl empty) (record {
      so_far_are = tt;
      coming_are = are.0;
      last_is = are.1.0;
      none = λ i. none (contains_in (arrivals_under key (slot_notes_in transitions)) f i);
      all = λ k l. is_in _ _ (all (piece_at m payload k) (in_cut m payload k l));
      few = few;
    }) one served

-- fragments come in frames
pub all_arrivals-append : (xs ys : List SlotNote) → all_arrivals (xs ++ ys) ≡ all_arrivals xs ++ all_arrivals ys
all_arrivals-append [] ys = refl
all_arrivals-append (Take k ∷ xs) ys = all_arrivals-append xs ys
all_arrivals-append (Arrival k f ∷ xs) ys = ap (λ cs. (k, f) ∷ cs) (all_arrivals-append xs ys)
all_arrivals-append (Rebuild k octets ∷ xs) ys = all_arrivals-append xs ys

all_arrivals_after : {ends : ℤ} {slots : Slots} {k : FragKey} {slot : Slot} {first : List SlotNote} (rest : List SlotNote) →
    Enters ends k slots slot first → all_arrivals (first ++ rest) ≡ all_arrivals rest
all_arrivals_after rest (Stood s n) = ap (λ ns. all_arrivals (ns ++ rest)) n
all_arrivals_after rest (Taken none room s n) = ap (λ ns. all_arrivals (ns ++ rest)) n

pub all_arrivals_of : {ends : ℤ} {slots new : Slots} {k : FragKey} {f : Fragment} {result : Option (List ℕ)} {notes : List SlotNote} →
    Reassembles ends k f result slots notes new → all_arrivals notes ≡ (k, f) ∷ []
all_arrivals_of (NoSlot none full r n e) = ap all_arrivals n
all_arrivals_of {k = k} {f = f} (Unfit slot first enters u r n e) = ap all_arrivals n ∙ all_arrivals_after (Arrival k f ∷ []) enters
all_arrivals_of {k = k} {f = f} (Waits slot first enters u w r n e) = ap all_arrivals n ∙ all_arrivals_after (Arrival k f ∷ []) enters
all_arrivals_of {k = k} {f = f} (Rebuilt slot first octets enters u w r n e) = ap all_arrivals n
    ∙ all_arrivals_after (Arrival k f ∷ Rebuild k octets ∷ []) enters

-- who the host is stays while it polls
pub record Alike (old new : Host) : Type 0 where
  pub hardware : new.hardware_addr ≡ old.hardware_addr
  pub capabilities : new.capabilities ≡ old.capabilities
  pub addresses : new.ip_addrs ≡ old.ip_addrs
  pub timeout : new.reassembly_timeout ≡ old.reassembly_timeout

abbrev AlikeOver : Host → List (List ℕ) → List Note → Host → Type 0
AlikeOver old frames notes new = Alike old new

alike : {H new : Host} → rest_of new ≡ rest_of H → Alike H new
alike e = record {
  hardware = ap (λ (K : Host). K.hardware_addr) e;
  capabilities = ap (λ (K : Host). K.capabilities) e;
  addresses = ap (λ (K : Host). K.ip_addrs) e;
  timeout = ap (λ (K : Host). K.reassembly_timeout) e;
}

alike_on : {a b c : Host} → Alike a b → Alike b c → Alike a c
alike_on x y = record {
  hardware = y.hardware ∙ x.hardware;
  capabilities = y.capabilities ∙ x.capabilities;
  addresses = y.addresses ∙ x.addresses;
  timeout = y.timeout ∙ x.timeout;
}

fragments_alike : (H : Host) (key : FragKey) (f : Fragment) (result : Option (List ℕ)) (notes : List Note) (new : Host) →
    TakesFragment key f result H notes new → Alike H new
fragments_alike H key f result notes new t = rw t.changed (record { hardware = refl; capabilities = refl; addresses = refl; timeout = refl })

itself : (H : Host) → Alike H H
itself H = record { hardware = refl; capabilities = refl; addresses = refl; timeout = refl }

pub ingress_alike : {t : ℤ} {answer : PollIngressSingleResult} {old new : Host} {told : List Event} {notes : List Note} →
    Ingress t answer old told notes new → Alike old new
ingress_alike i =
    ingress AlikeOver (λ old new k. alike k.same) (λ a b c fs gs xs ys one two. alike_on one two)
    (λ H own source target mine. itself H)
    (λ H hop unknown. record { hardware = refl; capabilities = refl; addresses = refl; timeout = refl })
    (λ H. record { hardware = refl; capabilities = refl; addresses = refl; timeout = refl })
    (λ H h p reached. itself H)
    (λ H h id p first rest e form reached. record { hardware = refl; capabilities = refl; addresses = refl; timeout = refl })
    (λ H t. record { hardware = refl; capabilities = refl; addresses = refl; timeout = refl })
    fragments_alike
    (λ H p rest e. record { hardware = refl; capabilities = refl; addresses = refl; timeout = refl })
    (λ H r. itself H)
    i

pub egress_alike : {t : ℤ} {answer : PollResult} {old new : Host} {told : List Event} {notes : List Note} →
    Egress t answer old told notes new → Alike old new
egress_alike e =
    egressed AlikeOver (λ old new k. alike k.same) (λ a b c fs gs xs ys one two. alike_on one two)
    (λ H own source target mine. itself H)
    (λ H hop unknown. record { hardware = refl; capabilities = refl; addresses = refl; timeout = refl })
    (λ H. record { hardware = refl; capabilities = refl; addresses = refl; timeout = refl })
    (λ H h p reached. itself H)
    (λ H h id p first rest e form reached. record { hardware = refl; capabilities = refl; addresses = refl; timeout = refl })
    (λ H p rest e. record { hardware = refl; capabilities = refl; addresses = refl; timeout = refl })
    e

brings_too : {H K : Host} {frame : List ℕ} {key : FragKey} {f : Fragment} → Alike H K → Brings K frame key f → Brings H frame key f
brings_too a b = record {
  packet = b.packet;
  carried = rw a.hardware at b.carried;
  ipv4 = rw a.capabilities at b.ipv4;
  source = rw a.addresses at b.source;
  part = b.part;
  key_is = b.key_is;
  fragment_is = b.fragment_is;
}

turned : {H K : Host} → Alike H K → Alike K H
turned a = record { hardware = sym a.hardware; capabilities = sym a.capabilities; addresses = sym a.addresses; timeout = sym a.timeout }

bring_too : {H K : Host} {frames : List (List ℕ)} {cs : List (FragKey × Fragment)} → Alike H K → Bring K frames cs → Bring H frames cs
bring_too a NoFrame = NoFrame
bring_too a (OneBrings frame key f b more) = OneBrings frame key f (brings_too a b) (bring_too a more)
bring_too a (NoneBrings frame none more) = NoneBrings frame (λ key f b. none key f (brings_too (turned a) b)) (bring_too a more)

bring_on : {H : Host} {fs gs : List (List ℕ)} {xs ys : List (FragKey × Fragment)} → Bring H fs xs → Bring H gs ys → Bring H (fs ++ gs) (xs ++ ys)
bring_on NoFrame more = more
bring_on (OneBrings frame key f b rest) more = OneBrings frame key f b (bring_on rest more)
bring_on (NoneBrings frame none rest) more = NoneBrings frame none (bring_on rest more)

-- what calls bring, one after the other
record Comes (old : Host) (told : List Event) (notes : List Note) (new : Host) : Type 0 where
  bring : Bring old (handed_frames told) (all_arrivals (slot_notes notes))
  alike : Alike old new

comes_on : (a b c : Host) (ts us : List Event) (xs ys : List Note) → Comes a ts xs b → Comes b us ys c → Comes a (ts ++ us) (xs ++ ys) c
comes_on a b c ts us xs ys one two = record {
  bring = rw (handed_frames-append, slot_notes-append, all_arrivals-append) (bring_on one.bring (bring_too one.alike two.bring));
  alike = alike_on one.alike two.alike;
}

none_brought : (H : Host) (t : ℤ) (r : Reception) →
    ((frame : List ℕ) (key : FragKey) (f : Fragment) → handed_frames (Received t r ∷ []) ≡ frame ∷ [] → Brings H frame key f → ⊥) →
    Bring H (handed_frames (Received t r ∷ [])) []
none_brought H t (Frame g) none = NoneBrings g (λ key f b. none g key f refl b) NoFrame
none_brought H t Nothing none = NoFrame
none_brought H t Withheld none = NoFrame

ingress_bring : {t : ℤ} {answer : PollIngressSingleResult} {old new : Host} {told : List Event} {notes : List Note} →
    Ingress t answer old told notes new → Bring old (handed_frames told) (all_arrivals (slot_notes notes))
ingress_bring {t} {answer} {old} {new} {told} {notes} i = by (ingress_view i) where
  hands : handed_frames told ≡ handed_frames (Received t i.reception ∷ [])
  hands = ap handed_frames i.events ∙ handed_frames-received t i.reception (sends i.frames) (handed_frames-sends i.frames)

  by : StepView (command.PollIngressSingle t) old told notes new → Bring old (handed_frames told) (all_arrivals (slot_notes notes))
  by (NoPart none n s) = rw (hands, n) (none_brought old t i.reception (λ frame key f is b. none frame key f (hands ∙ is) b))
  by (APart u frame k g result e h b r) = rw (h, all_arrivals_of r) (OneBrings frame k g b NoFrame)

silent_bring : (H : Host) (told : List Event) (notes : List Note) →
    handed_frames told ≡ [] → slot_notes notes ≡ [] → Bring H (handed_frames told) (all_arrivals (slot_notes notes))
silent_bring H told notes h n = rw (h, n) NoFrame

comes : {c : Command} {a : Answer} {old new : Host} {told : List Event} {acts : List Act} {notes : List Note} →
    Step c a old told acts notes new → Bring (receiving_host c old) (handed_frames told) (all_arrivals (slot_notes notes))
comes (step.Polled {t} p) =
    (worked Comes (λ H. record { bring = NoFrame; alike = itself H }) comes_on t
    (λ answer old new told notes i. record { bring = ingress_bring i; alike = ingress_alike i })
    (λ answer old new told notes e. record {
      bring = silent_bring old told notes (egress_hands_none e) (egress_still e).silent;
      alike = egress_alike e;
    })
    p).bring
comes (step.PolledIngressSingle i) = ingress_bring i
comes {old = old} {told = told} {notes = notes} (step.PolledEgress e) = silent_bring old told notes (egress_hands_none e) (egress_still e).silent
comes other = NoFrame

-- a host keeps its hardware address while it is maintained
maintained_hardware : (H : Host) (b : Bool) → (if b then with_slaac_applied H else H).hardware_addr ≡ H.hardware_addr
maintained_hardware H true = refl
maintained_hardware H false = refl

pub receiving_hardware : (c : Command) (H : Host) → (receiving_host c H).hardware_addr ≡ H.hardware_addr
receiving_hardware (command.Poll t budget) H = maintained_hardware (without_expired H t) (sync_required H.slaac t)
receiving_hardware other H = refl

pub run_arrivals : {first last : Host} {transitions : List Transition} → Run first transitions last → AllByRecursion ArrivesInFrames transitions
run_arrivals Ends = tt
run_arrivals (Then s r) = (comes s, run_arrivals r)
