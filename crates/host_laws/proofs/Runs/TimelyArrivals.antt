-- Where all pieces of a payload come within the time of a slot, beside those of one other datagram at most, the payload is rebuilt.
use Rattle.std.proofs.Common.{◌≡◌, ◌⊎◌, ℕ, ◌+◌, ◌<◌, ◌≤◌, List, [], ◌∷◌, ◌++◌, length, append_assoc}
use Rattle.std.proofs.Common.{refl, sym, ◌∙◌, ap, subst, arith, inl, inr, Option, Some, None}
use Rattle.std.proofs.lemmas.List.{append-nil}
use Rattle.std.proofs.lemmas.Int.{ints}
use Rattle.std.specs.Prelude.{ℤ, pos, ◌+ℤ◌, ◌≤ℤ◌, Bool, true, false, not, cond, int_lt, if◌then◌else◌}
use Rattle.std.specs.List.{AllByRecursion}
use Rattle.std.specs.FinMap as map
use Rattle.std.specs.FinMap.{get-insert, get-remove, get-empty, len-empty, len-insert, same_map}
use Rattle.net_base.specs.Device.{Event}
use Rattle.host_machine.specs.declared.command.Command.{Command}
use Rattle.host_machine.specs.declared.command.Command.TheVariants as command
use Rattle.host_machine.specs.declared.command.Answer.{Answer}
use Rattle.fragmentation.specs.Fragments.{Fragment}
use Rattle.fragmentation.specs.declared.key.FragKey.{FragKey}
use Rattle.fragmentation.specs.Keys.{key_cmp, same_key}
use Rattle.fragmentation.specs.Slots.{Slot, Held, Slots, HasFree, with_slot, without_slot, has_ended, live_at}
use Rattle.fragmentation.specs.Reassembly.{SlotNote, Take, Arrival, Rebuild, Enters, Stood, Taken, Reassembles, NoSlot, Unfit, Waits, Rebuilt}
use Rattle.fragmentation.specs.Cuts.{piece_at}
use Rattle.host_machine.specs.Context.Note.{Note, slot_notes}
use Rattle.host_laws.proofs.Multicast.GroupChanges.{join_groups, leave_groups}
use Rattle.host_machine.specs.Context.Host.{Host, without_expired}
use Rattle.iface_tables.specs.Slaac.{sync_required}
use Rattle.host_machine.specs.Context.Autoconfiguration.{with_slaac_applied}
use Rattle.host_machine.specs.Interface.Step.{Act, Step}
use Rattle.host_machine.specs.Interface.Step as step
use Rattle.host_machine.specs.Interface.Run.{Transition, Run, notes_in}
use Rattle.host_laws.specs.Laws.Unfolded.{IsSingle}
use Rattle.host_laws.specs.Laws.Arrivals.{arrivals_under, rebuilt, slot_notes_in, expiry_time_of}
use Rattle.host_laws.specs.Laws.Arrivals.{live_by, slots_then, IsServed, IsInTime, PiecesArriveInTime}
use Rattle.host_laws.specs.Laws.Frames.{all_arrivals}
use Rattle.host_machine.proofs.Receive.Keys.{key_total, key_exact, same_is, get-live_at}
use Rattle.host_laws.proofs.Runs.ReassemblyOrigin.{test_same, live_then}
use Rattle.host_machine.proofs.Receive.Pieces.{is_in, contains_in, in_cut, IsPiece}
use Rattle.host_laws.proofs.Context.NotesBySubject.{slot_notes-append}
use Rattle.host_laws.proofs.Receive.SlotEffects.{StepView, NoPart, APart, step_view}
use Rattle.host_laws.proofs.Runs.FragmentArrivals.{arrivals_under-append, rebuilt-append, arrivals_of, last_piece}
use Rattle.host_laws.proofs.Runs.FragmentArrivals.{one_step, all_arrivals_of, all_arrivals-append, Holding, Empty, Coming}
use Rattle.host_laws.proofs.Runs.FragmentArrivals.{coming_on, run_head, pieces_are, all_left, ingress_alike, egress_alike}
use Rattle.host_laws.proofs.Interface.SingleCalls.{all_singles}

-- notes without fragments that came
abbrev NoArrivals : List SlotNote → Type 0
NoArrivals = AllByRecursion (λ n. (k : FragKey) (g : Fragment) → n ≡ Arrival k g → ⊥)

record Behind (xs ys before after : List SlotNote) (key : FragKey) (f : Fragment) : Type 0 where
  more : List SlotNote
  is : before ≡ xs ++ more
  rest : ys ≡ more ++ Arrival key f ∷ after

same_head : (x y : SlotNote) (xs ys : List SlotNote) → x ∷ xs ≡ y ∷ ys → x ≡ y
same_head x y xs ys e = cc

same_tail : (x y : SlotNote) (xs ys : List SlotNote) → x ∷ xs ≡ y ∷ ys → xs ≡ ys
same_tail x y xs ys e = cc

behind : (xs ys before after : List SlotNote) (key : FragKey) (f : Fragment) →
    NoArrivals xs → xs ++ ys ≡ before ++ Arrival key f ∷ after → Behind xs ys before after key f
behind [] ys before after key f none e = record { more = before; is = refl; rest = e }
behind (x ∷ xs) ys [] after key f none e = absurd (none.0 key f (same_head x (Arrival key f) (xs ++ ys) after e))
behind (x ∷ xs) ys (b ∷ before) after key f none e =
    let r = behind xs ys before after key f none.1 (same_tail x b (xs ++ ys) (before ++ Arrival key f ∷ after) e) in
    record {
      more = r.more;
      is = ap (λ ns. b ∷ ns) r.is ∙ ap (λ n. n ∷ (xs ++ r.more)) (sym (same_head x b (xs ++ ys) (before ++ Arrival key f ∷ after) e));
      rest = r.rest;
    }

-- how what one fragment does is noted
abbrev rebuilds : FragKey → Option (List ℕ) → List SlotNote
rebuilds k None = []
rebuilds k (Some octets) = Rebuild k octets ∷ []

rebuilds_none : (k : FragKey) (o : Option (List ℕ)) → NoArrivals (rebuilds k o)
rebuilds_none k None = tt
rebuilds_none k (Some octets) = (λ j g e. absurd cc, tt)

record Noted (k : FragKey) (g : Fragment) (result : Option (List ℕ)) (notes : List SlotNote) : Type 0 where
  first : List SlotNote
  none : NoArrivals first
  unbuilt : (j : FragKey) → rebuilt j first ≡ []
  are : notes ≡ first ++ Arrival k g ∷ rebuilds k result

record Entered (first : List SlotNote) : Type 0 where
  none : NoArrivals first
  unbuilt : (j : FragKey) → rebuilt j first ≡ []

entered : {ends : ℤ} {slots : Slots} {k : FragKey} {slot : Slot} {first : List SlotNote} → Enters ends k slots slot first → Entered first
entered (Stood s n) = rw n (record { none = tt; unbuilt = λ j. refl })
entered {k = k} (Taken free room s n) = rw n (record { none = (λ j g e. absurd cc, tt); unbuilt = λ j. refl })

noted : {ends : ℤ} {slots new : Slots} {k : FragKey} {g : Fragment} {result : Option (List ℕ)} {notes : List SlotNote} →
    Reassembles ends k g result slots notes new → Noted k g result notes
noted (NoSlot none full r n e) = rw (r, n) (record { first = []; none = tt; unbuilt = λ j. refl; are = refl })
noted (Unfit slot first enters u r n e) = let x = entered enters in
    rw (r, n) (record { first = first; none = x.none; unbuilt = x.unbuilt; are = refl })
noted (Waits slot first enters u w r n e) = let x = entered enters in
    rw (r, n) (record { first = first; none = x.none; unbuilt = x.unbuilt; are = refl })
noted (Rebuilt slot first octets enters u w r n e) = let x = entered enters in
    rw (r, n) (record { first = first; none = x.none; unbuilt = x.unbuilt; are = refl })

-- the fragment that is looked for comes at this place, or later
data Split (notes rest before after : List SlotNote) (key : FragKey) (f : Fragment) : Type 0 where
  Here : (result : Option (List ℕ)) → arrivals_under key notes ≡ f ∷ [] → rebuilt key notes ≡ rebuilt key (rebuilds key result) →
      rebuilt key before ≡ [] → arrivals_under key before ≡ [] →
      after ≡ rebuilds key result ++ rest → Split notes rest before after key f
  Later : (more : List SlotNote) → before ≡ notes ++ more → rest ≡ more ++ Arrival key f ∷ after → Split notes rest before after key f

same_arrivals : (k j : FragKey) (g f : Fragment) → Arrival k g ≡ Arrival j f → (k ≡ j) × (g ≡ f)
same_arrivals k j g f e = (cc, cc)

none_noted : (key : FragKey) (xs : List SlotNote) → NoArrivals xs → arrivals_under key xs ≡ []
none_noted key [] none = refl
none_noted key (Take k ∷ xs) none = none_noted key xs none.1
none_noted key (Arrival k f ∷ xs) none = absurd (none.0 k f refl)
none_noted key (Rebuild k os ∷ xs) none = none_noted key xs none.1

one_fragment : (k key : FragKey) (g f : Fragment) → k ≡ key → g ≡ f → (if same_key key k then g ∷ [] else []) ≡ f ∷ []
one_fragment k key g f e h = rw (e, h, test_same key) refl

split_here : {ends : ℤ} {slots new : Slots} {k : FragKey} {g : Fragment} {result : Option (List ℕ)} (notes rest before after : List SlotNote)
    (key : FragKey) (f : Fragment) → Reassembles ends k g result slots notes new →
    (x : Noted k g result notes) → (k ≡ key) × (g ≡ f) → before ≡ x.first ++ [] →
    after ≡ rebuilds k result ++ rest → Split notes rest before after key f
split_here {k = k} {g = g} {result = result} notes rest before after key f r x same b e =
    let none : arrivals_under key x.first ≡ [] = none_noted key x.first x.none in
    let are : rebuilt key notes ≡ rebuilt key (rebuilds k result) = ap (rebuilt key) x.are
    ∙ rebuilt-append key x.first (Arrival k g ∷ rebuilds k result) ∙ rw x.unbuilt refl in
    Here result (arrivals_of key r ∙ one_fragment k key g f same.0 same.1) (are ∙ ap (λ j. rebuilt key (rebuilds j result)) same.0)
    (ap (rebuilt key) (b ∙ append-nil x.first) ∙ x.unbuilt key) (ap (arrivals_under key) (b ∙ append-nil x.first) ∙ none)
    (e ∙ ap (λ j. rebuilds j result ++ rest) same.0)

split : {ends : ℤ} {slots new : Slots} {k : FragKey} {g : Fragment} {result : Option (List ℕ)} (notes rest before after : List SlotNote)
    (key : FragKey) (f : Fragment) → Reassembles ends k g result slots notes new →
    notes ++ rest ≡ before ++ Arrival key f ∷ after → Split notes rest before after key f
split {k = k} {g = g} {result = result} notes rest before after key f r e = by one.more one.is one.rest where
  x : Noted k g result notes
  x = noted r

  whole : x.first ++ (Arrival k g ∷ (rebuilds k result ++ rest)) ≡ before ++ Arrival key f ∷ after
  whole = sym (append_assoc x.first (Arrival k g ∷ rebuilds k result) rest) ∙ ap (λ ns. ns ++ rest) (sym x.are) ∙ e

  one : Behind x.first (Arrival k g ∷ (rebuilds k result ++ rest)) before after key f
  one = behind x.first (Arrival k g ∷ (rebuilds k result ++ rest)) before after key f x.none whole

  by : (more : List SlotNote) →
      before ≡ x.first ++ more → Arrival k g ∷ (rebuilds k result ++ rest) ≡ more ++ Arrival key f ∷ after → Split notes rest before after key f
  by [] b h = split_here notes rest before after key f r x
      (same_arrivals k key g f (same_head (Arrival k g) (Arrival key f) (rebuilds k result ++ rest) after h)) b
      (sym (same_tail (Arrival k g) (Arrival key f) (rebuilds k result ++ rest) after h))
  by (y ∷ more) b h =
      let two = behind (rebuilds k result) rest more after key f (rebuilds_none k result)
      (same_tail (Arrival k g) y (rebuilds k result ++ rest) (more ++ Arrival key f ∷ after) h) in
      let head : Arrival k g ≡ y = same_head (Arrival k g) y (rebuilds k result ++ rest) (more ++ Arrival key f ∷ after) h in
      Later two.more (b ∙ ap (λ ns. x.first ++ ns) (ap (λ z. z ∷ more) (sym head) ∙ ap (λ ns. Arrival k g ∷ ns) two.is)
      ∙ sym (append_assoc x.first (Arrival k g ∷ rebuilds k result) two.more) ∙ ap (λ ns. ns ++ two.more) (sym x.are)) two.rest

-- one key at most: at most one slot
abbrev no_slot : Held
no_slot = map.empty

few_slots : (held : Held) (other : FragKey) → ((k : FragKey) (s : Slot) → map.get held k ≡ Some s → k ≡ other) → map.len held < 2
few_slots held other only = by (map.get held other) refl where
  nothing : map.get held other ≡ None → (q : FragKey) (o : Option Slot) → map.get held q ≡ o → map.get held q ≡ None
  nothing none q None e = e
  nothing none q (Some s) e = let same : q ≡ other = only q s e in rw same none

  empty : (q : FragKey) → map.get no_slot q ≡ None
  empty q = get-empty key_cmp q

  one : (s : Slot) → map.get held other ≡ Some s → (q : FragKey) (b : Bool) → same_key q other ≡ b → (o : Option Slot) →
      map.get held q ≡ o → map.get held q ≡ cond b (Some s) None
  one s is q true e o at = let same : q ≡ other = same_is q other e in rw same is
  one s is q false e None at = at
  one s is q false e (Some x) at =
      let same : q ≡ other = only q x at in
      let yes : same_key q other ≡ true = rw same (test_same other) in absurd cc

  count : (b : Bool) → cond b 0 (0 + 1) < 2
  count true = omega arith
  count false = omega arith

  by : (o : Option Slot) → map.get held other ≡ o → map.len held < 2
  by None e =
      let same : held ≡ no_slot = same_map key_total key_exact held no_slot (λ q. nothing e q (map.get held q) refl ∙ sym (empty q)) in
      let zero : map.len held ≡ 0 = rw same (len-empty key_cmp Slot) in omega arith
  by (Some s) e =
      let same : held ≡ map.insert no_slot other s = same_map key_total key_exact held (map.insert no_slot other s)
      (λ q. one s e q (same_key q other) refl (map.get held q) refl ∙ sym (get-insert key_total no_slot other s q ∙ rw get-empty refl)) in
      let l : map.len held ≡ cond (map.contains_key no_slot other) 0 (0 + 1) =
      rw (same, len-insert key_total no_slot other s, len-empty key_cmp Slot) refl in
      rw l (count (map.contains_key no_slot other))

-- a sweep takes slots away, and no slot that ends later
in_live : (t : ℤ) (slots : Slots) (k : FragKey) (s : Slot) → map.get (live_at t slots).held k ≡ Some s → map.get slots.held k ≡ Some s
in_live t slots k s e = live_then t (map.get slots.held k) s (not (has_ended t (map.get slots.held k))) (sym (get-live_at t slots k) ∙ e)

stays : (t : ℤ) (slots : Slots) (k : FragKey) → ((s : Slot) → map.get slots.held k ≡ Some s → t ≤ℤ s.ends) → map.get (live_at t slots).held k ≡ map.get slots.held k
stays t slots k later = get-live_at t slots k ∙ by (map.get slots.held k) refl where
  ended : (s : Slot) → t ≤ℤ s.ends → int_lt s.ends t ≡ false
  ended s l = test (int_lt s.ends t) refl where
    test : (b : Bool) → int_lt s.ends t ≡ b → b ≡ false
    test true e = absurd (omega (arith, ints))
    test false e = refl

  by : (o : Option Slot) → map.get slots.held k ≡ o → (if not (has_ended t o) then o else None) ≡ o
  by None e = refl
  by (Some s) e = rw (ended s (later s e)) refl

module _ (key other : FragKey) (t0 end : ℤ) where
  -- what holds of a host's slots and of its timeout within the time
  record Fits (slots : Slots) (timeout : ℕ) : Type 0 where
    keys : (k : FragKey) (s : Slot) → map.get slots.held k ≡ Some s → (k ≡ key) ⊎ (k ≡ other)
    ends : (s : Slot) → map.get slots.held key ≡ Some s → end ≤ℤ s.ends
    span : end ≤ℤ (t0 +ℤ pos timeout)
    wide : 2 ≤ slots.room

  -- slots of which some were taken away, none of them that of the key
  record Moves (old new : Slots) : Type 0 where
    fewer : (k : FragKey) (s : Slot) → map.get new.held k ≡ Some s → map.get old.held k ≡ Some s
    same : map.get new.held key ≡ map.get old.held key
    room : new.room ≡ old.room

  moved : {old new : Slots} {timeout later : ℕ} → Fits old timeout → Moves old new → end ≤ℤ (t0 +ℤ pos later) → Fits new later
  moved f m span = record { keys = λ k s e. f.keys k s (m.fewer k s e); ends = λ s e. f.ends s (m.fewer key s e); span = span; wide = rw m.room f.wide }

  sweeps : {slots : Slots} {timeout : ℕ} (t : ℤ) → Fits slots timeout → t ≤ℤ end → Moves slots (live_at t slots)
  sweeps {slots} t f l = record {
    fewer = λ k s e. in_live t slots k s e;
    same = stays t slots key (λ s e. let later : end ≤ℤ s.ends = f.ends s e in omega (arith, ints));
    room = refl;
  }

  swept_by : {slots : Slots} {timeout : ℕ} (o : Option ℤ) →
      Fits slots timeout → ((t : ℤ) → o ≡ Some t → (t0 ≤ℤ t) × (t ≤ℤ end)) → Moves slots (live_by o slots)
  swept_by None f in_time = record { fewer = λ k s e. e; same = refl; room = refl }
  swept_by (Some t) f in_time = sweeps t f (in_time t refl).1

  -- one fragment under one of the two keys
  room : {slots : Slots} {timeout : ℕ} → Fits slots timeout → map.get slots.held key ≡ None → HasFree slots
  room {slots} f none = let few = few_slots slots.held other (λ k s e. by k s e (f.keys k s e)) in let wide = f.wide in omega arith where
    by : (k : FragKey) (s : Slot) → map.get slots.held k ≡ Some s → (k ≡ key) ⊎ (k ≡ other) → k ≡ other
    by k s e (inl same) = let bad : None ≡ Some s = sym none ∙ rw same at e in absurd cc
    by k s e (inr same) = same

  entered_ends : {ends : ℤ} {slots : Slots} {timeout : ℕ} {slot : Slot} {first : List SlotNote} →
      Fits slots timeout → end ≤ℤ ends → Enters ends key slots slot first → end ≤ℤ slot.ends
  entered_ends {slot = slot} f late (Stood s n) = f.ends slot s
  entered_ends f late (Taken free room s n) = rw s late

  put : {ends : ℤ} {slots new : Slots} {timeout : ℕ} {k : FragKey} {slot : Slot} (slot' : Slot) {first : List SlotNote} →
      Fits slots timeout → (k ≡ key) ⊎ (k ≡ other) → end ≤ℤ ends → Enters ends k slots slot first →
      slot'.ends ≡ slot.ends → new ≡ with_slot slots k slot' → Fits new timeout
  put {ends} {slots} {new} {timeout} {k} {slot} slot' {first} f which late enters is e = record {
    keys = λ j s at. by_key j s (same_key j k) refl (sym (get-insert key_total slots.held k slot' j) ∙ sym (ap (λ x. map.get x.held j) e) ∙ at);
    ends = λ s at. by_end s (same_key key k) refl (sym (get-insert key_total slots.held k slot' key) ∙ sym (ap (λ x. map.get x.held key) e) ∙ at);
    span = f.span;
    wide = rw e f.wide;
  } where
    by_key : (j : FragKey) (s : Slot) (b : Bool) → same_key j k ≡ b → cond b (Some slot') (map.get slots.held j) ≡ Some s → (j ≡ key) ⊎ (j ≡ other)
    by_key j s true q at = rw (same_is j k q) which
    by_key j s false q at = f.keys j s at

    later : key ≡ k → end ≤ℤ slot'.ends
    later q = let enters' : Enters ends key slots slot first = rw q enters in rw is (entered_ends f late enters')

    by_end : (s : Slot) (b : Bool) → same_key key k ≡ b → cond b (Some slot') (map.get slots.held key) ≡ Some s → end ≤ℤ s.ends
    by_end s true q at = let one : slot' ≡ s = cc in rw (← one) (later (same_is key k q))
    by_end s false q at = f.ends s at

  gone : {slots new : Slots} {timeout : ℕ} (k : FragKey) → Fits slots timeout → new ≡ without_slot slots k → Fits new timeout
  gone {slots} k f e = record {
    keys = λ j s at. f.keys j s (left j s (same_key j k) (sym (get-remove key_total slots.held k j) ∙ sym (ap (λ x. map.get x.held j) e) ∙ at));
    ends = λ s at. f.ends s (left key s (same_key key k) (sym (get-remove key_total slots.held k key) ∙ sym (ap (λ x. map.get x.held key) e) ∙ at));
    span = f.span;
    wide = rw e f.wide;
  } where
    left : (j : FragKey) (s : Slot) (b : Bool) → cond b None (map.get slots.held j) ≡ Some s → map.get slots.held j ≡ Some s
    left j s true at = absurd cc
    left j s false at = at

  fits_after : {ends : ℤ} {slots new : Slots} {timeout : ℕ} {k : FragKey} {g : Fragment} {result : Option (List ℕ)} {notes : List SlotNote} →
      Fits slots timeout → (k ≡ key) ⊎ (k ≡ other) → end ≤ℤ ends →
      Reassembles ends k g result slots notes new → Fits new timeout
  fits_after f which late (NoSlot none full r n e) = rw e f
  fits_after f which late (Unfit slot first enters u r n e) = put _ f which late enters refl e
  fits_after f which late (Waits slot first enters u w r n e) = put _ f which late enters refl e
  fits_after f which late (Rebuilt slot first octets enters u w r n e) = gone _ f e

  abbrev Which : FragKey × Fragment → Type 0
  Which c = (c.0 ≡ key) ⊎ (c.0 ≡ other)

  abbrev IsReady : Command → Type 0
  IsReady c = IsSingle c × IsInTime t0 end c

  -- a timeout stays, or is set
  abbrev Timeout : Command → Host → Host → Type 0
  Timeout c old new = (new.reassembly_timeout ≡ old.reassembly_timeout)
      ⊎ ((timeout : ℕ) × (c ≡ command.SetReassemblyTimeout timeout) × (new.reassembly_timeout ≡ timeout))

  updated : {list : _} {answer : _} {old new : Host} → step.UpdatesIpAddrs list answer old new → new.reassembly_timeout ≡ old.reassembly_timeout
  updated (step.Accepted a r e) = ap (λ (K : Host). K.reassembly_timeout) e
  updated (step.Refused a r e) = ap (λ (K : Host). K.reassembly_timeout) e

  address_set : {h : _} {answer : _} {old new : Host} → step.SetsHardwareAddr h answer old new → new.reassembly_timeout ≡ old.reassembly_timeout
  address_set (step.Taken a of r e) = ap (λ (K : Host). K.reassembly_timeout) e
  address_set (step.NotTaken error a r e) = ap (λ (K : Host). K.reassembly_timeout) e

  kept : (H : Host) (b : Bool) → (if b then with_slaac_applied H else H).reassembly_timeout ≡ H.reassembly_timeout
  kept H true = refl
  kept H false = refl

  timeout_of : {c : Command} {a : Answer} {old new : Host} {told : List Event} {acts : List Act} {notes : List Note} →
      IsSingle c → Step c a old told acts notes new → Timeout c old new
  timeout_of single (step.UpdatedIpAddrs u) = inl (updated u)
  timeout_of single (step.PolledIngressSingle i) = inl (ingress_alike i).timeout
  timeout_of single (step.PolledEgress e) = inl (egress_alike e).timeout
  timeout_of single (step.Polled p) = absurd single
  timeout_of single (step.PolledMaintenance {t} {old}) = inl (kept (without_expired old t) (sync_required old.slaac t))
  timeout_of single (step.JoinedGroup j) = inl (ap (λ (K : Host). K.reassembly_timeout) (join_groups j).1)
  timeout_of single (step.LeftGroup j) = inl (ap (λ (K : Host). K.reassembly_timeout) (leave_groups j).1)
  timeout_of single (step.TookHardwareAddr s) = inl (address_set s)
  timeout_of single (step.TookReassemblyTimeout {timeout = timeout} (step.WithinDay l r e)) =
      inr (timeout, refl, ap (λ (K : Host). K.reassembly_timeout) e)
  timeout_of single (step.TookReassemblyTimeout (step.OverDay l r e)) = inl (ap (λ (K : Host). K.reassembly_timeout) e)
  timeout_of single other = inl refl

  -- one place
  module _ (q : Transition) (fits : Fits q.before.slots q.before.reassembly_timeout) (in_time : IsInTime t0 end q.command)
      (timeout : Timeout q.command q.before q.after) where
    slots_move : Moves q.before.slots (slots_then q.command q.before.slots)
    slots_move = swept_by (expiry_time_of q.command) fits in_time.polls

    served : IsSingle q.command → IsServed key q
    served single = record {
      single = single;
      kept = slots_move.same;
      room = λ some none. room (moved fits slots_move fits.span) (slots_move.same ∙ none);
    }

    span_after : Timeout q.command q.before q.after → end ≤ℤ (t0 +ℤ pos q.after.reassembly_timeout)
    span_after (inl e) = rw e fits.span
    span_after (inr x) = rw x.2 (in_time.timeouts x.0 x.1)

    no_set : (t : ℤ) → q.command ≡ command.PollIngressSingle t → Timeout q.command q.before q.after →
        q.after.reassembly_timeout ≡ q.before.reassembly_timeout
    no_set t is (inl e) = e
    no_set t is (inr x) = let bad : command.PollIngressSingle t ≡ command.SetReassemblyTimeout x.0 = sym is ∙ x.1 in absurd cc

    fits_on : (more : List SlotNote) → StepView q.command q.before q.told q.notes q.after →
        AllByRecursion Which (all_arrivals (slot_notes q.notes ++ more)) → Fits q.after.slots q.after.reassembly_timeout
    fits_on more (NoPart none n s) allowed = moved fits (subst (λ x. Moves q.before.slots x) (sym s) slots_move) (span_after timeout)
    fits_on more (APart t frame k g result c h b r) allowed =
        let within = in_time.polls t (ap expiry_time_of c) in
        let one : all_arrivals (slot_notes q.notes) ≡ (k, g) ∷ [] = all_arrivals_of r in
        let which : AllByRecursion Which ((k, g) ∷ all_arrivals more) = rw (all_arrivals-append, one) at allowed in
        let span = fits.span in
        let from = within.0 in
        let late : end ≤ℤ (t +ℤ pos q.before.reassembly_timeout) = omega (arith, ints) in
        rw (no_set t c timeout) (fits_after (moved fits (sweeps t fits within.1) fits.span) which.0 late r)

split_at : (q : Transition) (rest before after : List SlotNote) (key : FragKey) (f : Fragment) →
    StepView q.command q.before q.told q.notes q.after → slot_notes q.notes ++ rest ≡ before ++ Arrival key f ∷ after →
    Split (slot_notes q.notes) rest before after key f
split_at q rest before after key f (NoPart none n s) e = Later before (ap (λ ns. ns ++ before) (sym n)) (ap (λ ns. ns ++ rest) (sym n) ∙ e)
split_at q rest before after key f (APart t frame k g result c h b r) e = split (slot_notes q.notes) rest before after key f r e

no_notes : (before after : List SlotNote) (n : SlotNote) → [] ≡ before ++ n ∷ after → ⊥
no_notes [] after n e = cc
no_notes (b ∷ before) after n e = cc

abbrev IsNext : FragKey → List ℕ → List SlotNote → Type 0
IsNext key payload after = (rest : List SlotNote) × (after ≡ Rebuild key payload ∷ rest)

next_is : (key : FragKey) (payload : List ℕ) (rest after : List SlotNote) (result : Option (List ℕ)) →
    rebuilt key (rebuilds key result) ≡ payload ∷ [] → after ≡ rebuilds key result ++ rest → IsNext key payload after
next_is key payload rest after None e a = absurd cc
next_is key payload rest after (Some octets) e a =
    let one : octets ∷ [] ≡ payload ∷ [] = rw (test_same key) at e in
    let same : octets ≡ payload = cc in
    (rest, a ∙ ap (λ os. Rebuild key os ∷ rest) same)

module _ (m : ℕ) (payload : List ℕ) (key other : FragKey) (t0 end : ℤ) (some : 0 < m) (short : length payload ≤ 4096) where
  goes : (transitions : List Transition) (H last : Host) (so_far : List Fragment) (before after : List SlotNote) (f : Fragment) →
      Run H transitions last → AllByRecursion (λ p. IsReady key other t0 end p.command) transitions →
      Fits key other t0 end H.slots H.reassembly_timeout → Holding key H.slots so_far → Coming m payload so_far (arrivals_under key before) f →
      AllByRecursion (Which key other t0 end) (all_arrivals before) →
      slot_notes_in transitions ≡ before ++ Arrival key f ∷ after → (rebuilt key before ≡ []) × IsNext key payload after
  goes [] H last so_far before after f run ready fits holding c allowed e = absurd (no_notes before after (Arrival key f) e)
  goes (q ∷ transitions) H last so_far before after f run ready fits holding c allowed e =
      by (split_at q (slot_notes_in transitions) before after key f view (sym (slot_notes-append q.notes (notes_in transitions)) ∙ e))
      (λ so_far more fits holding c allowed e.
      goes transitions q.after last so_far more after f (run_head run).run ready.1 fits holding c allowed e) where
        s : Step q.command q.answer q.before q.told q.acts q.notes q.after
        s = let h = run_head run in rw h.began h.step

        view : StepView q.command q.before q.told q.notes q.after
        view = step_view ready.0.0 s

        fits_here : Fits key other t0 end q.before.slots q.before.reassembly_timeout
        fits_here = rw (run_head run).began fits

        hold : Holding key q.before.slots so_far
        hold = rw (run_head run).began holding

        timeout : Timeout key other t0 end q.command q.before q.after
        timeout = timeout_of key other t0 end ready.0.0 s

        serves : IsServed key q
        serves = served key other t0 end q fits_here ready.0.1 timeout ready.0.0

        by : Split (slot_notes q.notes) (slot_notes_in transitions) before after key f →
            ((so_far : List Fragment) (more : List SlotNote) → Fits key other t0 end q.after.slots q.after.reassembly_timeout →
            Holding key q.after.slots so_far → Coming m payload so_far (arrivals_under key more) f →
            AllByRecursion (Which key other t0 end) (all_arrivals more) → slot_notes_in transitions ≡ more ++ Arrival key f ∷ after →
            (rebuilt key more ≡ []) × IsNext key payload after) →
            (rebuilt key before ≡ []) × IsNext key payload after
        by (Here result one are none no_arrival a) go_on =
            let c' : Coming m payload so_far [] f = rw no_arrival at c in
            let last : rebuilt key (slot_notes q.notes) ≡ payload ∷ [] = last_piece m payload key some short q so_far f view hold c' serves one in
            (none, next_is key payload (slot_notes_in transitions) after result (sym are ∙ last) a)
        by (Later more b rest) go_on =
            let arrivals_are : arrivals_under key before ≡ arrivals_under key (slot_notes q.notes) ++ arrivals_under key more =
            ap (arrivals_under key) b ∙ arrivals_under-append key (slot_notes q.notes) more in
            let c' : Coming m payload so_far (arrivals_under key (slot_notes q.notes) ++ arrivals_under key more) f = rw arrivals_are at c in
            let all : AllByRecursion (Which key other t0 end) (all_arrivals (slot_notes q.notes ++ more)) = rw b at allowed in
            let parts : AllByRecursion (Which key other t0 end) (all_arrivals (slot_notes q.notes) ++ all_arrivals more) =
            rw all_arrivals-append at all in
            let w = one_step m payload key some short q so_far (arrivals_under key more) f view hold c' serves in
            let later = go_on (so_far ++ arrivals_under key (slot_notes q.notes)) more
            (fits_on key other t0 end q fits_here ready.0.1 timeout more view all) w.holding
            (coming_on m payload key some short (arrivals_under key (slot_notes q.notes)) so_far (arrivals_under key more) f c')
            (all_left (Which key other t0 end) (all_arrivals (slot_notes q.notes)) (all_arrivals more) parts).1 rest in
            (ap (rebuilt key) b ∙ rebuilt-append key (slot_notes q.notes) more ∙ rw (w.none, later.0) refl, later.1)

poll_in_time : (key other : FragKey) (t0 end t : ℤ) (budget : ℕ) →
    IsInTime t0 end (command.Poll t budget) → IsReady key other t0 end (command.PollMaintenance t)
    × IsReady key other t0 end (command.PollIngressSingle t) × IsReady key other t0 end (command.PollEgress t)
poll_in_time key other t0 end t budget q = (
  (tt, record { polls = λ u e. q.polls u e; timeouts = λ timeout e. absurd cc }),
  (tt, record { polls = λ u e. q.polls u e; timeouts = λ timeout e. absurd cc }),
  (tt, record { polls = λ u e. absurd cc; timeouts = λ timeout e. absurd cc }),
)

pub pieces_in_time : PiecesArriveInTime
pieces_in_time first last transitions before after key other t0 end m payload f run some short notes in_time
    span wide empty only allowed pieces all none few =
    let s = all_singles (IsInTime t0 end) (IsReady key other t0 end) (λ c is q. (is, q)) (poll_in_time key other t0 end) in_time run in
    let are = all_left (IsPiece m payload) (arrivals_under key before) (f ∷ []) (pieces_are m payload _ pieces) in
    let coming : Coming m payload [] (arrivals_under key before) f = record {
      so_far_are = tt;
      coming_are = are.0;
      last_is = are.1.0;
      none = λ i. none (contains_in (arrivals_under key before) f i);
      all = λ k l. is_in _ _ (all (piece_at m payload k) (in_cut m payload k l));
      few = few;
    } in
    let r = goes m payload key other t0 end some short s.transitions first last [] before after f s.run s.are
    (record { keys = λ k x e. inr (only k x e); ends = λ x e. absurd (let bad : None ≡ Some x = sym empty ∙ e in cc); span = span; wide = wide })
    (Empty refl empty) coming allowed (ap slot_notes s.all_notes ∙ notes) in
    (r.0, r.1.0, r.1.1)
