-- Calls of one kind, one after the other until one has nothing to do or the budget is spent: where each is determined by what the device answers, or
-- differs from another in something, all are, or some differ, from one host on.
use Rattle.std.proofs.Common.{◌≡◌, ◌≢◌, ◌⊎◌, ℕ, ◌+◌, ◌<◌, List, [], ◌++◌, refl, sym, ◌∙◌, ap, append_assoc, subst, arith, inl, inr, zero, suc}
use Rattle.std.proofs.lemmas.Bool.{cases_eq}
use Rattle.std.proofs.lemmas.Bool.Decides.{nat_tests}
use Rattle.std.proofs.lemmas.List.{append-nil}
use Rattle.std.specs.Prelude.{Bool, true, false, ◌||◌, nat_lt}
use Rattle.net_base.specs.Device.{Event}
use Rattle.host_machine.specs.Context.Note.{Note}
use Rattle.host_machine.specs.Context.Host.{Host}
use Rattle.host_machine.specs.Interface.Parts.{Part}
use Rattle.host_machine.specs.Interface.Polling.{Repeats, Until, Begins, Again, Spent, Done}
use Rattle.host_laws.specs.Laws.Determined.{IsOneCall}
use Rattle.host_laws.proofs.Interface.PartDeterminism.{Splits, split, before, behind, joined, spread}

-- by what is seen of events, for one kind of call, and for how two may differ
module _ {B A : Type 0} (seen : List Event → List B) (seen-append : (xs ys : List Event) → seen (xs ++ ys) ≡ seen xs ++ seen ys)
    (call : A → Part) (nothing : A) (changes : A → Bool) (Differ : Host → List Event → List Event → Type 0)
    (flip : (H : Host) (t t' : List Event) → Differ H t t' → Differ H t' t)
    (once : (a b : A) (H : Host) (told told' : List Event) (notes notes' : List Note) (new new' : Host) (rest rest' : List B) →
    call a H told notes new → call b H told' notes' new' →
    seen told ++ rest ≡ seen told' ++ rest' → IsOneCall a b told told' notes notes' new new' ⊎ Differ H told told') where
  -- two that did the same up to a call in which they differ
  pub record Parted (old : Host) (told told' : List Event) : Type 0 where
    pub calls : ℕ
    pub changed : Bool
    pub told_so : List Event
    pub notes_so : List Note
    pub mid : Host
    pub so_far : Repeats call nothing changes old calls told_so notes_so mid changed
    pub next : List Event
    pub next' : List Event
    pub differ : Differ mid next next'
    pub more : List Event
    pub more' : List Event
    pub told_is : told ≡ told_so ++ (next ++ more)
    pub told_is' : told' ≡ told_so ++ (next' ++ more')

  parted_flip : {old : Host} {t t' : List Event} → Parted old t t' → Parted old t' t
  parted_flip p = record {
    calls = p.calls;
    changed = p.changed;
    told_so = p.told_so;
    notes_so = p.notes_so;
    mid = p.mid;
    so_far = p.so_far;
    next = p.next';
    next' = p.next;
    differ = flip p.mid p.next p.next' p.differ;
    more = p.more';
    more' = p.more;
    told_is = p.told_is';
    told_is' = p.told_is;
  }

  on : {t x : List Event} (so next more y : List Event) → t ≡ x ++ y → x ≡ so ++ (next ++ more) → t ≡ so ++ (next ++ (more ++ y))
  on so next more y e f = e ∙ ap (λ z. z ++ y) f ∙ append_assoc so (next ++ more) y ∙ ap (λ z. so ++ z) (append_assoc next more y)

  pub parted_on : {old : Host} {t t' x x' y y' : List Event} → Splits t x y → Splits t' x' y' → Parted old x x' → Parted old t t'
  parted_on {y = y} {y' = y'} e e' p = record {
    calls = p.calls;
    changed = p.changed;
    told_so = p.told_so;
    notes_so = p.notes_so;
    mid = p.mid;
    so_far = p.so_far;
    next = p.next;
    next' = p.next';
    differ = p.differ;
    more = p.more ++ y;
    more' = p.more' ++ y';
    told_is = on p.told_so p.next p.more y e.is p.told_is;
    told_is' = on p.told_so p.next' p.more' y' e'.is p.told_is';
  }

  here : {old mid : Host} {k : ℕ} {changed : Bool} {so so' next next' t t' : List Event} {notes : List Note} →
      Repeats call nothing changes old k so notes mid changed → so ≡ so' →
      Differ mid next next' → (more more' : List Event) → t ≡ so ++ (next ++ more) → t' ≡ so' ++ (next' ++ more') → Parted old t t'
  here {mid = mid} {k = k} {changed = changed} {so = so} {next = next} {next' = next'} {notes = notes} r same d more more' e e' = record {
    calls = k;
    changed = changed;
    told_so = so;
    notes_so = notes;
    mid = mid;
    so_far = r;
    next = next;
    next' = next';
    differ = d;
    more = more;
    more' = more';
    told_is = e;
    told_is' = e' ∙ ap (λ z. z ++ (next' ++ more')) (sym same);
  }

  -- the last of k + 1 calls
  record LastCall (old : Host) (k : ℕ) (told : List Event) (notes : List Note) (new : Host) (changed : Bool) : Type 0 where
    changed_so : Bool
    told_so : List Event
    notes_so : List Note
    mid : Host
    so_far : Repeats call nothing changes old k told_so notes_so mid changed_so
    answer : A
    told_last : List Event
    notes_last : List Note
    called : call answer mid told_last notes_last new
    changed_is : changed ≡ (changed_so || changes answer)
    told_is : Splits told told_so told_last
    notes_are : Splits notes notes_so notes_last

  last_call : {old new : Host} {n : ℕ} {told : List Event} {notes : List Note} {changed : Bool} (k : ℕ) →
      n ≡ k + 1 → Repeats call nothing changes old n told notes new changed → LastCall old k told notes new changed
  last_call k e Begins = absurd (omega (arith, e))
  last_call {old} k e (Again {n = m} {told_so = so} {notes_so = noted} {mid = mid} {changed = c} answer told notes new r called some) =
      let one : m ≡ k = omega (arith, e) in record {
        changed_so = c;
        told_so = so;
        notes_so = noted;
        mid = mid;
        so_far = subst (λ i. Repeats call nothing changes old i so noted mid c) one r;
        answer = answer;
        told_last = told;
        notes_last = notes;
        called = called;
        changed_is = refl;
        told_is = split so told refl;
        notes_are = split noted notes refl;
      }

  -- no calls
  record IsNoCall (old : Host) (told : List Event) (notes : List Note) (new : Host) (changed : Bool) : Type 0 where
    untold : told ≡ []
    unnoted : notes ≡ []
    same : new ≡ old
    unchanged : changed ≡ false

  no_call : {old new : Host} {n : ℕ} {told : List Event} {notes : List Note} {changed : Bool} →
      n ≡ 0 → Repeats call nothing changes old n told notes new changed → IsNoCall old told notes new changed
  no_call e Begins = record { untold = refl; unnoted = refl; same = refl; unchanged = refl }
  no_call e (Again answer told notes new r called some) = absurd (omega (arith, e))

  -- as many calls
  repeats_once : (k : ℕ) {old x x' : Host} {c c' : Bool} {t t' : List Event} {n n' : List Note} (rest rest' : List B) →
      Repeats call nothing changes old k t n x c → Repeats call nothing changes old k t' n' x' c' →
      seen t ++ rest ≡ seen t' ++ rest' → IsOneCall c c' t t' n n' x x' ⊎ Parted old t t'
  repeats_once zero rest rest' r r' same =
      let a = no_call refl r in
      let b = no_call refl r' in
      inl (record {
        answer_is = a.unchanged ∙ sym b.unchanged;
        told_is = a.untold ∙ sym b.untold;
        notes_are = a.unnoted ∙ sym b.unnoted;
        host_is = a.same ∙ sym b.same;
      })
  repeats_once (suc k) {old} {x} {x'} {c} {c'} {t} {t'} {n} {n'} rest rest' r r' same =
      let a = last_call k (omega arith) r in
      let b = last_call k (omega arith) r' in
      elim (repeats_once k (seen a.told_last ++ rest) (seen b.told_last ++ rest') a.so_far b.so_far
      (before seen seen-append rest rest' a.told_is b.told_is same)) [
        | inl so ↦ then a b so
        | inr parted ↦ inr (parted_on a.told_is b.told_is parted)
      ] where
        then : (a : LastCall old k t n x c) (b : LastCall old k t' n' x' c') →
            IsOneCall a.changed_so b.changed_so a.told_so b.told_so a.notes_so b.notes_so a.mid b.mid →
            IsOneCall c c' t t' n n' x x' ⊎ Parted old t t'
        then a b so = elim (once a.answer b.answer a.mid a.told_last b.told_last a.notes_last b.notes_last x x' rest rest' a.called
            (rw so.host_is b.called) (behind seen seen-append rest rest' a.told_is b.told_is so.told_is same)) [
              | inl last ↦ inl (record {
                answer_is = a.changed_is ∙ ap (λ z. z || changes a.answer) so.answer_is
                    ∙ ap (λ z. b.changed_so || changes z) last.answer_is ∙ sym b.changed_is;
                told_is = joined a.told_is b.told_is so.told_is last.told_is;
                notes_are = joined a.notes_are b.notes_are so.notes_are last.notes_are;
                host_is = last.host_is;
              })
              | inr differ ↦ inr (here a.so_far so.told_is differ [] [] (ended a.told_is) (ended b.told_is))
            ] where
              ended : {u v w : List Event} → Splits u v w → u ≡ v ++ (w ++ [])
              ended {v = v} {w = w} e = e.is ∙ ap (λ z. v ++ z) (sym (append-nil w))

  -- the first k of more calls, and the next
  record FirstCalls (old : Host) (k : ℕ) (told : List Event) : Type 0 where
    changed : Bool
    told_so : List Event
    notes_so : List Note
    mid : Host
    so_far : Repeats call nothing changes old k told_so notes_so mid changed
    answer : A
    told_next : List Event
    notes_next : List Note
    next : Host
    called : call answer mid told_next notes_next next
    some : answer ≢ nothing
    more : List Event
    told_is : told ≡ told_so ++ (told_next ++ more)

  first_calls : {old new : Host} {n : ℕ} {told : List Event} {notes : List Note} {changed : Bool} (k : ℕ) →
      k < n → Repeats call nothing changes old n told notes new changed → FirstCalls old k told
  first_calls k l Begins = absurd (omega (arith, l))
  first_calls {old} k l (Again {n = m} {told_so = so} {notes_so = noted} {mid = mid} {changed = c} answer told notes new r called some) =
      elim (cases_eq k m) [
        | inl same ↦ record {
          changed = c;
          told_so = so;
          notes_so = noted;
          mid = mid;
          so_far = subst (λ i. Repeats call nothing changes old i so noted mid c) (sym same) r;
          answer = answer;
          told_next = told;
          notes_next = notes;
          next = new;
          called = called;
          some = some;
          more = [];
          told_is = ap (λ z. so ++ z) (sym (append-nil told));
        }
        | inr other ↦ (let f = first_calls k (omega (arith, l, other)) r in record {
          changed = f.changed;
          told_so = f.told_so;
          notes_so = f.notes_so;
          mid = f.mid;
          so_far = f.so_far;
          answer = f.answer;
          told_next = f.told_next;
          notes_next = f.notes_next;
          next = f.next;
          called = f.called;
          some = f.some;
          more = f.more ++ told;
          told_is = on f.told_so f.told_next f.more told refl f.told_is;
        })
      ]

  -- where a call has nothing to do, no others of which the same is seen go on behind it
  done_there : {old mid x y : Host} {k n : ℕ} {c c' : Bool} {t t' so so' last : List Event} {noted noted' notes_last : List Note}
      (rest rest' : List B) (last' : List Event) → k < n →
      Repeats call nothing changes old k so noted mid c → call nothing mid last notes_last x → Splits t so last →
      Repeats call nothing changes old n so' noted' y c' → t' ≡ so' ++ last' →
      seen t ++ rest ≡ seen t' ++ rest' → Parted old t t'
  done_there {old} {mid} {x} {y} {k} {n} {c} {c'} {t} {t'} {so} {so'} {last} {noted} {noted'} {notes_last} rest rest' last' l r done e r' e' same =
      elim (repeats_once k (seen last ++ rest) (seen (f.told_next ++ (f.more ++ last')) ++ rest') r f.so_far
      (before seen seen-append rest rest' e goes same)) [
        | inl one ↦ next one
        | inr parted ↦ parted_on e goes parted
      ] where
        f : FirstCalls old k so'
        f = first_calls k l r'

        goes : Splits t' f.told_so (f.told_next ++ (f.more ++ last'))
        goes = split f.told_so (f.told_next ++ (f.more ++ last')) (on f.told_so f.told_next f.more last' e' f.told_is)

        next : IsOneCall c f.changed so f.told_so noted f.notes_so mid f.mid → Parted old t t'
        next one =
            let left : seen last ++ rest ≡ seen (f.told_next ++ (f.more ++ last')) ++ rest' =
            behind seen seen-append rest rest' e goes one.told_is same in
            elim (once nothing f.answer mid last f.told_next notes_last f.notes_next x f.next rest (seen (f.more ++ last') ++ rest') done
            (rw one.host_is f.called) (left ∙ spread seen seen-append rest' (split f.told_next (f.more ++ last') refl))) [
              | inl call_is ↦ absurd (f.some (sym call_is.answer_is))
              | inr differ ↦ here r one.told_is differ [] (f.more ++ last') (e.is ∙ ap (λ z. so ++ z) (sym (append-nil last))) goes.is
            ]

  pub until_once : {old x x' : Host} {budget : ℕ} {c c' : Bool} {t t' : List Event} {n n' : List Note} (rest rest' : List B) →
      Until call nothing changes budget c old t n x →
      Until call nothing changes budget c' old t' n' x' → seen t ++ rest ≡ seen t' ++ rest' → IsOneCall c c' t t' n n' x x' ⊎ Parted old t t'
  until_once {budget = budget} rest rest' (Spent r) (Spent r') same = repeats_once budget rest rest' r r' same
  until_once {t = t} rest rest' (Spent r) (Done m so last notes_so notes_last mid l r' d e f) same =
      inr (parted_flip (done_there rest' rest [] l r' d (split so last e) r (sym (append-nil t)) (sym same)))
  until_once {t' = t'} rest rest' (Done m so last notes_so notes_last mid l r d e f) (Spent r') same =
      inr (done_there rest rest' [] l r d (split so last e) r' (sym (append-nil t')) same)
  until_once {old} {x} {x'} {budget} {c} {c'} {t} {t'} {n} {n'} rest rest' (Done m so last notes_so notes_last mid l r d e f)
      (Done m' so' last' notes_so' notes_last' mid' l' r' d' e' f') same =
      by (nat_lt m m') (nat_lt m' m) refl refl where
        one : Splits t so last
        one = split so last e

        other : Splits t' so' last'
        other = split so' last' e'

        ended : IsOneCall c c' so so' notes_so notes_so' mid mid' → IsOneCall c c' t t' n n' x x' ⊎ Parted old t t'
        ended so_far = elim (once nothing nothing mid last last' notes_last notes_last' x x' rest rest' d (rw so_far.host_is d')
            (behind seen seen-append rest rest' one other so_far.told_is same)) [
              | inl done ↦ inl (record {
                answer_is = so_far.answer_is;
                told_is = joined one other so_far.told_is done.told_is;
                notes_are = joined (split notes_so notes_last f) (split notes_so' notes_last' f') so_far.notes_are done.notes_are;
                host_is = done.host_is;
              })
              | inr differ ↦ inr
                  (here r so_far.told_is differ [] [] (e ∙ ap (λ z. so ++ z) (sym (append-nil last)))
                  (e' ∙ ap (λ z. so' ++ z) (sym (append-nil last'))))
            ]

        by : (a b : Bool) → nat_lt m m' ≡ a → nat_lt m' m ≡ b → IsOneCall c c' t t' n n' x x' ⊎ Parted old t t'
        by true b less more = inr (done_there rest rest' last' (grind (arith, nat_tests)) r d one r' e' same)
        by false true less more = inr (parted_flip (done_there rest' rest last (grind (arith, nat_tests)) r' d' other r e (sym same)))
        by false false less more =
            let calls : m' ≡ m = grind (arith, nat_tests) in
            elim (repeats_once m (seen last ++ rest) (seen last' ++ rest') r
            (subst (λ i. Repeats call nothing changes old i so' notes_so' mid' c') calls r') (before seen seen-append rest rest' one other same)) [
              | inl so_far ↦ ended so_far
              | inr parted ↦ inr (parted_on one other parted)
            ]
