-- Places that stand for slots.
use Rattle.std.proofs.Common.{◌≡◌, ◌<◌, ◌≤◌, ◌+◌, ℕ, ℤ, zero, suc, Bool, true, false, List, [], ◌∷◌, Option, Some, None}
use Rattle.std.proofs.Common.{map as each, length, get_or, slice_set, add-one, refl, sym, ap, subst, ◌∙◌, arith, inl, inr}
use Rattle.std.specs.Prelude.{cond, is_none, ◌⊎◌, int_lt}
use Rattle.std.specs.Ordering.{eq_by_cmp}
use Rattle.std.specs.FinMap as map
use Rattle.std.specs.FinMap.{get-empty, len-empty}
use Rattle.fragmentation.specs.declared.key.FragKey.{FragKey}
use Rattle.fragmentation.specs.Keys.{key_cmp}
use Rattle.fragmentation.specs.Slots as slots
use Rattle.fragmentation.specs.Slots.{Slot, Held, has_ended}
use Rattle.fragmentation.specs.Assembly.{Assembly, index_of_key, free_slot, has_key, slot_after_free, live_at, AreFree}
use Rattle.fragmentation.specs.Stands.{StandsFor, StandsAt, StandsBefore, StandForHeldOf, StandForHeld}
use Rattle.fragmentation.proofs.KeyLemmas.{key_tied, keys_equal, get_put, get_put_apart, get_out, get_out_apart, put_out}
use Rattle.fragmentation.proofs.KeyLemmas.{put_out_apart, out_out, out_absent, len_out, left_remove, left_ended, left_kept, left_none}

module _ {K : Type 0} (key_of : K → FragKey) where
  -- its key, and that the others stand for the rest
  pub cases : (s : Assembly K) (Others : Held → Type 0) (m : Held) (P : Option K → Type 0) →
      StandsBefore key_of s s.key Others m → (s.key ≡ None → Others m → P None) →
      ((k : K) → s.key ≡ Some k → StandsAt s (key_of k) m → Others (map.remove m (key_of k)) → P (Some k)) → P s.key
  cases s Others m P h none some =
      elim s.key as (λ o. s.key ≡ o → StandsBefore key_of s o Others m → P o) [
        | None ↦ λ e h. none e h
        | Some k ↦ λ e h. some k e h.0 h.1
      ] refl h

  pub key_is : (s : Assembly K) (Others : Held → Type 0) (m : Held) (o : Option K) →
      s.key ≡ o → StandsBefore key_of s o Others m → StandsBefore key_of s s.key Others m
  key_is s Others m o e h = subst (λ (o : Option K). StandsBefore key_of s o Others m) (sym e) h

  same_place : (s new : Assembly K) (Others : Held → Type 0) (m : Held) (o : Option K) →
      new ≡ s → s.key ≡ o → StandsBefore key_of s o Others m → StandsBefore key_of new new.key Others m
  same_place s new Others m o is e h = subst (λ (x : Assembly K). StandsBefore key_of x x.key Others m) (sym is) (key_is s Others m o e h)

some_none : {A : Type 0} (x : A) → Some x ≡ None → ⊥
some_none x e = cc

true_false : true ≡ false → ⊥
true_false e = cc

there_apart : (m : Held) (j k : FragKey) (v : Slot) → map.get (map.remove m j) k ≡ Some v → k ≡ j → ⊥
there_apart m j k v e same = some_none v (sym e ∙ ap (map.get (map.remove m j)) same ∙ get_out m j)

with_key : (s : Assembly FragKey) (Others : Held → Type 0) (m : Held) (k : FragKey) →
    s.key ≡ Some k → StandsBefore (λ k. k) s s.key Others m → StandsAt s k m × Others (map.remove m k)
with_key s Others m k e h = subst (λ (o : Option FragKey). StandsBefore (λ k. k) s o Others m) e h

without_key : (s : Assembly FragKey) (Others : Held → Type 0) (m : Held) → s.key ≡ None → StandsBefore (λ k. k) s s.key Others m → Others m
without_key s Others m e h = subst (λ (o : Option FragKey). StandsBefore (λ k. k) s o Others m) e h

-- the place at i stands for the slot of its key
pub there : (ss : List (Assembly FragKey)) (m : Held) (i : ℕ) (k : FragKey) (d : Assembly FragKey) →
    i < length ss → (get_or ss i d).key ≡ Some k → StandForHeld ss m → StandsAt (get_or ss i d) k m
there [] m i k d l e h = absurd (omega arith)
there (s ∷ ss) m zero k d l e h = (with_key s (StandForHeld ss) m k e h).0
there (s ∷ ss) m (suc i) k d l e h =
    cases (λ k. k) s (StandForHeld ss) m (λ o. StandsAt (get_or ss i d) k m) h
    (λ _ others. there ss m i k d (omega arith) e others)
    (λ j _ at others.
    let h = there ss (map.remove m j) i k d (omega arith) e others in
    record { slot = h.slot; found = sym (get_out_apart m j k (there_apart m j k h.slot h.found)) ∙ h.found; stands = h.stands })

-- it may serve the key: it has it, or it is free and there is no slot for the key
abbrev pub MayServe : Assembly FragKey → FragKey → Held → Type 0
MayServe s k m = (s.key ≡ Some k) ⊎ ((s.key ≡ None) × (map.get m k ≡ None))

serves_apart : (ss : List (Assembly FragKey)) (m : Held) (s : Assembly FragKey) (i : ℕ) (j k : FragKey) (d : Assembly FragKey) →
    i < length ss → StandsAt s j m → StandForHeld ss (map.remove m j) → MayServe (get_or ss i d) k m → k ≡ j → ⊥
serves_apart ss m s i j k d l at others may same =
    elim may [
      | inl e ↦ let h = there ss (map.remove m j) i k d l e others in there_apart m j k h.slot h.found same
      | inr p ↦ some_none at.slot (sym at.found ∙ ap (map.get m) (sym same) ∙ p.1)
    ]

serves_rest : (s : Assembly FragKey) (m : Held) (j k : FragKey) → (k ≡ j → ⊥) → MayServe s k m → MayServe s k (map.remove m j)
serves_rest s m j k apart may = elim may [ inl e ↦ inl e | inr p ↦ inr (p.0, get_out_apart m j k apart ∙ p.1) ]

rest_of : (s : Assembly FragKey) (Others : Held → Type 0) (m : Held) (k : FragKey) →
    MayServe s k m → StandsBefore (λ k. k) s s.key Others m → Others (map.remove m k)
rest_of s Others m k may h =
    elim may [
      | inl e ↦ (with_key s Others m k e h).1
      | inr p ↦ subst Others (sym (out_absent m k p.1)) (without_key s Others m p.0 h)
    ]

-- a slot is put at a place that may serve its key
pub put_at : (ss : List (Assembly FragKey)) (m : Held) (i : ℕ) (k : FragKey) (d new : Assembly FragKey) (v : Slot) → i < length ss →
    MayServe (get_or ss i d) k m → new.key ≡ Some k → StandsFor new v → StandForHeld ss m → StandForHeld (slice_set ss i new) (map.insert m k v)
put_at [] m i k d new v l may e stands h = absurd (omega arith)
put_at (s ∷ ss) m zero k d new v l may e stands h =
    key_is (λ k. k) new (StandForHeld ss) (map.insert m k v) (Some k) e (
      record { slot = v; found = get_put m k v; stands = stands },
      subst (StandForHeld ss) (sym (put_out m k v)) (rest_of s (StandForHeld ss) m k may h),
    )
put_at (s ∷ ss) m (suc i) k d new v l may e stands h =
    cases (λ k. k) s (StandForHeld ss) m (λ o. StandsBefore (λ k. k) s o (StandForHeld (slice_set ss i new)) (map.insert m k v)) h
    (λ _ others. put_at ss m i k d new v (omega arith) may e stands others)
    (λ j _ at others.
    let apart = serves_apart ss m s i j k d (omega arith) at others may in (
      record { slot = at.slot; found = get_put_apart m k j v (λ same. apart (sym same)) ∙ at.found; stands = at.stands },
      subst (StandForHeld (slice_set ss i new)) (sym (put_out_apart m j k v apart))
          (put_at ss (map.remove m j) i k d new v (omega arith) (serves_rest (get_or ss i d) m j k apart may) e stands others),
    ))

-- the slot of a place is given up
pub free_at : (ss : List (Assembly FragKey)) (m : Held) (i : ℕ) (k : FragKey) (d new : Assembly FragKey) →
    i < length ss → MayServe (get_or ss i d) k m → new.key ≡ None → StandForHeld ss m → StandForHeld (slice_set ss i new) (map.remove m k)
free_at [] m i k d new l may e h = absurd (omega arith)
free_at (s ∷ ss) m zero k d new l may e h = key_is (λ k. k) new (StandForHeld ss) (map.remove m k) None e (rest_of s (StandForHeld ss) m k may h)
free_at (s ∷ ss) m (suc i) k d new l may e h =
    cases (λ k. k) s (StandForHeld ss) m (λ o. StandsBefore (λ k. k) s o (StandForHeld (slice_set ss i new)) (map.remove m k)) h
    (λ _ others. free_at ss m i k d new (omega arith) may e others)
    (λ j _ at others.
    let apart = serves_apart ss m s i j k d (omega arith) at others may in (
      record { slot = at.slot; found = get_out_apart m k j (λ same. apart (sym same)) ∙ at.found; stands = at.stands },
      subst (StandForHeld (slice_set ss i new)) (sym (out_out m j k))
          (free_at ss (map.remove m j) i k d new (omega arith) (serves_rest (get_or ss i d) m j k apart may) e others),
    ))

module _ {K : Type 0} where
  left_free : (t : ℤ) (s : Assembly K) → s.key ≡ None → live_at t s ≡ s
  left_free t s e = rw e refl

  left_expired : (t : ℤ) (s : Assembly K) (k : K) → s.key ≡ Some k → int_lt s.expires_at t ≡ true → live_at t s ≡ slot_after_free s
  left_expired t s k e h = rw (e, h) refl

  left_alive : (t : ℤ) (s : Assembly K) (k : K) → s.key ≡ Some k → int_lt s.expires_at t ≡ false → live_at t s ≡ s
  left_alive t s k e h = rw (e, h) refl

  ended_as : (t : ℤ) (s : Assembly K) (k : FragKey) (m : Held) (b : Bool) →
      StandsAt s k m → int_lt s.expires_at t ≡ b → has_ended t (map.get m k) ≡ b
  ended_as t s k m b at h = ap (has_ended t) at.found ∙ ap (λ z. int_lt z t) (sym at.stands.ends) ∙ h

module _ {K : Type 0} (key_of : K → FragKey) where
  -- what is left of the places stands for what is left of the slots
  pub left_all : (t : ℤ) (ss : List (Assembly K)) (m : Held) →
      StandForHeldOf key_of ss m → StandForHeldOf key_of (each (live_at t) ss) (slots.held_at t m)
  left_all t [] m h = ap (slots.held_at t) h ∙ left_none t
  left_all t (s ∷ ss) m h =
      let Others : Held → Type 0 = StandForHeldOf key_of (each (live_at t) ss) in
      cases key_of s (StandForHeldOf key_of ss) m (λ _. StandsBefore key_of (live_at t s) (live_at t s).key Others (slots.held_at t m)) h
      (λ e others. same_place key_of s (live_at t s) Others (slots.held_at t m) None (left_free t s e) e (left_all t ss m others))
      (λ k e at others.
      let rest = left_all t ss (map.remove m (key_of k)) others in
      elim (int_lt s.expires_at t)
      as (λ b. int_lt s.expires_at t ≡ b → StandsBefore key_of (live_at t s) (live_at t s).key Others (slots.held_at t m)) [
        | true ↦ λ u. same_place key_of (slot_after_free s) (live_at t s) Others (slots.held_at t m) None (left_expired t s k e u) refl
            (subst Others (left_ended t m (key_of k) (ended_as t s (key_of k) m true at u)) rest)
        | false ↦ λ u. same_place key_of s (live_at t s) Others (slots.held_at t m) (Some k) (left_alive t s k e u) e (
          record { slot = at.slot; found = left_kept t m (key_of k) (ended_as t s (key_of k) m false at u) ∙ at.found; stands = at.stands },
          subst Others (sym (left_remove t m (key_of k))) rest,
        )
      ] refl)

  -- free places stand for no slots
  pub none_stand : (ss : List (Assembly K)) → AreFree ss → StandForHeldOf key_of ss map.empty
  none_stand [] h = refl
  none_stand (s ∷ ss) h = key_is key_of s (StandForHeldOf key_of ss) map.empty None (ap (λ (x : Assembly K). x.key) h.0) (none_stand ss h.1)

-- how many slots there are
len_le : (ss : List (Assembly FragKey)) (m : Held) → StandForHeld ss m → map.len m ≤ length ss
len_le [] m h = rw (h, len-empty key_cmp Slot) (omega arith)
len_le (s ∷ ss) m h =
    cases (λ k. k) s (StandForHeld ss) m (λ _. map.len m ≤ suc (length ss)) h
    (λ _ others. let k = len_le ss m others in omega arith)
    (λ k _ at others. let l = len_le ss (map.remove m k) others in let e = len_out m k at.slot at.found in omega arith)

pub has_room : (ss : List (Assembly FragKey)) (m : Held) → free_slot ss < length ss → StandForHeld ss m → map.len m < length ss
has_room [] m f h = absurd (omega arith)
has_room (s ∷ ss) m f h =
    cases (λ k. k) s (StandForHeld ss) m (λ o. cond (is_none o) 0 (free_slot ss + 1) < suc (length ss) → map.len m < suc (length ss)) h
    (λ _ others f. let k = len_le ss m others in omega arith)
    (λ k _ at others f. let l = has_room ss (map.remove m k) (omega arith) others in let e = len_out m k at.slot at.found in omega arith) f

pub is_full : (ss : List (Assembly FragKey)) (m : Held) → free_slot ss ≡ length ss → StandForHeld ss m → length ss ≤ map.len m
is_full [] m f h = omega arith
is_full (s ∷ ss) m f h =
    cases (λ k. k) s (StandForHeld ss) m (λ o. cond (is_none o) 0 (free_slot ss + 1) ≡ suc (length ss) → suc (length ss) ≤ map.len m) h
    (λ _ others f. absurd (omega arith))
    (λ k _ at others f. let l = is_full ss (map.remove m k) (omega arith) others in let e = len_out m k at.slot at.found in omega arith) f

pub free_key : (ss : List (Assembly FragKey)) (d : Assembly FragKey) → free_slot ss < length ss → (get_or ss (free_slot ss) d).key ≡ None
free_key [] d h = absurd (omega arith)
free_key (s ∷ ss) d h =
    elim s.key as (λ o. s.key ≡ o → cond (is_none o) 0 (free_slot ss + 1) < suc (length ss) →
    (get_or (s ∷ ss) (cond (is_none o) 0 (free_slot ss + 1)) d).key ≡ None) [
      | None ↦ λ e l. e
      | Some k ↦ λ e l. rw add-one (free_key ss d (omega arith))
    ] refl h

-- a test that tells keys apart
module _ (eq : FragKey → FragKey → Bool) (exact : (a b : FragKey) → eq a b ≡ eq_by_cmp key_cmp a b) where
  pub keyed_key : (k : FragKey) (ss : List (Assembly FragKey)) (d : Assembly FragKey) →
      index_of_key eq k ss < length ss → (get_or ss (index_of_key eq k ss) d).key ≡ Some k
  keyed_key k [] d h = absurd (omega arith)
  keyed_key k (s ∷ ss) d h =
      elim s.key as (λ o. s.key ≡ o → cond (has_key eq k o) 0 (index_of_key eq k ss + 1) < suc (length ss) →
      (get_or (s ∷ ss) (cond (has_key eq k o) 0 (index_of_key eq k ss + 1)) d).key ≡ Some k) [
        | None ↦ λ e l. rw add-one (keyed_key k ss d (omega arith))
        | Some j ↦ λ e.
            elim (eq j k) as (λ b. eq j k ≡ b → cond b 0 (index_of_key eq k ss + 1) < suc (length ss) →
            (get_or (s ∷ ss) (cond b 0 (index_of_key eq k ss + 1)) d).key ≡ Some k) [
              | true ↦ λ t l. e ∙ ap (λ (x : FragKey). Some x) (keys_equal j k (sym (exact j k) ∙ t))
              | false ↦ λ t l. rw add-one (keyed_key k ss d (omega arith))
            ] refl
      ] refl h

  pub not_there : (k : FragKey) (ss : List (Assembly FragKey)) (m : Held) →
      index_of_key eq k ss ≡ length ss → StandForHeld ss m → map.get m k ≡ None
  not_there k [] m f h = ap (λ (n : Held). map.get n k) h ∙ get-empty key_cmp k
  not_there k (s ∷ ss) m f h =
      cases (λ k. k) s (StandForHeld ss) m (λ o. cond (has_key eq k o) 0 (index_of_key eq k ss + 1) ≡ suc (length ss) → map.get m k ≡ None) h
      (λ _ others f. not_there k ss m (omega arith) others)
      (λ j _ at others.
      elim (eq j k) as (λ b. eq j k ≡ b → cond b 0 (index_of_key eq k ss + 1) ≡ suc (length ss) → map.get m k ≡ None) [
        | true ↦ λ t f. absurd (omega arith)
        | false ↦ λ t f. sym (get_out_apart m j k (λ same. true_false (sym (exact j k ∙ ap (eq_by_cmp key_cmp j) same ∙ key_tied j) ∙ t)))
            ∙ not_there k ss (map.remove m j) (omega arith) others
      ] refl) f
