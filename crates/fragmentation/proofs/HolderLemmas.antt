-- Who holds a slot, and a slot that is freed.
use Rattle.std.proofs.Common.{◌≡◌, ◌<◌, ◌≤◌, ℕ, ℤ, pos, zero, suc, Bool, true, false, List, [], ◌∷◌, Option, Some, None}
use Rattle.std.proofs.Common.{length, get_or, slice_set, slice_get, is_none, add-one, refl, sym, ap, ◌∙◌, arith, subst, inl}
use Rattle.std.proofs.lemmas.List.{length-set}
use Rattle.std.specs.Prelude.{cond, is_some, ◌+◌, IfSome}
use Rattle.std.specs.FinMap as map
use Rattle.fragmentation.specs.declared.key.FragKey.{FragKey}
use Rattle.fragmentation.specs.declared.holder.Holder.{Holder}
use Rattle.fragmentation.specs.Assembly.{Assembly, with_key, with_keys, slot_after_free, are_none, AreApart, AreKept}
use Rattle.fragmentation.specs.Details.Holders.{holder_by, holder_of, holder_at, released_at, count_below, taken_of}
use Rattle.fragmentation.specs.Slots.{Slots, slot_of, without_slot}
use Rattle.fragmentation.specs.Stands.{StandForHeld, StandForSlots}
use Rattle.fragmentation.proofs.KeptLemmas.{length-with_keys}
use Rattle.fragmentation.proofs.SlotsLemmas.{there, free_at}

module _ {K : Type 0} where
  pub holder_in : (i : ℕ) (os : List (Option K)) (ss : List (Assembly K)) (o : Option K) (s : Assembly K) → i < length os → i < length ss →
      o ≡ get_or os i o → s ≡ get_or ss i s → holder_of (with_key o s) ≡ holder_at i (with_keys os ss)
  holder_in i [] ss o s h l oe se = absurd (omega arith)
  holder_in i (p ∷ os) [] o s h l oe se = absurd (omega arith)
  holder_in zero (p ∷ os) (x ∷ ss) o s h l oe se =
      ap (λ (q : Option K). holder_of (with_key q s)) oe ∙ ap (λ (y : Assembly K). holder_of (with_key p y)) se
  holder_in (suc i) (p ∷ os) (x ∷ ss) o s h l oe se = holder_in i os ss o s (omega arith) (omega arith) oe se

  pub none_beyond : (i : ℕ) (ss : List (Assembly K)) → length ss ≤ i → holder_at i ss ≡ None
  none_beyond i [] h = refl
  none_beyond zero (s ∷ ss) h = absurd (omega arith)
  none_beyond (suc i) (s ∷ ss) h = none_beyond i ss (omega arith)

  pub left_beyond : (i : ℕ) (ss : List (Assembly K)) → length ss ≤ i → ss ≡ released_at i ss
  left_beyond i [] h = refl
  left_beyond zero (s ∷ ss) h = absurd (omega arith)
  left_beyond (suc i) (s ∷ ss) h = ap (λ (xs : List (Assembly K)). s ∷ xs) (left_beyond i ss (omega arith))

  pub released_with : (i : ℕ) (os : List (Option K)) (ss : List (Assembly K)) (d new : Assembly K) → i < length os → i < length ss →
      new ≡ slot_after_free (get_or ss i d) → with_keys (slice_set os i None) (slice_set ss i new) ≡ released_at i (with_keys os ss)
  released_with i [] ss d new h l e = absurd (omega arith)
  released_with i (p ∷ os) [] d new h l e = absurd (omega arith)
  released_with zero (p ∷ os) (x ∷ ss) d new h l e = ap (λ (y : Assembly K). with_key None y ∷ with_keys os ss) e
  released_with (suc i) (p ∷ os) (x ∷ ss) d new h l e =
      ap (λ (xs : List (Assembly K)). with_key p x ∷ xs) (released_with i os ss d new (omega arith) (omega arith) e)

  get_kept : (i : ℕ) (os : List (Option K)) (a : ℕ) (k : K) → slice_get (slice_set os i None) a ≡ Some (Some k) → slice_get os a ≡ Some (Some k)
  get_kept i [] a k e = e
  get_kept zero (o ∷ os) zero k e = absurd cc
  get_kept zero (o ∷ os) (suc a) k e = e
  get_kept (suc i) (o ∷ os) zero k e = e
  get_kept (suc i) (o ∷ os) (suc a) k e = get_kept i os a k e

  pub kept_released : (i : ℕ) (os : List (Option K)) (ss : List (Assembly K)) (new : Assembly K) →
      AreKept os ss → AreKept (slice_set os i None) (slice_set ss i new)
  kept_released i os ss new h = record {
    as_many = length-set os i None ∙ h.as_many ∙ sym (length-set ss i new);
    apart = λ a b k ae be. h.apart a b k (get_kept i os a k ae) (get_kept i os b k be);
  }

  pub none_released : (i : ℕ) (os : List (Option K)) → are_none os ≡ true → are_none (slice_set os i None) ≡ true
  none_released i [] e = e
  none_released zero (None ∷ os) e = e
  none_released zero (Some k ∷ os) e = absurd cc
  none_released (suc i) (None ∷ os) e = none_released i os e
  none_released (suc i) (Some k ∷ os) e = absurd cc

  pub length-released : (i : ℕ) (ss : List (Assembly K)) → length (released_at i ss) ≡ length ss
  length-released i [] = refl
  length-released zero (s ∷ ss) = refl
  length-released (suc i) (s ∷ ss) = ap suc (length-released i ss)

  released_set : (i : ℕ) (ss : List (Assembly K)) (d : Assembly K) → slice_set ss i (slot_after_free (get_or ss i d)) ≡ released_at i ss
  released_set i [] d = refl
  released_set zero (s ∷ ss) d = refl
  released_set (suc i) (s ∷ ss) d = ap (λ (xs : List (Assembly K)). s ∷ xs) (released_set i ss d)

  -- what is known of a slot that has a holder
  pub record HeldAt (i : ℕ) (ss : List (Assembly K)) (d : Assembly K) (h : Holder K) : Type 0 where
    pub below : i < length ss
    pub key : (get_or ss i d).key ≡ Some h.key
    pub ends : (get_or ss i d).expires_at ≡ h.expires_at

  held_one : (s : Assembly K) (h : Holder K) → holder_of s ≡ Some h → (s.key ≡ Some h.key) × (s.expires_at ≡ h.expires_at)
  held_one s h e = elim s.key as (λ o. holder_by s.expires_at o ≡ Some h → (o ≡ Some h.key) × (s.expires_at ≡ h.expires_at)) [
    | None ↦ λ e. absurd cc
    | Some k ↦ λ e. (cc, cc)
  ] e

  pub held_at : (i : ℕ) (ss : List (Assembly K)) (d : Assembly K) (h : Holder K) → holder_at i ss ≡ Some h → HeldAt i ss d h
  held_at i [] d h e = absurd cc
  held_at zero (s ∷ ss) d h e = let one = held_one s h e in record { below = omega arith; key = one.0; ends = one.1 }
  held_at (suc i) (s ∷ ss) d h e =
      let rest = held_at i ss d h e in let below = rest.below in record { below = omega arith; key = rest.key; ends = rest.ends }

pub count_few : (p : ℕ → Bool) (n : ℕ) → count_below p n ≤ n
count_few p zero = omega arith
count_few p (suc n) = elim (p n) as (λ b. count_below p n + cond b 1 0 ≤ suc n) [
  | true ↦ let few = count_few p n in omega arith
  | false ↦ let few = count_few p n in omega arith
]

count_none : (p : ℕ → Bool) → ((i : ℕ) → p i ≡ false) → (n : ℕ) → count_below p n ≡ 0
count_none p none zero = refl
count_none p none (suc n) = rw (none n, count_none p none n) refl

-- one number more
pub count_more : (p : ℕ → Bool) (n : ℕ) (b : Bool) → p n ≡ b → count_below p n + cond b 1 0 ≡ count_below p (n + 1)
count_more p n b e = rw (add-one, e) refl

pub count_same : (p : ℕ → Bool) (n : ℕ) → p n ≡ false → count_below p n ≡ count_below p (n + 1)
count_same p n e = rw (add-one, e) (omega arith)

module _ {K : Type 0} where
  none_held : (i : ℕ) (os : List (Option K)) (ss : List (Assembly K)) → are_none os ≡ true → is_some (holder_at i (with_keys os ss)) ≡ false
  none_held i [] ss e = refl
  none_held i (None ∷ os) [] e = refl
  none_held i (Some k ∷ os) ss e = absurd cc
  none_held zero (None ∷ os) (s ∷ ss) e = elim (is_none s.key) as (λ b. is_some (holder_by {K = K} s.expires_at (cond b None None)) ≡ false) [
    | true ↦ refl
    | false ↦ refl
  ]
  none_held (suc i) (None ∷ os) (s ∷ ss) e = none_held i os ss e

  -- none is taken where no key is set
  pub none_taken : (os : List (Option K)) (ss : List (Assembly K)) → are_none os ≡ true → 0 ≡ taken_of (with_keys os ss)
  none_taken os ss e = sym (count_none (λ i. is_some (holder_at i (with_keys os ss))) (λ i. none_held i os ss e) (length (with_keys os ss)))

no_slot : Assembly FragKey
no_slot = record { key = None; expires_at = pos 0; total = None; ranges = []; octets = [] }

-- a slot that is freed is no longer among those for which the places stand
pub stands_released : (i : ℕ) (ss : List (Assembly FragKey)) → IfSome (holder_at i ss) (λ h. (m : Slots) →
    StandForSlots ss m → StandForSlots (released_at i ss) (without_slot m h.key))
stands_released i ss = elim (holder_at i ss) as (λ o. holder_at i ss ≡ o → IfSome o (λ h. (m : Slots) →
    StandForSlots ss m → StandForSlots (released_at i ss) (without_slot m h.key))) [
      | None ↦ λ e. tt
      | Some h ↦ λ e m stands. let at = held_at i ss no_slot h e in record {
        room = length-released i ss ∙ stands.room;
        held = subst (λ (xs : List (Assembly FragKey)). StandForHeld xs (map.remove m.held h.key)) (released_set i ss no_slot)
            (free_at ss m.held i h.key no_slot (slot_after_free (get_or ss i no_slot)) at.below (inl at.key) refl stands.held);
      }
    ] refl

-- who holds a slot has one among those for which the places stand, with the same end
pub slot_is_held : (i : ℕ) (ss : List (Assembly FragKey)) → IfSome (holder_at i ss) (λ h. (m : Slots) →
    StandForSlots ss m → IfSome (slot_of m h.key) (λ slot. slot.ends ≡ h.expires_at))
slot_is_held i ss = elim (holder_at i ss) as (λ o. holder_at i ss ≡ o → IfSome o (λ h. (m : Slots) →
    StandForSlots ss m → IfSome (slot_of m h.key) (λ slot. slot.ends ≡ h.expires_at))) [
      | None ↦ λ e. tt
      | Some h ↦ λ e m stands. let at = held_at i ss no_slot h e in
          let slot = there ss m.held i h.key no_slot at.below at.key stands.held in
          rw slot.found (sym slot.stands.ends ∙ at.ends)
    ] refl
