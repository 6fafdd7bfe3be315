-- Places with their keys, no two of which are taken for one.
use Rattle.std.proofs.Common.{◌≡◌, ◌<◌, ◌≤◌, ◌+◌, ℕ, ℤ, zero, suc, Bool, true, false, List, [], ◌∷◌, ◌++◌, Option, Some, None}
use Rattle.std.proofs.Common.{map as each, length, get_or, slice_get, slice_set, add-one, refl, sym, ap, ◌∙◌, arith, inl, inr}
use Rattle.std.specs.Prelude.{cond, is_none, not, ◌&&◌, ◌⊎◌, ◌==◌}
use Rattle.std.proofs.lemmas.Bool.Decides.{nat_tests}
use Rattle.std.proofs.Math.Path.{fun_ext}
use Rattle.std.proofs.lemmas.List.{length-set}
use Rattle.std.specs.List.{refill}
use Rattle.fragmentation.specs.Assembly.{Assembly, index_of_key, free_slot, slot_for, has_key, IsFree, AreFree}
use Rattle.fragmentation.specs.Assembly.{taken, with_key, with_keys, keys_of, taken_at, live_at, are_none, AreApart, AreKept, AreTwo, AreLent}
use Rattle.fragmentation.specs.Details.Lending.{FreedIfLent}
use Rattle.fragmentation.proofs.PlacesLemmas.{choose_keyed, index_of_key-le, refilled}

no_key : {A : Type 0} (k : A) → None ≡ Some k → ⊥
no_key k e = cc

same_some : {A : Type 0} (x y : A) → Some x ≡ Some y → x ≡ y
same_some x y e = cc

below_or_at : (a n : ℕ) → a ≤ n → (a < n) ⊎ (a ≡ n)
below_or_at a n h = elim (a == n) as (λ b. a == n ≡ b → (a < n) ⊎ (a ≡ n)) [
  | true ↦ λ t. inr (grind (arith, nat_tests))
  | false ↦ λ t. inl (grind (arith, nat_tests))
] refl

same_or_not : (a b : ℕ) → (a ≡ b) ⊎ (a ≡ b → ⊥)
same_or_not a b = elim (a == b) as (λ t. a == b ≡ t → (a ≡ b) ⊎ (a ≡ b → ⊥)) [
  | true ↦ λ t. inl (grind (arith, nat_tests))
  | false ↦ λ t. inr (λ e. grind (arith, nat_tests))
] refl

both_hold : (a b : Bool) → a && b ≡ true → (a ≡ true) × (b ≡ true)
both_hold true b h = (refl, h)
both_hold false b h = cc

module _ {K : Type 0} where
  own_key : (o : Option K) → cond (is_none o) None o ≡ o
  own_key None = refl
  own_key (Some k) = refl

  -- a place that has its key, or is free, stays what it is
  pub with_own : (o : Option K) (s : Assembly K) → s.key ≡ o → with_key o s ≡ s
  with_own o s e = ap (λ (q : Option K). record s { key = cond (is_none s.key) None q }) (sym e)
      ∙ ap (λ (q : Option K). record s { key = q }) (own_key s.key)

  pub with_none : (o : Option K) (s : Assembly K) → s.key ≡ None → with_key o s ≡ s
  with_none o s e = ap (λ (q : Option K). record s { key = cond (is_none q) None o }) e ∙ ap (λ (q : Option K). record s { key = q }) (sym e)

  pub with_own_keys : (ss : List (Assembly K)) → with_keys (keys_of ss) ss ≡ ss
  with_own_keys [] = refl
  with_own_keys (s ∷ ss) = ap (λ (x : Assembly K). x ∷ with_keys (keys_of ss) ss) (with_own s.key s refl)
      ∙ ap (λ (xs : List (Assembly K)). s ∷ xs) (with_own_keys ss)

  -- what is left of a place that was lent has its key, or is free
  pub lent_left : {B : Type 0} (s new last : Assembly K) (r : Option B) → new.key ≡ s.key → FreedIfLent new r last → with_key s.key last ≡ last
  lent_left s new last None key left = with_own s.key last (ap (λ (x : Assembly K). x.key) left ∙ key)
  lent_left s new last (Some b) key left = with_none s.key last (ap (λ (x : Assembly K). x.key) left)

  free_with : (o : Option K) (s : Assembly K) → IsFree s → IsFree (with_key o s)
  free_with o s e = rw (with_none o s (ap (λ (x : Assembly K). x.key) e)) e

  pub length-with_keys : (os : List (Option K)) (ss : List (Assembly K)) → length os ≡ length ss → length (with_keys os ss) ≡ length ss
  length-with_keys [] [] e = refl
  length-with_keys [] (s ∷ ss) e = e
  length-with_keys (o ∷ os) [] e = refl
  length-with_keys (o ∷ os) (s ∷ ss) e = ap suc (length-with_keys os ss (omega arith))

  -- a place that is taken
  pub length-keys_of : (ss : List (Assembly K)) → length (keys_of ss) ≡ length ss
  length-keys_of [] = refl
  length-keys_of (s ∷ ss) = ap suc (length-keys_of ss)

  pub length-taken_at : (i : ℕ) (k : K) (end : ℤ) (ss : List (Assembly K)) → length (taken_at i k end ss) ≡ length ss
  length-taken_at i k end [] = refl
  length-taken_at zero k end (s ∷ ss) = refl
  length-taken_at (suc i) k end (s ∷ ss) = ap suc (length-taken_at i k end ss)

  pub taken_beyond : (i : ℕ) (k : K) (end : ℤ) (ss : List (Assembly K)) → length ss ≤ i → taken_at i k end ss ≡ ss
  taken_beyond i k end [] h = refl
  taken_beyond zero k end (s ∷ ss) h = absurd (omega arith)
  taken_beyond (suc i) k end (s ∷ ss) h = ap (λ (xs : List (Assembly K)). s ∷ xs) (taken_beyond i k end ss (omega arith))

  pub get_taken : (i : ℕ) (k : K) (end : ℤ) (ss : List (Assembly K)) (d : Assembly K) →
      i < length ss → get_or (taken_at i k end ss) i d ≡ taken k end (get_or ss i d)
  get_taken i k end [] d h = absurd (omega arith)
  get_taken zero k end (s ∷ ss) d h = refl
  get_taken (suc i) k end (s ∷ ss) d h = get_taken i k end ss d (omega arith)

  pub set_taken : (i : ℕ) (k : K) (end : ℤ) (ss : List (Assembly K)) (d : Assembly K) →
      i < length ss → slice_set ss i (taken k end (get_or ss i d)) ≡ taken_at i k end ss
  set_taken i k end [] d h = absurd (omega arith)
  set_taken zero k end (s ∷ ss) d h = refl
  set_taken (suc i) k end (s ∷ ss) d h = ap (λ (xs : List (Assembly K)). s ∷ xs) (set_taken i k end ss d (omega arith))

  pub keys_of_set : (i : ℕ) (ss : List (Assembly K)) (new : Assembly K) → keys_of (slice_set ss i new) ≡ slice_set (keys_of ss) i new.key
  keys_of_set i [] new = refl
  keys_of_set zero (s ∷ ss) new = refl
  keys_of_set (suc i) (s ∷ ss) new = ap (λ (os : List (Option K)). s.key ∷ os) (keys_of_set i ss new)

  -- whatever is left in it
  lent_one : (i : ℕ) (k : K) (end : ℤ) (ss : List (Assembly K)) (o : Option K) (d w : Assembly K) →
      i < length ss → o ≡ (taken k end (get_or ss i d)).key
      → with_keys (keys_of (taken_at i k end ss)) (slice_set (taken_at i k end ss) i w) ≡ slice_set ss i (with_key o w)
  lent_one i k end [] o d w h e = absurd (omega arith)
  lent_one zero k end (s ∷ ss) o d w h e = ap (λ (q : Option K). with_key q w ∷ with_keys (keys_of ss) ss) (sym e)
      ∙ ap (λ (xs : List (Assembly K)). with_key o w ∷ xs) (with_own_keys ss)
  lent_one (suc i) k end (s ∷ ss) o d w h e =
      ap (λ (x : Assembly K). x ∷ with_keys (keys_of (taken_at i k end ss)) (slice_set (taken_at i k end ss) i w)) (with_own s.key s refl)
      ∙ ap (λ (xs : List (Assembly K)). s ∷ xs) (lent_one i k end ss o d w (omega arith) e)

  pub lent_as : (i : ℕ) (k : K) (end : ℤ) (ss : List (Assembly K)) (o : Option K) (d : Assembly K) →
      i < length ss → o ≡ (taken k end (get_or ss i d)).key
      → ◌≡◌ {A = Assembly K → List (Assembly K)} (λ w. with_keys (keys_of (taken_at i k end ss)) (slice_set (taken_at i k end ss) i w))
      (λ w. slice_set ss i (with_key o w))
  lent_as i k end ss o d h e = fun_ext (λ w. lent_one i k end ss o d w h e)

  -- where no place has a key, no two have one
  abbrev pub AreNone : List (Option K) → Type 0
  AreNone [] = Unit {0}
  AreNone (o ∷ os) = (o ≡ None) × AreNone os

  pub none_more : (os : List (Option K)) (o : Option K) → AreNone os → o ≡ None → AreNone (os ++ o ∷ [])
  none_more [] o h e = (e, tt)
  none_more (p ∷ os) o h e = (h.0, none_more os o h.1 e)

  none_there : (os : List (Option K)) (i : ℕ) (k : K) → AreNone os → slice_get os i ≡ Some (Some k) → ⊥
  none_there [] i k h e = no_key (Some k) e
  none_there (o ∷ os) zero k h e = no_key k (sym h.0 ∙ same_some o (Some k) e)
  none_there (o ∷ os) (suc i) k h e = none_there os i k h.1 e

  pub none_apart : (os : List (Option K)) → AreNone os → AreApart os
  none_apart os h i j k a b = absurd (none_there os i k h a)

  pub none_set : (os : List (Option K)) → AreNone os → are_none os ≡ true
  none_set [] h = refl
  none_set (o ∷ os) h = rw h.0 (none_set os h.1)

  -- places without keys are free, so that no moment changes them
  free_live : (t : ℤ) (s : Assembly K) → live_at t (with_key None s) ≡ with_key None s
  free_live t s = elim s.key as (λ q. live_at t (record s { key = cond (is_none q) None None }) ≡ record s { key = cond (is_none q) None None }) [
    | None ↦ refl
    | Some j ↦ refl
  ]

  pub idle_live : (t : ℤ) (os : List (Option K)) (ss : List (Assembly K)) →
      are_none os ≡ true → with_keys os ss ≡ each (live_at t) (with_keys os ss)
  idle_live t [] ss h = refl
  idle_live t (o ∷ os) [] h = refl
  idle_live t (None ∷ os) (s ∷ ss) h = ap (λ (xs : List (Assembly K)). with_key None s ∷ xs) (idle_live t os ss h)
      ∙ sym (ap (λ (x : Assembly K). x ∷ each (live_at t) (with_keys os ss)) (free_live t s))
  idle_live t (Some k ∷ os) (s ∷ ss) h = cc

  -- without the keys of free places they are the same
  with_again : (o : Option K) (s : Assembly K) → with_key (with_key o s).key s ≡ with_key o s
  with_again o s =
      elim s.key as (λ q. record s { key = cond (is_none q) None (cond (is_none q) None o) } ≡ record s { key = cond (is_none q) None o }) [
        | None ↦ refl
        | Some j ↦ refl
      ]

  pub with_keys_again : (os : List (Option K)) (ss : List (Assembly K)) → with_keys (keys_of (with_keys os ss)) ss ≡ with_keys os ss
  with_keys_again [] ss = refl
  with_keys_again (o ∷ os) [] = refl
  with_keys_again (o ∷ os) (s ∷ ss) = ap (λ (x : Assembly K). x ∷ with_keys (keys_of (with_keys os ss)) ss) (with_again o s)
      ∙ ap (λ (xs : List (Assembly K)). with_key o s ∷ xs) (with_keys_again os ss)

  -- free places stay free, whatever their keys
  pub free_more : (ss : List (Assembly K)) (s : Assembly K) → AreFree ss → IsFree s → AreFree (ss ++ s ∷ [])
  free_more [] s h e = (e, tt)
  free_more (t ∷ ss) s h e = (h.0, free_more ss s h.1 e)

  pub free_with_keys : (os : List (Option K)) (ss : List (Assembly K)) → AreFree ss → AreFree (with_keys os ss)
  free_with_keys [] ss h = tt
  free_with_keys (o ∷ os) [] h = tt
  free_with_keys (o ∷ os) (s ∷ ss) h = (free_with o s h.0, free_with_keys os ss h.1)

  -- a place is taken for its key alone
  with_only : (o : Option K) (s : Assembly K) (k : K) → (with_key o s).key ≡ Some k → o ≡ Some k
  with_only o s k e = elim s.key as (λ q. cond (is_none q) None o ≡ Some k → o ≡ Some k) [ None ↦ λ e. absurd (no_key k e) | Some j ↦ λ e. e ] e

  pub with_among : (os : List (Option K)) (ss : List (Assembly K)) (i : ℕ) (k : K) →
      slice_get (keys_of (with_keys os ss)) i ≡ Some (Some k) → slice_get os i ≡ Some (Some k)
  with_among [] ss i k e = absurd (no_key (Some k) e)
  with_among (o ∷ os) [] i k e = absurd (no_key (Some k) e)
  with_among (o ∷ os) (s ∷ ss) zero k e = ap (λ (q : Option K). Some q) (with_only o s k (same_some (with_key o s).key (Some k) e))
  with_among (o ∷ os) (s ∷ ss) (suc i) k e = with_among os ss i k e

  pub apart_with : (os : List (Option K)) (ss : List (Assembly K)) → AreApart os → AreApart (keys_of (with_keys os ss))
  apart_with os ss h i j k a b = h i j k (with_among os ss i k a) (with_among os ss j k b)

  -- the other places keep their keys, and the one that is taken its own, if it has one
  taken_key : (k : K) (end : ℤ) (s : Assembly K) (q : K) → (taken k end s).key ≡ Some q → (s.key ≡ Some q) ⊎ ((s.key ≡ None) × (q ≡ k))
  taken_key k end s q e =
      elim s.key as (λ o. s.key ≡ o → (s.key ≡ Some q) ⊎ ((s.key ≡ None) × (q ≡ k))) [
        | None ↦ λ t. inr (t, same_some q k (sym e ∙ rw t refl))
        | Some j ↦ λ t. let same : (taken k end s).key ≡ s.key = rw t refl in inl (sym same ∙ e)
      ] refl

  taken_there : (i : ℕ) (k : K) (end : ℤ) (ss : List (Assembly K)) (j : ℕ) (q : K) → slice_get (keys_of (taken_at i k end ss)) j ≡ Some (Some q)
      → (slice_get (keys_of ss) j ≡ Some (Some q)) ⊎ ((j ≡ i) × (slice_get (keys_of ss) j ≡ Some None) × (q ≡ k))
  taken_there i k end [] j q e = absurd (no_key (Some q) e)
  taken_there zero k end (s ∷ ss) zero q e =
      elim (taken_key k end s q (same_some (taken k end s).key (Some q) e)) [
        | inl f ↦ inl (ap (λ (o : Option K). Some o) f)
        | inr p ↦ inr (refl, ap (λ (o : Option K). Some o) p.0, p.1)
      ]
  taken_there zero k end (s ∷ ss) (suc j) q e = inl e
  taken_there (suc i) k end (s ∷ ss) zero q e = inl e
  taken_there (suc i) k end (s ∷ ss) (suc j) q e = elim (taken_there i k end ss j q e) [ inl f ↦ inl f | inr p ↦ inr (ap suc p.0, p.1, p.2) ]

  module _ (eq : K → K → Bool) (reflexive : (k : K) → eq k k ≡ true) where
    -- where a key has no place, none is taken for it
    keyed_none : (k : K) (ss : List (Assembly K)) (j : ℕ) → index_of_key eq k ss ≡ length ss → slice_get (keys_of ss) j ≡ Some (Some k) → ⊥
    keyed_none k [] j h e = no_key (Some k) e
    keyed_none k (s ∷ ss) zero h e =
        let own : has_key eq k s.key ≡ true = ap (has_key eq k) (same_some s.key (Some k) e) ∙ reflexive k in
        let first : cond (has_key eq k s.key) 0 (index_of_key eq k ss + 1) ≡ 0 = ap (λ b. cond b 0 (index_of_key eq k ss + 1)) own in
        omega arith
    keyed_none k (s ∷ ss) (suc j) h e =
        elim (has_key eq k s.key) as (λ b. cond b 0 (index_of_key eq k ss + 1) ≡ suc (length ss) → ⊥) [
          | true ↦ λ h. omega arith
          | false ↦ λ h. keyed_none k ss j (omega arith) e
        ] h

    -- and its place is taken
    keyed_some : (k : K) (ss : List (Assembly K)) → index_of_key eq k ss < length ss → slice_get (keys_of ss) (index_of_key eq k ss) ≡ Some None → ⊥
    keyed_some k [] h e = omega arith
    keyed_some k (s ∷ ss) h e =
        elim s.key as (λ o. cond (has_key eq k o) 0 (index_of_key eq k ss + 1) < suc (length ss) →
        slice_get (o ∷ keys_of ss) (cond (has_key eq k o) 0 (index_of_key eq k ss + 1)) ≡ Some None → ⊥) [
          | None ↦ λ l f. keyed_some k ss (omega arith) (rw add-one at f)
          | Some q ↦ λ l f.
              elim (eq q k) as (λ b. cond b 0 (index_of_key eq k ss + 1) < suc (length ss) →
              slice_get (Some q ∷ keys_of ss) (cond b 0 (index_of_key eq k ss + 1)) ≡ Some None → ⊥) [
                | true ↦ λ l f. no_key q (sym (same_some (Some q) None f))
                | false ↦ λ l f. keyed_some k ss (omega arith) (rw add-one at f)
              ] l f
        ] h e

    -- where the place that serves a key is free, no place is taken for the key
    unserved : (k : K) (ss : List (Assembly K)) (i j : ℕ) →
        i ≡ slot_for eq k ss → slice_get (keys_of ss) i ≡ Some None → slice_get (keys_of ss) j ≡ Some (Some k) → ⊥
    unserved k ss i j is free there =
        elim (below_or_at (index_of_key eq k ss) (length ss) (index_of_key-le eq k ss)) [
          | inl below ↦ keyed_some k ss below
              (ap (slice_get (keys_of ss)) (sym (is ∙ choose_keyed (index_of_key eq k ss) (length ss) (free_slot ss) below)) ∙ free)
          | inr at ↦ keyed_none k ss j at there
        ]

    pub apart_taken : (k : K) (end : ℤ) (ss : List (Assembly K)) → AreApart (keys_of ss) → AreApart (keys_of (taken_at (slot_for eq k ss) k end ss))
    apart_taken k end ss h a b q at_a at_b =
        let i = slot_for eq k ss in
        let other : (c : ℕ) → slice_get (keys_of ss) i ≡ Some None → slice_get (keys_of ss) c ≡ Some (Some q) → q ≡ k →
        ⊥ = λ c free there same. unserved k ss i c refl free (there ∙ ap (λ (x : K). Some (Some x)) same) in
        elim (taken_there i k end ss a q at_a) [
          | inl f ↦ elim (taken_there i k end ss b q at_b) [
            | inl g ↦ h a b q f g
            | inr p ↦ absurd (other a (ap (slice_get (keys_of ss)) (sym p.0) ∙ p.1) f p.2)
          ]
          | inr p ↦ elim (taken_there i k end ss b q at_b) [
            | inl g ↦ absurd (other b (ap (slice_get (keys_of ss)) (sym p.0) ∙ p.1) g p.2)
            | inr r ↦ p.0 ∙ sym r.0
          ]
        ]

  -- places that were swept, once the keys of free ones are forgotten
  module _ (t : ℤ) (os ks : List (Option K)) (ss ws : List (Assembly K)) (kept : AreKept os ss) (long : length ws ≡ length ss)
      (left : with_keys os ws ≡ each (live_at t) (with_keys os ss)) (forgot : ks ≡ keys_of (with_keys os ws)) where
    length-forgot : length (keys_of (with_keys os ws)) ≡ length ss
    length-forgot = length-keys_of (with_keys os ws) ∙ length-with_keys os ws (kept.as_many ∙ sym long) ∙ long

    keys_forgot : refill (length os) os ks ≡ keys_of (with_keys os ws)
    keys_forgot = refilled os ks (ap length forgot ∙ length-forgot ∙ sym kept.as_many) ∙ forgot

    pub shown_swept : with_keys (refill (length os) os ks) (refill (length ss) ss ws) ≡ each (live_at t) (with_keys os ss)
    shown_swept =
        ap (λ xs. with_keys xs (refill (length ss) ss ws)) keys_forgot
        ∙ ap (with_keys (keys_of (with_keys os ws))) (refilled ss ws long)
        ∙ with_keys_again os ws ∙ left

    pub lent_swept : (is_idle : Bool) → is_idle ≡ are_none (refill (length os) os ks) →
        AreLent is_idle (refill (length os) os ks) (refill (length ss) ss ws)
    lent_swept is_idle e = record {
      kept = record {
        as_many = ap length keys_forgot ∙ length-forgot ∙ sym (ap length (refilled ss ws long) ∙ long);
        apart = rw keys_forgot (apart_with os ws kept.apart);
      };
      idle = λ h. sym e ∙ h;
    }

  -- the first of two slots has a key, and the second one is free
  free_key_is : (o : Option K) → is_none o ≡ true → o ≡ None
  free_key_is None h = refl
  free_key_is (Some k) h = cc

  not_none : (o : Option K) → not (is_none o) ≡ true → is_none o ≡ false
  not_none None h = cc
  not_none (Some k) h = refl

  has_some : (eq : K → K → Bool) (k : K) (o : Option K) → has_key eq k o ≡ true → is_none o ≡ false
  has_some eq k None h = cc
  has_some eq k (Some j) h = refl

  taken_again : (k : K) (end : ℤ) (o : Option K) (s : Assembly K) → is_none s.key ≡ false → is_none o ≡ false
      → taken k end (with_key o s) ≡ with_key o s
  taken_again k end o s some given = rw (some, given) refl

  pub first_again : (eq : K → K → Bool) (k : K) (os : List (Option K)) (ss : List (Assembly K)) (o p : Option K) (s t d new : Assembly K)
      → length os ≡ 2 → length ss ≡ 2 → s ≡ get_or ss 0 s → t ≡ get_or ss 1 t
      → has_key eq k (get_or os 0 o) && (not (is_none s.key) && is_none t.key) ≡ true → p ≡ get_or os 0 p → new ≡ with_key p (get_or ss 0 d)
      → (end : ℤ) → slice_set ss 0 new ≡ taken_at 0 k end (with_keys os ss)
  first_again eq k (o ∷ q ∷ []) (s ∷ t ∷ []) o' p s' t' d new two both se te alone pe is end =
      let h = both_hold (has_key eq k o) _ (rw (se, te) at alone) in
      let i = both_hold (not (is_none s.key)) (is_none t.key) h.1 in
      let free : with_key q t ≡ t = with_none q t (free_key_is t.key i.1) in
      let again : taken k end (with_key o s) ≡ with_key o s = taken_again k end o s (not_none s.key i.0) (has_some eq k o h.0) in
      rw (free, again) (ap (λ (x : Assembly K). x ∷ t ∷ []) (is ∙ ap (λ (y : Option K). with_key y s) pe))
  first_again eq k [] ss o' p s' t' d new two both se te alone pe is end = absurd (omega arith)
  first_again eq k (o ∷ []) ss o' p s' t' d new two both se te alone pe is end = absurd (omega arith)
  first_again eq k (o ∷ q ∷ r ∷ os) ss o' p s' t' d new two both se te alone pe is end = absurd (omega arith)
  first_again eq k (o ∷ q ∷ []) [] o' p s' t' d new two both se te alone pe is end = absurd (omega arith)
  first_again eq k (o ∷ q ∷ []) (s ∷ []) o' p s' t' d new two both se te alone pe is end = absurd (omega arith)
  first_again eq k (o ∷ q ∷ []) (s ∷ t ∷ u ∷ ss) o' p s' t' d new two both se te alone pe is end = absurd (omega arith)

  pub first_keys : (eq : K → K → Bool) (k : K) (os : List (Option K)) (ss : List (Assembly K)) (o r : Option K) (s t new : Assembly K)
      → length os ≡ 2 → length ss ≡ 2 → t ≡ get_or ss 1 t
      → has_key eq k (get_or os 0 o) && (not (is_none s.key) && is_none t.key) ≡ true → r ≡ new.key
      → slice_set (slice_set os 0 r) 1 None ≡ keys_of (slice_set ss 0 new)
  first_keys eq k (o ∷ q ∷ []) (s ∷ t ∷ []) o' r s' t' new two both te alone is =
      let h = both_hold (has_key eq k o) _ (rw te at alone) in
      let i = both_hold (not (is_none s'.key)) (is_none t.key) h.1 in
      rw (free_key_is t.key i.1, is) refl
  first_keys eq k [] ss o' r s' t' new two both te alone is = absurd (omega arith)
  first_keys eq k (o ∷ []) ss o' r s' t' new two both te alone is = absurd (omega arith)
  first_keys eq k (o ∷ q ∷ p ∷ os) ss o' r s' t' new two both te alone is = absurd (omega arith)
  first_keys eq k (o ∷ q ∷ []) [] o' r s' t' new two both te alone is = absurd (omega arith)
  first_keys eq k (o ∷ q ∷ []) (s ∷ []) o' r s' t' new two both te alone is = absurd (omega arith)
  first_keys eq k (o ∷ q ∷ []) (s ∷ t ∷ u ∷ ss) o' r s' t' new two both te alone is = absurd (omega arith)

  pub first_serves : (eq : K → K → Bool) (k : K) (os : List (Option K)) (ss : List (Assembly K)) (o : Option K) (s t : Assembly K)
      → length os ≡ 2 → length ss ≡ 2 → s ≡ get_or ss 0 s
      → has_key eq k (get_or os 0 o) && (not (is_none s.key) && is_none t.key) ≡ true → slot_for eq k (with_keys os ss) ≡ 0
  first_serves eq k (o ∷ q ∷ []) (s ∷ t ∷ []) o' s' t' two both se alone =
      let h = both_hold (has_key eq k o) _ (rw se at alone) in
      let i = both_hold (not (is_none s.key)) (is_none t'.key) h.1 in
      rw (not_none s.key i.0, h.0) refl
  first_serves eq k [] ss o' s' t' two both se alone = absurd (omega arith)
  first_serves eq k (o ∷ []) ss o' s' t' two both se alone = absurd (omega arith)
  first_serves eq k (o ∷ q ∷ p ∷ os) ss o' s' t' two both se alone = absurd (omega arith)
  first_serves eq k (o ∷ q ∷ []) [] o' s' t' two both se alone = absurd (omega arith)
  first_serves eq k (o ∷ q ∷ []) (s ∷ []) o' s' t' two both se alone = absurd (omega arith)
  first_serves eq k (o ∷ q ∷ []) (s ∷ t ∷ u ∷ ss) o' s' t' two both se alone = absurd (omega arith)

  -- the key and the place that were found for it, and what the keys and the places are then
  pub record Took (eq : K → K → Bool) (k : K) (end : ℤ) (os : List (Option K)) (ss : List (Assembly K)) (p : ℕ)
      (ks : List (Option K)) (ps : List (Assembly K)) : Type 0 where
    pub slot : p ≡ slot_for eq k (with_keys os ss)
    pub taken : ps ≡ taken_at (slot_for eq k (with_keys os ss)) k end (with_keys os ss)
    pub keys : ks ≡ keys_of ps

  -- where they were lent as slices
  pub took_of : {eq : K → K → Bool} {k : K} {end : ℤ} {os os' : List (Option K)} {ss ss' : List (Assembly K)} {p : ℕ} {ks : List (Option K)}
      {ps : List (Assembly K)} → os' ≡ os → ss' ≡ ss
      → p ≡ slot_for eq k (with_keys os' ss') → ps ≡ taken_at (slot_for eq k (with_keys os' ss')) k end (with_keys os' ss') →
      ks ≡ keys_of ps → Took eq k end os ss p ks ps
  took_of e f slot taken keys = record { slot = rw (e, f) at slot; taken = rw (e, f) at taken; keys = keys }

  module _ (eq : K → K → Bool) (reflexive : (k : K) → eq k k ≡ true) (k : K) (end : ℤ) (os : List (Option K)) (ss : List (Assembly K)) (p : ℕ)
      (ks : List (Option K)) (ps : List (Assembly K)) (kept : AreKept os ss) (took : Took eq k end os ss p ks ps) where
    pub length-shown : length (with_keys os ss) ≡ length ss
    length-shown = length-with_keys os ss kept.as_many

    length-places : length ps ≡ length ss
    length-places = ap length took.taken ∙ length-taken_at (slot_for eq k (with_keys os ss)) k end (with_keys os ss) ∙ length-shown

    length-keys : length ks ≡ length ss
    length-keys = ap length took.keys ∙ length-keys_of ps ∙ length-places

    keys_are : refill (length os) os ks ≡ keys_of (taken_at (slot_for eq k (with_keys os ss)) k end (with_keys os ss))
    keys_are = refilled os ks (length-keys ∙ sym kept.as_many) ∙ took.keys ∙ ap keys_of took.taken

    places_are : refill (length ss) ss ps ≡ taken_at (slot_for eq k (with_keys os ss)) k end (with_keys os ss)
    places_are = refilled ss ps length-places ∙ took.taken

    pub length-lent : length (refill (length ss) ss ps) ≡ length (with_keys os ss)
    length-lent = ap length (refilled ss ps length-places) ∙ length-places ∙ sym length-shown

    apart_then : AreApart (refill (length os) os ks)
    apart_then = rw keys_are (apart_taken eq reflexive k end (with_keys os ss) (apart_with os ss kept.apart))

    pub kept_then : AreKept (refill (length os) os ks) (refill (length ss) ss ps)
    kept_then = record {
      as_many = ap length keys_are ∙ length-keys_of (taken_at (slot_for eq k (with_keys os ss)) k end (with_keys os ss))
          ∙ sym (ap length places_are);
      apart = apart_then;
    }

    pub kept_lent : (w : Assembly K) → AreKept (refill (length os) os ks) (slice_set (refill (length ss) ss ps) p w)
    kept_lent w = record { as_many = kept_then.as_many ∙ sym (length-set (refill (length ss) ss ps) p w); apart = apart_then }

    pub two_then : length ss ≡ 2 → AreTwo (refill (length os) os ks) (refill (length ss) ss ps)
    two_then two = record { two = length-lent ∙ length-shown ∙ two; kept = kept_then }

    pub two_lent : length ss ≡ 2 → (w : Assembly K) → AreTwo (refill (length os) os ks) (slice_set (refill (length ss) ss ps) p w)
    two_lent two w = record { two = length-set (refill (length ss) ss ps) p w ∙ length-lent ∙ length-shown ∙ two; kept = kept_lent w }

    pub shown_place : (d : Assembly K) → p < length (with_keys os ss) →
        get_or (refill (length ss) ss ps) p d ≡ taken k end (get_or (with_keys os ss) (slot_for eq k (with_keys os ss)) d)
    shown_place d h = ap (λ (xs : List (Assembly K)). get_or xs p d) places_are
        ∙ ap (λ i. get_or (taken_at (slot_for eq k (with_keys os ss)) k end (with_keys os ss)) i d) took.slot
        ∙ get_taken (slot_for eq k (with_keys os ss)) k end (with_keys os ss) d (rw took.slot at h)

    pub lent_shown : (o : Option K) (d : Assembly K) →
        p < length (with_keys os ss) → o ≡ (taken k end (get_or (with_keys os ss) (slot_for eq k (with_keys os ss)) d)).key
        → ◌≡◌ {A = Assembly K → List (Assembly K)} (λ w. with_keys (refill (length os) os ks) (slice_set (refill (length ss) ss ps) p w))
        (λ w. slice_set (with_keys os ss) (slot_for eq k (with_keys os ss)) (with_key o w))
    lent_shown o d h e =
        rw (keys_are, places_are, took.slot) (lent_as (slot_for eq k (with_keys os ss)) k end (with_keys os ss) o d (rw took.slot at h) e)

    pub none_shown : length (with_keys os ss) ≤ p → with_keys (refill (length os) os ks) (refill (length ss) ss ps) ≡ with_keys os ss
    none_shown h =
        ap (λ xs. with_keys xs (refill (length ss) ss ps)) keys_are
        ∙ ap (with_keys (keys_of (taken_at (slot_for eq k (with_keys os ss)) k end (with_keys os ss)))) places_are
        ∙ with_own_keys (taken_at (slot_for eq k (with_keys os ss)) k end (with_keys os ss))
        ∙ taken_beyond (slot_for eq k (with_keys os ss)) k end (with_keys os ss) (rw took.slot at h)
