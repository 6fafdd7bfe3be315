-- Loops over places and their keys: what they are once the first i were gone over.
use Rattle.std.proofs.Common.{◌≡◌, ◌<◌, ◌+◌, ℕ, ℤ, zero, suc, true, false, List, [], ◌∷◌, Option, Some, None}
use Rattle.std.proofs.Common.{map as each, take, length, get_or, slice_set, add-one, refl, sym, ap, ◌∙◌, arith}
use Rattle.std.specs.Prelude.{cond, is_none, int_lt}
use Rattle.fragmentation.specs.Assembly.{Assembly, IsSound, AllSound, live_at, with_key, with_keys, keys_of}

module _ {K : Type 0} where
  -- one more is sound
  pub sound_more : (ss : List (Assembly K)) (i : ℕ) (s : Assembly K) →
      i < length ss → s ≡ get_or ss i s → IsSound s → AllSound (take i ss) → AllSound (take (i + 1) ss)
  sound_more [] i s h e one all = absurd (omega arith)
  sound_more (x ∷ ss) zero s h e one all = (rw e at one, tt)
  sound_more (x ∷ ss) (suc i) s h e one all = rw add-one (all.0, rw add-one at (sound_more ss i s (omega arith) e one all.1))

  -- each of the first i places has its key
  abbrev pub kept_to : ℕ → List (Option K) → List (Assembly K) → List (Assembly K)
  kept_to zero os ss = ss
  kept_to (suc i) [] ss = ss
  kept_to (suc i) (o ∷ os) [] = []
  kept_to (suc i) (o ∷ os) (s ∷ ss) = with_key o s ∷ kept_to i os ss

  -- the keys of the first i are theirs
  abbrev pub keyed_to : ℕ → List (Option K) → List (Assembly K) → List (Option K)
  keyed_to zero os ss = os
  keyed_to (suc i) [] ss = []
  keyed_to (suc i) (o ∷ os) [] = o ∷ os
  keyed_to (suc i) (o ∷ os) (s ∷ ss) = (with_key o s).key ∷ keyed_to i os ss

  pub length-kept_to : (i : ℕ) (os : List (Option K)) (ss : List (Assembly K)) → length (kept_to i os ss) ≡ length ss
  length-kept_to zero os ss = refl
  length-kept_to (suc i) [] ss = refl
  length-kept_to (suc i) (o ∷ os) [] = refl
  length-kept_to (suc i) (o ∷ os) (s ∷ ss) = ap suc (length-kept_to i os ss)

  pub length-keyed_to : (i : ℕ) (os : List (Option K)) (ss : List (Assembly K)) → length (keyed_to i os ss) ≡ length os
  length-keyed_to zero os ss = refl
  length-keyed_to (suc i) [] ss = refl
  length-keyed_to (suc i) (o ∷ os) [] = refl
  length-keyed_to (suc i) (o ∷ os) (s ∷ ss) = ap suc (length-keyed_to i os ss)

  kept_step : (i : ℕ) (os : List (Option K)) (ss : List (Assembly K)) (o : Option K) (s new : Assembly K) → i < length os → i < length ss →
      o ≡ get_or (keyed_to i os ss) i o → new ≡ with_key o (get_or (kept_to i os ss) i s) → slice_set (kept_to i os ss) i new ≡ kept_to (suc i) os ss
  kept_step i [] ss o s new h l e k = absurd (omega arith)
  kept_step i (p ∷ os) [] o s new h l e k = absurd (omega arith)
  kept_step zero (p ∷ os) (x ∷ ss) o s new h l e k = ap (λ (y : Assembly K). y ∷ ss) (k ∙ ap (λ (q : Option K). with_key q x) e)
  kept_step (suc i) (p ∷ os) (x ∷ ss) o s new h l e k =
      ap (λ (xs : List (Assembly K)). with_key p x ∷ xs) (kept_step i os ss o s new (omega arith) (omega arith) e k)

  keyed_step : (i : ℕ) (os : List (Option K)) (ss : List (Assembly K)) (o r : Option K) (s new : Assembly K) → i < length os → i < length ss →
      o ≡ get_or (keyed_to i os ss) i o → new ≡ with_key o (get_or (kept_to i os ss) i s) → r ≡ new.key →
      slice_set (keyed_to i os ss) i r ≡ keyed_to (suc i) os ss
  keyed_step i [] ss o r s new h l e k f = absurd (omega arith)
  keyed_step i (p ∷ os) [] o r s new h l e k f = absurd (omega arith)
  keyed_step zero (p ∷ os) (x ∷ ss) o r s new h l e k f =
      ap (λ (q : Option K). q ∷ os) (f ∙ ap (λ (y : Assembly K). y.key) (k ∙ ap (λ (q : Option K). with_key q x) e))
  keyed_step (suc i) (p ∷ os) (x ∷ ss) o r s new h l e k f =
      ap (λ (qs : List (Option K)). (with_key p x).key ∷ qs) (keyed_step i os ss o r s new (omega arith) (omega arith) e k f)

  pub kept_more : (i : ℕ) (os ks : List (Option K)) (ss xs : List (Assembly K)) (o r : Option K) (s new : Assembly K) →
      length os ≡ length ss → i < length os → xs ≡ kept_to i os ss → ks ≡ keyed_to i os ss → o ≡ get_or ks i o →
      new ≡ with_key o (get_or xs i s) → r ≡ new.key → (slice_set xs i new ≡ kept_to (i + 1) os ss) × (slice_set ks i r ≡ keyed_to (i + 1) os ss)
  kept_more i os ks ss xs o r s new long h xe ke oe is key =
      let there : o ≡ get_or (keyed_to i os ss) i o = oe ∙ ap (λ (qs : List (Option K)). get_or qs i o) ke in
      let new_is : new ≡ with_key o (get_or (kept_to i os ss) i s) = is ∙ ap (λ (ys : List (Assembly K)). with_key o (get_or ys i s)) xe in
      let below : i < length ss = omega arith in
      rw (xe, ke, add-one) (kept_step i os ss o s new h below there new_is, keyed_step i os ss o r s new h below there new_is key)

  pub kept_all : (os : List (Option K)) (ss : List (Assembly K)) → length os ≡ length ss → kept_to (length os) os ss ≡ with_keys os ss
  kept_all [] [] e = refl
  kept_all [] (s ∷ ss) e = absurd (omega arith)
  kept_all (o ∷ os) [] e = refl
  kept_all (o ∷ os) (s ∷ ss) e = ap (λ (xs : List (Assembly K)). with_key o s ∷ xs) (kept_all os ss (omega arith))

  pub keyed_all : (os : List (Option K)) (ss : List (Assembly K)) → length os ≡ length ss → keyed_to (length os) os ss ≡ keys_of (with_keys os ss)
  keyed_all [] [] e = refl
  keyed_all [] (s ∷ ss) e = absurd (omega arith)
  keyed_all (o ∷ os) [] e = absurd (omega arith)
  keyed_all (o ∷ os) (s ∷ ss) e = ap (λ (qs : List (Option K)). (with_key o s).key ∷ qs) (keyed_all os ss (omega arith))

  -- the key of a free place is forgotten
  forgot_step : (i : ℕ) (os : List (Option K)) (ss : List (Assembly K)) (d r : Option K) (s : Assembly K) → i < length os → i < length ss →
      s ≡ get_or ss i s → r ≡ (with_key (get_or (keyed_to i os ss) i d) s).key → slice_set (keyed_to i os ss) i r ≡ keyed_to (suc i) os ss
  forgot_step i [] ss d r s h l e k = absurd (omega arith)
  forgot_step i (p ∷ os) [] d r s h l e k = absurd (omega arith)
  forgot_step zero (p ∷ os) (x ∷ ss) d r s h l e k = ap (λ (q : Option K). q ∷ os) (k ∙ ap (λ (y : Assembly K). (with_key p y).key) e)
  forgot_step (suc i) (p ∷ os) (x ∷ ss) d r s h l e k =
      ap (λ (qs : List (Option K)). (with_key p x).key ∷ qs) (forgot_step i os ss d r s (omega arith) (omega arith) e k)

  pub forgot_more : (i : ℕ) (os ks : List (Option K)) (ss : List (Assembly K)) (d r : Option K) (s : Assembly K) →
      length os ≡ length ss → i < length os → ks ≡ keyed_to i os ss → s ≡ get_or ss i s →
      r ≡ (with_key (get_or ks i d) s).key → slice_set ks i r ≡ keyed_to (i + 1) os ss
  forgot_more i os ks ss d r s long h ke e key =
      let key_is : r ≡ (with_key (get_or (keyed_to i os ss) i d) s).key =
      key ∙ ap (λ (qs : List (Option K)). (with_key (get_or qs i d) s).key) ke in
      rw (ke, add-one) (forgot_step i os ss d r s h (omega arith) e key_is)

  -- a place with a key is freed if it has expired
  abbrev pub left_one : ℤ → Option K → Assembly K → Assembly K
  left_one t o s = cond (is_none o) s (live_at t s)

  -- the first i are gone over
  abbrev pub left_to : ℤ → ℕ → List (Option K) → List (Assembly K) → List (Assembly K)
  left_to t zero os ss = ss
  left_to t (suc i) [] ss = ss
  left_to t (suc i) (o ∷ os) [] = []
  left_to t (suc i) (o ∷ os) (s ∷ ss) = left_one t o s ∷ left_to t i os ss

  pub length-left_to : (t : ℤ) (i : ℕ) (os : List (Option K)) (ss : List (Assembly K)) → length (left_to t i os ss) ≡ length ss
  length-left_to t zero os ss = refl
  length-left_to t (suc i) [] ss = refl
  length-left_to t (suc i) (o ∷ os) [] = refl
  length-left_to t (suc i) (o ∷ os) (s ∷ ss) = ap suc (length-left_to t i os ss)

  left_step : (t : ℤ) (i : ℕ) (os : List (Option K)) (ss : List (Assembly K)) (o : Option K) (s new : Assembly K) → i < length os → i < length ss →
      o ≡ get_or os i o → new ≡ left_one t o (get_or (left_to t i os ss) i s) → slice_set (left_to t i os ss) i new ≡ left_to t (suc i) os ss
  left_step t i [] ss o s new h l e k = absurd (omega arith)
  left_step t i (p ∷ os) [] o s new h l e k = absurd (omega arith)
  left_step t zero (p ∷ os) (x ∷ ss) o s new h l e k = ap (λ (y : Assembly K). y ∷ ss) (k ∙ ap (λ (q : Option K). left_one t q x) e)
  left_step t (suc i) (p ∷ os) (x ∷ ss) o s new h l e k =
      ap (λ (xs : List (Assembly K)). left_one t p x ∷ xs) (left_step t i os ss o s new (omega arith) (omega arith) e k)

  -- the other places stay
  left_skip : (t : ℤ) (i : ℕ) (os : List (Option K)) (ss : List (Assembly K)) (o : Option K) → i < length os →
      o ≡ get_or os i o → is_none o ≡ true → left_to t i os ss ≡ left_to t (suc i) os ss
  left_skip t i [] ss o h e k = absurd (omega arith)
  left_skip t zero (p ∷ os) [] o h e k = refl
  left_skip t (suc i) (p ∷ os) [] o h e k = refl
  left_skip t zero (p ∷ os) (x ∷ ss) o h e k = rw (← e, k) refl
  left_skip t (suc i) (p ∷ os) (x ∷ ss) o h e k =
      ap (λ (xs : List (Assembly K)). left_one t p x ∷ xs) (left_skip t i os ss o (omega arith) e k)

  pub left_more : (t : ℤ) (i : ℕ) (os : List (Option K)) (ss xs : List (Assembly K)) (o : Option K) (s new : Assembly K) →
      length os ≡ length ss → i < length os → xs ≡ left_to t i os ss → o ≡ get_or os i o → is_none o ≡ false →
      new ≡ live_at t (get_or xs i s) → slice_set xs i new ≡ left_to t (i + 1) os ss
  left_more t i os ss xs o s new long h xe oe some is =
      let new_is : new ≡ left_one t o (get_or (left_to t i os ss) i s) =
      is ∙ ap (λ (ys : List (Assembly K)). live_at t (get_or ys i s)) xe
      ∙ sym (ap (λ b. cond b (get_or (left_to t i os ss) i s) (live_at t (get_or (left_to t i os ss) i s))) some) in
      rw (xe, add-one) (left_step t i os ss o s new h (omega arith) oe new_is)

  pub left_same : (t : ℤ) (i : ℕ) (os : List (Option K)) (ss xs : List (Assembly K)) (o : Option K) →
      i < length os → xs ≡ left_to t i os ss → o ≡ get_or os i o → is_none o ≡ true → xs ≡ left_to t (i + 1) os ss
  left_same t i os ss xs o h xe oe none = rw add-one (xe ∙ left_skip t i os ss o h oe none)

  left_with : (t : ℤ) (o : Option K) (s : Assembly K) → with_key o (left_one t o s) ≡ live_at t (with_key o s)
  left_with t None s = elim s.key as (λ (q : Option K). record s { key = cond (is_none q) None None } ≡ live_at t (record s { key = cond (is_none q) None None })) [
    | None ↦ refl
    | Some j ↦ refl
  ]
  left_with t (Some k) s =
      elim s.key as (λ q. s.key ≡ q → with_key (Some k) (live_at t s) ≡ live_at t (with_key (Some k) s)) [
        | None ↦ λ e. rw e refl
        | Some j ↦ λ e. elim (int_lt s.expires_at t) as (λ b. int_lt s.expires_at t ≡ b → with_key (Some k) (live_at t s) ≡ live_at t (with_key (Some k) s)) [
          | true ↦ λ u. rw (e, u) refl
          | false ↦ λ u. rw (e, u) refl
        ] refl
      ] refl

  pub left_all : (t : ℤ) (os : List (Option K)) (ss : List (Assembly K)) →
      length os ≡ length ss → with_keys os (left_to t (length os) os ss) ≡ each (live_at t) (with_keys os ss)
  left_all t [] ss e = refl
  left_all t (o ∷ os) [] e = refl
  left_all t (o ∷ os) (s ∷ ss) e =
      ap (λ (x : Assembly K). x ∷ with_keys os (left_to t (length os) os ss)) (left_with t o s)
      ∙ ap (λ (xs : List (Assembly K)). live_at t (with_key o s) ∷ xs) (left_all t os ss (omega arith))
