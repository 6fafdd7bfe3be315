-- Lists of entries with keys that differ, as the finite maps that they make.
use Rattle.std.proofs.Common.{◌≡◌, ℕ, zero, suc, ◌+◌, ◌<◌, List, [], ◌∷◌, length, drop, get_or, refl, sym, ap, ◌∙◌, arith, add-one}
use Rattle.std.specs.Prelude.{Bool, true, false, cond, Some, None, Option, remove}
use Rattle.std.specs.List.{insert as put}
use Rattle.std.specs.Ordering.{eq_by_cmp, is_eq}
use Rattle.std.specs.declared.cmp.Ordering.{Ordering}
use Rattle.std.specs.declared.cmp.Ordering.TheVariants.{Less, Equal, Greater}
use Rattle.std.specs.Cmp.{IsTotalOrder, eq_by_cmp_equiv}
use Rattle.std.specs.FinMap as map
use Rattle.std.specs.FinMap.{IsAntisymmetric, find, from_entries, insert, same_map, get-insert, get-remove, get-from_entries, len-insert, len-empty}
use Rattle.iface_tables.specs.Entries.{index_of, AreKeysDistinct}

is_eq-Equal : (o : Ordering) → is_eq o ≡ true → o ≡ Equal
is_eq-Equal Less h = cc
is_eq-Equal Equal h = refl
is_eq-Equal Greater h = cc

-- two tests that do not both hold
swapped : {A : Type 0} (a b : Bool) (x y z : A) → (a ≡ true → b ≡ true → ⊥) → cond a x (cond b y z) ≡ cond b y (cond a x z)
swapped true true x y z apart = absurd (apart refl refl)
swapped true false x y z apart = refl
swapped false b x y z apart = refl

-- keys that differ do not both tie with a third
not_true : (b : Bool) → b ≡ false → b ≡ true → ⊥
not_true b f t = cc

module _ {K X : Type 0} (R : K → K → Ordering) where
  -- the place of a key is at most the length
  pub index_of-le : (k : K) (es : List (K × X)) → index_of R k es < length es + 1
  index_of-le k [] = omega arith
  index_of-le k (e ∷ es) =
      elim (eq_by_cmp R k e.0) as (λ b. cond b 0 (index_of R k es + 1) < suc (length es) + 1) [
        | true ↦ omega arith
        | false ↦ let h = index_of-le k es in omega arith
      ]

  -- a key is found as among the entries from its own on
  pub find-drop : (k : K) (es : List (K × X)) → find R k (drop (index_of R k es) es) ≡ find R k es
  find-drop k [] = refl
  find-drop k (e ∷ es) =
      elim (eq_by_cmp R k e.0) as (λ b. eq_by_cmp R k e.0 ≡ b →
      find R k (drop (cond b 0 (index_of R k es + 1)) (e ∷ es)) ≡ cond b (Some e.1) (find R k es)) [
        | true ↦ λ t. ap (λ b. cond b (Some e.1) (find R k es)) t
        | false ↦ λ t. ap (λ n. find R k (drop n (e ∷ es))) (add-one (index_of R k es)) ∙ find-drop k es
      ] refl

  -- where it is the length, the key is not there
  pub find-absent : (k : K) (es : List (K × X)) → index_of R k es ≡ length es → find R k es ≡ None
  find-absent k [] h = refl
  find-absent k (e ∷ es) h =
      elim (eq_by_cmp R k e.0) as (λ b. cond b 0 (index_of R k es + 1) ≡ suc (length es) → cond b (Some e.1) (find R k es) ≡ None) [
        | true ↦ λ h. absurd (omega arith)
        | false ↦ λ h. find-absent k es (omega arith)
      ] h

  -- where it is below, the value there is found
  pub find-there : (k : K) (es : List (K × X)) (d : K × X) → index_of R k es < length es → find R k es ≡ Some (get_or es (index_of R k es) d).1
  find-there k [] d h = absurd (omega arith)
  find-there k (e ∷ es) d h =
      elim (eq_by_cmp R k e.0) as (λ b. cond b 0 (index_of R k es + 1) < suc (length es) →
      cond b (Some e.1) (find R k es) ≡ Some (get_or (e ∷ es) (cond b 0 (index_of R k es + 1)) d).1) [
        | true ↦ λ h. refl
        | false ↦ λ h. rw add-one (find-there k es d (omega arith))
      ] h

module _ {K : Type 0} {R : K → K → Ordering} (o : IsTotalOrder R) (same : IsAntisymmetric R) where
  -- a test that holds is an equation
  pub tied : (x y : K) → eq_by_cmp R x y ≡ true → x ≡ y
  tied x y h = same x y (is_eq-Equal _ h)

  pub tied_itself : (x : K) → eq_by_cmp R x x ≡ true
  tied_itself x = (eq_by_cmp_equiv o).refl x

  -- a test that fails also fails the other way round
  other : (x y : K) → eq_by_cmp R x y ≡ false → eq_by_cmp R y x ≡ false
  other x y h = (eq_by_cmp_equiv o).symm y x ∙ h

module _ {K X : Type 0} {R : K → K → Ordering} (o : IsTotalOrder R) (same : IsAntisymmetric R) where
  -- the entry at the place of a key that is there has this key
  pub key-there : (k : K) (es : List (K × X)) (d : K × X) → index_of R k es < length es → (get_or es (index_of R k es) d).0 ≡ k
  key-there k [] d h = absurd (omega arith)
  key-there k (e ∷ es) d h =
      elim (eq_by_cmp R k e.0) as (λ b. eq_by_cmp R k e.0 ≡ b → cond b 0 (index_of R k es + 1) < suc (length es) →
      (get_or (e ∷ es) (cond b 0 (index_of R k es + 1)) d).0 ≡ k) [
        | true ↦ λ t h. sym (tied o same k e.0 t)
        | false ↦ λ t h. rw add-one (key-there k es d (omega arith))
      ] refl h

  -- a key that is not there is not at a place
  not_at : (k : K) (es : List (K × X)) (i : ℕ) (d : K × X) → find R k es ≡ None → i < length es → eq_by_cmp R k (get_or es i d).0 ≡ false
  not_at k [] i d none h = absurd (omega arith)
  not_at k (e ∷ es) zero d none h =
      elim (eq_by_cmp R k e.0) as (λ b. cond b (Some e.1) (find R k es) ≡ None → b ≡ false) [ true ↦ λ n. cc | false ↦ λ n. refl ] none
  not_at k (e ∷ es) (suc i) d none h =
      elim (eq_by_cmp R k e.0) as (λ b. cond b (Some e.1) (find R k es) ≡ None → eq_by_cmp R k (get_or es i d).0 ≡ false) [
        | true ↦ λ n. cc
        | false ↦ λ n. not_at k es i d n (omega arith)
      ] none

  -- taking an entry out
  pub find-remove : (q : K) (es : List (K × X)) (i : ℕ) (d : K × X) →
      i < length es → AreKeysDistinct R es → find R q (remove es i) ≡ cond (eq_by_cmp R q (get_or es i d).0) None (find R q es)
  find-remove q [] i d h distinct = absurd (omega arith)
  find-remove q (e ∷ es) zero d h distinct =
      elim (eq_by_cmp R q e.0) as (λ b. eq_by_cmp R q e.0 ≡ b → find R q es ≡ cond b None (cond b (Some e.1) (find R q es))) [
        | true ↦ λ t. rw (tied o same q e.0 t) distinct.0
        | false ↦ λ t. refl
      ] refl
  find-remove q (e ∷ es) (suc i) d h distinct =
      ap (cond (eq_by_cmp R q e.0) (Some e.1)) (find-remove q es i d (omega arith) distinct.1)
      ∙ swapped (eq_by_cmp R q e.0) (eq_by_cmp R q (get_or es i d).0) (Some e.1) None (find R q es)
      (λ a b. not_true _ (not_at e.0 es i d distinct.0 (omega arith)) (rw (← tied o same q e.0 a) b))

  pub from_entries-remove : (es : List (K × X)) (i : ℕ) (d : K × X) →
      i < length es → AreKeysDistinct R es → from_entries {R = R} (remove es i) ≡ map.remove (from_entries es) (get_or es i d).0
  from_entries-remove es i d h distinct = same_map o same _ _ (λ q.
      get-from_entries o _ q ∙ find-remove q es i d h distinct
      ∙ sym (get-remove o (from_entries es) _ q ∙ ap (cond (eq_by_cmp R q (get_or es i d).0) None) (get-from_entries o es q)))

  either_none : (b : Bool) (x : Option X) → x ≡ None → cond b None x ≡ None
  either_none true x h = refl
  either_none false x h = h

  pub distinct_after-remove : (es : List (K × X)) (i : ℕ) → i < length es → AreKeysDistinct R es → AreKeysDistinct R (remove es i)
  distinct_after-remove [] i h d = absurd (omega arith)
  distinct_after-remove (e ∷ es) zero h d = d.1
  distinct_after-remove (e ∷ es) (suc i) h d =
      (find-remove e.0 es i e (omega arith) d.1 ∙ either_none _ _ d.0, distinct_after-remove es i (omega arith) d.1)

  -- the map has as many keys as there are entries
  pub len-from_entries : (es : List (K × X)) → AreKeysDistinct R es → map.len (from_entries {R = R} es) ≡ length es
  len-from_entries [] d = len-empty R X
  len-from_entries (e ∷ es) d =
      len-insert o (from_entries es) e.0 e.1 ∙ rw (get-from_entries o es e.0, d.0) (ap (λ n. n + 1) (len-from_entries es d.1) ∙ add-one (length es))

  -- the entry at a place is found by its key
  pub find-at : (es : List (K × X)) (i : ℕ) (d : K × X) → i < length es → AreKeysDistinct R es → find R (get_or es i d).0 es ≡ Some (get_or es i d).1
  find-at [] i d h distinct = absurd (omega arith)
  find-at (e ∷ es) zero d h distinct = ap (λ b. cond b (Some e.1) (find R e.0 es)) (tied_itself o same e.0)
  find-at (e ∷ es) (suc i) d h distinct =
      ap (λ b. cond b (Some e.1) (find R (get_or es i d).0 es)) (other o same e.0 (get_or es i d).0 (not_at e.0 es i d distinct.0 (omega arith)))
      ∙ find-at es i d (omega arith) distinct.1

  -- a key is at the place of its entry
  pub index-at : (es : List (K × X)) (i : ℕ) (d : K × X) → i < length es → AreKeysDistinct R es → index_of R (get_or es i d).0 es ≡ i
  index-at [] i d h distinct = absurd (omega arith)
  index-at (e ∷ es) zero d h distinct = ap (λ b. cond b 0 (index_of R e.0 es + 1)) (tied_itself o same e.0)
  index-at (e ∷ es) (suc i) d h distinct =
      let k = (get_or es i d).0 in
      ap (λ b. cond b 0 (index_of R k es + 1)) (other o same e.0 k (not_at e.0 es i d distinct.0 (omega arith)))
      ∙ ap (λ n. n + 1) (index-at es i d (omega arith) distinct.1) ∙ add-one i

  pub absent_after-remove : (q : K) (es : List (K × X)) (i : ℕ) (d : K × X) →
      i < length es → AreKeysDistinct R es → find R q es ≡ None → find R q (remove es i) ≡ None
  absent_after-remove q es i d h distinct none = find-remove q es i d h distinct ∙ either_none _ _ none

  -- a key that is not there does not tie with the first one, and is not behind it
  absent_first : (k : K) (e : K × X) (es : List (K × X)) → find R k (e ∷ es) ≡ None → (eq_by_cmp R k e.0 ≡ false) × (find R k es ≡ None)
  absent_first k e es none =
      elim (eq_by_cmp R k e.0) as (λ b. cond b (Some e.1) (find R k es) ≡ None → (b ≡ false) × (find R k es ≡ None)) [
        | true ↦ λ n. cc
        | false ↦ λ n. (refl, n)
      ] none

  -- putting an entry of another key among those that are there
  pub find-put : (q k : K) (v : X) (es : List (K × X)) (p : ℕ) →
      find R k es ≡ None → find R q (put es p (k, v)) ≡ cond (eq_by_cmp R q k) (Some v) (find R q es)
  find-put q k v es zero none = refl
  find-put q k v [] (suc p) none = refl
  find-put q k v (e ∷ es) (suc p) none =
      let first = absent_first k e es none in
      ap (cond (eq_by_cmp R q e.0) (Some e.1)) (find-put q k v es p first.1)
      ∙ swapped (eq_by_cmp R q e.0) (eq_by_cmp R q k) (Some e.1) (Some v) (find R q es)
      (λ a b. not_true _ first.0 (rw (← tied o same q k b, ← tied o same q e.0 a) (tied_itself o same q)))

  pub from_entries-put : (k : K) (v : X) (es : List (K × X)) (p : ℕ) →
      find R k es ≡ None → from_entries {R = R} (put es p (k, v)) ≡ insert (from_entries es) k v
  from_entries-put k v es p none = same_map o same _ _ (λ q.
      get-from_entries o _ q ∙ find-put q k v es p none
      ∙ sym (get-insert o (from_entries es) k v q ∙ ap (cond (eq_by_cmp R q k) (Some v)) (get-from_entries o es q)))

  pub distinct_after-put : (k : K) (v : X) (es : List (K × X)) (p : ℕ) →
      find R k es ≡ None → AreKeysDistinct R es → AreKeysDistinct R (put es p (k, v))
  distinct_after-put k v es zero none d = (none, d)
  distinct_after-put k v [] (suc p) none d = (refl, tt)
  distinct_after-put k v (e ∷ es) (suc p) none d =
      let first = absent_first k e es none in (
        find-put e.0 k v es p first.1 ∙ ap (λ b. cond b (Some v) (find R e.0 es)) (other o same k e.0 first.0) ∙ d.0,
        distinct_after-put k v es p first.1 d.1,
      )

  -- an entry of a key that was taken out is one that is written over
  pub put_over : (m : map.FinMap R X) (k : K) (v : X) → insert (map.remove m k) k v ≡ insert m k v
  put_over m k v = same_map o same _ _ (λ q.
      get-insert o (map.remove m k) k v q ∙ twice q (eq_by_cmp R q k) refl ∙ sym (get-insert o m k v q))
    where
      twice : (q : K) (b : Bool) → eq_by_cmp R q k ≡ b → cond b (Some v) (map.get (map.remove m k) q) ≡ cond b (Some v) (map.get m q)
      twice q true e = refl
      twice q false e = get-remove o m k q ∙ ap (λ b. cond b None (map.get m q)) e
