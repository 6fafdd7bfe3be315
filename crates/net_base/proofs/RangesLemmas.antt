-- Joining ranges keeps them apart, and covers the places of both.
use Rattle.std.proofs.Common.{◌≡◌, ◌<◌, ◌≤◌, ◌+◌, ℕ, suc, Bool, true, false, List, [], ◌∷◌, ◌++◌, length, take, drop, refl}
use Rattle.std.proofs.Common.{sym, ap, ◌∙◌, arith, get_or, add-one, drop-cons, zero, length-append, length-drop, length-take}
use Rattle.std.proofs.lemmas.List.{drop_all, get_or_default}
use Rattle.std.specs.Prelude.{cond, min, max, nat_lt, nat_le, ◌&&◌, ◌||◌, insert, remove, Result, Ok, Err, IsErr, OnOk, OnErr}
use Rattle.std.proofs.lemmas.Bool.Decides.{nat_tests}
use Rattle.net_base.specs.declared.assembler.Range.{Range}
use Rattle.net_base.specs.Ranges.{AreSeparate, covered, range_union, places_before, absorb, put_range, add_range, IsMet, IsApart, IsUnion}

-- whether a range has a place
abbrev pub has : Range → ℕ → Bool
has r p = nat_le r.start p && nat_lt p r.end

le_of : (a b : ℕ) → nat_le a b ≡ true → a ≤ b
le_of a b h = grind (arith, nat_tests)

gt_of : (a b : ℕ) → nat_le a b ≡ false → b < a
gt_of a b h = grind (arith, nat_tests)

-- ranges that touch, joined
joined_has : (a b c d p : ℕ) →
    c ≤ b → a ≤ d → a < b → c < d → nat_le (min a c) p && nat_lt p (max b d) ≡ (nat_le a p && nat_lt p b) || (nat_le c p && nat_lt p d)
joined_has a b c d p h k m n = grind (arith, nat_tests)

or_assoc : (a b c : Bool) → (a || b) || c ≡ a || (b || c)
or_assoc true b c = refl
or_assoc false b c = refl

-- what is absorbed is still covered
absorb_covers : (m : Range) (from : ℕ) (rs : List Range) (p : ℕ) →
    AreSeparate from rs → m.start ≤ from → m.start < m.end → covered (absorb m rs) p ≡ has m p || covered rs p
absorb_covers m from [] p s h k = refl
absorb_covers m from (r ∷ rs) p s h k =
    elim (nat_le r.start m.end)
    as (λ b. nat_le r.start m.end ≡ b → covered (cond b (absorb (range_union m r) rs) (m ∷ r ∷ rs)) p ≡ has m p || (has r p || covered rs p)) [
      | true ↦ λ t. absorb_covers (range_union m r) (r.end + 1) rs p s.2 (omega (arith, s.0, s.1)) (omega (arith, s.1))
          ∙ ap (λ b. b || covered rs p) (joined_has m.start m.end r.start r.end p (le_of _ _ t) (omega (arith, s.0, s.1)) k s.1)
          ∙ or_assoc (has m p) (has r p) (covered rs p)
      | false ↦ λ t. refl
    ] refl

absorb_separate : (lo : ℕ) (m : Range) (from : ℕ) (rs : List Range) →
    AreSeparate from rs → lo ≤ m.start → lo ≤ from → m.start ≤ from → m.start < m.end → AreSeparate lo (absorb m rs)
absorb_separate lo m from [] s l f h k = (l, k, tt)
absorb_separate lo m from (r ∷ rs) s l f h k =
    elim (nat_le r.start m.end) as (λ b. nat_le r.start m.end ≡ b → AreSeparate lo (cond b (absorb (range_union m r) rs) (m ∷ r ∷ rs))) [
      | true ↦ λ t. absorb_separate lo (range_union m r) (r.end + 1) rs s.2 (omega (arith, s.0)) (omega (arith, s.0, s.1))
          (omega (arith, s.0, s.1)) (omega (arith, s.1))
      | false ↦ λ t. (l, k, ((let g = gt_of _ _ t in omega arith), s.1, s.2))
    ] refl

-- the ranges below, and then the range with those that it meets
pub put_is : (start end : ℕ) (rs : List Range) →
    put_range start end rs ≡ take (places_before start rs) rs ++ absorb (record { start = start; end = end }) (drop (places_before start rs) rs)
put_is start end [] = refl
put_is start end (r ∷ rs) =
    elim (nat_le start r.end) as (λ b. cond b (absorb (record { start = start; end = end }) (r ∷ rs)) (r ∷ put_range start end rs) ≡ take (cond b 0
    (places_before start rs + 1)) (r ∷ rs) ++ absorb (record { start = start; end = end }) (drop (cond b 0 (places_before start rs + 1)) (r ∷ rs))) [
      | true ↦ refl
      | false ↦ rw add-one (ap (λ xs. r ∷ xs) (put_is start end rs))
    ]

-- a range that does not meet the next one stands alone
pub absorb_apart : (m : Range) (rs : List Range) (i : ℕ) (d : Range) →
    i < length rs → nat_le (get_or rs i d).start m.end ≡ false → absorb m (drop i rs) ≡ m ∷ drop i rs
absorb_apart m rs i d h t =
    rw (drop-cons rs i d h) (ap (λ b. cond b (absorb (range_union m (get_or rs i d)) (drop (suc i) rs)) (m ∷ get_or rs i d ∷ drop (suc i) rs)) t)

pub absorb_end : (m : Range) (rs : List Range) → absorb m (drop (length rs) rs) ≡ m ∷ drop (length rs) rs
absorb_end m rs = rw (drop_all (length rs) rs (omega arith)) refl

-- a range that meets the next one takes it in
pub absorb_met : (m : Range) (rs : List Range) (i : ℕ) (d : Range) →
    i < length rs → nat_le (get_or rs i d).start m.end ≡ true → absorb m (drop i rs) ≡ absorb (range_union m (get_or rs i d)) (drop (suc i) rs)
absorb_met m rs i d h t =
    rw (drop-cons rs i d h) (ap (λ b. cond b (absorb (range_union m (get_or rs i d)) (drop (suc i) rs)) (m ∷ get_or rs i d ∷ drop (suc i) rs)) t)

pub length_absorb : (m : Range) (rs : List Range) → length (absorb m rs) ≤ length rs + 1
length_absorb m [] = omega arith
length_absorb m (r ∷ rs) =
    elim (nat_le r.start m.end) as (λ b. length (cond b (absorb (range_union m r) rs) (m ∷ r ∷ rs)) ≤ suc (length rs) + 1) [
      | true ↦ (let h = length_absorb (range_union m r) rs in omega arith)
      | false ↦ omega arith
    ]

or_swap : (a b c : Bool) → a || (b || c) ≡ b || (a || c)
or_swap true true c = refl
or_swap true false c = refl
or_swap false b c = refl

-- the first range that is met may begin below
first_separate : (lo : ℕ) (m r : Range) (rs : List Range) → AreSeparate lo (r ∷ rs) → lo ≤ m.start → m.start < m.end →
    m.start ≤ r.end → AreSeparate lo (absorb m (r ∷ rs))
first_separate lo m r rs s l k t =
    elim (nat_le r.start m.end) as (λ b. nat_le r.start m.end ≡ b → AreSeparate lo (cond b (absorb (range_union m r) rs) (m ∷ r ∷ rs))) [
      | true ↦ λ e. absorb_separate lo (range_union m r) (r.end + 1) rs s.2 (omega (arith, s.0)) (omega (arith, s.0, s.1))
          (omega (arith, s.0, s.1)) (omega (arith, s.1))
      | false ↦ λ e. (l, k, ((let g = gt_of _ _ e in omega arith), s.1, s.2))
    ] refl

first_covers : (m r : Range) (lo : ℕ) (rs : List Range) (p : ℕ) →
    AreSeparate lo (r ∷ rs) → m.start < m.end → m.start ≤ r.end → covered (absorb m (r ∷ rs)) p ≡ has m p || (has r p || covered rs p)
first_covers m r lo rs p s k t =
    elim (nat_le r.start m.end)
    as (λ b. nat_le r.start m.end ≡ b → covered (cond b (absorb (range_union m r) rs) (m ∷ r ∷ rs)) p ≡ has m p || (has r p || covered rs p)) [
      | true ↦ λ e. absorb_covers (range_union m r) (r.end + 1) rs p s.2 (omega (arith, s.0, s.1)) (omega (arith, s.1))
          ∙ ap (λ b. b || covered rs p) (joined_has m.start m.end r.start r.end p (le_of _ _ e) t k s.1) ∙ or_assoc (has m p) (has r p) (covered rs p)
      | false ↦ λ e. refl
    ] refl

-- the ranges stay apart
pub put_separate : (lo start end : ℕ) (rs : List Range) → start < end → lo ≤ start → AreSeparate lo rs → AreSeparate lo (put_range start end rs)
put_separate lo start end [] h l s = (l, h, tt)
put_separate lo start end (r ∷ rs) h l s =
    elim (nat_le start r.end)
    as (λ b. nat_le start r.end ≡ b → AreSeparate lo (cond b (absorb (record { start = start; end = end }) (r ∷ rs)) (r ∷ put_range start end rs))) [
      | true ↦ λ t. first_separate lo (record { start = start; end = end }) r rs s l h (le_of _ _ t)
      | false ↦ λ t. (s.0, s.1, put_separate (r.end + 1) start end rs h (let g = gt_of _ _ t in omega arith) s.2)
    ] refl

-- and cover the old places and the new ones
pub put_covers : (lo start end : ℕ) (rs : List Range) (p : ℕ) →
    start < end → AreSeparate lo rs → covered (put_range start end rs) p ≡ (nat_le start p && nat_lt p end) || covered rs p
put_covers lo start end [] p h s = refl
put_covers lo start end (r ∷ rs) p h s =
    elim (nat_le start r.end)
    as (λ b. nat_le start r.end ≡ b → covered (cond b (absorb (record { start = start; end = end }) (r ∷ rs)) (r ∷ put_range start end rs)) p
    ≡ (nat_le start p && nat_lt p end) || (has r p || covered rs p)) [
      | true ↦ λ t. first_covers (record { start = start; end = end }) r lo rs p s h (le_of _ _ t)
      | false ↦ λ t. ap (λ b. has r p || b) (put_covers (r.end + 1) start end rs p h s.2) ∙ or_swap (has r p) _ (covered rs p)
    ] refl

test_of : (a b : ℕ) → a ≤ b → nat_le a b ≡ true
test_of a b h = grind (arith, nat_tests)

no_test_of : (a b : ℕ) → b < a → nat_le a b ≡ false
no_test_of a b h = grind (arith, nat_tests)

lt_test : (a b : ℕ) → a < b → nat_lt a b ≡ true
lt_test a b h = grind (arith, nat_tests)

pub added : (start end : ℕ) (rs : List Range) → start < end → add_range start end rs ≡ put_range start end rs
added start end rs h = ap (λ b. cond b (put_range start end rs) rs) (lt_test start end h)

pub is_met_at : (rs : List Range) (i end : ℕ) (x : Range) → i < length rs → x ≡ get_or rs i x → x.start ≤ end → IsMet rs i end
is_met_at rs i end x h e le = record {
  within = h;
  takes = λ m d m_end. rw add-one (absorb_met m rs i d h (rw (get_or_default rs i d x h ∙ sym e, m_end) (test_of x.start end le)));
}

pub is_apart_at : (rs : List Range) (i end : ℕ) (x : Range) → i < length rs → x ≡ get_or rs i x → end < x.start → IsApart rs i end
is_apart_at rs i end x h e gt = record { alone = λ m m_end. absorb_apart m rs i x h (rw (← e, m_end) (no_test_of x.start end gt)) }

pub is_apart_end : (rs : List Range) (i end : ℕ) → i ≡ length rs → IsApart rs i end
is_apart_end rs i end e = record { alone = λ m _. rw e (absorb_end m rs) }

-- what is put where nothing is met
pub put_alone : (start end k : ℕ) (rs : List Range) → k ≡ places_before start rs → start < end → IsApart rs k end →
    add_range start end rs ≡ insert rs k (record { start = start; end = end })
put_alone start end k rs e h apart =
    added start end rs h ∙ put_is start end rs ∙ rw (← e) (ap (λ xs. take k rs ++ xs) (apart.alone (record { start = start; end = end }) refl))

-- what is put where the next range is met
pub put_met : (start end k : ℕ) (rs : List Range) (d : Range) → k ≡ places_before start rs → start < end → IsMet rs k end →
    add_range start end rs ≡ take k rs ++ absorb (range_union (record { start = start; end = end }) (get_or rs k d)) (drop (k + 1) rs)
put_met start end k rs d e h met =
    added start end rs h ∙ put_is start end rs ∙ rw (← e) (ap (λ xs. take k rs ++ xs) (met.takes (record { start = start; end = end }) d refl))

take_remove : (rs : List Range) (k : ℕ) → k < length rs → take k (remove rs k) ≡ take k rs
take_remove [] k h = absurd (omega arith)
take_remove (r ∷ rs) zero h = refl
take_remove (r ∷ rs) (suc k) h = ap (λ xs. r ∷ xs) (take_remove rs k (omega arith))

drop_remove : (rs : List Range) (k : ℕ) → k < length rs → drop k (remove rs k) ≡ drop (suc k) rs
drop_remove [] k h = absurd (omega arith)
drop_remove (r ∷ rs) zero h = refl
drop_remove (r ∷ rs) (suc k) h = drop_remove rs k (omega arith)

-- what stands where the loop ends
pub after_loop : (rs qs : List Range) (k : ℕ) (m0 m : Range) → k < length rs → take k qs ≡ take k (remove rs k) →
    absorb m (drop k qs) ≡ absorb m0 (drop k (remove rs k)) → IsApart qs k m.end → insert qs k m ≡ take k rs ++ absorb m0 (drop (k + 1) rs)
after_loop rs qs k m0 m h front rest apart =
    ap (λ xs. take k qs ++ xs) (sym (apart.alone m refl) ∙ rest ∙ ap (absorb m0) (drop_remove rs k h ∙ ap (λ n. drop n rs) (sym (add-one k))))
    ∙ ap (λ xs. xs ++ absorb m0 (drop (k + 1) rs)) (front ∙ take_remove rs k h)

-- where a range is met there are no more ranges than before
pub length_met : (rs : List Range) (k : ℕ) (m : Range) → k < length rs → length (take k rs ++ absorb m (drop (k + 1) rs)) ≤ length rs
length_met rs k m h =
    let a = length_absorb m (drop (k + 1) rs) in
    rw length-append (omega (arith, length-drop (k + 1) rs, length-take k rs, a))

few_of : (n : ℕ) → (4 < n → false ≡ true) → n ≤ 4
few_of n h = grind arith

-- what an addition leaves is apart and fits
pub kept : {E : Type 0} (r : Result (Unit {0}) E) (start end : ℕ) (rs ss : List Range) →
    (IsErr r → 4 < length (add_range start end rs)) × (4 < length (add_range start end rs) → IsErr r) → OnOk r (ss ≡ add_range start end rs) →
    OnErr r (ss ≡ rs) → start < end → AreSeparate 0 rs → length rs ≤ 4 → AreSeparate 0 ss × (length ss ≤ 4)
kept (Ok _) start end rs ss refused ok err h s few =
    rw ok (rw (added start end rs h) (put_separate 0 start end rs h (omega arith) s), few_of _ refused.1)
kept (Err _) start end rs ss refused ok err h s few = rw err (s, few)

no_lt_test : (a : ℕ) → nat_lt a a ≡ false
no_lt_test a = grind (arith, nat_tests)

none_between : (a p : ℕ) → nat_le a p && nat_lt p a ≡ false
none_between a p = grind (arith, nat_tests)

-- what an addition covers
pub union_of : (start end : ℕ) (rs : List Range) → start < end → AreSeparate 0 rs → IsUnion rs (add_range start end rs) start end
union_of start end rs h s = record {
  separate = rw (added start end rs h) (put_separate 0 start end rs h (omega arith) s);
  covers = λ p. rw (added start end rs h) (put_covers 0 start end rs p h s);
}

pub union_none : (start end : ℕ) (rs : List Range) → start ≡ end → AreSeparate 0 rs → IsUnion rs (add_range start end rs) start end
union_none start end rs e s = record {
  separate = rw (← e, no_lt_test start) s;
  covers = λ p. rw (← e, no_lt_test start, none_between start p) refl;
}
