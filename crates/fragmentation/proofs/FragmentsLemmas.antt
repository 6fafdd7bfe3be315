-- Fragments, and the ranges that they cover.
use Rattle.std.proofs.Common.{◌≡◌, ◌<◌, ◌≤◌, ◌+◌, ◌-◌, ◌==◌, ℕ, zero, suc, Bool, true, false, List, [], ◌∷◌, ◌++◌}
use Rattle.std.proofs.Common.{length, get_or, take, drop, length-take, refl, sym, ap, ◌∙◌, arith, Option, Some, None}
use Rattle.std.specs.Prelude.{cond, nat_lt, nat_le, ◌&&◌, ◌||◌, not, Result, Ok, Err, IsErr, OnOk, OnErr, is_ok, is_err, IsTrue}
use Rattle.std.proofs.lemmas.Bool.Decides.{nat_tests}
use Rattle.std.proofs.lemmas.List.{ext_get_or, get_or-take, get_or-drop, get_or_append_left, get_or-append_right}
use Rattle.net_base.specs.declared.assembler.Range.{Range}
use Rattle.net_base.specs.Ranges.{AreSeparate, covered, front, IsUnion}
use Rattle.fragmentation.specs.Fragments.{Fragment, Got, end_of, has_place, is_covered, octet_at, begins_run}
use Rattle.fragmentation.specs.Fragments.{runs_below, ranges, allows, is_fit, with_one, IsWhole, IsRebuilt}
use Rattle.fragmentation.specs.Assembly.{Assembly, is_total, is_refused, is_complete, AreSound, octets_after_write}
use Rattle.fragmentation.specs.Stands.{Gathers, with_kept, with_total}

or_swap : (a b c : Bool) → a || (b || c) ≡ b || (a || c)
or_swap true true c = refl
or_swap true false c = refl
or_swap false b c = refl

-- one more fragment covers its places too
covered_more : (fs : List Fragment) (f : Fragment) (p : ℕ) → is_covered (fs ++ f ∷ []) p ≡ has_place f p || is_covered fs p
covered_more [] f p = refl
covered_more (g ∷ fs) f p = ap (λ b. has_place g p || b) (covered_more fs f p) ∙ or_swap (has_place g p) (has_place f p) (is_covered fs p)

-- and is the last one there
octet_new : (fs : List Fragment) (f : Fragment) (p : ℕ) → has_place f p ≡ true → octet_at (fs ++ f ∷ []) p ≡ get_or f.octets (p - f.offset) 0
octet_new [] f p h = refl
octet_new (g ∷ fs) f p h = rw (covered_more fs f p, h) (octet_new fs f p h)

octet_kept : (fs : List Fragment) (f : Fragment) (p : ℕ) → has_place f p ≡ false → is_covered fs p ≡ true → octet_at (fs ++ f ∷ []) p ≡ octet_at fs p
octet_kept [] f p h k = cc
octet_kept (g ∷ fs) f p h k =
    elim (is_covered fs p) as (λ b. is_covered fs p ≡ b → octet_at (g ∷ (fs ++ f ∷ [])) p ≡ octet_at (g ∷ fs) p) [
      | true ↦ λ t. rw (covered_more fs f p, h, t) (octet_kept fs f p h t)
      | false ↦ λ t. rw (covered_more fs f p, h, t) refl
    ] refl

-- runs are counted by the places alone
runs_same : (c d : ℕ → Bool) → ((p : ℕ) → c p ≡ d p) → (n : ℕ) → runs_below c n ≡ runs_below d n
unfolding runs_below
runs_same c d e zero = refl
runs_same c d e (suc zero) = rw (e 0) refl
runs_same c d e (suc (suc n)) = rw (runs_same c d e (suc n), e (suc n), e n) refl

-- no place below the first range is covered
covered_below : (from : ℕ) (rs : List Range) (p : ℕ) → AreSeparate from rs → p < from → covered rs p ≡ false
covered_below from [] p s h = refl
covered_below from (r ∷ rs) p s h =
    let e = covered_below (r.end + 1) rs p s.2 (omega (arith, s.0, s.1)) in
    let a = s.0 in
    grind (arith, nat_tests)

begins_low : (s e q : ℕ) (c d : Bool) → c ≡ false → d ≡ false → s < e → suc q ≤ e →
    cond (((nat_le s (suc q) && nat_lt (suc q) e) || c) && not ((nat_le s q && nat_lt q e) || d)) 1 0 ≡ cond (suc q == s) 1 0 + cond (c && not d) 1 0
begins_low s e q c d h k l m = grind (arith, nat_tests)

begins_high : (s e q : ℕ) (c d : Bool) → s < e → e ≤ q →
    cond (((nat_le s (suc q) && nat_lt (suc q) e) || c) && not ((nat_le s q && nat_lt q e) || d)) 1 0 ≡ cond (suc q == s) 1 0 + cond (c && not d) 1 0
begins_high s e q c d l m = grind (arith, nat_tests)

begins_zero : (s e : ℕ) (c : Bool) → c ≡ false → s < e → cond ((nat_le s 0 && nat_lt 0 e) || c) 1 0 ≡ cond (0 == s) 1 0 + cond c 1 0
begins_zero s e c h l = grind (arith, nat_tests)

-- a run begins where a range does
begins_cons : (from : ℕ) (r : Range) (rs : List Range) (p : ℕ) →
    AreSeparate from (r ∷ rs) → cond (begins_run (covered (r ∷ rs)) p) 1 0 ≡ cond (p == r.start) 1 0 + cond (begins_run (covered rs) p) 1 0
begins_cons from r rs zero s = begins_zero r.start r.end (covered rs 0) (covered_below (r.end + 1) rs 0 s.2 (omega arith)) s.1
begins_cons from r rs (suc q) s =
    elim (nat_lt q r.end) as (λ b. nat_lt q r.end ≡ b →
    cond (begins_run (covered (r ∷ rs)) (suc q)) 1 0 ≡ cond (suc q == r.start) 1 0 + cond (begins_run (covered rs) (suc q)) 1 0) [
      | true ↦ λ t. let h : q < r.end = grind (arith, nat_tests) in begins_low r.start r.end q (covered rs (suc q)) (covered rs q)
          (covered_below (r.end + 1) rs (suc q) s.2 (omega arith)) (covered_below (r.end + 1) rs q s.2 (omega arith)) s.1 (omega arith)
      | false ↦ λ t. let h : r.end ≤ q = grind (arith, nat_tests) in begins_high r.start r.end q (covered rs (suc q)) (covered rs q) s.1 h
    ] refl

count_more : (s n a b : ℕ) → a ≡ cond (nat_lt s n) 1 0 + b → (c d : ℕ) → c ≡ cond (n == s) 1 0 + d → a + c ≡ cond (nat_lt s (suc n)) 1 0 + (b + d)
count_more s n a b e c d k = grind (arith, nat_tests)

runs_cons : (from : ℕ) (r : Range) (rs : List Range) (n : ℕ) →
    AreSeparate from (r ∷ rs) → runs_below (covered (r ∷ rs)) n ≡ cond (nat_lt r.start n) 1 0 + runs_below (covered rs) n
unfolding runs_below
runs_cons from r rs zero s = grind (arith, nat_tests)
runs_cons from r rs (suc n) s = count_more r.start n _ _ (runs_cons from r rs n s) _ _ (begins_cons from r rs n s)

runs_none : (n : ℕ) → runs_below (covered []) n ≡ 0
unfolding runs_below
runs_none zero = refl
runs_none (suc zero) = refl
runs_none (suc (suc n)) = rw (runs_none (suc n)) refl

starts : (r : Range) (rs : List Range) → r.start < r.end → covered (r ∷ rs) r.start ≡ true
starts r rs h = grind (arith, nat_tests)

within_rest : (r : Range) (rs : List Range) (p : ℕ) → covered rs p ≡ true → covered (r ∷ rs) p ≡ true
within_rest r rs p h = grind (arith, nat_tests)

one_more : (s n k : ℕ) → s < n → cond (nat_lt s n) 1 0 + k ≡ suc k
one_more s n k h = grind (arith, nat_tests)

-- there are as many runs as separate ranges
runs_of : (from n : ℕ) (rs : List Range) → AreSeparate from rs → ((p : ℕ) → covered rs p ≡ true → p < n) → runs_below (covered rs) n ≡ length rs
runs_of from n [] s w = runs_none n
runs_of from n (r ∷ rs) s w =
    runs_cons from r rs n s ∙ one_more r.start n _ (w r.start (starts r rs s.1))
    ∙ ap suc (runs_of (r.end + 1) n rs s.2 (λ p h. w p (within_rest r rs p h)))

-- the covered front
front_below : (from : ℕ) (rs : List Range) (p : ℕ) → AreSeparate from rs → p < front rs → covered rs p ≡ true
front_below from [] p s h = absurd (omega arith)
front_below from (r ∷ rs) p s h = grind (arith, nat_tests)

front_at : (from : ℕ) (rs : List Range) → AreSeparate from rs → covered rs (front rs) ≡ false
front_at from [] s = refl
front_at from (r ∷ rs) s =
    let a = covered_below (r.end + 1) rs r.end s.2 (omega arith) in
    let b = covered_below (r.end + 1) rs 0 s.2 (omega arith) in
    elim (r.start == 0) as (λ t. r.start == 0 ≡ t → covered (r ∷ rs) (cond t r.end 0) ≡ false) [
      | true ↦ λ t. grind (arith, nat_tests)
      | false ↦ λ t. grind (arith, nat_tests)
    ] refl

two_ways : (b : Bool) → b ≡ true → b ≡ false → ⊥
two_ways b h k = cc

same_some : (m n : ℕ) → Some m ≡ Some n → m ≡ n
same_some m n e = cc

only_old : (fs : List Fragment) (f : Fragment) (p : ℕ) → has_place f p ≡ false → is_covered (fs ++ f ∷ []) p ≡ true → is_covered fs p ≡ true
only_old fs f p h k = let e = sym (covered_more fs f p) ∙ k in rw h at e

-- what is covered with one more fragment lies below 4096
below_end : (rs : List Range) (f : Fragment) (p : ℕ) → end_of f ≤ 4096 → (covered rs p ≡ true → p < 4096) →
    has_place f p || covered rs p ≡ true → p < 4096
below_end rs f p w old k =
    elim (covered rs p) as (λ b. covered rs p ≡ b → p < 4096) [
      | true ↦ λ t. old t
      | false ↦ λ t. grind (arith, nat_tests)
    ] refl

front_least : (rs : List Range) (n : ℕ) → AreSeparate 0 rs → ((p : ℕ) → p < n → covered rs p ≡ true) → covered rs n ≡ false → n ≡ front rs
front_least rs n s below at =
    elim (nat_lt n (front rs)) as (λ b. nat_lt n (front rs) ≡ b → n ≡ front rs) [
      | true ↦ λ t. let h : n < front rs = grind (arith, nat_tests) in let k = front_below 0 rs n s h in absurd (two_ways _ k at)
      | false ↦ λ t. elim (nat_lt (front rs) n) as (λ b. nat_lt (front rs) n ≡ b → n ≡ front rs) [
        | true ↦ λ u. let h : front rs < n = grind (arith, nat_tests) in absurd (two_ways _ (below (front rs) h) (front_at 0 rs s))
        | false ↦ λ u. grind (arith, nat_tests)
      ] refl
    ] refl

pub front_within : (rs : List Range) → AreSound rs → front rs ≤ 4096
front_within rs s =
    elim (nat_lt 4096 (front rs)) as (λ b. nat_lt 4096 (front rs) ≡ b → front rs ≤ 4096) [
      | true ↦ λ t. let h : 4096 < front rs = grind (arith, nat_tests) in
          let k = s.within 4096 (front_below 0 rs 4096 s.separate h) in absurd (omega arith)
      | false ↦ λ t. grind (arith, nat_tests)
    ] refl

total_is : (o : Option ℕ) (n : ℕ) → is_total o n ≡ true → o ≡ Some n
total_is None n h = cc
total_is (Some t) n h = ap (λ (m : ℕ). Some m) (grind (arith, nat_tests))

is_total_of : (o : Option ℕ) (n : ℕ) → o ≡ Some n → is_total o n ≡ true
is_total_of o n e = rw e (grind (arith, nat_tests))

few_test : (n : ℕ) → n ≤ 4 → nat_le n 4 ≡ true
few_test n h = grind (arith, nat_tests)

many_test : (n : ℕ) → 4 < n → nat_le n 4 ≡ false
many_test n h = grind (arith, nat_tests)

-- what is written, place by place
written_at : (xs bytes : List ℕ) (offset p : ℕ) → offset + length bytes ≤ length xs → get_or (octets_after_write xs offset bytes) p 0
    ≡ cond (nat_le offset p && nat_lt p (offset + length bytes)) (get_or bytes (p - offset) 0) (get_or xs p 0)
written_at xs bytes offset p h =
    let front_length : length (take offset xs) ≡ offset = omega (arith, length-take offset xs) in
    elim (nat_le offset p) as (λ b. nat_le offset p ≡ b →
    get_or (octets_after_write xs offset bytes) p 0 ≡ cond (b && nat_lt p (offset + length bytes)) (get_or bytes (p - offset) 0) (get_or xs p 0)) [
      | true ↦ λ t.
          let low : offset ≤ p = grind (arith, nat_tests) in
          get_or-append_right (take offset xs) (bytes ++ drop (offset + length bytes) xs) offset p 0 front_length low
          ∙ elim (nat_lt p (offset + length bytes)) as (λ b. nat_lt p (offset + length bytes) ≡ b →
          get_or (bytes ++ drop (offset + length bytes) xs) (p - offset) 0 ≡ cond b (get_or bytes (p - offset) 0) (get_or xs p 0)) [
            | true ↦ λ u. let high : p < offset + length bytes = grind (arith, nat_tests) in
                get_or_append_left bytes (drop (offset + length bytes) xs) 0 (p - offset) (omega arith)
            | false ↦ λ u.
                let high : offset + length bytes ≤ p = grind (arith, nat_tests) in
                get_or-append_right bytes (drop (offset + length bytes) xs) (length bytes) (p - offset) 0 refl (omega arith)
                ∙ get_or-drop (offset + length bytes) xs (p - offset - length bytes) 0
                ∙ ap (λ i. get_or xs i 0) (omega arith)
          ] refl
      | false ↦ λ t.
          let low : p < offset = grind (arith, nat_tests) in
          get_or_append_left (take offset xs) (bytes ++ drop (offset + length bytes) xs) 0 p (omega arith) ∙ get_or-take offset xs p 0 low
    ] refl

module _ {K : Type 0} where
  -- a place is complete exactly where what it gathers is whole
  whole_is : (s : Assembly K) (g : Got) → AreSeparate 0 s.ranges → Gathers s g → is_complete s ≡ true → IsWhole g (front s.ranges)
  whole_is s g sep h t = record {
    total = sym h.total ∙ total_is s.total (front s.ranges) t;
    below = λ p l. sym (h.places p) ∙ front_below 0 s.ranges p sep l;
    at = sym (h.places (front s.ranges)) ∙ front_at 0 s.ranges sep;
  }

  complete_is : (s : Assembly K) (g : Got) (n : ℕ) → AreSeparate 0 s.ranges → Gathers s g → IsWhole g n → is_complete s ≡ true
  complete_is s g n sep h w = is_total_of s.total (front s.ranges)
      (h.total ∙ w.total ∙ ap (λ (m : ℕ). Some m) (front_least s.ranges n sep (λ p l. h.places p ∙ w.below p l) (h.places n ∙ w.at)))

  pub complete_iff : (s : Assembly K) (g : Got) →
      AreSeparate 0 s.ranges → Gathers s g → (is_complete s ≡ true → (n : ℕ) × IsWhole g n) × (((n : ℕ) × IsWhole g n) → is_complete s ≡ true)
  complete_iff s g sep h = (λ t. (front s.ranges, whole_is s g sep h t), λ w. complete_is s g w.0 sep h w.1)

  -- what is lent is what the fragments give together
  pub rebuilt_is : (s : Assembly K) (g : Got) (xs : List ℕ) → AreSeparate 0 s.ranges → Gathers s g → is_complete s ≡ true →
      length xs ≡ front s.ranges → ((p : ℕ) → p < length xs → get_or xs p 0 ≡ get_or s.octets p 0) → IsRebuilt g xs
  rebuilt_is s g xs sep h t e same = record {
    whole = rw e (whole_is s g sep h t);
    octets_at = λ p l. same p l ∙ h.octets p ((whole_is s g sep h t).below p (omega arith));
  }

  -- as many ranges as the place has with one more
  ranges_are : (s : Assembly K) (g : Got) (f : Fragment) (rs : List Range) →
      Gathers s g → AreSound s.ranges → IsUnion s.ranges rs f.offset (end_of f) → end_of f ≤ 4096 → ranges (g.fragments ++ f ∷ []) ≡ length rs
  ranges_are s g f rs h sound u w =
      runs_same (is_covered (g.fragments ++ f ∷ [])) (covered rs)
      (λ p. covered_more g.fragments f p ∙ ap (λ b. has_place f p || b) (sym (h.places p)) ∙ sym (u.covers p)) 4096
      ∙ runs_of 0 4096 rs u.separate (λ p k. below_end s.ranges f p w (sound.within p) (sym (u.covers p) ∙ k))

  -- a place that took a fragment's octets
  pub gathers_more : (s : Assembly K) (g : Got) (f : Fragment) (rs : List Range) (xs : List ℕ) →
      Gathers s g → AreSound s.ranges → IsUnion s.ranges rs f.offset (end_of f) → end_of f ≤ 4096 → length s.octets ≡ 4096 → length rs ≤ 4 →
      xs ≡ octets_after_write s.octets f.offset f.octets → Gathers (record s { ranges = rs; octets = xs }) (with_kept g f)
  gathers_more s g f rs xs h sound u w long few e =
      let n = ranges_are s g f rs h sound u w in
      rw (n, few_test (length rs) few) (record {
        total = h.total;
        places = λ p. u.covers p ∙ ap (λ b. has_place f p || b) (h.places p) ∙ sym (covered_more g.fragments f p);
        octets = λ p k.
            let at = rw (← e) at (written_at s.octets f.octets f.offset p (omega arith)) in
            elim (has_place f p) as (λ b. has_place f p ≡ b → get_or xs p 0 ≡ octet_at (g.fragments ++ f ∷ []) p) [
              | true ↦ λ t. at ∙ rw t (sym (octet_new g.fragments f p t))
              | false ↦ λ t. let k' = only_old g.fragments f p t k in at ∙ rw t (h.octets p k' ∙ sym (octet_kept g.fragments f p t k'))
            ] refl;
      })

  -- and one that could not
  pub gathers_left : (s : Assembly K) (g : Got) (f : Fragment) (rs : List Range) →
      Gathers s g → AreSound s.ranges → IsUnion s.ranges rs f.offset (end_of f) → end_of f ≤ 4096 → 4 < length rs → Gathers s (with_kept g f)
  gathers_left s g f rs h sound u w many = rw (ranges_are s g f rs h sound u w, many_test (length rs) many) h

-- the fragments and the total give one list alone
pub rebuilt_once : (g : Got) (xs ys : List ℕ) → IsRebuilt g xs → IsRebuilt g ys → xs ≡ ys
rebuilt_once g xs ys a b =
    let e = same_some _ _ (sym a.whole.total ∙ b.whole.total) in
    ext_get_or 0 xs ys e (λ i l. a.octets_at i l ∙ sym (b.octets_at i (omega arith)))

few_of : (n : ℕ) → (4 < n → false ≡ true) → n ≤ 4
few_of n h = grind arith

module _ {A E : Type 0} where
  pub ok_is : {P : Type 0} (r : Result A E) → OnOk r P → true ≡ is_ok r → P
  ok_is (Ok x) p e = p
  ok_is (Err x) p e = absurd (two_ways false (sym e) refl)

  pub not_err : {P : Type 0} (r : Result A E) → OnOk r P → false ≡ is_err r → P
  not_err (Ok x) p e = p
  not_err (Err x) p e = absurd (two_ways false e refl)

  pub err_is : {P : Type 0} (r : Result A E) → OnErr r P → false ≡ is_ok r → P
  err_is (Ok x) p e = absurd (two_ways false e refl)
  err_is (Err x) p e = p

  pub ok_few : (r : Result A E) (n : ℕ) → true ≡ is_ok r → (4 < n → IsErr r) → n ≤ 4
  ok_few (Ok x) n e f = few_of n f
  ok_few (Err x) n e f = absurd (two_ways false (sym e) refl)

  pub err_many : (r : Result A E) (n : ℕ) → false ≡ is_ok r → (IsErr r → 4 < n) → 4 < n
  err_many (Ok x) n e f = absurd (two_ways false e refl)
  err_many (Err x) n e f = f refl

pub front_of : (xs ys : List ℕ) (n p : ℕ) → xs ≡ ys → n ≤ length xs → p < length (take n xs) → get_or (take n xs) p 0 ≡ get_or ys p 0
front_of xs ys n p e h l = let k : p < n = omega (arith, length-take n xs) in rw e (get_or-take n ys p 0 k)

pub not_beyond : (n : ℕ) → false ≡ nat_lt 4096 n → n ≤ 4096
not_beyond n e = grind (arith, nat_tests)

-- what is within the buffer is taken in
pub taken_in : {A E P : Type 0} (r : Result A E) (n : ℕ) → (IsErr r → 4096 < n) → n ≤ 4096 → OnOk r P → P
taken_in (Ok x) n e le p = p
taken_in (Err x) n e le p = let h = e refl in absurd (omega arith)

allowed : (o : Option ℕ) (n : ℕ) → (is_refused o n ≡ true → false ≡ true) → allows o n ≡ true
allowed None n h = refl
allowed (Some t) n h =
    elim (t == n) as (λ b. (not b || nat_lt 4096 n ≡ true → false ≡ true) → b ≡ true) [ true ↦ λ h. refl | false ↦ λ h. h refl ] h

-- a last fragment whose total is allowed is fit
pub fit_last : {A E : Type 0} (r : Result A E) (o : Option ℕ) (f : Fragment) →
    end_of f ≤ 4096 → (IsTrue (is_refused o (end_of f)) → IsErr r) → false ≡ is_err r → f.is_last ≡ true → is_fit o f ≡ true
fit_last (Ok x) o f le h e last = rw (last, allowed o (end_of f) h) (grind (arith, nat_tests))
fit_last (Err x) o f le h e last = absurd (two_ways false e refl)

pub fit_more : (o : Option ℕ) (f : Fragment) → end_of f ≤ 4096 → f.is_last ≡ false → is_fit o f ≡ true
fit_more o f le last = rw last (grind (arith, nat_tests))

pub one_last : (g : Got) (f : Fragment) → is_fit g.total f ≡ true → f.is_last ≡ true → with_kept (with_total g (end_of f)) f ≡ with_one g f
one_last g f fit last = rw (fit, last) refl

pub one_kept : (g : Got) (f : Fragment) → is_fit g.total f ≡ true → f.is_last ≡ false → with_kept g f ≡ with_one g f
one_kept g f fit last = rw (fit, last) refl
