-- A table of places by their ends.
use Rattle.std.proofs.Common.{◌≡◌, ◌≢◌, ◌+◌, ◌*◌, ◌^◌, ◌≤◌, ◌<◌, ℕ, Bool, true, false, cond, List, length, refl, sym, ap, ◌∙◌, subst, arith, max}
use Rattle.std.specs.Prelude.{get_or, set, replicate, ◌==◌, nat_lt, Option, Some, None, is_some}
use Rattle.std.specs.List.{count_by}
use Rattle.std.proofs.lemmas.Bool.Decides.{nat_tests}
use Rattle.std.proofs.lemmas.List.{get_or-set_same, get_or-set_other, get_or-replicate, get_or_past, length-set, length-replicate}
use Rattle.std.proofs.lemmas.List.Sums.{sum_by-set}
use Rattle.std.proofs.lemmas.List.Folds.{sum_by-replicate}
use Rattle.tcp_host.specs.declared.iss.Endpoints.{Endpoints}
use Rattle.tcp_host.specs.declared.sip_hash.SipKey.{SipKey}
use Rattle.tcp_host.specs.Homes.{home}
use Rattle.tcp_host.specs.Table.{ends_at, IsNowhere, AreDistinct}
use Rattle.tcp_host.specs.Details.Cells.{is_used, IsFound, Stands}

none_is_not : {X : Type 0} (x : X) (a : Option X) → a ≡ None → a ≢ Some x
none_is_not x a n s = grind (arith, n, s)

-- where all are the same, so is what lies past them
all_zero : (n i : ℕ) → get_or {A = ℕ} (replicate n 0) i 0 ≡ 0
all_zero n i = by (nat_lt i n) refl where
  by : (b : Bool) → nat_lt i n ≡ b → get_or {A = ℕ} (replicate n 0) i 0 ≡ 0
  by true e = let l : i < n = grind (arith, nat_tests, e) in get_or-replicate n i 0 0 l
  by false e = let l : n ≤ i = grind (arith, nat_tests, e) in get_or_past (replicate n 0) i 0 (rw length-replicate l)

all_none : (n i : ℕ) → ends_at (replicate n None) i ≡ None
all_none n i = by (nat_lt i n) refl where
  by : (b : Bool) → nat_lt i n ≡ b → ends_at (replicate n None) i ≡ None
  by true e = let l : i < n = grind (arith, nat_tests, e) in get_or-replicate n i None None l
  by false e = let l : n ≤ i = grind (arith, nat_tests, e) in get_or_past (replicate n None) i None (rw length-replicate l)

zero_times : (n x : ℕ) → x ≡ 0 → n * x ≡ 0
zero_times n x e = rw e (omega arith)

pub at_first : (key : SipKey) (places homes all : ℕ) → 1 ≤ homes → places ≤ 2 ^ 30 → homes ≤ 2 ^ 31 + 1 → all ≡ homes + places →
    Stands key (replicate places None) (replicate all 0) (replicate homes 0)
at_first key places homes all some few few_homes e = record {
  homes = rw length-replicate some;
  cells_len = simp length-replicate e;
  few = rw length-replicate few;
  few_homes = rw length-replicate few_homes;
  used =
      sum_by-replicate (λ x. cond {A = ℕ} (is_used x) 1 0) all 0 ∙ zero_times all (cond {A = ℕ} (is_used 0) 1 0) refl
      ∙ sym (sum_by-replicate (λ (x : Option Endpoints). cond {A = ℕ} (is_some x) 1 0) places None ∙ zero_times places (cond {A = ℕ} (is_some {T = Endpoints} None) 1 0) refl);
  within = λ h l.
      let z = all_zero homes h in
      let a = length-replicate {A = ℕ} homes 0 in
      let b = length-replicate {A = ℕ} all 0 in
      omega (arith, z, l, a, b, e);
  places = λ c. let z = all_zero all c in omega (arith, z);
  found = λ x place has. absurd (none_is_not x (ends_at (replicate places None) place) (all_none places place) has);
  distinct = λ x p q has _. absurd (none_is_not x (ends_at (replicate places None) p) (all_none places p) has);
}

-- A cell is taken by a place, whose ends have this home
module _ (key : SipKey) (table : List (Option Endpoints)) (cells reaches : List ℕ) (stands : Stands key table cells reaches)
    (place h offset : ℕ) (e : Endpoints) (is_home : h ≡ home key (length reaches) e) (h_within : h < length reaches)
    (place_within : place < length table) (cell_within : h + offset < length cells) where
  abbrev with_ends : List (Option Endpoints)
  with_ends = set table place (Some e)

  abbrev with_place : List ℕ
  with_place = set cells (h + offset) (place + 1)

  abbrev with_reach : List ℕ
  with_reach = set reaches h (max (get_or reaches h 0) (offset + 1))

  more_used : get_or cells (h + offset) 0 ≡ 0 → ends_at table place ≡ None → count_by is_used with_place ≡ count_by is_some with_ends
  more_used empty free =
      let a = sum_by-set (λ x. cond (is_used x) 1 0) cells (h + offset) (place + 1) 0 cell_within in
      let b = sum_by-set (λ (x : Option Endpoints). cond (is_some x) 1 0) table place (Some e) None place_within in
      let u = stands.used in
      let x : cond {A = ℕ} (is_used (get_or cells (h + offset) 0)) 1 0 ≡ 0 = ap (λ n. cond {A = ℕ} (is_used n) 1 0) empty in
      let y : cond {A = ℕ} (is_some (ends_at table place)) 1 0 ≡ 0 = ap (λ n. cond {A = ℕ} (is_some n) 1 0) free in
      let z : cond {A = ℕ} (is_used (place + 1)) 1 0 ≡ 1 = grind (arith, nat_tests) in
      omega (arith, a, b, u, x, y, z)

  reach_is : (k : ℕ) → get_or reaches k 0 ≤ get_or with_reach k 0
  reach_is k = by (k == h) refl where
    by : (b : Bool) → (k == h) ≡ b → get_or reaches k 0 ≤ get_or with_reach k 0
    by true t =
        let n : k ≡ h = grind (arith, nat_tests, t) in
        let s = get_or-set_same reaches h (max (get_or reaches h 0) (offset + 1)) 0 h_within in
        let a = ap (λ (i : ℕ). get_or with_reach i 0) n in
        let c = ap (λ (i : ℕ). get_or reaches i 0) n in
        omega (arith, s, a, c)
    by false t =
        let n : k ≢ h = grind (arith, nat_tests, t) in
        let s = get_or-set_other reaches h k (max (get_or reaches h 0) (offset + 1)) 0 n in
        omega (arith, s)

  still_within : (k : ℕ) → k < length with_reach → k + get_or with_reach k 0 ≤ length with_place
  still_within k l = by (k == h) refl where
    len : length with_place ≡ length cells
    len = length-set cells (h + offset) (place + 1)

    less : k < length reaches
    less = let r = length-set reaches h (max (get_or reaches h 0) (offset + 1)) in omega (arith, l, r)

    by : (b : Bool) → (k == h) ≡ b → k + get_or with_reach k 0 ≤ length with_place
    by true t =
        let n : k ≡ h = grind (arith, nat_tests, t) in
        let s = get_or-set_same reaches h (max (get_or reaches h 0) (offset + 1)) 0 h_within in
        let a = ap (λ (i : ℕ). get_or with_reach i 0) n in
        let w = stands.within h h_within in
        omega (arith, s, a, n, w, len, cell_within)
    by false t =
        let n : k ≢ h = grind (arith, nat_tests, t) in
        let s = get_or-set_other reaches h k (max (get_or reaches h 0) (offset + 1)) 0 n in
        let w = stands.within k less in
        omega (arith, s, w, len)

  still_places : (c : ℕ) → get_or with_place c 0 ≤ length with_ends
  still_places c = by (c == h + offset) refl where
    len : length with_ends ≡ length table
    len = length-set table place (Some e)

    by : (b : Bool) → (c == h + offset) ≡ b → get_or with_place c 0 ≤ length with_ends
    by true t =
        let n : c ≡ h + offset = grind (arith, nat_tests, t) in
        let s = get_or-set_same cells (h + offset) (place + 1) 0 cell_within in
        let a = ap (λ (i : ℕ). get_or with_place i 0) n in
        omega (arith, s, a, len, place_within)
    by false t =
        let n : c ≢ h + offset = grind (arith, nat_tests, t) in
        let s = get_or-set_other cells (h + offset) c (place + 1) 0 n in
        let w = stands.places c in
        omega (arith, s, w, len)

  found_here : IsFound place h with_place with_reach
  found_here = record {
    offset = offset;
    near = let s = get_or-set_same reaches h (max (get_or reaches h 0) (offset + 1)) 0 h_within in omega (arith, s);
    cell = get_or-set_same cells (h + offset) (place + 1) 0 cell_within;
  }

  found_still : (p k : ℕ) → get_or cells (h + offset) 0 ≡ 0 → IsFound p k cells reaches → IsFound p k with_place with_reach
  found_still p k empty f = record {
    offset = f.offset;
    near = let n = f.near in let r = reach_is k in omega (arith, n, r);
    cell =
        let c = f.cell in
        let other : k + f.offset ≢ h + offset =
        (λ i. let j = ap (λ (x : ℕ). get_or cells x 0) i in absurd (omega (arith, c, j, empty))) in
        get_or-set_other cells (h + offset) (k + f.offset) (place + 1) 0 other ∙ c;
  }

  still_found : get_or cells (h + offset) 0 ≡ 0 → (x : Endpoints) (p : ℕ) → ends_at with_ends p ≡ Some x →
      IsFound p (home key (length with_reach) x) with_place with_reach
  still_found empty x p has = by (p == place) refl where
    len : length with_reach ≡ length reaches
    len = length-set reaches h (max (get_or reaches h 0) (offset + 1))

    Goal : ℕ → Type 0
    Goal k = IsFound p k with_place with_reach

    by : (b : Bool) → (p == place) ≡ b → Goal (home key (length with_reach) x)
    by true t =
        let n : p ≡ place = grind (arith, nat_tests, t) in
        let s = get_or-set_same table place (Some e) None place_within in
        let a = ap (λ (i : ℕ). ends_at with_ends i) n in
        let same : e ≡ x = grind (arith, s, a, has) in
        let k : h ≡ home key (length with_reach) x = is_home ∙ ap (λ (y : Endpoints). home key (length reaches) y) same ∙ ap (λ (y : ℕ). home key y x) (sym len) in
        subst Goal k (subst (λ (y : ℕ). IsFound y h with_place with_reach) (sym n) found_here)
    by false t =
        let n : p ≢ place = grind (arith, nat_tests, t) in
        let s = get_or-set_other table place p (Some e) None n in
        let f = stands.found x p (sym s ∙ has) in
        subst Goal (ap (λ (y : ℕ). home key y x) (sym len)) (found_still p (home key (length reaches) x) empty f)

  still_distinct : IsNowhere e table → AreDistinct with_ends
  still_distinct nowhere x p q a b = by (p == place) (q == place) refl refl where
    at_place : (i : ℕ) → i ≡ place → ends_at with_ends i ≡ Some e
    at_place i n = ap (λ (k : ℕ). ends_at with_ends k) n ∙ get_or-set_same table place (Some e) None place_within

    elsewhere : (i : ℕ) → i ≢ place → ends_at with_ends i ≡ ends_at table i
    elsewhere i n = get_or-set_other table place i (Some e) None n

    by : (s t : Bool) → (p == place) ≡ s → (q == place) ≡ t → p ≡ q
    by true true s t = grind (arith, nat_tests, s, t)
    by true false s t =
        let m : p ≡ place = grind (arith, nat_tests, s) in
        let n : q ≢ place = grind (arith, nat_tests, t) in
        absurd (nowhere q (sym (elsewhere q n) ∙ b ∙ sym a ∙ at_place p m))
    by false true s t =
        let m : p ≢ place = grind (arith, nat_tests, s) in
        let n : q ≡ place = grind (arith, nat_tests, t) in
        absurd (nowhere p (sym (elsewhere p m) ∙ a ∙ sym b ∙ at_place q n))
    by false false s t =
        let m : p ≢ place = grind (arith, nat_tests, s) in
        let n : q ≢ place = grind (arith, nat_tests, t) in
        stands.distinct x p q (sym (elsewhere p m) ∙ a) (sym (elsewhere q n) ∙ b)

  pub inserted : get_or cells (h + offset) 0 ≡ 0 → ends_at table place ≡ None → IsNowhere e table →
      Stands key with_ends with_place with_reach
  inserted empty free nowhere = record {
    homes = let l = length-set reaches h (max (get_or reaches h 0) (offset + 1)) in let s = stands.homes in omega (arith, l, s);
    cells_len =
        let l = length-set reaches h (max (get_or reaches h 0) (offset + 1)) in
        let m = length-set cells (h + offset) (place + 1) in
        let n = length-set table place (Some e) in
        let s = stands.cells_len in
        omega (arith, l, m, n, s);
    few = let n = length-set table place (Some e) in let s = stands.few in omega (arith, n, s);
    few_homes = let l = length-set reaches h (max (get_or reaches h 0) (offset + 1)) in let s = stands.few_homes in omega (arith, l, s);
    used = more_used empty free;
    within = still_within;
    places = still_places;
    found = still_found empty;
    distinct = still_distinct nowhere;
  }

-- The cell of a place becomes empty, and the reach of its home as short as the cells allow
module _ (key : SipKey) (table : List (Option Endpoints)) (cells reaches : List ℕ) (stands : Stands key table cells reaches)
    (place h offset left : ℕ) (e : Endpoints) (h_within : h < length reaches)
    (place_within : place < length table) (cell_within : h + offset < length cells) where
  abbrev without_ends : List (Option Endpoints)
  without_ends = set table place None

  abbrev without_place : List ℕ
  without_place = set cells (h + offset) 0

  abbrev left_reach : List ℕ
  left_reach = set reaches h left

  less_used : get_or cells (h + offset) 0 ≡ place + 1 → ends_at table place ≡ Some e → count_by is_used without_place ≡ count_by is_some without_ends
  less_used cell has =
      let a = sum_by-set (λ x. cond (is_used x) 1 0) cells (h + offset) 0 0 cell_within in
      let b = sum_by-set (λ (x : Option Endpoints). cond (is_some x) 1 0) table place None None place_within in
      let u = stands.used in
      let x : cond {A = ℕ} (is_used (get_or cells (h + offset) 0)) 1 0 ≡ cond {A = ℕ} (is_used (place + 1)) 1 0 = ap (λ n. cond {A = ℕ} (is_used n) 1 0) cell in
      let y : cond {A = ℕ} (is_some (ends_at table place)) 1 0 ≡ 1 = ap (λ n. cond {A = ℕ} (is_some n) 1 0) has in
      let z : cond {A = ℕ} (is_used (place + 1)) 1 0 ≡ 1 = grind (arith, nat_tests) in
      omega (arith, a, b, u, x, y, z)

  within_left : left ≤ get_or reaches h 0 → (k : ℕ) → k < length left_reach → k + get_or left_reach k 0 ≤ length without_place
  within_left less k l = by (k == h) refl where
    len : length without_place ≡ length cells
    len = length-set cells (h + offset) 0

    lower : k < length reaches
    lower = let r = length-set reaches h left in omega (arith, l, r)

    by : (b : Bool) → (k == h) ≡ b → k + get_or left_reach k 0 ≤ length without_place
    by true t =
        let n : k ≡ h = grind (arith, nat_tests, t) in
        let s = get_or-set_same reaches h left 0 h_within in
        let a = ap (λ (i : ℕ). get_or left_reach i 0) n in
        let w = stands.within h h_within in
        omega (arith, s, a, n, w, len, less)
    by false t =
        let n : k ≢ h = grind (arith, nat_tests, t) in
        let s = get_or-set_other reaches h k left 0 n in
        let w = stands.within k lower in
        omega (arith, s, w, len)

  places_left : (c : ℕ) → get_or without_place c 0 ≤ length without_ends
  places_left c = by (c == h + offset) refl where
    len : length without_ends ≡ length table
    len = length-set table place None

    by : (b : Bool) → (c == h + offset) ≡ b → get_or without_place c 0 ≤ length without_ends
    by true t =
        let n : c ≡ h + offset = grind (arith, nat_tests, t) in
        let s = get_or-set_same cells (h + offset) 0 0 cell_within in
        let a = ap (λ (i : ℕ). get_or without_place i 0) n in
        omega (arith, s, a, len)
    by false t =
        let n : c ≢ h + offset = grind (arith, nat_tests, t) in
        let s = get_or-set_other cells (h + offset) c 0 0 n in
        let w = stands.places c in
        omega (arith, s, w, len)

  elsewhere : (x : Endpoints) (p : ℕ) → ends_at without_ends p ≡ Some x → (p ≢ place) × (ends_at table p ≡ Some x)
  elsewhere x p has = by (p == place) refl where
    by : (b : Bool) → (p == place) ≡ b → (p ≢ place) × (ends_at table p ≡ Some x)
    by true t =
        let n : p ≡ place = grind (arith, nat_tests, t) in
        let s = ap (λ (i : ℕ). ends_at without_ends i) n ∙ get_or-set_same table place None None place_within in
        absurd (none_is_not x (ends_at without_ends p) s has)
    by false t =
        let n : p ≢ place = grind (arith, nat_tests, t) in
        (n, sym (get_or-set_other table place p None None n) ∙ has)

  still_near : ((k : ℕ) → left ≤ k → k < get_or reaches h 0 → get_or without_place (h + k) 0 ≡ 0) →
      (p k at : ℕ) → at < get_or reaches k 0 → get_or without_place (k + at) 0 ≡ p + 1 → at < get_or left_reach k 0
  still_near empty p k at near cell = by (k == h) (nat_lt at left) refl refl where
    by : (s t : Bool) → (k == h) ≡ s → nat_lt at left ≡ t → at < get_or left_reach k 0
    by true true s t =
        let n : k ≡ h = grind (arith, nat_tests, s) in
        let l : at < left = grind (arith, nat_tests, t) in
        let r = get_or-set_same reaches h left 0 h_within in
        let a = ap (λ (i : ℕ). get_or left_reach i 0) n in
        omega (arith, l, r, a)
    by true false s t =
        let n : k ≡ h = grind (arith, nat_tests, s) in
        let l : left ≤ at = grind (arith, nat_tests, t) in
        let a = ap (λ (i : ℕ). get_or reaches i 0) n in
        let b = ap (λ (i : ℕ). get_or without_place (i + at) 0) n in
        let z = empty at l (omega (arith, near, a)) in
        absurd (omega (arith, z, b, cell))
    by false true s t =
        let n : k ≢ h = grind (arith, nat_tests, s) in
        let r = get_or-set_other reaches h k left 0 n in
        omega (arith, r, near)
    by false false s t =
        let n : k ≢ h = grind (arith, nat_tests, s) in
        let r = get_or-set_other reaches h k left 0 n in
        omega (arith, r, near)

  found_left : get_or cells (h + offset) 0 ≡ place + 1 → ((k : ℕ) → left ≤ k → k < get_or reaches h 0 → get_or without_place (h + k) 0 ≡ 0) →
      (x : Endpoints) (p : ℕ) → ends_at without_ends p ≡ Some x → IsFound p (home key (length left_reach) x) without_place left_reach
  found_left cell empty x p has = subst Goal (ap (λ (y : ℕ). home key y x) (sym len)) (record {
    offset = f.offset;
    near = still_near empty p (home key (length reaches) x) f.offset f.near at_cell;
    cell = at_cell;
  }) where
    len : length left_reach ≡ length reaches
    len = length-set reaches h left

    Goal : ℕ → Type 0
    Goal k = IsFound p k without_place left_reach

    f : IsFound p (home key (length reaches) x) cells reaches
    f = stands.found x p (elsewhere x p has).1

    at_cell : get_or without_place (home key (length reaches) x + f.offset) 0 ≡ p + 1
    at_cell =
        let c = f.cell in
        let not_place = (elsewhere x p has).0 in
        let other : home key (length reaches) x + f.offset ≢ h + offset =
        (λ i. let j = ap (λ (y : ℕ). get_or cells y 0) i in absurd (not_place (omega (arith, c, j, cell)))) in
        get_or-set_other cells (h + offset) (home key (length reaches) x + f.offset) 0 0 other ∙ c

  pub removed : get_or cells (h + offset) 0 ≡ place + 1 → ends_at table place ≡ Some e → left ≤ get_or reaches h 0 →
      ((k : ℕ) → left ≤ k → k < get_or reaches h 0 → get_or without_place (h + k) 0 ≡ 0) → Stands key without_ends without_place left_reach
  removed cell has less empty = record {
    homes = let l = length-set reaches h left in let s = stands.homes in omega (arith, l, s);
    cells_len =
        let l = length-set reaches h left in
        let m = length-set cells (h + offset) 0 in
        let n = length-set table place None in
        let s = stands.cells_len in
        omega (arith, l, m, n, s);
    few = let n = length-set table place None in let s = stands.few in omega (arith, n, s);
    few_homes = let l = length-set reaches h left in let s = stands.few_homes in omega (arith, l, s);
    used = less_used cell has;
    within = within_left less;
    places = places_left;
    found = found_left cell empty;
    distinct = λ x p q a b. stands.distinct x p q (elsewhere x p a).1 (elsewhere x q b).1;
  }
