-- Whether something is held beyond a gap.
use Rattle.std.proofs.Common.{◌≡◌, ◌+◌, ◌-◌, ◌≤◌, ◌<◌, ℕ, zero, suc, Bool, true, false, List, [], ◌∷◌, length, take, drop, refl, sym, ap, ◌∙◌, arith}
use Rattle.std.proofs.Common.{Option, Some, None}
use Rattle.std.specs.Prelude.{nat_le, nat_lt, max, ◌&&◌, ◌||◌, if◌then◌else◌}
use Rattle.std.proofs.lemmas.Bool.Decides.{nat_tests}
use Rattle.net_base.specs.declared.assembler.Range.{Range}
use Rattle.net_base.specs.Ranges.{covered, front, IsUnion}
use Rattle.tcp_machine.specs.Details.Ring.{cells_from, cells_of, RingsStand}
use Rattle.tcp_machine.specs.Receiving.{in_order}
use Rattle.tcp_machine.specs.Arrivals.{is_any_held, has_gap}
use Rattle.tcp_connection.specs.Details.Arrived.{syn, has_arrived, IsArrived, IsFurthest, receiver_of}
use Rattle.tcp_connection.proofs.ArrivedLemmas.{next_of, window_len, syn_alone}

pub syn_furthest : IsFurthest 1 syn
syn_furthest = record { begun = omega arith; reached = refl; last = λ p l. syn_alone p l }

-- the last position that arrived is within the room
pub furthest_within : (base room furthest : ℕ) (rs : List Range) → IsArrived base room rs → IsFurthest furthest rs → furthest ≤ base + room
furthest_within base room furthest rs h f = by (nat_lt (furthest - 1) (base + room)) refl where
  by : (b : Bool) → nat_lt (furthest - 1) (base + room) ≡ b → furthest ≤ base + room
  by true t = let lt : furthest - 1 < base + room = grind (arith, nat_tests, t) in omega (arith, lt)
  by false t =
      let beyond : base + room ≤ furthest - 1 = grind (arith, nat_tests, t) in
      let no = h.within (furthest - 1) beyond in
      let yes = f.reached in
      absurd cc

-- and each that arrived is before the one after it
pub arrived_before : (furthest base k : ℕ) (rs : List Range) → IsFurthest furthest rs → has_arrived base rs k ≡ true → base + k < furthest
arrived_before furthest base k rs f came = by (nat_lt (base + k) furthest) refl where
  by : (b : Bool) → nat_lt (base + k) furthest ≡ b → base + k < furthest
  by true t = grind (arith, nat_tests, t)
  by false t =
      let past : furthest ≤ base + k = grind (arith, nat_tests, t) in
      let no = f.last (base + k) past in
      absurd cc

or_true : (b : Bool) → b || true ≡ true
or_true true = refl
or_true false = refl

and_false : (b : Bool) → b && false ≡ false
and_false true = refl
and_false false = refl

-- what arrived reaches as far as before, or as the octets that arrived now
pub furthest_after : (f first len : ℕ) (rs rs' : List Range) → IsFurthest f rs → 0 < len → IsUnion rs rs' first (first + len) →
    IsFurthest (max f (first + len)) rs'
furthest_after f first len rs rs' h some u = record {
  begun = let b = h.begun in omega (arith, b);
  reached = by (nat_le (first + len) f) refl;
  last = λ p l.
      (let e : nat_lt p (first + len) ≡ false = grind (arith, nat_tests, l) in
      let k = h.last p (omega (arith, l)) in
      u.covers p ∙ ap (λ t. (nat_le first p && t) || covered rs p) e ∙ ap (λ t. t || covered rs p) (and_false (nat_le first p)) ∙ k);
} where
  by : (b : Bool) → nat_le (first + len) f ≡ b → covered rs' (max f (first + len) - 1) ≡ true
  by true e =
      let l : first + len ≤ f = grind (arith, nat_tests, e) in
      let m : max f (first + len) - 1 ≡ f - 1 = omega (arith, l) in
      ap (covered rs') m ∙ u.covers (f - 1)
      ∙ ap (λ t. (nat_le first (f - 1) && nat_lt (f - 1) (first + len)) || t) h.reached
      ∙ or_true (nat_le first (f - 1) && nat_lt (f - 1) (first + len))
  by false e =
      let l : f < first + len = grind (arith, nat_tests, e) in
      let m : max f (first + len) - 1 ≡ first + len - 1 = omega (arith, l) in
      let a : nat_le first (first + len - 1) ≡ true = grind (arith, nat_tests, some) in
      let b : nat_lt (first + len - 1) (first + len) ≡ true = grind (arith, nat_tests, some) in
      ap (covered rs') m ∙ u.covers (first + len - 1)
      ∙ ap (λ t. (t && nat_lt (first + len - 1) (first + len)) || covered rs (first + len - 1)) a
      ∙ ap (λ t. t || covered rs (first + len - 1)) b

-- cells from an offset on
drop_cells : (h : ℕ → Bool) (i n : ℕ) (xs : List ℕ) → drop n (cells_from h i xs) ≡ cells_from h (i + n) (drop n xs)
drop_cells h i zero xs = ap (λ (k : ℕ). cells_from h k xs) (omega arith)
drop_cells h i (suc n) [] = refl
drop_cells h i (suc n) (x ∷ xs) =
    let e : i + 1 + n ≡ i + suc n = omega arith in
    drop_cells h (i + 1) n xs ∙ ap (λ (k : ℕ). cells_from h k (drop n xs)) e

none_held : (h : ℕ → Bool) (i : ℕ) (xs : List ℕ) → ((k : ℕ) → i ≤ k → h k ≡ false) → is_any_held (cells_from h i xs) ≡ false
none_held h i [] e = refl
none_held h i (x ∷ xs) e =
    ap (λ (b : Bool). is_any_held ((if b then Some x else None) ∷ cells_from h (i + 1) xs)) (e i (omega arith))
    ∙ none_held h (i + 1) xs (λ k l. e k (omega (arith, l)))

some_held : (h : ℕ → Bool) (i k : ℕ) (xs : List ℕ) → k < length xs → h (i + k) ≡ true → is_any_held (cells_from h i xs) ≡ true
some_held h i k [] l e = absurd (omega (arith, l))
some_held h i zero (x ∷ xs) l e =
    let n : i + 0 ≡ i = omega arith in
    ap (λ (b : Bool). is_any_held ((if b then Some x else None) ∷ cells_from h (i + 1) xs)) (ap h (sym n) ∙ e)
some_held h i (suc k) (x ∷ xs) l e =
    let n : i + 1 + k ≡ i + suc k = omega arith in
    by (h i) refl (some_held h (i + 1) k xs (omega (arith, l)) (ap h n ∙ e)) where
      by : (b : Bool) → h i ≡ b → is_any_held (cells_from h (i + 1) xs) ≡ true → is_any_held (cells_from h i (x ∷ xs)) ≡ true
      by true t rest = ap (λ (b : Bool). is_any_held ((if b then Some x else None) ∷ cells_from h (i + 1) xs)) t
      by false t rest = ap (λ (b : Bool). is_any_held ((if b then Some x else None) ∷ cells_from h (i + 1) xs)) t ∙ rest

-- something beyond the octets in order is held exactly if what arrived reaches further than these
pub gap_is : RingsStand → (base : ℕ) (items : List ℕ) (start room : ℕ) (rs : List Range) (stop : Option ℕ) (furthest : ℕ) →
    IsArrived base room rs → start ≤ room → length items ≡ room + room → IsFurthest furthest rs →
    has_gap (receiver_of base items start room rs stop) ≡ nat_lt (front rs) furthest
gap_is law base items start room rs stop furthest h low all f = from_cells ∙ by (nat_lt (front rs) furthest) refl where
  xs : List ℕ
  xs = take room (drop start items)

  n : ℕ
  n = length (in_order (cells_of (has_arrived base rs) xs))

  is_front : base + n ≡ front rs
  is_front = next_of law base items start room rs stop h low all

  len : length xs ≡ room
  len = window_len room start items low all

  from_cells : has_gap (receiver_of base items start room rs stop) ≡ is_any_held (cells_from (has_arrived base rs) (0 + n) (drop n xs))
  from_cells = ap is_any_held (drop_cells (has_arrived base rs) 0 n xs)

  by : (b : Bool) → nat_lt (front rs) furthest ≡ b → is_any_held (cells_from (has_arrived base rs) (0 + n) (drop n xs)) ≡ nat_lt (front rs) furthest
  by true e = held ∙ sym e where
    within_room : furthest - 1 < base + room
    within_room = let w = furthest_within base room furthest rs h f in let b = f.begun in omega (arith, w, b)

    held : is_any_held (cells_from (has_arrived base rs) (0 + n) (drop n xs)) ≡ true
    held =
        let l : front rs < furthest = grind (arith, nat_tests, e) in
        let left : length (drop n xs) ≡ length xs - n = Rattle.std.proofs.lemmas.List.length-drop n xs in
        let at : base + (0 + n + (furthest - 1 - front rs)) ≡ furthest - 1 = omega (arith, is_front, l) in
        some_held (has_arrived base rs) (0 + n) (furthest - 1 - front rs) (drop n xs) (omega (arith, left, len, within_room, is_front, l))
        (ap (covered rs) at ∙ f.reached)
  by false e =
      let l : furthest ≤ front rs = grind (arith, nat_tests, e) in
      none_held (has_arrived base rs) (0 + n) (drop n xs) (λ k m. f.last (base + k) (omega (arith, m, l, is_front))) ∙ sym e
