-- Octets that are kept beyond what is in order.
use Rattle.std.proofs.Common.{◌≡◌, ◌+◌, ◌-◌, ◌≤◌, ◌<◌, ℕ, zero, suc, Bool, true, false, List, [], ◌∷◌, ◌++◌, length, take, drop}
use Rattle.std.proofs.Common.{min, get_or, refl, sym, ap, ◌∙◌, arith}
use Rattle.std.proofs.Common.{Option, Some, None, slice_get, inl, inr, Result, Ok, Err}
use Rattle.std.specs.Prelude.{nat_le, nat_lt, ◌&&◌, ◌||◌, ◌==◌, ◌⊎◌, is_some, is_err, OnOk}
use Rattle.std.proofs.lemmas.Bool.Decides.{nat_tests}
use Rattle.std.proofs.lemmas.List.{length-take-le, length-drop, length-append, get_or-take, get_or-drop, get_or-append_right}
use Rattle.std.proofs.lemmas.List.{get_or_append_left, take_min, drop_min}
use Rattle.net_base.specs.declared.assembler.Range.{Range}
use Rattle.net_base.specs.Ranges.{AreSeparate, covered, front, IsUnion, add_range}
use Rattle.net_base.specs.Details.RangesLaws.{FifthTouchesNone}
use Rattle.tcp_machine.specs.Details.Ring.{octet_in, IsWritten, RingsStand}
use Rattle.tcp_machine.specs.Receiving.{Receiver, filled}
use Rattle.tcp_connection.specs.Details.Arrived.{has_arrived, IsArrived, receiver_of}
use Rattle.tcp_connection.proofs.ArrivedLemmas.{window_len, before_front, at_front}
use Rattle.tcp_connection.proofs.BufferLemmas.{in_window}

-- an octet that is written at a place
octet_before : (place : ℕ) (bytes : List ℕ) (k : ℕ) → k < place → octet_in place bytes k ≡ None
octet_before zero bytes k l = absurd (omega (arith, l))
octet_before (suc place) bytes zero l = refl
octet_before (suc place) bytes (suc k) l = octet_before place bytes k (omega (arith, l))

octet_from : (place : ℕ) (bytes : List ℕ) (k : ℕ) → place ≤ k → octet_in place bytes k ≡ slice_get bytes (k - place)
octet_from zero bytes k l = let e : k ≡ k - 0 = omega arith in ap (slice_get bytes) e
octet_from (suc place) bytes zero l = absurd (omega (arith, l))
octet_from (suc place) bytes (suc k) l =
    let e : k - place ≡ suc k - suc place = omega arith in
    octet_from place bytes k (omega (arith, l)) ∙ ap (slice_get bytes) e

nothing : (j : ℕ) → is_some (slice_get {X = ℕ} [] j) ≡ false
nothing zero = refl
nothing (suc j) = refl

there : (bytes : List ℕ) (j : ℕ) → is_some (slice_get bytes j) ≡ nat_lt j (length bytes)
there [] j = (let e : nat_lt j 0 ≡ false = grind (arith, nat_tests) in nothing j ∙ sym e)
there (x ∷ bytes) zero = (let e : nat_lt 0 (length (x ∷ bytes)) ≡ true = grind (arith, nat_tests) in sym e)
there (x ∷ bytes) (suc j) =
    let e : nat_lt j (length bytes) ≡ nat_lt (suc j) (length (x ∷ bytes)) = grind (arith, nat_tests) in there bytes j ∙ e

value : (bytes : List ℕ) (j x : ℕ) → slice_get bytes j ≡ Some x → get_or bytes j 0 ≡ x
value [] zero x e = absurd cc
value [] (suc j) x e = absurd cc
value (y ∷ bytes) zero x e = cc
value (y ∷ bytes) (suc j) x e = value bytes j x e

-- which offsets are written
pub octet_some : (place : ℕ) (bytes : List ℕ) (k : ℕ) → is_some (octet_in place bytes k) ≡ (nat_le place k && nat_lt k (place + length bytes))
octet_some place bytes k = by (nat_le place k) refl where
  by : (b : Bool) → nat_le place k ≡ b → is_some (octet_in place bytes k) ≡ (b && nat_lt k (place + length bytes))
  by true e =
      let low : place ≤ k = grind (arith, nat_tests, e) in
      let t : nat_lt (k - place) (length bytes) ≡ nat_lt k (place + length bytes) = grind (arith, nat_tests, low) in
      ap is_some (octet_from place bytes k low) ∙ there bytes (k - place) ∙ t
  by false e = let high : k < place = grind (arith, nat_tests, e) in ap is_some (octet_before place bytes k high)

-- the octets of a buffer after some were written from a place on
abbrev after_write : ℕ → List ℕ → List ℕ → List ℕ
after_write at bytes items = take at items ++ (bytes ++ drop (at + length bytes) items)

written_before : (at : ℕ) (bytes items : List ℕ) (k : ℕ) → at ≤ length items → k < at →
    get_or (after_write at bytes items) k 0 ≡ get_or items k 0
written_before at bytes items k fits l =
    let len = length-take-le at items fits in
    get_or_append_left (take at items) (bytes ++ drop (at + length bytes) items) 0 k (omega (arith, len, l)) ∙ get_or-take at items k 0 l

written_in : (at : ℕ) (bytes items : List ℕ) (k : ℕ) → at ≤ length items → at ≤ k → k < at + length bytes →
    get_or (after_write at bytes items) k 0 ≡ get_or bytes (k - at) 0
written_in at bytes items k fits low high =
    let len = length-take-le at items fits in
    get_or-append_right (take at items) (bytes ++ drop (at + length bytes) items) at k 0 len low
    ∙ get_or_append_left bytes (drop (at + length bytes) items) 0 (k - at) (omega (arith, low, high))

written_after : (at : ℕ) (bytes items : List ℕ) (k : ℕ) → at ≤ length items → at + length bytes ≤ k →
    get_or (after_write at bytes items) k 0 ≡ get_or items k 0
written_after at bytes items k fits low =
    let len = length-take-le at items fits in
    let e : at + length bytes + (k - at - length bytes) ≡ k = omega (arith, low) in
    get_or-append_right (take at items) (bytes ++ drop (at + length bytes) items) at k 0 len (omega (arith, low))
    ∙ get_or-append_right bytes (drop (at + length bytes) items) (length bytes) (k - at) 0 refl (omega (arith, low))
    ∙ get_or-drop (at + length bytes) items (k - at - length bytes) 0 ∙ ap (λ (n : ℕ). get_or items n 0) e

pub length-after_write : (at : ℕ) (bytes items : List ℕ) → at + length bytes ≤ length items → length (after_write at bytes items) ≡ length items
length-after_write at bytes items fits =
    let a = length-take-le at items (omega (arith, fits)) in
    let b = length-drop (at + length bytes) items in
    let c = length-append (take at items) (bytes ++ drop (at + length bytes) items) in
    let d = length-append bytes (drop (at + length bytes) items) in
    omega (arith, a, b, c, d, fits)

-- what the buffer stands for after octets were written that have room
in_part : (place : ℕ) (bytes : List ℕ) (k : ℕ) → is_some (octet_in place bytes k) ≡ true → (place ≤ k) × (k < place + length bytes)
in_part place bytes k e =
    let t : (nat_le place k && nat_lt k (place + length bytes)) ≡ true = sym (octet_some place bytes k) ∙ e in
    (grind (arith, nat_tests, t), grind (arith, nat_tests, t))

not_in_part : (place : ℕ) (bytes : List ℕ) (k : ℕ) → is_some (octet_in place bytes k) ≡ false → (k < place) ⊎ (place + length bytes ≤ k)
not_in_part place bytes k e = by (nat_le place k) refl (sym (octet_some place bytes k) ∙ e) where
  by : (b : Bool) → nat_le place k ≡ b → (b && nat_lt k (place + length bytes)) ≡ false → (k < place) ⊎ (place + length bytes ≤ k)
  by true a t = inr (grind (arith, nat_tests, t))
  by false a t = inl (grind (arith, nat_tests, a))

pub written_is : (room start place : ℕ) (bytes items : List ℕ) → start ≤ room → length items ≡ room + room → place + length bytes ≤ room →
    IsWritten place bytes (take room (drop start items)) (take room (drop start (after_write (start + place) bytes items)))
written_is room start place bytes items low all fits = record {
  same = window_len room start (after_write (start + place) bytes items) low (all') ∙ sym (window_len room start items low all);
  kept = λ k l none. kept_at k (omega (arith, l, old)) (not_in_part place bytes k (ap is_some none));
  written = λ k x l some. written_at k x (omega (arith, l, old)) some (in_part place bytes k (ap is_some some));
} where
  old : length (take room (drop start items)) ≡ room
  old = window_len room start items low all

  inside : start + place + length bytes ≤ length items
  inside = omega (arith, low, all, fits)

  all' : length (after_write (start + place) bytes items) ≡ room + room
  all' = length-after_write (start + place) bytes items inside ∙ all

  kept_at : (k : ℕ) → k < room → (k < place) ⊎ (place + length bytes ≤ k) →
      get_or (take room (drop start (after_write (start + place) bytes items))) k 0 ≡ get_or (take room (drop start items)) k 0
  kept_at k l (inl a) =
      in_window room start k (after_write (start + place) bytes items) l
      ∙ written_before (start + place) bytes items (start + k) (omega (arith, inside)) (omega (arith, a))
      ∙ sym (in_window room start k items l)
  kept_at k l (inr a) =
      in_window room start k (after_write (start + place) bytes items) l
      ∙ written_after (start + place) bytes items (start + k) (omega (arith, inside)) (omega (arith, a))
      ∙ sym (in_window room start k items l)

  written_at : (k x : ℕ) → k < room → octet_in place bytes k ≡ Some x → (place ≤ k) × (k < place + length bytes) →
      get_or (take room (drop start (after_write (start + place) bytes items))) k 0 ≡ x
  written_at k x l some h =
      let e : start + k - (start + place) ≡ k - place = omega arith in
      let a = h.0 in
      let b = h.1 in
      in_window room start k (after_write (start + place) bytes items) l
      ∙ written_in (start + place) bytes items (start + k) (omega (arith, inside)) (omega (arith, a)) (omega (arith, b))
      ∙ ap (λ (n : ℕ). get_or bytes n 0) e
      ∙ value bytes (k - place) x (sym (octet_from place bytes k a) ∙ some)

pub kept_is : RingsStand → (base room start first : ℕ) (items bytes : List ℕ) (rs rs' : List Range) (stop : Option ℕ) → start ≤ room →
    length items ≡ room + room → base ≤ first → first + length bytes ≤ base + room → IsUnion rs rs' first (first + length bytes) →
    receiver_of base (after_write (start + (first - base)) bytes items) start room rs' stop
    ≡ record (receiver_of base items start room rs stop) {
      cells = filled (first - base) bytes (receiver_of base items start room rs stop).cells;
    }
kept_is law base room start first items bytes rs rs' stop low all from fits u =
    ap (λ (cs : List (Option ℕ)). record { base = base; cells = cs; stop = stop })
    (law.filling (has_arrived base rs) (has_arrived base rs') (first - base) bytes (take room (drop start items))
    (take room (drop start (after_write (start + (first - base)) bytes items)))
    (λ k l.
    let a : nat_le first (base + k) ≡ nat_le (first - base) k = grind (arith, nat_tests, from) in
    let b : nat_lt (base + k) (first + length bytes) ≡ nat_lt k (first - base + length bytes) = grind (arith, nat_tests, from) in
    u.covers (base + k)
    ∙ ap (λ t. (t && nat_lt (base + k) (first + length bytes)) || covered rs (base + k)) a
    ∙ ap (λ t. (nat_le (first - base) k && t) || covered rs (base + k)) b
    ∙ ap (λ t. t || covered rs (base + k)) (sym (octet_some (first - base) bytes k)))
    (written_is room start (first - base) bytes items low all (omega (arith, from, fits))))

-- the front is at least where all before it has arrived
front_least : (rs : List Range) (n : ℕ) → AreSeparate 0 rs → ((p : ℕ) → p < n → covered rs p ≡ true) → n ≤ front rs
front_least rs n s e = by (nat_le n (front rs)) refl where
  by : (b : Bool) → nat_le n (front rs) ≡ b → n ≤ front rs
  by true t = grind (arith, nat_tests, t)
  by false t =
      let less : front rs < n = grind (arith, nat_tests, t) in
      let yes = e (front rs) less in
      let no = at_front rs s in
      absurd cc

or_true : (b : Bool) → b || true ≡ true
or_true true = refl
or_true false = refl

and_false : (b : Bool) → b && false ≡ false
and_false true = refl
and_false false = refl

pub arrived_after : (base room first end : ℕ) (rs rs' : List Range) → IsArrived base room rs → end ≤ base + room → IsUnion rs rs' first end →
    IsArrived base room rs'
arrived_after base room first end rs rs' h fits u = record {
  separate = u.separate;
  begun = h.begun;
  in_first = front_least rs' base u.separate (λ p l.
      let low = h.in_first in
      u.covers p ∙ ap (λ t. (nat_le first p && nat_lt p end) || t) (before_front rs p (omega (arith, l, low))) ∙ or_true (nat_le first p && nat_lt p end));
  within = λ p l.
      (let e : nat_lt p end ≡ false = grind (arith, nat_tests, l, fits) in
      u.covers p ∙ ap (λ t. (nat_le first p && t) || covered rs p) e ∙ ap (λ t. t || covered rs p) (and_false (nat_le first p)) ∙ h.within p l);
}

-- what an assembler refuses begins beyond what is in order
pub refused_beyond : FifthTouchesNone → (rs : List Range) (start end : ℕ) → AreSeparate 0 rs → 1 ≤ front rs → length rs ≤ 4 → start < end →
    4 < length (add_range start end rs) → front rs < start
refused_beyond law [] start end s f few order many = absurd (omega (arith, f))
refused_beyond law (r ∷ rs) start end s f few order many =
    by (r.start == 0) refl f ((law start end (r ∷ rs) s few order).0 many).1.0 where
      by : (b : Bool) → (r.start == 0) ≡ b → 1 ≤ Rattle.std.specs.Prelude.cond b r.end 0 → (r.end < start) ⊎ (end < r.start) →
          Rattle.std.specs.Prelude.cond b r.end 0 < start
      by true e g (inl a) = a
      by true e g (inr a) = let z : r.start ≡ 0 = grind (arith, nat_tests, e) in absurd (omega (arith, z, a))
      by false e g t = absurd (omega (arith, g))

-- a result that is no error
pub on_ok : {T E : Type 0} {P : Type 0} (r : Result T E) → is_err r ≡ false → OnOk r P → P
on_ok (Ok t) e p = p
on_ok (Err x) e p = absurd cc

-- octets that are kept from a position on
abbrev pub kept_from : Receiver → ℕ → List ℕ → Receiver
kept_from r first octets = record { base = r.base; cells = filled (first - r.base) octets r.cells; stop = r.stop }

-- octets without a place change nothing
pub filled_cut : (place n : ℕ) (octets : List ℕ) (cells : List (Option ℕ)) → length cells ≤ place + n →
    filled place (take n octets) cells ≡ filled place octets cells
filled_cut zero n octets [] l = refl
filled_cut (suc place) n octets [] l = refl
filled_cut (suc place) n octets (c ∷ cells) l = ap (λ (cs : List (Option ℕ)). c ∷ cs) (filled_cut place n octets cells (omega (arith, l)))
filled_cut zero zero octets (c ∷ cells) l = absurd (omega (arith, l))
filled_cut zero (suc n) [] (c ∷ cells) l = refl
filled_cut zero (suc n) (x ∷ octets) (c ∷ cells) l = ap (λ (cs : List (Option ℕ)). Some x ∷ cs) (filled_cut zero n octets cells (omega (arith, l)))

filled_none : (place : ℕ) (cells : List (Option ℕ)) → filled place [] cells ≡ cells
filled_none zero [] = refl
filled_none (suc place) [] = refl
filled_none zero (c ∷ cells) = refl
filled_none (suc place) (c ∷ cells) = ap (λ (cs : List (Option ℕ)). c ∷ cs) (filled_none place cells)

-- a part of what arrived, cut to the room
pub cut_is : (place room skip : ℕ) (octets : List ℕ) (cells : List (Option ℕ)) → length cells ≤ place + room →
    filled place (take (min room (length octets - min skip (length octets))) (drop (min skip (length octets)) octets)) cells
    ≡ filled place (drop skip octets) cells
cut_is place room skip octets cells l =
    let left : length (drop (min skip (length octets)) octets) ≡ length octets - min skip (length octets) = length-drop (min skip (length octets)) octets in
    ap (λ (n : ℕ). filled place (take (min room n) (drop (min skip (length octets)) octets)) cells) (sym left)
    ∙ ap (λ (xs : List ℕ). filled place xs cells) (take_min room (drop (min skip (length octets)) octets))
    ∙ filled_cut place room (drop (min skip (length octets)) octets) cells l
    ∙ ap (λ (xs : List ℕ). filled place xs cells) (drop_min skip octets)

pub none_is : (place room skip : ℕ) (octets : List ℕ) (cells : List (Option ℕ)) → length cells ≤ place + room →
    min room (length octets - min skip (length octets)) ≡ 0 → cells ≡ filled place (drop skip octets) cells
none_is place room skip octets cells l e =
    sym (filled_none place cells)
    ∙ ap (λ (n : ℕ). filled place (take n (drop (min skip (length octets)) octets)) cells) (sym e)
    ∙ cut_is place room skip octets cells l
