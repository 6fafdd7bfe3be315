-- What the receiving side does keeps what stands.
use Rattle.std.proofs.Common.{◌≡◌, ◌<◌, ◌≤◌, ◌+◌, ◌-◌, ℕ, zero, suc, Bool, true, false, List, [], ◌∷◌, ◌++◌, length, take, drop}
use Rattle.std.proofs.Common.{refl, sym, ap, ◌∙◌, subst, arith, Option, Some, None, slice_get, inl, inr}
use Rattle.std.specs.Prelude.{nat_le, ◌&&◌, ◌==◌, ◌⊎◌, replicate, if◌then◌else◌}
use Rattle.std.proofs.lemmas.Bool.Decides.{nat_tests}
use Rattle.std.proofs.lemmas.Option.{none-some, slice_get_within}
use Rattle.std.proofs.lemmas.List.{length-append, length-drop, length-take-le, take-append-drop, take_at, append_assoc, length-replicate}
use Rattle.std.proofs.lemmas.List.Elements.{All-weaker, All-push}
use Rattle.tcp_machine.specs.Positions.{IsNear}
use Rattle.tcp_machine.specs.Pieces.{IsBeginning, octet_at, Piece, after_octets, after_piece, piece_on_wire}
use Rattle.tcp_machine.specs.Sending.{Sender}
use Rattle.tcp_machine.specs.Receiving.{Receiver, in_order, next, edge, expected, is_at, stop_from, first_new, with_piece, after_piece_at}
use Rattle.tcp_machine.specs.Receiving.{after_segment, after_read}
use Rattle.tcp_machine.proofs.PositionsLemmas.{position_right}
use Rattle.tcp_laws.specs.Run.{Direction, ack_now}
use Rattle.tcp_laws.proofs.Lists.{get_drop, octet_is, get_within, beginning_get, from_get, same_some, in_order_get, in_order_short}
use Rattle.tcp_laws.proofs.Lists.{in_order_none, in_order_drop, get_append_none, length-filled, in_order_filled, IsFrom, filled_get}
use Rattle.tcp_laws.proofs.Stands.{PieceStands, ReceiverStands, AckStands, StartsWithin, Stands}

-- the end counts for one position
one_more : (b : Bool) (n t : ℕ) → (b ≡ true → n < t) → n ≤ t → n + (if b then 1 else 0) ≤ t
one_more true n t h k = let l = h refl in omega (arith, l)
one_more false n t h k = omega arith

pub at_most_one : (b : Bool) (n : ℕ) → n + (if b then 1 else 0) ≤ n + 1
at_most_one true n = omega arith
at_most_one false n = omega arith

not_less : (b : Bool) (n : ℕ) → n ≤ n + (if b then 1 else 0)
not_less true n = omega arith
not_less false n = omega arith

less_or_equal : (n m : ℕ) → n ≤ m → (n < m) ⊎ (n ≡ m)
less_or_equal n m h = by (n == m) refl where
  by : (b : Bool) → (n == m) ≡ b → (n < m) ⊎ (n ≡ m)
  by true e = inr (grind (arith, nat_tests))
  by false e = inl (grind (arith, nat_tests))

pub false_true : {P : Type 0} → false ≡ true → P
false_true e = cc

pub more : (b c : Bool) (n m : ℕ) → n ≤ m → (n ≡ m → b ≡ true → c ≡ true) → n + (if b then 1 else 0) ≤ m + (if c then 1 else 0)
more true true n m h k = omega arith
more true false n m h k = by (less_or_equal n m h) where
  by : (n < m) ⊎ (n ≡ m) → n + 1 ≤ m + 0
  by (inl l) = omega arith
  by (inr e) = false_true (k e refl)
more false true n m h k = omega arith
more false false n m h k = omega arith

pub is_at_some : (o : Option ℕ) (p : ℕ) → is_at o p ≡ true → o ≡ Some p
is_at_some None p h = false_true h
is_at_some (Some q) p h = let e : q ≡ p = grind (arith, nat_tests) in ap (λ (n : ℕ). Some n) e

is_at_same : (p : ℕ) → (p == p) ≡ true
is_at_same p = grind (arith, nat_tests)

is_at_of : (o : Option ℕ) (p : ℕ) → o ≡ Some p → is_at o p ≡ true
is_at_of o p e = ap (λ o. is_at o p) e ∙ is_at_same p

pub next_expected : (r : Receiver) → next r ≤ expected r
next_expected r = not_less (is_at r.stop (next r)) (next r)

-- what B expects was sent
pub next_top : (size : ℕ) (s : Sender) (r : Receiver) (w rd : List ℕ) → ReceiverStands size s r w rd → next r ≤ s.top
next_top size s r w rd h = by (length (in_order r.cells)) refl where
  by : (n : ℕ) → length (in_order r.cells) ≡ n → next r ≤ s.top
  by zero e = omega (arith, e, h.base_top)
  by (suc n) e =
      let g = get_within (in_order r.cells) n (omega (arith, e)) in
      let c = h.held n g.0 (in_order_get r.cells n g.0 g.1) in
      omega (arith, e, c)

pub expected_top : (size : ℕ) (s : Sender) (r : Receiver) (w rd : List ℕ) → ReceiverStands size s r w rd → expected r ≤ s.top
expected_top size s r w rd h =
    one_more (is_at r.stop (next r)) (next r) s.top (λ t. (h.stop (next r) (is_at_some r.stop (next r) t)).1) (next_top size s r w rd h)

-- a piece is taken
octets_within : (p : Piece) → after_octets p ≤ after_piece p
octets_within p = not_less p.ends (after_octets p)

piece_closed : (p : Piece) → p.ends ≡ true → after_piece p ≡ after_octets p + 1
piece_closed p e = ap (λ b. after_octets p + (if b then 1 else 0)) e

pub first_of_two : (a b : Bool) → a && b ≡ true → a ≡ true
first_of_two true b h = refl
first_of_two false b h = h

stop_cases : (o : Option ℕ) (b : Bool) (p e : ℕ) → stop_from o b p ≡ Some e → (o ≡ Some e) ⊎ ((b ≡ true) × (p ≡ e))
stop_cases (Some q) b p e h = inl h
stop_cases None true p e h = inr (refl, same_some p e h)
stop_cases None false p e h = absurd (none-some e h)

module _ (size : ℕ) (s : Sender) (r : Receiver) (w rd : List ℕ) (p : Piece) (k : PieceStands s w p) (h : ReceiverStands size s r w rd) where
  -- a cell has the octet of its position
  taken_cell : (i x : ℕ) → IsFrom (first_new p r - r.base) (drop (first_new p r - p.start) p.octets) r.cells i x →
      (octet_at w (r.base + i) ≡ Some x) × (r.base + i < s.top)
  taken_cell i x (inl g) = (h.cells i x g, h.held i x g)
  taken_cell i x (inr g) =
      let at = sym (get_drop (first_new p r - p.start) p.octets g.0) ∙ g.2 in
      let place = g.1 in
      let same : p.start + (first_new p r - p.start + g.0) ≡ r.base + i = omega (arith, place) in
      let low = slice_get_within p.octets (first_new p r - p.start + g.0) x at in
      let sent = k.sent in (
        subst (λ q. octet_at w q ≡ Some x) same (k.octets (first_new p r - p.start + g.0) x at),
        omega (arith, same, low, sent, octets_within p),
      )

  taken_stop : (e : ℕ) →
      ((r.stop ≡ Some e) ⊎ ((p.ends && nat_le (after_octets p) (edge r) ≡ true) × (after_octets p ≡ e))) → (s.stop ≡ Some e) × (e < s.top)
  taken_stop e (inl g) = h.stop e g
  taken_stop e (inr g) =
      let ends = first_of_two p.ends (nat_le (after_octets p) (edge r)) g.0 in
      let same = g.1 in
      let sent = k.sent in (
        k.last ends ∙ ap (λ (n : ℕ). Some n) same,
        omega (arith, same, piece_closed p ends, sent),
      )

  pub takes : ReceiverStands size s (with_piece p r) w rd
  takes = record {
    places = length-filled (first_new p r - r.base) (drop (first_new p r - p.start) p.octets) r.cells ∙ h.places;
    cells = λ i x g. (taken_cell i x (filled_get (first_new p r - r.base) (drop (first_new p r - p.start) p.octets) r.cells i x g)).0;
    held = λ i x g. (taken_cell i x (filled_get (first_new p r - r.base) (drop (first_new p r - p.start) p.octets) r.cells i x g)).1;
    base = h.base;
    read = h.read;
    within = h.within;
    base_top = h.base_top;
    stop = λ e g. taken_stop e (stop_cases r.stop (p.ends && nat_le (after_octets p) (edge r)) (after_octets p) e g);
  }

-- and B expects no less than before
pub expected_kept : (r : Receiver) (p : Piece) → expected r ≤ expected (with_piece p r)
expected_kept r p =
    let longer = in_order_filled (first_new p r - r.base) (drop (first_new p r - p.start) p.octets) r.cells in
    let far : next r ≤ next (with_piece p r) = omega (arith, longer) in
    more (is_at r.stop (next r)) (is_at (with_piece p r).stop (next (with_piece p r))) (next r) (next (with_piece p r)) far (λ same t.
    is_at_of (with_piece p r).stop (next (with_piece p r))
    (ap (λ o. stop_from o (p.ends && nat_le (after_octets p) (edge r)) (after_octets p)) (is_at_some r.stop (next r) t ∙ ap (λ (n : ℕ). Some n) same)))

-- a receiver is another one that expects no less, with no less room
pub with_receiver : (size : ℕ) (d : Direction) (w rd rd' : List ℕ) (r : Receiver) → ReceiverStands size d.sender r w rd' →
    expected d.receiver ≤ expected r → d.receiver.base ≤ r.base → Stands size d w rd → Stands size (record d { receiver = r }) w rd'
with_receiver size d w rd rd' r g far low h = record {
  sender = h.sender;
  receiver = g;
  window = record {
    top_edge = h.window.top_edge;
    edge = h.window.edge;
    room = omega (arith, h.window.room, low);
    starts = h.window.starts;
  };
  pieces = h.pieces;
  acks = All-weaker (AckStands size d.receiver) (AckStands size r) (λ a k. record {
    position = omega (arith, k.position, far);
    edge = omega (arith, k.edge, low);
    window = k.window;
  }) d.acks h.acks;
  acknowledged = omega (arith, h.acknowledged, far);
}

chosen : (size : ℕ) (d : Direction) (w rd : List ℕ) (r : Receiver) (b : Bool) →
    Stands size (record d { receiver = r }) w rd → Stands size d w rd → Stands size (record d { receiver = if b then r else d.receiver }) w rd
chosen size d w rd r true g h = g
chosen size d w rd r false g h = h

pub arrives : (initial size : ℕ) (d : Direction) (w rd : List ℕ) (p : Piece) → size ≤ 1073741824 →
    PieceStands d.sender w p → StartsWithin d.sender p → next d.receiver ≤ p.start + 2147483648 → Stands size d w rd →
    Stands size (record d { receiver = after_segment initial (piece_on_wire initial p) d.receiver }) w rd
arrives initial size d w rd p small k front fresh h =
    let window = h.window.room in
    let near : IsNear (next d.receiver) p.start = record {
      not_old = fresh;
      not_new = omega (arith, small, front, window);
    } in
    let read = position_right initial (next d.receiver) p.start near in
    subst (λ o. Stands size (record d { receiver = after_piece_at o (piece_on_wire initial p) d.receiver }) w rd) (sym read)
    (chosen size d w rd (with_piece p d.receiver) _
    (with_receiver size d w rd rd (with_piece p d.receiver) (takes size d.sender d.receiver w rd p k h.receiver) (expected_kept d.receiver p)
    (omega arith) h) h)

-- octets are read
pub append_taken : (a : ℕ) (w xs : List ℕ) → a ≤ length w → IsBeginning xs (drop a w) →
    (take a w ++ xs ≡ take (a + length xs) w) × (a + length xs ≤ length w)
append_taken a w xs low m =
    let split = sym (take-append-drop a w) ∙ ap (λ ys. take a w ++ ys) (sym m.1) ∙ sym (append_assoc (take a w) xs m.0) in
    let n = length-append (take a w) xs ∙ ap (λ k. k + length xs) (length-take-le a w low) in (
      sym (ap (take (a + length xs)) split ∙ take_at (take a w ++ xs) m.0 (a + length xs) n),
      omega (arith, ap length split, length-append (take a w ++ xs) m.0, n),
    )

module _ (size : ℕ) (s : Sender) (r : Receiver) (w rd xs : List ℕ) (b : IsBeginning xs (in_order r.cells)) (h : ReceiverStands size s r w rd) where
  read_short : length xs ≤ length (in_order r.cells)
  read_short = omega (arith, ap length b.1, length-append xs b.0)

  -- they are the stream's
  pub read_octets : IsBeginning xs (drop (r.base - 1) w)
  read_octets = from_get xs (drop (r.base - 1) w) (λ i x g.
      let c = h.cells i x (in_order_get r.cells i x (beginning_get xs (in_order r.cells) b i x g)) in
      let e : r.base + i ≡ suc (r.base - 1 + i) = omega (arith, h.base) in
      get_drop (r.base - 1) w i ∙ sym (octet_is w (r.base + i) (r.base - 1 + i) e) ∙ c)

  read_taken : (take (r.base - 1) w ++ xs ≡ take (r.base - 1 + length xs) w) × (r.base - 1 + length xs ≤ length w)
  read_taken = append_taken (r.base - 1) w xs (omega (arith, h.base, h.within)) read_octets

  left_cell : (i x : ℕ) → slice_get (drop (length xs) r.cells ++ replicate (length xs) None) i ≡ Some (Some x) →
      slice_get r.cells (length xs + i) ≡ Some (Some x)
  left_cell i x g = sym (get_drop (length xs) r.cells i) ∙ get_append_none (drop (length xs) r.cells) (length xs) i x g

  left_places : length (drop (length xs) r.cells ++ replicate (length xs) None) ≡ length r.cells
  left_places =
      length-append (drop (length xs) r.cells) (replicate (length xs) None)
      ∙ omega (arith, length-drop (length xs) r.cells, length-replicate {A = Option ℕ} (length xs) None, read_short, in_order_short r.cells)

  left_next : next (after_read (length xs) r) ≡ next r
  left_next =
      let e = ap length (in_order_none (drop (length xs) r.cells) (length xs) ∙ in_order_drop (length xs) r.cells read_short)
      ∙ length-drop (length xs) (in_order r.cells) in
      omega (arith, e, read_short)

  pub left : ReceiverStands size s (after_read (length xs) r) w (rd ++ xs)
  left = record {
    places = left_places ∙ h.places;
    cells = λ i x g. let e : r.base + (length xs + i) ≡ r.base + length xs + i = omega arith in
        subst (λ q. octet_at w q ≡ Some x) e (h.cells (length xs + i) x (left_cell i x g));
    held = λ i x g. let c = h.held (length xs + i) x (left_cell i x g) in omega (arith, c);
    base = omega (arith, h.base);
    read = ap (λ ys. ys ++ xs) h.read ∙ read_taken.0
        ∙ ap (λ n. take n w) (let e : r.base - 1 + length xs ≡ r.base + length xs - 1 = omega (arith, h.base) in e);
    within = let t = read_taken.1 in omega (arith, t, h.base);
    base_top = omega (arith, next_top size s r w rd h, read_short);
    stop = h.stop;
  }

-- what is expected stays
pub expected_read : (size : ℕ) (s : Sender) (r : Receiver) (w rd xs : List ℕ) → IsBeginning xs (in_order r.cells) → ReceiverStands size s r w rd →
    expected r ≤ expected (after_read (length xs) r)
expected_read size s r w rd xs b h =
    let same = left_next size s r w rd xs b h in
    let r' = after_read (length xs) r in
    more (is_at r.stop (next r)) (is_at r.stop (next r')) (next r) (next r') (omega (arith, same)) (λ e t. ap (is_at r.stop) (sym e) ∙ t)

pub reads : (size : ℕ) (d : Direction) (w rd xs : List ℕ) → IsBeginning xs (in_order d.receiver.cells) → Stands size d w rd →
    Stands size (record d { receiver = after_read (length xs) d.receiver }) w (rd ++ xs)
reads size d w rd xs b h =
    with_receiver size d w rd (rd ++ xs) (after_read (length xs) d.receiver) (left size d.sender d.receiver w rd xs b h.receiver)
    (expected_read size d.sender d.receiver w rd xs b h.receiver) (omega arith) h

-- an acknowledgement is sent
pub tells : (size : ℕ) (d : Direction) (w rd : List ℕ) (window : ℕ) → next d.receiver + window ≤ edge d.receiver → Stands size d w rd →
    Stands size (record d { acks = d.acks ++ ack_now window d.receiver ∷ [] }) w rd
tells size d w rd window room h =
    let places = h.receiver.places in record {
      sender = h.sender;
      receiver = h.receiver;
      window = h.window;
      pieces = h.pieces;
      acks = All-push (AckStands size d.receiver) d.acks (ack_now window d.receiver) h.acks (record {
        position = omega arith;
        edge = omega (arith, room, places, at_most_one (is_at d.receiver.stop (next d.receiver)) (next d.receiver));
        window = omega (arith, room, places);
      });
      acknowledged = h.acknowledged;
    }
