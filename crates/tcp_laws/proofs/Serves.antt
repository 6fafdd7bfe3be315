-- What a connection does for its program and its peer.
use Rattle.std.proofs.Common.{◌≡◌, ◌<◌, ◌≤◌, ◌+◌, ◌-◌, ℕ, zero, Bool, true, false, List, [], ◌∷◌, ◌++◌, length, drop}
use Rattle.std.proofs.Common.{refl, sym, ap, ◌∙◌, subst, arith, Option, Some, None, inl, inr}
use Rattle.std.specs.Prelude.{nat_le, nat_lt, ◌==◌, ◌&&◌, ◌||◌, ◌⊎◌, not, is_some, min, max, if◌then◌else◌}
use Rattle.std.specs.Option.{option_map, option_and_then}
use Rattle.std.proofs.lemmas.Bool.Decides.{nat_tests}
use Rattle.std.proofs.lemmas.List.{length-append}
use Rattle.tcp_machine.specs.declared.state.State.{State}
use Rattle.tcp_machine.specs.declared.state.State.TheVariants.{Closed, Listen, SynSent, SynReceived, Established, FinWait1}
use Rattle.tcp_machine.specs.declared.state.State.TheVariants.{FinWait2, CloseWait, Closing, LastAck, TimeWait}
use Rattle.tcp_machine.specs.declared.settings.Settings.{Settings}
use Rattle.tcp_machine.specs.declared.timers.Owed.{Owed}
use Rattle.tcp_machine.specs.declared.timers.Owed.TheVariants.{Nothing, By, AtOnce}
use Rattle.tcp_machine.specs.declared.timers.Pending.{Pending}
use Rattle.tcp_machine.specs.declared.timers.Pending.TheVariants.{Empty, Challenge, Resend, Probe, KeepAlive, Reset, SynAgain}
use Rattle.tcp_machine.specs.Instants.{later}
use Rattle.tcp_machine.specs.Positions.{number_at}
use Rattle.tcp_machine.specs.Pieces.{IsBeginning, Piece, after_piece}
use Rattle.tcp_machine.specs.Sending.{Sender, after_position}
use Rattle.tcp_machine.specs.Receiving.{Receiver, in_order, next, edge, expected, is_at, filled, first_new, with_piece, is_in_window, is_acceptable}
use Rattle.tcp_machine.specs.States.{is_synchronized, is_opening, sends_octets, takes_octets, after_peers_end, after_end_acknowledged}
use Rattle.tcp_machine.specs.Connection.{Connection, Reception, Transmission}
use Rattle.tcp_machine.specs.Segments.{Segment, window_in, acceptable_piece, acknowledged_in}
use Rattle.tcp_machine.specs.Windows.{tells_window, with_window, after_window, is_update_due}
use Rattle.tcp_machine.specs.Congestion as congestion
use Rattle.tcp_machine.specs.Acknowledgements.{is_believed, is_end_acknowledged, is_duplicate, flight, with_waiting}
use Rattle.tcp_machine.specs.Acknowledgements.{after_progress, after_duplicate, after_acked, after_told, after_blocks, after_end, after_acknowledgement, shows_next_loss, with_pending}
use Rattle.tcp_machine.specs.Acknowledgements.{rank}
use Rattle.tcp_machine.specs.Arrivals.{is_time_wait, is_syn_received, is_closed, with_owed, ended, with_time_wait, after_entering, after_syn_once_more}
use Rattle.tcp_machine.specs.Arrivals.{established, sooner, is_owed_at_once}
use Rattle.tcp_machine.specs.Arrivals.{reception_after, has_text, after_octets_of, has_ended, after_fin, after_text, after_last}
use Rattle.tcp_machine.specs.Arrivals.{after_reset, after_position_acknowledged, after_ack_field, heard, after_piece_of, after_segment_arrives, after_unbelieved}
use Rattle.tcp_machine.specs.Outgoing.{Action, SendAck, SendNext, SendAgain, SendProbe, SendKeepAlive, next_piece, first_piece, again_piece, action_in_opening}
use Rattle.tcp_machine.specs.Outgoing.{has_octets, is_worth_sending, is_owed, ack_if, tells_something, action_pending, is_reset, action}
use Rattle.tcp_machine.specs.Timers.{keep_alive_at, gives_up_at}
use Rattle.tcp_machine.specs.Due.{least, owed_at, timer_at, lacks_timer, due_at}
use Rattle.tcp_laws.specs.Service.{MayGet, MayWait, StandsNext, Acknowledges, TellsArrived, IsServed, OctetsAreServed, HasLeft}
use Rattle.tcp_laws.specs.Service.{AcknowledgedOctetsLeave, IsNotBelieved, NothingAboveIsBelieved}
use Rattle.tcp_laws.proofs.ReceivingSteps.{false_true}
use Rattle.tcp_laws.proofs.MachineArrivals.{either}

-- numbers and tests
pub lt_is : (a b : ℕ) → a < b → nat_lt a b ≡ true
lt_is a b h = grind (arith, nat_tests)

pub le_is : (a b : ℕ) → a ≤ b → nat_le a b ≡ true
le_is a b h = grind (arith, nat_tests)

pub eq_is : (a : ℕ) → (a == a) ≡ true
eq_is a = grind (arith, nat_tests)

pub both_are : (a b : Bool) → a ≡ true → b ≡ true → a && b ≡ true
both_are true b e f = f
both_are false b e f = false_true e

pub left_is : (a b : Bool) → a ≡ true → a || b ≡ true
left_is true b e = refl
left_is false b e = false_true e

-- the one of two that a test that is known chooses
pub chosen : {X : Type 0} (b : Bool) (x y : X) → b ≡ true → (if b then x else y) ≡ x
chosen true x y e = refl
chosen false x y e = false_true e

other : {X : Type 0} (b : Bool) (x y : X) → b ≡ false → (if b then x else y) ≡ y
other true x y e = false_true (sym e)
other false x y e = refl

-- a segment at the next position is acceptable
abbrev pub piece_of : Connection → Segment → Piece
piece_of c s = record { start = next c.reception.receiver; octets = s.octets; ends = s.fin }

expected_open : (r : Receiver) → r.stop ≡ None → expected r ≡ next r
expected_open r e = ap (λ o. next r + (if is_at o (next r) then 1 else 0)) e ∙ (omega arith)

some_octets : (n l : ℕ) (ends : Bool) → (ends ≡ true → 0 < l) → n < n + l + (if ends then 1 else 0) → 0 < l
some_octets n l true k h = k refl
some_octets n l false k h = omega (arith, h)

module _ (r : Receiver) (octets : List ℕ) (ends : Bool) (unended : r.stop ≡ None) (room : next r + length octets ≤ edge r)
    (last : ends ≡ true → 0 < length octets) where
  abbrev p : Piece
  p = record { start = next r; octets = octets; ends = ends }

  same : expected r ≡ next r
  same = expected_open r unended

  inside : 0 < length octets → is_in_window r p.start ≡ true
  inside h =
      both_are (nat_le (expected r) (next r)) (nat_lt (next r) (edge r)) (le_is (expected r) (next r) (omega (arith, same)))
      (lt_is (next r) (edge r) (omega (arith, room, h)))

  or_true : (a b : Bool) → b ≡ true → a || b ≡ true
  or_true true b e = refl
  or_true false b e = e

  pub acceptable_next : is_acceptable r p ≡ true
  acceptable_next = by (nat_lt p.start (after_piece p)) refl where
    by : (b : Bool) → nat_lt p.start (after_piece p) ≡ b →
        (if b then is_in_window r p.start || is_in_window r (after_piece p - 1)
        else is_in_window r p.start || p.start == edge r || p.start == expected r) ≡ true
    by true e =
        let l : p.start < after_piece p = grind (arith, nat_tests) in
        left_is (is_in_window r p.start) (is_in_window r (after_piece p - 1)) (inside (some_octets (next r) (length octets) ends last l))
    by false e =
        let is : (p.start == expected r) ≡ true = rw same (eq_is (next r)) in
        or_true (is_in_window r p.start || p.start == edge r) (p.start == expected r) is

-- so it is read, up to its acknowledgement
read_so : (c : Connection) (s : Segment) → StandsNext c s → acceptable_piece c s ≡ Some (piece_of c s)
read_so c s h =
    let r = c.reception.receiver in
    let f : Piece → Option Piece = λ q. if is_acceptable r q then Some q else None in
    let read : ℕ → Piece = λ q. record { start = q; octets = s.octets; ends = s.fin } in
    ap (λ o. option_and_then f (option_map read o)) h.position
    ∙ chosen (is_acceptable r (piece_of c s)) (Some (piece_of c s)) None (acceptable_next r s.octets s.fin h.before_end h.room h.end)

pub arrives_as : (now : ℕ) (s : Segment) (c : Connection) → StandsNext c s →
    after_segment_arrives now true s c ≡ after_ack_field now true s.ack s (piece_of c s) (heard now c)
arrives_as now s c h =
    ap (λ b. if b && not s.rst then after_syn_once_more s c else after_piece_of now true (acceptable_piece c s) s c) h.no_syn
    ∙ ap (λ o. after_piece_of now true o s c) (read_so c s h)
    ∙ ap (λ b. if b then after_reset (piece_of c s) c else after_ack_field now true s.ack s (piece_of c s) (heard now c)) h.no_reset

not_received : (s : State) → MayWait s → is_syn_received s ≡ false
not_received s (inl (inl e)) = rw e refl
not_received s (inl (inr (inl e))) = rw e refl
not_received s (inl (inr (inr e))) = rw e refl
not_received s (inr (inl e)) = rw e refl
not_received s (inr (inr (inl e))) = rw e refl
not_received s (inr (inr (inr e))) = rw e refl

-- in a state with the own SYN acknowledged
acknowledged_as : (now a : ℕ) (s : Segment) (p : Piece) (c : Connection) → MayWait c.state → Acknowledges c s a →
    after_ack_field now true s.ack s p (heard now c) ≡ after_position_acknowledged now true (Some a) s p (heard now c)
acknowledged_as now a s p c w h = by s.ack h where
  by : (o : Option ℕ) → option_and_then (λ (n : ℕ). acknowledged_in c n) o ≡ Some a →
      after_ack_field now true o s p (heard now c) ≡ after_position_acknowledged now true (Some a) s p (heard now c)
  by None e = cc
  by (Some n) e =
      ap (λ b. if not b then after_position_acknowledged now true (acknowledged_in c n) s p (heard now c)
      else if n == number_at c.local 1 then after_position_acknowledged now true (Some 1) s p (established (heard now c))
      else with_pending (Reset n) (heard now c)) (not_received c.state w)
      ∙ ap (λ o. after_position_acknowledged now true o s p (heard now c)) e

-- it is believed
pub is_believed_at : (a : ℕ) (t : Transmission) → t.sender.una ≤ a → a ≤ t.sender.top → is_believed a t ≡ true
is_believed_at a t low high =
    both_are (nat_le t.sender.una (a + t.largest_window)) (nat_le a t.sender.top)
    (le_is t.sender.una (a + t.largest_window) (omega (arith, low))) (le_is a t.sender.top high)

not_believed : (a : ℕ) (t : Transmission) → t.sender.top < a → is_believed a t ≡ false
not_believed a t h = by (nat_le t.sender.una (a + t.largest_window)) where
  l : nat_le a t.sender.top ≡ false
  l = grind (arith, nat_tests)

  by : (b : Bool) → b && nat_le a t.sender.top ≡ false
  by true = l
  by false = refl

pub nothing_above_is_believed : NothingAboveIsBelieved
nothing_above_is_believed now a s c w h k above =
    let is : Connection → Type 0 = λ d. IsNotBelieved c d in
    let p = piece_of c s in
    let e = heard now c in
    let same : after_segment_arrives now true s c ≡ after_unbelieved p e =
    arrives_as now s c h ∙ acknowledged_as now a s p c w k
    ∙ other (is_believed a e.transmission)
    (after_text now true p (after_last (after_entering now e.state (after_acknowledgement now a s p e)))) (after_unbelieved p e)
    (not_believed a c.transmission above) in
    let kept : is e = record { transmission = refl; reception = refl; state = refl } in
    subst is (sym same) (either is (has_text p) (with_pending Challenge e) e (λ _.
    either is (nat_lt (rank e.pending) (rank Challenge)) (record e { pending = Challenge }) e
    (λ _. record { transmission = refl; reception = refl; state = refl }) (λ _. kept)) (λ _. kept))

-- it is believed, and what follows
believed_as : (now a : ℕ) (s : Segment) (c : Connection) → MayWait c.state → StandsNext c s → Acknowledges c s a →
    c.transmission.sender.una ≤ a → a ≤ c.transmission.sender.top →
    after_segment_arrives now true s c
    ≡ after_text now true (piece_of c s)
    (after_last (after_entering now c.state (after_acknowledgement now a s (piece_of c s) (heard now c))))
believed_as now a s c w h k low high =
    let p = piece_of c s in
    let e = heard now c in
    arrives_as now s c h ∙ acknowledged_as now a s p c w k
    ∙ chosen (is_believed a e.transmission)
    (after_text now true p (after_last (after_entering now e.state (after_acknowledgement now a s p e)))) (after_unbelieved p e)
    (is_believed_at a c.transmission low high)

-- what is acknowledged leaves the ring
nothing_dropped : (u a : ℕ) (ring : List ℕ) → a ≡ u → ring ≡ drop (a - u) ring
nothing_dropped u a ring e = let z : a - u ≡ 0 = omega (arith, e) in rw z refl

equal : (u a : ℕ) → u ≤ a → nat_lt u a ≡ false → a ≡ u
equal u a h f = grind (arith, nat_tests)

module _ (now a : ℕ) (s : Segment) (p : Piece) (c : Connection) (low : c.transmission.sender.una ≤ a) (high : a ≤ c.transmission.sender.top) where
  abbrev Left : Connection → Type 0
  Left d = HasLeft a c d

  abbrev x : Sender
  x = c.transmission.sender

  moves : nat_le x.una a && nat_le a x.top ≡ true
  moves = both_are (nat_le x.una a) (nat_le a x.top) (le_is x.una a low) (le_is a x.top high)

  left_una : (window : ℕ) → (after_position a window x).una ≡ a
  left_una window =
      let y : Sender = record x { una = a; ring = drop (a - x.una) x.ring; edge = max x.edge (a + window) } in
      ap (λ (b : Bool). (if b then y else x).una) moves

  left_ring : (window : ℕ) → (after_position a window x).ring ≡ drop (a - x.una) x.ring
  left_ring window =
      let y : Sender = record x { una = a; ring = drop (a - x.una) x.ring; edge = max x.edge (a + window) } in
      ap (λ (b : Bool). (if b then y else x).ring) moves

  left_acked : Left (after_acked now a s p c)
  left_acked =
      let window = window_in c s in
      let t = c.transmission in
      either Left (nat_lt t.sender.una a) (after_progress now a window c) (after_duplicate a window p c)
      (λ _. record { una = left_una window; ring = left_ring window }) (λ e.
      either Left (not c.reception.sack_permitted && is_duplicate a window p t) (record c {
        congestion = congestion.after_duplicate t.mss a (flight t) t.sender.top c.congestion;
        pending = if congestion.is_third a c.congestion then Resend else c.pending;
      }) (record c { transmission = record t { sender = after_position a window t.sender } })
      (λ _. record {
        una = sym (equal x.una a low e);
        ring = nothing_dropped x.una a x.ring (equal x.una a low e);
      }) (λ _. record { una = left_una window; ring = left_ring window }))

  left_window : (d : Connection) (window : ℕ) → Left d → (b : Bool) →
      Left (record d { transmission = if b then with_window p.start a window d.transmission else d.transmission })
  left_window d window h true = record { una = h.una; ring = h.ring }
  left_window d window h false = record { una = h.una; ring = h.ring }

  left_told : (d : Connection) → Left d → Left (after_told a s p c d)
  left_told d h =
      either Left (nat_le c.transmission.sender.una a)
      (record d { transmission = after_window p.start a (window_in c s) d.transmission }) d
      (λ _. left_window d (window_in c s) h (tells_window p.start a d.transmission)) (λ _. h)

  left_end : (d : Connection) → Left d → Left (after_end d)
  left_end d h =
      either Left (is_end_acknowledged d.transmission.sender) (record d { state = after_end_acknowledged d.state }) d
      (λ _. record { una = h.una; ring = h.ring }) (λ _. h)

  left_entering : (before : State) (d : Connection) → Left d → Left (after_entering now before d)
  left_entering before d h =
      either Left (is_time_wait d.state && not (is_time_wait before)) (with_time_wait now d) d
      (λ _. record { una = h.una; ring = h.ring }) (λ _. h)

  left_last : (d : Connection) → Left d → Left (after_last d)
  left_last d h = either Left (is_closed d.state) (ended None d) d (λ _. record { una = h.una; ring = h.ring }) (λ _. h)

  left_octets : (d : Connection) → Left d → Left (after_octets_of now true p d)
  left_octets d h =
      either Left (not (takes_octets d.state && has_text p)) d
      (record d { reception = reception_after now d.settings p d.reception }) (λ _. h)
      (λ _. record { una = h.una; ring = h.ring })

  left_fin : (d : Connection) → Left d → Left (after_fin now d)
  left_fin d h =
      let e : Connection = record (with_owed AtOnce d) { state = after_peers_end d.state } in
      either Left (takes_octets d.state && has_ended d.reception.receiver) (after_entering now d.state e) d
      (λ _. left_entering d.state e (record { una = h.una; ring = h.ring })) (λ _. h)

  pub has_left : Left (after_text now true p (after_last (after_entering now c.state (after_acknowledgement now a s p c))))
  has_left =
      let d = after_acked now a s p c in
      let e = with_waiting now c.transmission (after_blocks s (after_told a s p c d)) in
      let f = after_end e in
      let g = after_entering now c.state f in
      let told = left_told d left_acked in
      left_fin (after_octets_of now true p (after_last g)) (left_octets (after_last g) (left_last g (left_entering c.state f
      (left_end e (record { una = told.una; ring = told.ring })))))

pub acknowledged_octets_leave : AcknowledgedOctetsLeave
acknowledged_octets_leave now a s c w h k low high =
    let d = has_left now a s (piece_of c s) (heard now c) low high in
    subst (λ (x : Connection). HasLeft a c x) (sym (believed_as now a s c w h k low high)) (record { una = d.una; ring = d.ring })

-- octets fill the first places that have none
fills_first : (xs : List ℕ) (cells : List (Option ℕ)) → length xs ≤ length cells → IsBeginning xs (in_order (filled zero xs cells))
fills_first [] cells h = (in_order (filled zero [] cells), refl)
fills_first (x ∷ xs) [] h = absurd (omega (arith, h))
fills_first (x ∷ xs) (cell ∷ cells) h =
    let r = fills_first xs cells (omega (arith, h)) in (r.0, ap (λ (ys : List ℕ). x ∷ ys) r.1)

fills : (xs : List ℕ) (cells : List (Option ℕ)) → length (in_order cells) + length xs ≤ length cells →
    IsBeginning (in_order cells ++ xs) (in_order (filled (length (in_order cells)) xs cells))
fills [] [] h = ([], refl)
fills (x ∷ xs) [] h = absurd (omega (arith, h))
fills [] (None ∷ cells) h = ([], refl)
fills (x ∷ xs) (None ∷ cells) h =
    let r = fills_first xs cells (omega (arith, h)) in (r.0, ap (λ (ys : List ℕ). x ∷ ys) r.1)
fills xs (Some y ∷ cells) h = let r = fills xs cells (omega (arith, h)) in (r.0, ap (λ (ys : List ℕ). y ∷ ys) r.1)

module _ (r : Receiver) (octets : List ℕ) (ends : Bool) (room : next r + length octets ≤ edge r) where
  abbrev new : Piece
  new = record { start = next r; octets = octets; ends = ends }

  abbrev places : ℕ
  places = length (in_order r.cells)

  pub fills_next : IsBeginning (in_order r.cells ++ octets) (in_order (with_piece new r).cells)
  fills_next =
      let place : first_new new r - r.base ≡ places = grind arith in
      let all : first_new new r - next r ≡ 0 = grind arith in
      subst (λ (n : ℕ). IsBeginning (in_order r.cells ++ octets) (in_order (filled n (drop (first_new new r - next r) octets) r.cells)))
      (sym place)
      (subst (λ (n : ℕ). IsBeginning (in_order r.cells ++ octets) (in_order (filled places (drop n octets) r.cells))) (sym all)
      (fills octets r.cells (omega (arith, room))))

  pub reaches : next r + length octets ≤ expected (with_piece new r)
  reaches =
      let b = fills_next in
      let l = sym (length-append (in_order r.cells ++ octets) b.0) ∙ ap length b.1 in
      let k = length-append (in_order r.cells) octets in omega (arith, l, k)

-- states
takes_after_end : (s : State) → takes_octets s ≡ true → takes_octets (after_end_acknowledged s) ≡ true
takes_after_end Closed e = false_true e
takes_after_end Listen e = false_true e
takes_after_end SynSent e = false_true e
takes_after_end SynReceived e = false_true e
takes_after_end Established e = refl
takes_after_end FinWait1 e = refl
takes_after_end FinWait2 e = refl
takes_after_end CloseWait e = false_true e
takes_after_end Closing e = false_true e
takes_after_end LastAck e = false_true e
takes_after_end TimeWait e = false_true e

takes_open : {P : Type 0} (s : State) → takes_octets s ≡ true → is_closed s ≡ true → P
takes_open Closed e f = false_true e
takes_open Listen e f = false_true f
takes_open SynSent e f = false_true f
takes_open SynReceived e f = false_true f
takes_open Established e f = false_true f
takes_open FinWait1 e f = false_true f
takes_open FinWait2 e f = false_true f
takes_open CloseWait e f = false_true f
takes_open Closing e f = false_true f
takes_open LastAck e f = false_true f
takes_open TimeWait e f = false_true f

takes_synchronized : (s : State) → takes_octets s ≡ true → is_synchronized s ≡ true
takes_synchronized Closed e = false_true e
takes_synchronized Listen e = false_true e
takes_synchronized SynSent e = false_true e
takes_synchronized SynReceived e = false_true e
takes_synchronized Established e = refl
takes_synchronized FinWait1 e = refl
takes_synchronized FinWait2 e = refl
takes_synchronized CloseWait e = refl
takes_synchronized Closing e = refl
takes_synchronized LastAck e = refl
takes_synchronized TimeWait e = refl

peers_end_synchronized : (s : State) → is_synchronized s ≡ true → is_synchronized (after_peers_end s) ≡ true
peers_end_synchronized Closed e = e
peers_end_synchronized Listen e = e
peers_end_synchronized SynSent e = e
peers_end_synchronized SynReceived e = e
peers_end_synchronized Established e = refl
peers_end_synchronized FinWait1 e = refl
peers_end_synchronized FinWait2 e = refl
peers_end_synchronized CloseWait e = e
peers_end_synchronized Closing e = e
peers_end_synchronized LastAck e = e
peers_end_synchronized TimeWait e = e

synchronized_up : (s : State) → is_synchronized s ≡ true → is_opening s ≡ false
synchronized_up Closed e = refl
synchronized_up Listen e = refl
synchronized_up SynSent e = false_true e
synchronized_up SynReceived e = false_true e
synchronized_up Established e = refl
synchronized_up FinWait1 e = refl
synchronized_up FinWait2 e = refl
synchronized_up CloseWait e = refl
synchronized_up Closing e = refl
synchronized_up LastAck e = refl
synchronized_up TimeWait e = refl

gets_takes : (s : State) → MayGet s → takes_octets s ≡ true
gets_takes s (inl e) = rw e refl
gets_takes s (inr (inl e)) = rw e refl
gets_takes s (inr (inr e)) = rw e refl

no_reset_owed : (p : Pending) → ((n : ℕ) → p ≡ Reset n → ⊥) → is_reset p ≡ false
no_reset_owed Empty h = refl
no_reset_owed Challenge h = refl
no_reset_owed SynAgain h = refl
no_reset_owed Resend h = refl
no_reset_owed Probe h = refl
no_reset_owed KeepAlive h = refl
no_reset_owed (Reset n) h = absurd (h n refl)

-- what the acknowledgement leaves as it was
record Ready (c d : Connection) : Type 0 where
  takes : takes_octets d.state ≡ true
  reception : d.reception ≡ c.reception
  settings : d.settings ≡ c.settings
  remote : d.remote ≡ c.remote
  pending : is_reset d.pending ≡ false

ready_as : (c d e : Connection) → Ready c d → takes_octets e.state ≡ true → e.reception ≡ d.reception → e.settings ≡ d.settings →
    e.remote ≡ d.remote → is_reset e.pending ≡ false → Ready c e
ready_as c d e h takes reception settings remote pending = record {
  takes = takes;
  reception = reception ∙ h.reception;
  settings = settings ∙ h.settings;
  remote = remote ∙ h.remote;
  pending = pending;
}

resends : (b : Bool) (p : Pending) → is_reset p ≡ false → is_reset (if b then Resend else p) ≡ false
resends true p h = refl
resends false p h = h

module _ (now a : ℕ) (s : Segment) (p : Piece) (c : Connection) where
  ready_acked : (d : Connection) → Ready c d → Ready c (after_acked now a s p d)
  ready_acked d h =
      let window = window_in d s in
      let t = d.transmission in
      let dup : Connection = record d {
        congestion = congestion.after_duplicate t.mss a (flight t) t.sender.top d.congestion;
        pending = if congestion.is_third a d.congestion then Resend else d.pending;
      } in
      let old : Connection = record d { transmission = record t { sender = after_position a window t.sender } } in
      either (Ready c) (nat_lt t.sender.una a) (after_progress now a window d) (after_duplicate a window p d) (λ _.
      ready_as c d (after_progress now a window d) h h.takes refl refl refl (resends (shows_next_loss a d) d.pending h.pending))
      (λ _. either (Ready c) (not d.reception.sack_permitted && is_duplicate a window p t) dup old
      (λ _. ready_as c d dup h h.takes refl refl refl (resends (congestion.is_third a d.congestion) d.pending h.pending))
      (λ _. ready_as c d old h h.takes refl refl refl h.pending))

  ready_told : (b d : Connection) → Ready c d → Ready c (after_told a s p b d)
  ready_told b d h =
      let e : Connection = record d { transmission = after_window p.start a (window_in b s) d.transmission } in
      either (Ready c) (nat_le b.transmission.sender.una a) e d (λ _. ready_as c d e h h.takes refl refl refl h.pending) (λ _. h)

  ready_end : (d : Connection) → Ready c d → Ready c (after_end d)
  ready_end d h =
      let e : Connection = record d { state = after_end_acknowledged d.state } in
      either (Ready c) (is_end_acknowledged d.transmission.sender) e d
      (λ _. ready_as c d e h (takes_after_end d.state h.takes) refl refl refl h.pending) (λ _. h)

  ready_entering : (before : State) (d : Connection) → Ready c d → Ready c (after_entering now before d)
  ready_entering before d h =
      either (Ready c) (is_time_wait d.state && not (is_time_wait before)) (with_time_wait now d) d
      (λ _. ready_as c d (with_time_wait now d) h h.takes refl refl refl h.pending) (λ _. h)

  ready_last : (d : Connection) → Ready c d → Ready c (after_last d)
  ready_last d h = either (Ready c) (is_closed d.state) (ended None d) d (λ e. takes_open d.state h.takes e) (λ _. h)

  ready : (d : Connection) → Ready c d → Ready c (after_last (after_entering now c.state (after_acknowledgement now a s p d)))
  ready d h =
      let e = after_acked now a s p d in
      let f = with_waiting now d.transmission (after_blocks s (after_told a s p d e)) in
      let g = after_end f in
      let told = ready_told d e (ready_acked d h) in
      ready_last (after_entering now c.state g)
      (ready_entering c.state g (ready_end f (ready_as c (after_told a s p d e) f told told.takes refl refl refl (resends _ (after_told a s p d e).pending told.pending))))

-- an acknowledgement is owed at an instant or before
abbrev Soon : ℕ → Owed → Type 0
Soon l o = (o ≡ AtOnce) ⊎ ((x : ℕ) × (o ≡ By x) × (x ≤ l))

soon_sooner : (o : Owed) (t l : ℕ) → t ≡ l → Soon l (sooner o t)
soon_sooner Nothing t l e = inr (t, refl, omega (arith, e))
soon_sooner (By y) t l e = inr (min y t, refl, grind (arith, e))
soon_sooner AtOnce t l e = inl refl

soon_if : (b : Bool) (l : ℕ) (o : Owed) → Soon l o → Soon l (if b then AtOnce else o)
soon_if true l o h = inl refl
soon_if false l o h = h

soon_is : (l t : ℕ) (o : Owed) → Soon l o → l ≤ t → is_owed o t ≡ true
soon_is l t o (inl e) h = rw e refl
soon_is l t o (inr k) h = rw k.1 (let m = k.2 in le_is k.0 t (omega (arith, m, h)))

-- what was taken
record Served (now : ℕ) (p : Piece) (c d : Connection) : Type 0 where
  receiver : d.reception.receiver ≡ with_piece p c.reception.receiver
  owed : Soon (later now c.settings.ack_delay) d.reception.owed
  synchronized : is_synchronized d.state ≡ true
  remote : d.remote ≡ c.remote
  pending : is_reset d.pending ≡ false

module _ (now : ℕ) (p : Piece) (c : Connection) where
  served_octets : (d : Connection) → Ready c d → has_text p ≡ true → Served now p c (after_octets_of now true p d)
  served_octets d h text =
      let r = d.reception in
      let after = with_piece p r.receiver in
      let e : Connection = record d { reception = reception_after now d.settings p r } in
      let at_once = is_owed_at_once d.settings.own_mss r.unacknowledged r.receiver after in
      let last = later now d.settings.ack_delay in
      let same : last ≡ later now c.settings.ack_delay = ap (λ (x : Settings). later now x.ack_delay) h.settings in
      either (Served now p c) (not (takes_octets d.state && has_text p)) d e
      (λ f. false_true (sym (ap not (both_are (takes_octets d.state) (has_text p) h.takes text)) ∙ f)) (λ _. record {
        receiver = ap (λ (x : Reception). with_piece p x.receiver) h.reception;
        owed = soon_if at_once (later now c.settings.ack_delay) (sooner r.owed last)
            (soon_sooner r.owed last (later now c.settings.ack_delay) same);
        synchronized = takes_synchronized d.state h.takes;
        remote = h.remote;
        pending = h.pending;
      })

  served_entering : (before : State) (d : Connection) → Served now p c d → Served now p c (after_entering now before d)
  served_entering before d h =
      either (Served now p c) (is_time_wait d.state && not (is_time_wait before)) (with_time_wait now d) d (λ _. record {
        receiver = h.receiver;
        owed = h.owed;
        synchronized = h.synchronized;
        remote = h.remote;
        pending = h.pending;
      }) (λ _. h)

  served_fin : (d : Connection) → Served now p c d → Served now p c (after_fin now d)
  served_fin d h =
      let e : Connection = record (with_owed AtOnce d) { state = after_peers_end d.state } in
      either (Served now p c) (takes_octets d.state && has_ended d.reception.receiver) (after_entering now d.state e) d
      (λ _. served_entering d.state e (record {
        receiver = h.receiver;
        owed = inl refl;
        synchronized = peers_end_synchronized d.state h.synchronized;
        remote = h.remote;
        pending = h.pending;
      })) (λ _. h)

-- so it is acknowledged in time
least_below : (a b : Option ℕ) (y l : ℕ) → b ≡ Some y → y ≤ l → (t : ℕ) × (least a b ≡ Some t) × (t ≤ l)
least_below None b y l e h = (y, e, h)
least_below (Some a) b y l e h = rw e (min a y, refl, grind (arith, h))

module _ (t q : ℕ) (d : Connection) (sync : is_synchronized d.state ≡ true) (owes : is_owed d.reception.owed t ≡ true)
    (all : q ≤ expected d.reception.receiver) where
  abbrev Tells : Option Action → Type 0
  Tells o = o ≡ action t d → TellsArrived t q d

  tells_ack : (b : Bool) → b ≡ true → Tells (ack_if b)
  tells_ack true e f = record { sent = SendAck; now = sym f; ack = refl; all = all }
  tells_ack false e f = false_true e

  tells_next : Tells (Some (SendNext (next_piece d)))
  tells_next f = record { sent = SendNext (next_piece d); now = sym f; ack = refl; all = all }

  tells_pending : (p : Pending) → is_reset p ≡ false → Tells (action_pending p t d)
  tells_pending Empty e =
      either Tells (sends_octets d.state && is_worth_sending d (next_piece d)) (Some (SendNext (next_piece d)))
      (ack_if (is_synchronized d.state && tells_something t d)) (λ _. tells_next) (λ _.
      tells_ack (is_synchronized d.state && tells_something t d) (both_are (is_synchronized d.state) (tells_something t d) sync
      (left_is (is_owed d.reception.owed t) (is_update_due d.settings.own_mss d.reception) owes)))
  tells_pending Challenge e = tells_ack (is_synchronized d.state) sync
  tells_pending SynAgain e = tells_ack (is_synchronized d.state) sync
  tells_pending KeepAlive e = λ f. record { sent = SendKeepAlive; now = sym f; ack = refl; all = all }
  tells_pending Probe e =
      either Tells (sends_octets d.state && has_octets (next_piece d)) (Some (SendNext (next_piece d)))
      (Some (SendProbe (first_piece 1 d))) (λ _. tells_next)
      (λ _. λ f. record { sent = SendProbe (first_piece 1 d); now = sym f; ack = refl; all = all })
  tells_pending Resend e = λ f. record { sent = SendAgain (again_piece d); now = sym f; ack = refl; all = all }
  tells_pending (Reset n) e = false_true (sym e)

  acts_pending : action t d ≡ action_pending d.pending t d
  acts_pending =
      ap (λ b. if b && not (is_reset d.pending) then (action_in_opening t d) else action_pending d.pending t d)
      (synchronized_up d.state sync)

  pub tells_arrived : is_reset d.pending ≡ false → TellsArrived t q d
  tells_arrived e = tells_pending d.pending e (sym acts_pending)

is_some_of : (o : Option Action) (m : Action) → o ≡ Some m → is_some o ≡ true
is_some_of o m e = rw e refl

module _ (now l : ℕ) (d : Connection) (h : Soon l d.reception.owed)
    (tells : (t : ℕ) → is_owed d.reception.owed t ≡ true → is_some (action t d) ≡ true) where
  abbrev DueBy : Option ℕ → Type 0
  DueBy o = (t : ℕ) × (o ≡ Some t) × (t ≤ max now l)

  by_timer : Soon l d.reception.owed → is_some (action now d) ≡ false → DueBy (timer_at d)
  by_timer (inl e) f = false_true (sym f ∙ tells now (rw e refl))
  by_timer (inr k) f =
      let last : owed_at d.reception.owed ≡ Some k.0 = rw k.1 refl in
      let first = least (gives_up_at d) (keep_alive_at d) in
      let one = least_below first (owed_at d.reception.owed) k.0 l last k.2 in
      let two = least_below (least d.timers.resend_at d.timers.ends_at) (least first (owed_at d.reception.owed)) one.0 l one.1
      one.2 in
      let low = two.2 in (two.0, two.1, grind (arith, low))

  pub due_by : DueBy (due_at now d)
  due_by =
      either DueBy (is_some (action now d)) (Some now) (if lacks_timer d then Some now else timer_at d)
      (λ _. (now, refl, grind arith)) (λ f.
      either DueBy (lacks_timer d) (Some now) (timer_at d) (λ _. (now, refl, grind arith)) (λ _. by_timer h f))

pub octets_are_served : OctetsAreServed
octets_are_served now a s c may reset at some acks low high =
    let p = piece_of c s in
    let r = c.reception.receiver in
    let e = heard now c in
    let first : Ready c e = record {
      takes = gets_takes c.state may;
      reception = refl;
      settings = refl;
      remote = refl;
      pending = no_reset_owed c.pending reset;
    } in
    let f = after_last (after_entering now c.state (after_acknowledgement now a s p e)) in
    let text = left_is (nat_lt 0 (length p.octets)) p.ends (lt_is 0 (length s.octets) some) in
    let d = after_text now true p f in
    let h = served_fin now p c (after_octets_of now true p f) (served_octets now p c f (ready now a s p c e first) text) in
    subst (λ (x : Connection). IsServed now s c x) (sym (believed_as now a s c (inl may) at acks low high))
    (is_served d h) where
      is_served : (d : Connection) → Served now (piece_of c s) c d → IsServed now s c d
      is_served d h =
          let r = c.reception.receiver in
          let l = later now c.settings.ack_delay in
          let fills = fills_next r s.octets s.fin at.room in
          let far = reaches r s.octets s.fin at.room in
          let all : next r + length s.octets ≤ expected d.reception.receiver = rw h.receiver far in
          let tells : (t : ℕ) → is_owed d.reception.owed t ≡ true → TellsArrived t (next r + length s.octets) d =
          λ t owes. tells_arrived t (next r + length s.octets) d h.synchronized owes all h.pending in
          record {
            readable = rw h.receiver fills;
            told = λ t late. tells t (soon_is l t d.reception.owed h.owed late);
            due = due_by now l d h.owed
                (λ t owes. let x = tells t owes in is_some_of (action t d) x.sent x.now);
          }
