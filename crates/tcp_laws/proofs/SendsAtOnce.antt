-- What may be sent is sent at once, and handshakes end.
use Rattle.std.proofs.Common.{◌≡◌, ◌≤◌, ◌+◌, ◌-◌, ℕ, zero, suc, Bool, true, false, List, [], ◌∷◌, length, take, drop}
use Rattle.std.proofs.Common.{refl, sym, ap, ◌∙◌, subst, arith, Option, Some, None, inl, inr}
use Rattle.std.specs.Prelude.{nat_le, nat_lt, ◌==◌, ◌*◌, ◌&&◌, ◌||◌, ◌⊎◌, not, is_none, is_some, min, max, replicate, if◌then◌else◌}
use Rattle.std.proofs.lemmas.Bool.Decides.{nat_tests}
use Rattle.std.proofs.lemmas.List.{length-drop, length-take-le, take_all}
use Rattle.tcp_machine.specs.declared.state.State.{State}
use Rattle.tcp_machine.specs.declared.state.State.TheVariants.{Established}
use Rattle.tcp_machine.specs.declared.timers.Owed.TheVariants.{AtOnce}
use Rattle.tcp_machine.specs.declared.timers.Ending.TheVariants.{Refused}
use Rattle.tcp_machine.specs.declared.timers.Pending.TheVariants.{Empty, Resend, Reset}
use Rattle.tcp_machine.specs.Positions.{number_at}
use Rattle.tcp_machine.specs.Pieces.{Piece, after_octets}
use Rattle.tcp_machine.specs.Sending.{Sender, after_position}
use Rattle.tcp_machine.specs.Receiving.{in_order, next, is_at, stop_from, edge}
use Rattle.tcp_machine.specs.States.{is_synchronized, is_opening, sends_octets, takes_octets, after_peers_end, after_end_acknowledged}
use Rattle.tcp_machine.specs.Connection.{Connection, Reception, Transmission}
use Rattle.tcp_machine.specs.Segments.{Segment, window_in, acknowledged_in}
use Rattle.tcp_machine.specs.Windows.{tells_window, with_window, after_window}
use Rattle.tcp_machine.specs.Congestion as congestion
use Rattle.tcp_machine.specs.Acknowledgements.{is_believed, is_acknowledged, is_end_acknowledged, is_duplicate, flight, with_pending, with_waiting}
use Rattle.tcp_machine.specs.Acknowledgements.{after_progress, after_duplicate, after_acked, after_told, after_blocks, after_end, after_acknowledgement}
use Rattle.tcp_machine.specs.Arrivals.{is_time_wait, is_syn_received, is_closed, with_owed, ended, with_time_wait, after_entering, established}
use Rattle.tcp_machine.specs.Arrivals.{state_after_handshake, reception_after, has_text, after_octets_of, has_ended, after_fin, after_text}
use Rattle.tcp_machine.specs.Arrivals.{after_last, after_position_acknowledged, after_ack_field, heard, after_segment_arrives, after_unbelieved}
use Rattle.tcp_machine.specs.Opening.{is_acknowledgement_of_syn, after_wrong_ack, after_syn, after_arrival_in}
use Rattle.tcp_machine.specs.Outgoing.{SendNext, beyond_window_of, limit_of, next_piece, is_held_by_nagle, is_last, has_octets, action_in_opening}
use Rattle.tcp_machine.specs.Outgoing.{is_worth_sending, ack_if, tells_something, action_pending, is_reset, action}
use Rattle.tcp_laws.specs.Service.{HasRoomFor, MaySendOctets, IsWorthIt, WhatMayBeSentIsSent, TheEndFollows}
use Rattle.tcp_laws.specs.Service.{SynsAreAnswered, HandshakesEnd}
use Rattle.tcp_laws.proofs.Lists.{in_order_none}
use Rattle.tcp_laws.proofs.ReceivingSteps.{false_true}
use Rattle.tcp_laws.proofs.MachineArrivals.{either}
use Rattle.tcp_laws.proofs.Serves.{lt_is, le_is, eq_is, both_are, left_is, chosen, piece_of, arrives_as, is_believed_at}

-- states
sends : (s : State) → MaySendOctets s → sends_octets s ≡ true
sends s (inl e) = rw e refl
sends s (inr (inl e)) = rw e refl
sends s (inr (inr (inl e))) = rw e refl
sends s (inr (inr (inr (inl e)))) = rw e refl
sends s (inr (inr (inr (inr e)))) = rw e refl

opened : (s : State) → MaySendOctets s → is_opening s ≡ false
opened s (inl e) = rw e refl
opened s (inr (inl e)) = rw e refl
opened s (inr (inr (inl e))) = rw e refl
opened s (inr (inr (inr (inl e)))) = rw e refl
opened s (inr (inr (inr (inr e)))) = rw e refl

right_is : (a b : Bool) → b ≡ true → a || b ≡ true
right_is true b e = refl
right_is false b e = e

-- what is worth sending is sent, where nothing else is to be sent first
module _ (now : ℕ) (c : Connection) (may : MaySendOctets c.state) (none : c.pending ≡ Empty)
    (worth : is_worth_sending c (next_piece c) ≡ true) where
  sends_next : action now c ≡ Some (SendNext (next_piece c))
  sends_next =
      ap (λ b. if b && not (is_reset c.pending) then (action_in_opening now c) else action_pending c.pending now c)
      (opened c.state may)
      ∙ ap (λ p. action_pending p now c) none
      ∙ chosen (sends_octets c.state && is_worth_sending c (next_piece c)) (Some (SendNext (next_piece c)))
      (ack_if (is_synchronized c.state && tells_something now c))
      (both_are (sends_octets c.state) (is_worth_sending c (next_piece c)) (sends c.state may) worth)

-- numbers
within_limit : (n x told u w : ℕ) (b : Bool) → x + n ≤ told → (b ≡ true → x + n ≤ u + w) → x + n ≤ (if b then min told (u + w) else told)
within_limit n x told u w true h k = let l = k refl in grind arith
within_limit n x told u w false h k = h

module _ (now n : ℕ) (c : Connection) (may : MaySendOctets c.state) (none : c.pending ≡ Empty) (room : HasRoomFor n c) (fits : IsWorthIt n c) where
  abbrev x : ℕ
  x = c.transmission.nxt

  abbrev s : Sender
  s = c.transmission.sender

  abbrev rest : List ℕ
  rest = drop (x - s.una) s.ring

  limit : x + n ≤ limit_of c
  limit =
      within_limit n x c.transmission.told_edge s.una (c.congestion.window + beyond_window_of c)
      c.settings.congestion_control room.window (λ h. let b = room.congestion h in omega (arith, b))

  abbrev most : ℕ
  most = min c.transmission.mss (limit_of c - x)

  rest_long : n ≤ length rest
  rest_long =
      let a = length-drop (x - s.una) s.ring in
      let b = room.written in
      let l = room.low in omega (arith, a, b, l)

  octets : take most rest ≡ take n rest
  octets = by fits where
    by : IsWorthIt n c → take most rest ≡ take n rest
    by (inl e) =
        let l = limit in
        let same : most ≡ n = grind (arith, e, l) in ap (λ (k : ℕ). take k rest) same
    by (inr h) =
        let a = length-drop (x - s.una) s.ring in
        let b = h.1 in
        let l = room.low in
        let k = h.0 in
        let m = limit in
        let short : length rest ≤ n = omega (arith, a, b, l) in
        let all : length rest ≤ most = grind (arith, short, k, m) in
        take_all most rest all ∙ sym (take_all n rest short)

  long : length (next_piece c).octets ≡ n
  long = ap length octets ∙ length-take-le n rest rest_long

  whole : IsWorthIt n c →
      nat_le c.transmission.mss (length (next_piece c).octets) || (is_last (next_piece c) s && not (is_held_by_nagle c)) ≡ true
  whole (inl e) =
      let l = long in
      left_is (nat_le c.transmission.mss (length (next_piece c).octets)) (is_last (next_piece c) s && not (is_held_by_nagle c))
      (le_is c.transmission.mss (length (next_piece c).octets) (omega (arith, e, l)))
  whole (inr h) =
      let l = long in
      let b = h.1 in
      right_is (nat_le c.transmission.mss (length (next_piece c).octets)) (is_last (next_piece c) s && not (is_held_by_nagle c))
      (both_are (is_last (next_piece c) s) (not (is_held_by_nagle c))
      (le_is (s.una + length s.ring) (after_octets (next_piece c)) (omega (arith, b, l))) (free h.2)) where
        free : (c.settings.nagle ≡ false) ⊎ (x ≡ s.una) → not (is_held_by_nagle c) ≡ true
        free (inl e) = rw e refl
        free (inr e) = by (c.settings.nagle && is_none s.stop) where
          at : nat_lt s.una x ≡ false
          at = grind (arith, nat_tests, e)

          by : (b : Bool) → not (b && nat_lt s.una x) ≡ true
          by true = ap not at
          by false = refl

  worth : is_worth_sending c (next_piece c) ≡ true
  worth =
      let p = next_piece c in
      let l = long in
      let some = room.some in
      let big = nat_le c.transmission.mss (length p.octets) || (is_last p s && not (is_held_by_nagle c)) in
      let half = nat_le c.transmission.largest_window (2 * length p.octets) in
      let old = nat_lt p.start s.top in
      right_is p.ends (has_octets p && (big || half || old))
      (both_are (has_octets p) (big || half || old) (lt_is 0 (length p.octets) (omega (arith, l, some)))
      (left_is (big || half) old (left_is big half (whole fits))))

  pub is_sent : action now c ≡ Some (SendNext (record { start = x; octets = take n rest; ends = (next_piece c).ends }))
  is_sent =
      sends_next now c may none worth
      ∙ ap (λ (os : List ℕ). Some (SendNext (record { start = x; octets = os; ends = (next_piece c).ends }))) octets

pub what_may_be_sent_is_sent : WhatMayBeSentIsSent
what_may_be_sent_is_sent now n c may none room fits =
    record { ends = (next_piece c).ends; sent = is_sent now n c may none room fits }

-- the end
none_of : (k : ℕ) → let xs : List ℕ = [] in take k xs ≡ xs
none_of zero = refl
none_of (suc k) = refl

nothing_left : (k n : ℕ) (ring : List ℕ) → length ring ≤ n → take k (drop n ring) ≡ []
nothing_left k n ring h = by (drop n ring) (length-drop n ring) where
  by : (xs : List ℕ) → length xs ≡ length ring - n → take k xs ≡ []
  by [] e = none_of k
  by (x ∷ xs) e = absurd (omega (arith, e, h))

pub the_end_follows : TheEndFollows
the_end_follows now c may none stop last =
    let s = c.transmission.sender in
    let x = c.transmission.nxt in
    let p = next_piece c in
    let empty : p.octets ≡ [] = nothing_left (min c.transmission.mss (limit_of c - x)) (x - s.una) s.ring (omega (arith, last)) in
    let ends : p.ends ≡ true =
    ap (λ (os : List ℕ). is_at s.stop (x + length os)) empty ∙ ap (λ o. is_at o (x + 0)) stop ∙ (let z : x + 0 ≡ x = omega arith in rw z (eq_is x)) in
    let octets = c.transmission.largest_window in
    sends_next now c may none (left_is p.ends _ ends)
    ∙ ap (λ (os : List ℕ). Some (SendNext (record { start = x; octets = os; ends = p.ends }))) empty
    ∙ ap (λ (b : Bool). Some (SendNext (record { start = x; octets = []; ends = b }))) ends

-- handshakes
none_in : (size : ℕ) → in_order (replicate size None) ≡ []
none_in size = in_order_none [] size

pub syns_are_answered : SynsAreAnswered
syns_are_answered now at iss room size default link settings s = record {
  sent = refl;
  syn = refl;
  ack = ap (λ (xs : List ℕ). Some (number_at s.number (1 + length xs + 0))) (none_in size);
}

-- in SYN-RECEIVED
record Up (c d : Connection) : Type 0 where
  state : d.state ≡ Established
  stop : d.transmission.sender.stop ≡ None
  reception : d.reception ≡ c.reception

moves_no_stop : (b : Bool) (x y : Sender) → x.stop ≡ None → y.stop ≡ None → (if b then x else y).stop ≡ None
moves_no_stop true x y h k = h
moves_no_stop false x y h k = k

module _ (now a : ℕ) (s : Segment) (p : Piece) (c : Connection) where
  position_stop : (window : ℕ) (x : Sender) → x.stop ≡ None → (after_position a window x).stop ≡ None
  position_stop window x h =
      moves_no_stop (nat_le x.una a && nat_le a x.top)
      (record x { una = a; ring = drop (a - x.una) x.ring; edge = max x.edge (a + window) }) x h h

  up_acked : (d : Connection) → Up c d → Up c (after_acked now a s p d)
  up_acked d h =
      let window = window_in d s in
      let t = d.transmission in
      either (Up c) (nat_lt t.sender.una a) (after_progress now a window d) (after_duplicate a window p d)
      (λ _. record { state = h.state; stop = position_stop window t.sender h.stop; reception = h.reception }) (λ _.
      either (Up c) (not d.reception.sack_permitted && is_duplicate a window p t) (record d {
        congestion = congestion.after_duplicate t.mss a (flight t) t.sender.top d.congestion;
        pending = if congestion.is_third a d.congestion then Resend else d.pending;
      }) (record d { transmission = record t { sender = after_position a window t.sender } })
      (λ _. record { state = h.state; stop = h.stop; reception = h.reception })
      (λ _. record { state = h.state; stop = position_stop window t.sender h.stop; reception = h.reception }))

  up_window : (d : Connection) (window : ℕ) → Up c d → (b : Bool) →
      Up c (record d { transmission = if b then with_window p.start a window d.transmission else d.transmission })
  up_window d window h true = record { state = h.state; stop = h.stop; reception = h.reception }
  up_window d window h false = record { state = h.state; stop = h.stop; reception = h.reception }

  up_told : (b d : Connection) → Up c d → Up c (after_told a s p b d)
  up_told b d h =
      either (Up c) (nat_le b.transmission.sender.una a)
      (record d { transmission = after_window p.start a (window_in b s) d.transmission }) d
      (λ _. up_window d (window_in b s) h (tells_window p.start a d.transmission)) (λ _. h)

  up_waiting : (t : Transmission) (d : Connection) → Up c d → Up c (with_waiting now t d)
  up_waiting t d h = record { state = h.state; stop = h.stop; reception = h.reception }

  up_blocks : (d : Connection) → Up c d → Up c (after_blocks s d)
  up_blocks d h = record { state = h.state; stop = h.stop; reception = h.reception }

  up_end : (d : Connection) → Up c d → Up c (after_end d)
  up_end d h =
      either (Up c) (is_end_acknowledged d.transmission.sender) (record d { state = after_end_acknowledged d.state }) d
      (λ e. false_true (sym (ap (λ o. is_acknowledged o d.transmission.sender.una) h.stop) ∙ e)) (λ _. h)

  up_entering : (before : State) (d : Connection) → Up c d → Up c (after_entering now before d)
  up_entering before d h =
      either (Up c) (is_time_wait d.state && not (is_time_wait before)) (with_time_wait now d) d
      (λ _. record { state = h.state; stop = h.stop; reception = h.reception }) (λ _. h)

  up_last : (d : Connection) → Up c d → Up c (after_last d)
  up_last d h = either (Up c) (is_closed d.state) (ended None d) d (λ e. false_true (sym (ap is_closed h.state) ∙ e)) (λ _. h)

  up_all : (before : State) (d : Connection) → Up c d →
      Up c (after_last (after_entering now before (after_acknowledgement now a s p d)))
  up_all before d h =
      let e = after_acked now a s p d in
      let b = after_blocks s (after_told a s p d e) in
      let f = with_waiting now d.transmission b in
      up_last (after_entering now before (after_end f)) (up_entering before (after_end f) (up_end f (up_waiting d.transmission b (up_blocks (after_told a s p d e) (up_told d e (up_acked d h))))))

-- then octets, and no end
record UpBeforeEnd (d : Connection) : Type 0 where
  state : d.state ≡ Established
  stop : d.reception.receiver.stop ≡ None

module _ (now : ℕ) (p : Piece) (c : Connection) (no_end : p.ends ≡ false) (before : c.reception.receiver.stop ≡ None) where
  up_octets : (d : Connection) → Up c d → UpBeforeEnd (after_octets_of now true p d)
  up_octets d h =
      let r = d.reception in
      let e : Connection = record d { reception = reception_after now d.settings p r } in
      let was : r.receiver.stop ≡ None = ap (λ (x : Reception). x.receiver.stop) h.reception ∙ before in
      either UpBeforeEnd (not (takes_octets d.state && has_text p)) d e (λ _. record { state = h.state; stop = was }) (λ _. record {
        state = h.state;
        stop =
            ap (λ (o : Option ℕ). stop_from o (p.ends && nat_le (after_octets p) (edge r.receiver)) (after_octets p)) was
            ∙ ap (λ (b : Bool). stop_from None (b && nat_le (after_octets p) (edge r.receiver)) (after_octets p)) no_end;
      })

  up_fin : (d : Connection) → UpBeforeEnd d → (after_fin now d).state ≡ Established
  up_fin d h =
      let is : Connection → Type 0 = λ x. x.state ≡ Established in
      let e : Connection = record (with_owed AtOnce d) { state = after_peers_end d.state } in
      either is (takes_octets d.state && has_ended d.reception.receiver) (after_entering now d.state e) d
      (λ f. ends (takes_octets d.state) (has_ended d.reception.receiver) (ap (λ o. is_at o (next d.reception.receiver)) h.stop) f)
      (λ _. h.state) where
        ends : {P : Type 0} (a b : Bool) → b ≡ false → a && b ≡ true → P
        ends true b e f = false_true (sym e ∙ f)
        ends false b e f = false_true f

pub handshakes_end : HandshakesEnd
handshakes_end = record {
  opened = λ default link now keeps s c st waits syn rst ack stop.
      let is : Connection → Type 0 = λ x. x.state ≡ Established in
      let acknowledged : is_acknowledgement_of_syn s c ≡ true =
      both_are (is_at s.ack (number_at c.local 1)) (is_some c.timers.waiting_since)
      (ap (λ o. is_at o (number_at c.local 1)) ack ∙ eq_is (number_at c.local 1)) waits in
      let d = after_syn default link now true s c in
      let up : is d = ap state_after_handshake stop in
      let same : after_arrival_in c.state default link now keeps s c ≡ d =
      ap (λ t. after_arrival_in t default link now keeps s c) st
      ∙ chosen (is_acknowledgement_of_syn s c)
      (if s.rst then ended (Some Refused) c else if s.syn then d else c)
      (if is_some s.ack then after_wrong_ack s.ack s c else if s.syn && not s.rst then after_syn default link now false s c else c)
      acknowledged
      ∙ ap (λ b. if b then ended (Some Refused) c else if s.syn then d else c) rst ∙ ap (λ b. if b then d else c) syn in
      subst is (sym same) up;
  accepted = λ now s c st at fin ack stop una top.
      let p = piece_of c s in
      let e = established (heard now c) in
      let n = number_at c.local 1 in
      let f = after_last (after_entering now e.state (after_acknowledgement now 1 s p e)) in
      let same : after_segment_arrives now true s c ≡ after_text now true p f =
      arrives_as now s c at ∙ ap (λ o. after_ack_field now true o s p (heard now c)) ack
      ∙ ap (λ t. if not (is_syn_received t) then after_position_acknowledged now true (acknowledged_in c n) s p (heard now c)
      else if n == n then after_position_acknowledged now true (Some 1) s p e else with_pending (Reset n) (heard now c)) st
      ∙ chosen (n == n) (after_position_acknowledged now true (Some 1) s p e) (with_pending (Reset n) (heard now c)) (eq_is n)
      ∙ chosen (is_believed 1 e.transmission) (after_text now true p f) (after_unbelieved p e)
      (is_believed_at 1 e.transmission (omega (arith, una)) top) in
      let first : Up c e = record { state = ap state_after_handshake stop; stop = stop; reception = refl } in
      let is : Connection → Type 0 = λ x. x.state ≡ Established in
      subst is (sym same)
      (up_fin now p c fin at.before_end (after_octets_of now true p f)
      (up_octets now p c fin at.before_end f (up_all now 1 s p c e.state e first)));
}
