-- What a segment that arrives leaves.
use Rattle.std.proofs.Common.{◌≡◌, ◌<◌, ◌≤◌, ◌+◌, ℕ, Bool, true, false}
use Rattle.std.proofs.Common.{refl, sym, ap, ◌∙◌, subst, arith, Option, Some, None}
use Rattle.std.specs.Prelude.{max, nat_le, nat_lt, ◌==◌, ◌&&◌, ◌||◌, not, if◌then◌else◌}
use Rattle.std.specs.Option.{option_map, option_and_then}
use Rattle.std.proofs.lemmas.Bool.Decides.{nat_tests}
use Rattle.tcp_machine.specs.declared.state.State.{State}
use Rattle.tcp_machine.specs.declared.state.State.TheVariants.{Closed, Listen, SynSent, SynReceived, Established, FinWait1}
use Rattle.tcp_machine.specs.declared.state.State.TheVariants.{FinWait2, CloseWait, Closing, LastAck, TimeWait}
use Rattle.tcp_machine.specs.declared.timers.Pending.{Pending}
use Rattle.tcp_machine.specs.declared.timers.Pending.TheVariants.{Challenge, Reset, SynAgain}
use Rattle.tcp_machine.specs.declared.timers.Owed.TheVariants.{AtOnce}
use Rattle.tcp_machine.specs.declared.timers.Ending.{Ending}
use Rattle.tcp_machine.specs.Positions.{number_at, IsNear, position_near}
use Rattle.tcp_machine.specs.Pieces.{Piece}
use Rattle.tcp_machine.specs.Sending.{Sender, after_position}
use Rattle.tcp_machine.specs.Receiving.{next, expected, is_acceptable, is_in_window}
use Rattle.tcp_machine.specs.States.{is_opening, is_synchronized, takes_octets, after_peers_end, after_end_acknowledged}
use Rattle.tcp_machine.specs.Connection.{Connection}
use Rattle.tcp_machine.specs.Segments.{Segment, Options, window_in, acceptable_piece, acknowledged_in}
use Rattle.tcp_machine.specs.Windows.{tells_window, with_window, after_window}
use Rattle.tcp_machine.specs.Acknowledgements.{rank, with_pending, empty_position, is_believed, is_end_acknowledged, is_duplicate, with_waiting}
use Rattle.tcp_machine.specs.Acknowledgements.{after_progress, after_duplicate, after_acked, after_told, after_blocks, after_end, after_acknowledgement}
use Rattle.tcp_machine.specs.Acknowledgements as acknowledgements
use Rattle.tcp_machine.specs.Congestion as congestion
use Rattle.tcp_machine.specs.declared.timers.Pending.TheVariants.{Resend}
use Rattle.tcp_machine.specs.Arrivals.{is_time_wait, is_syn_received, is_closed, with_owed, ended, aborted, with_time_wait, after_entering, after_syn_once_more, is_syn_again}
use Rattle.tcp_machine.specs.Arrivals.{after_unacceptable, why_reset, after_reset, is_own_syn_acknowledged, state_after_handshake, established}
use Rattle.tcp_machine.specs.Arrivals.{reception_after, has_text, after_octets_of, has_ended, after_fin, after_text, after_last}
use Rattle.tcp_machine.specs.Arrivals.{after_position_acknowledged, after_ack_field, heard, after_piece_of, after_segment_arrives, is_answered, after_unbelieved}
use Rattle.tcp_machine.specs.Outgoing.{is_syn_sent}
use Rattle.tcp_machine.proofs.PositionsLemmas.{position_right}
use Rattle.tcp_laws.specs.Machines.{Sent, arrived}
use Rattle.tcp_laws.proofs.Stands.{PieceStands}
use Rattle.tcp_laws.proofs.SendingSteps.{max_le}
use Rattle.tcp_laws.proofs.ReceivingSteps.{false_true, next_expected}
use Rattle.tcp_laws.proofs.MachineStands.{piece_of, PlainStands, Given, Known, Knows}
use Rattle.tcp_laws.proofs.MachineStreams.{acked, took}

-- a choice keeps what both keep
pub either : {X : Type 0} (P : X → Type 0) (b : Bool) (x y : X) → (b ≡ true → P x) → (b ≡ false → P y) → P (if b then x else y)
either P true x y h k = h refl
either P false x y h k = k refl

pub last_of : (a b : Bool) → a && b ≡ true → b ≡ true
last_of true b h = h
last_of false b h = false_true h

pub not_lt : (a b : ℕ) → nat_lt a b ≡ false → b ≤ a
not_lt a b h = grind (arith, nat_tests)

pub is_lt : (a b : ℕ) → nat_lt a b ≡ true → a < b
is_lt a b h = grind (arith, nat_tests)

-- states
pub handshake_opening : (o : Option ℕ) → is_opening (state_after_handshake o) ≡ false
handshake_opening None = refl
handshake_opening (Some e) = refl

pub handshake_asks : (o : Option ℕ) → is_syn_sent (state_after_handshake o) ≡ false
handshake_asks None = refl
handshake_asks (Some e) = refl

pub not_asking : (s : State) → is_opening s ≡ false → is_syn_sent s ≡ false
not_asking Closed h = refl
not_asking Listen h = refl
not_asking SynSent h = h
not_asking SynReceived h = refl
not_asking Established h = refl
not_asking FinWait1 h = refl
not_asking FinWait2 h = refl
not_asking CloseWait h = refl
not_asking Closing h = refl
not_asking LastAck h = refl
not_asking TimeWait h = refl

pub not_opening : (s : State) → not (is_syn_received s) ≡ true → is_syn_sent s ≡ false → is_opening s ≡ false
not_opening Closed h k = refl
not_opening Listen h k = refl
not_opening SynSent h k = k
not_opening SynReceived h k = sym h
not_opening Established h k = refl
not_opening FinWait1 h k = refl
not_opening FinWait2 h k = refl
not_opening CloseWait h k = refl
not_opening Closing h k = refl
not_opening LastAck h k = refl
not_opening TimeWait h k = refl

end_opening : (s : State) → is_opening s ≡ false → is_opening (after_end_acknowledged s) ≡ false
end_opening Closed h = refl
end_opening Listen h = refl
end_opening SynSent h = h
end_opening SynReceived h = h
end_opening Established h = refl
end_opening FinWait1 h = refl
end_opening FinWait2 h = refl
end_opening CloseWait h = refl
end_opening Closing h = refl
end_opening LastAck h = refl
end_opening TimeWait h = refl

peers_end_opening : (s : State) → is_opening s ≡ false → is_opening (after_peers_end s) ≡ false
peers_end_opening Closed h = refl
peers_end_opening Listen h = refl
peers_end_opening SynSent h = h
peers_end_opening SynReceived h = h
peers_end_opening Established h = refl
peers_end_opening FinWait1 h = refl
peers_end_opening FinWait2 h = refl
peers_end_opening CloseWait h = refl
peers_end_opening Closing h = refl
peers_end_opening LastAck h = refl
peers_end_opening TimeWait h = refl

-- another state, in which the own SYN was acknowledged
pub restated : (i j local remote : ℕ) (state : State) (nxt una top : ℕ) → Known i j local remote state nxt una top → (s : State) →
    (is_synchronized s ≡ true → una ≤ nxt) → is_opening s ≡ false → Known i j local remote s nxt una top
restated i j local remote state nxt una top h s low opened = record {
  local = h.local;
  remote = h.remote;
  nxt = h.nxt;
  una = low;
  opening = λ e. false_true (sym opened ∙ e);
  asks = not_asking s opened;
}

-- other numbers there
pub renumbered : (i j local remote : ℕ) (state : State) (nxt una top : ℕ) → Known i j local remote state nxt una top → (n u t : ℕ) →
    n ≤ t → u ≤ n → is_opening state ≡ false → Known i j local remote state n u t
renumbered i j local remote state nxt una top h n u t high low opened = record {
  local = h.local;
  remote = h.remote;
  nxt = high;
  una = λ e. low;
  opening = λ e. false_true (sym opened ∙ e);
  asks = h.asks;
}

-- what changes no number
pub knows_pending : (g : Given) (p : Pending) (c : Connection) → Knows g c → Knows g (with_pending p c)
knows_pending g p c h = either (Knows g) (nat_lt (rank c.pending) (rank p)) (record c { pending = p }) c (λ _. h) (λ _. h)

pub knows_ended : (g : Given) (why : Option Ending) (c : Connection) → Knows g c → Knows g (ended why c)
knows_ended g why c h = (
  restated g.i g.j c.local c.remote c.state c.transmission.nxt c.transmission.sender.una c.transmission.sender.top h.0 Closed
      (λ e. false_true e) refl,
  h.1,
)

pub knows_aborted : (g : Given) (why : Ending) (c : Connection) → Knows g c → Knows g (aborted why c)
knows_aborted g why c h =
    either (Knows g) (is_synchronized c.state || is_syn_received c.state)
    (record (ended (Some why) c) { pending = Reset (number_at c.local (empty_position c.transmission)) }) (ended (Some why) c)
    (λ _. knows_ended g (Some why) c h) (λ _. knows_ended g (Some why) c h)

knows_unacceptable : (g : Given) (now : ℕ) (s : Segment) (c : Connection) → Knows g c → Knows g (after_unacceptable now s c)
knows_unacceptable g now s c h =
    either (Knows g) (s.rst || not (is_answered s c)) c
    (if s.fin && is_time_wait c.state then with_time_wait now (with_pending Challenge c) else with_pending Challenge c) (λ _. h) (λ _.
    either (Knows g) (s.fin && is_time_wait c.state) (with_time_wait now (with_pending Challenge c)) (with_pending Challenge c)
    (λ _. knows_pending g Challenge c h) (λ _. knows_pending g Challenge c h))

pub knows_unbelieved : (g : Given) (p : Piece) (c : Connection) → Knows g c → Knows g (after_unbelieved p c)
knows_unbelieved g p c h = either (Knows g) (has_text p) (with_pending Challenge c) c (λ _. knows_pending g Challenge c h) (λ _. h)

knows_reset : (g : Given) (p : Piece) (c : Connection) → Knows g c → Knows g (after_reset p c)
knows_reset g p c h =
    either (Knows g) (is_time_wait c.state) c
    (if p.start == expected c.reception.receiver then ended (Some (why_reset c)) c
    else if is_in_window c.reception.receiver p.start then with_pending Challenge c else c) (λ _. h) (λ _.
    either (Knows g) (p.start == expected c.reception.receiver) (ended (Some (why_reset c)) c)
    (if is_in_window c.reception.receiver p.start then with_pending Challenge c else c) (λ _. knows_ended g (Some (why_reset c)) c h) (λ _.
    either (Knows g) (is_in_window c.reception.receiver p.start) (with_pending Challenge c) c (λ _. knows_pending g Challenge c h) (λ _. h)))

-- the own SYN is acknowledged
abbrev pub IsUp : Given → Connection → Type 0
IsUp g c = Knows g c × (c.transmission.sender.una ≤ c.transmission.nxt) × (is_opening c.state ≡ false)

abbrev pub IsLow : Connection → Type 0
IsLow c = is_opening c.state ≡ false → c.transmission.sender.una ≤ c.transmission.nxt

one_or : (u n : ℕ) (b : Bool) → (b ≡ true → u ≡ 1) → (b ≡ false → u ≤ n) → u ≤ max 1 n
one_or u n true h k = let e = h refl in grind arith
one_or u n false h k = let e = k refl in grind arith

pub is_established : (g : Given) (c : Connection) → Knows g c → IsLow c → IsUp g (established c)
is_established g c h low =
    let k = h.0 in
    let s = c.transmission.sender in
    let opened = handshake_opening s.stop in
    let u = h.1.own.sender.una in
    let t = h.1.own.sender.una_top in
    let behind = one_or s.una c.transmission.nxt (is_opening c.state) k.opening low in
    let one : 1 ≤ s.top = omega (arith, u, t) in (
      (
        record {
          local = k.local;
          remote = k.remote;
          nxt = max_le 1 c.transmission.nxt s.top one k.nxt;
          una = λ _. behind;
          opening = λ e. false_true (sym opened ∙ e);
          asks = handshake_asks s.stop;
        },
        h.1,
      ),
      behind,
      opened,
    )

pub knows_syn_again : (g : Given) (s : Segment) (c : Connection) → Knows g c → IsLow c →
    Knows g (after_syn_once_more s c)
knows_syn_again g s c h low =
    either (Knows g) (is_own_syn_acknowledged s c) (with_owed AtOnce (established c))
    (if is_syn_again s c then with_pending SynAgain c else with_pending Challenge c) (λ _. (is_established g c h low).0) (λ _.
    either (Knows g) (is_syn_again s c) (with_pending SynAgain c) (with_pending Challenge c)
    (λ _. knows_pending g SynAgain c h) (λ _. knows_pending g Challenge c h))

-- an acknowledgement moves una and nothing else of the sender's numbers
acked_top : (a window : ℕ) (s : Sender) → (after_position a window s).top ≡ s.top
acked_top a window s = by (nat_le s.una a && nat_le a s.top) refl where
  by : (b : Bool) → nat_le s.una a && nat_le a s.top ≡ b → (after_position a window s).top ≡ s.top
  by true e = rw e refl
  by false e = rw e refl

acked_una : (a window : ℕ) (s : Sender) → (after_position a window s).una ≤ max s.una a
acked_una a window s = by (nat_le s.una a && nat_le a s.top) refl where
  by : (b : Bool) → nat_le s.una a && nat_le a s.top ≡ b → (after_position a window s).una ≤ max s.una a
  by true e = rw e (grind arith)
  by false e = rw e (grind arith)

le_max : (u v a n : ℕ) → u ≤ max v a → v ≤ n → u ≤ max n a
le_max u v a n h k = grind arith

le_of : (u v a n : ℕ) → u ≤ max v a → a ≤ v → v ≤ n → u ≤ n
le_of u v a n h l k = grind arith

believed : (u a m t : ℕ) → nat_le u (a + m) && nat_le a t ≡ true → a ≤ t
believed u a m t h = let l = last_of (nat_le u (a + m)) (nat_le a t) h in grind (arith, nat_tests)

module _ (g : Given) (now a : ℕ) (s : Segment) (p : Piece) (far : a ≤ expected g.peer.connection.reception.receiver) where
  up_progress : (c : Connection) → IsUp g c → a ≤ c.transmission.sender.top → IsUp g (after_progress now a (window_in c s) c)
  up_progress c h high =
      let x = c.transmission.sender in
      let window = window_in c s in
      let top = acked_top a window x in
      let low = le_max (after_position a window x).una x.una a c.transmission.nxt (acked_una a window x) h.1 in
      let known = h.0.0 in
      let most = max_le c.transmission.nxt a x.top known.nxt high in (
        (
          renumbered g.i g.j c.local c.remote c.state c.transmission.nxt x.una x.top known (max c.transmission.nxt a)
              (after_position a window x).una (after_position a window x).top (omega (arith, top, most)) low h.2,
          acked g x c.reception.receiver a window far h.0.1,
        ),
        low,
        h.2,
      )

  up_duplicate : (c : Connection) → IsUp g c → a ≤ c.transmission.sender.una → IsUp g (after_duplicate a (window_in c s) p c)
  up_duplicate c h old =
      let x = c.transmission.sender in
      let window = window_in c s in
      let top = acked_top a window x in
      let low = le_of (after_position a window x).una x.una a c.transmission.nxt (acked_una a window x) old h.1 in
      let known = h.0.0 in
      let high = known.nxt in
      either (IsUp g) (not c.reception.sack_permitted && is_duplicate a window p c.transmission) (record c {
        congestion =
            congestion.after_duplicate c.transmission.mss a (acknowledgements.flight c.transmission) x.top c.congestion;
        pending = if congestion.is_third a c.congestion then Resend else c.pending;
      }) (record c { transmission = record c.transmission { sender = after_position a window x } }) (λ _. h) (λ _. (
        (
          renumbered g.i g.j c.local c.remote c.state c.transmission.nxt x.una x.top known c.transmission.nxt
              (after_position a window x).una (after_position a window x).top (omega (arith, top, high)) low h.2,
          acked g x c.reception.receiver a window far h.0.1,
        ),
        low,
        h.2,
      ))

  up_acked : (c : Connection) → IsUp g c → a ≤ c.transmission.sender.top → IsUp g (after_acked now a s p c)
  up_acked c h high =
      either (IsUp g) (nat_lt c.transmission.sender.una a) (after_progress now a (window_in c s) c) (after_duplicate a (window_in c s) p c)
      (λ _. up_progress c h high) (λ e. up_duplicate c h (not_lt c.transmission.sender.una a e))

  up_window : (d : Connection) (window : ℕ) → IsUp g d → (b : Bool) →
      IsUp g (record d { transmission = if b then with_window p.start a window d.transmission else d.transmission })
  up_window d window h true = h
  up_window d window h false = h

  up_told : (c d : Connection) → IsUp g d → IsUp g (after_told a s p c d)
  up_told c d h =
      either (IsUp g) (nat_le c.transmission.sender.una a)
      (record d { transmission = after_window p.start a (window_in c s) d.transmission }) d
      (λ _. up_window d (window_in c s) h (tells_window p.start a d.transmission)) (λ _. h)

  up_end : (c : Connection) → IsUp g c → IsUp g (after_end c)
  up_end c h =
      either (IsUp g) (is_end_acknowledged c.transmission.sender) (record c { state = after_end_acknowledged c.state }) c (λ _. (
        (
          restated g.i g.j c.local c.remote c.state c.transmission.nxt c.transmission.sender.una c.transmission.sender.top h.0.0
              (after_end_acknowledged c.state) (λ _. h.1) (end_opening c.state h.2),
          h.0.1,
        ),
        h.1,
        end_opening c.state h.2,
      )) (λ _. h)

  up_acknowledgement : (c : Connection) → IsUp g c → a ≤ c.transmission.sender.top → IsUp g (after_acknowledgement now a s p c)
  up_acknowledgement c h high = up_end (with_waiting now c.transmission (after_blocks s (after_told a s p c (after_acked now a s p c)))) (up_told c (after_acked now a s p c) (up_acked c h high))

pub up_entering : (g : Given) (now : ℕ) (before : State) (c : Connection) → IsUp g c → IsUp g (after_entering now before c)
up_entering g now before c h =
    either (IsUp g) (is_time_wait c.state && not (is_time_wait before)) (with_time_wait now c) c (λ _. h) (λ _. h)

up_last : (g : Given) (c : Connection) → IsUp g c → IsUp g (after_last c)
up_last g c h = either (IsUp g) (is_closed c.state) (ended None c) c (λ _. (knows_ended g None c h.0, h.1, refl)) (λ _. h)

-- octets are taken, and the peer's end
module _ (g : Given) (now : ℕ) (keeps : Bool) (p : Piece) (k : PieceStands g.peer.connection.transmission.sender g.peer.written p) where
  up_octets : (c : Connection) → IsUp g c → IsUp g (after_octets_of now keeps p c)
  up_octets c h =
      either (IsUp g) (not (takes_octets c.state && has_text p)) c
      (if keeps
      then record c { reception = reception_after now c.settings p c.reception }
      else with_owed AtOnce c) (λ _. h) (λ _.
      either (IsUp g) keeps (record c { reception = reception_after now c.settings p c.reception })
      (with_owed AtOnce c) (λ _. ((h.0.0, took g c.transmission.sender c.reception.receiver p k h.0.1), h.1, h.2)) (λ _. h))

  up_fin : (c : Connection) → IsUp g c → IsUp g (after_fin now c)
  up_fin c h =
      let d : Connection = record (with_owed AtOnce c) { state = after_peers_end c.state } in
      either (IsUp g) (takes_octets c.state && has_ended c.reception.receiver) (after_entering now c.state d) c
      (λ _. up_entering g now c.state d (
        (
          restated g.i g.j c.local c.remote c.state c.transmission.nxt c.transmission.sender.una c.transmission.sender.top h.0.0
              (after_peers_end c.state) (λ _. h.1) (peers_end_opening c.state h.2),
          h.0.1,
        ),
        h.1,
        peers_end_opening c.state h.2,
      )) (λ _. h)

  up_text : (c : Connection) → IsUp g c → IsUp g (after_text now keeps p c)
  up_text c h = up_fin (after_octets_of now keeps p c) (up_octets c h)

  -- an acknowledgement of a position that the peer has in order, and then the octets
  knows_acknowledged : (a : ℕ) (s : Segment) (c : Connection) → a ≤ expected g.peer.connection.reception.receiver → IsUp g c →
      Knows g (after_position_acknowledged now keeps (Some a) s p c)
  knows_acknowledged a s c far h =
      let d = after_acknowledgement now a s p c in
      either (Knows g) (is_believed a c.transmission) (after_text now keeps p (after_last (after_entering now c.state d)))
      (after_unbelieved p c) (λ e.
      let high = believed c.transmission.sender.una a c.transmission.largest_window c.transmission.sender.top e in
      (up_text (after_last (after_entering now c.state d))
      (up_last g (after_entering now c.state d) (up_entering g now c.state d (up_acknowledgement g now a s p far c h high)))).0)
      (λ _. knows_unbelieved g p c h.0)

-- a segment with a position arrives
module _ (g : Given) (now : ℕ) (keeps : Bool) (k : Sent) (options : Options) (c : Connection) (h : Knows g c)
    (low : IsLow c)
    (st : PlainStands g.j g.i g.peer.connection.transmission.sender g.peer.written g.peer.connection.reception.receiver k)
    (near : IsNear (next c.reception.receiver) k.start) (near_ack : IsNear c.transmission.sender.una k.acknowledged) where
  abbrev s : Segment
  s = arrived k.segment options

  one : 1 ≤ expected g.peer.connection.reception.receiver
  one = let b = h.1.there.receiver.base in let e = next_expected g.peer.connection.reception.receiver in omega (arith, b, e)

  -- the acknowledgement is read as the right position
  right_ack : acknowledged_in c (number_at g.i k.acknowledged) ≡ Some k.acknowledged
  right_ack =
      ap (λ l. position_near l c.transmission.sender.una (number_at g.i k.acknowledged)) h.0.local
      ∙ position_right g.i c.transmission.sender.una k.acknowledged near_ack

  -- and so is the piece
  right_piece : acceptable_piece c s ≡ (if is_acceptable c.reception.receiver (piece_of k) then Some (piece_of k) else None)
  right_piece =
      let again : number_at (number_at g.j 0) k.start ≡ number_at g.j k.start = omega arith in
      let e = ap (λ l. position_near l (next c.reception.receiver) k.segment.number) h.0.remote
      ∙ ap (position_near (number_at g.j 0) (next c.reception.receiver)) (st.number ∙ sym again)
      ∙ position_right (number_at g.j 0) (next c.reception.receiver) k.start near in
      let f : Piece → Option Piece = λ p. if is_acceptable c.reception.receiver p then Some p else None in
      let read : ℕ → Piece = λ p. record { start = p; octets = k.segment.octets; ends = k.segment.fin } in
      ap (λ o. option_and_then f (option_map read o)) e

  field : (d : Connection) → Knows g d → IsLow d →
      acknowledged_in d (number_at g.i k.acknowledged) ≡ Some k.acknowledged →
      Knows g (after_ack_field now keeps (Some (number_at g.i k.acknowledged)) s (piece_of k) d)
  field d kd lowd right =
      let n = number_at g.i k.acknowledged in
      either (Knows g) (not (is_syn_received d.state)) (after_position_acknowledged now keeps (acknowledged_in d n) s (piece_of k) d)
      (if n == number_at d.local 1 then after_position_acknowledged now keeps (Some 1) s (piece_of k) (established d)
      else with_pending (Reset n) d) (λ e.
      subst (λ o. Knows g (after_position_acknowledged now keeps o s (piece_of k) d)) (sym right)
      (let o = not_opening d.state e kd.0.asks in
      knows_acknowledged g now keeps (piece_of k) st.piece k.acknowledged s d st.known (kd, lowd o, o))) (λ _.
      either (Knows g) (n == number_at d.local 1) (after_position_acknowledged now keeps (Some 1) s (piece_of k) (established d))
      (with_pending (Reset n) d)
      (λ _. knows_acknowledged g now keeps (piece_of k) st.piece 1 s (established d) one (is_established g d kd lowd))
      (λ _. knows_pending g (Reset n) d kd))

  acceptable : (b : Bool) → Knows g (after_piece_of now keeps (if b then Some (piece_of k) else None) s c)
  acceptable false = knows_unacceptable g now s c h
  acceptable true =
      either (Knows g) s.rst (after_reset (piece_of k) c) (after_ack_field now keeps s.ack s (piece_of k) (heard now c))
      (λ _. knows_reset g (piece_of k) c h) (λ _.
      subst (λ o. Knows g (after_ack_field now keeps o s (piece_of k) (heard now c))) (sym st.ack) (field (heard now c) h low right_ack))

  pub gets_plain : Knows g (after_segment_arrives now keeps s c)
  gets_plain =
      either (Knows g) (s.syn && not s.rst)
      (after_syn_once_more s c)
      (after_piece_of now keeps (acceptable_piece c s) s c) (λ _. knows_syn_again g s c h low) (λ _.
      subst (λ o. Knows g (after_piece_of now keeps o s c)) (sym right_piece) (acceptable (is_acceptable c.reception.receiver (piece_of k))))

-- a SYN, or a reset, arrives
not_both : {P : Type 0} (a b : Bool) → a ≡ true → b ≡ false → a && not b ≡ false → P
not_both true true e f h = false_true (sym f)
not_both true false e f h = false_true (sym h)
not_both false b e f h = false_true e

module _ (g : Given) (now : ℕ) (keeps : Bool) (s : Segment) (c : Connection) (h : Knows g c) (low : IsLow c) where
  pub gets_syn : s.syn ≡ true → s.rst ≡ false → Knows g (after_segment_arrives now keeps s c)
  gets_syn syn no_reset =
      either (Knows g) (s.syn && not s.rst)
      (after_syn_once_more s c)
      (after_piece_of now keeps (acceptable_piece c s) s c) (λ _. knows_syn_again g s c h low) (λ e. not_both s.syn s.rst syn no_reset e)

  piece_reset : s.rst ≡ true → (o : Option Piece) → Knows g (after_piece_of now keeps o s c)
  piece_reset reset None = knows_unacceptable g now s c h
  piece_reset reset (Some p) =
      either (Knows g) s.rst (after_reset p c) (after_ack_field now keeps s.ack s p (heard now c)) (λ _. knows_reset g p c h)
      (λ e. false_true (sym e ∙ reset))

  pub gets_reset : s.rst ≡ true → Knows g (after_segment_arrives now keeps s c)
  gets_reset reset =
      either (Knows g) (s.syn && not s.rst)
      (after_syn_once_more s c)
      (after_piece_of now keeps (acceptable_piece c s) s c) (λ _. knows_syn_again g s c h low) (λ _. piece_reset reset (acceptable_piece c s))
