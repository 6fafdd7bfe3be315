-- A connection that waits for its peer has something due.
use Rattle.std.proofs.Common.{◌≡◌, ◌<◌, ◌≤◌, ◌+◌, ◌-◌, ℕ, Bool, true, false, List, [], ◌∷◌}
use Rattle.std.proofs.Common.{refl, sym, ap, ◌∙◌, arith, Option, Some, None, inl, inr}
use Rattle.std.specs.Prelude.{max, drop, nat_le, nat_lt, ◌==◌, ◌&&◌, ◌||◌, not, is_some, is_none, if◌then◌else◌}
use Rattle.std.proofs.lemmas.Bool.Decides.{nat_tests}
use Rattle.tcp_machine.specs.declared.state.State.{State}
use Rattle.tcp_machine.specs.declared.state.State.TheVariants.{Closed, Listen, SynSent, SynReceived, Established, FinWait1}
use Rattle.tcp_machine.specs.declared.state.State.TheVariants.{FinWait2, CloseWait, Closing, LastAck, TimeWait}
use Rattle.tcp_machine.specs.declared.timers.Pending.{Pending}
use Rattle.tcp_machine.specs.declared.timers.Pending.TheVariants.{Empty, Challenge, Resend, Probe, KeepAlive, Reset, SynAgain}
use Rattle.tcp_machine.specs.declared.timers.Owed.TheVariants.{AtOnce}
use Rattle.tcp_machine.specs.declared.timers.Ending.{Ending}
use Rattle.tcp_machine.specs.declared.timers.Ending.TheVariants.{Refused, TimedOut, Aborted, Unreachable}
use Rattle.tcp_machine.specs.Instants.{later, has_passed}
use Rattle.tcp_machine.specs.Positions.{number_at}
use Rattle.tcp_machine.specs.Pieces.{Piece, after_piece}
use Rattle.tcp_machine.specs.Sending.{Sender, after_position, after_close}
use Rattle.tcp_machine.specs.Receiving.{expected, is_at, is_in_window}
use Rattle.tcp_machine.specs.States.{is_synchronized, is_opening, sends_octets, takes_octets, after_program_closes, after_peers_end}
use Rattle.tcp_machine.specs.States.{after_end_acknowledged}
use Rattle.tcp_machine.specs.Connection.{Connection, Transmission}
use Rattle.tcp_machine.specs.Segments.{Segment, window_in, acceptable_piece, acknowledged_in}
use Rattle.tcp_machine.specs.Windows.{tells_window, with_window, after_window}
use Rattle.tcp_machine.specs.Congestion as congestion
use Rattle.tcp_machine.specs.Acknowledgements.{rank, with_pending, empty_position, is_believed, is_end_acknowledged, is_duplicate, opens, resend_after, timeout_after, with_waiting}
use Rattle.tcp_machine.specs.Acknowledgements.{after_measured, after_progress, after_duplicate, after_acked, after_told, after_blocks, after_end}
use Rattle.tcp_machine.specs.Acknowledgements.{after_acknowledgement, flight}
use Rattle.tcp_machine.specs.Arrivals.{is_time_wait, is_syn_received, is_closed, with_owed, ended, aborted, with_time_wait, after_entering, after_syn_once_more, is_syn_again}
use Rattle.tcp_machine.specs.Arrivals.{after_unacceptable, why_reset, after_reset, is_own_syn_acknowledged, state_after_handshake, established}
use Rattle.tcp_machine.specs.Arrivals.{reception_after, has_text, after_octets_of, has_ended, after_fin, after_text, after_last}
use Rattle.tcp_machine.specs.Arrivals.{after_position_acknowledged, after_ack_field, heard, after_piece_of, after_segment_arrives, is_answered, after_unbelieved}
use Rattle.tcp_machine.specs.Opening.{with_syn, is_acknowledgement_of_syn, after_wrong_ack, after_syn, after_arrival_in_syn_sent}
use Rattle.tcp_machine.specs.Opening.{after_arrival_in}
use Rattle.tcp_machine.specs.Calls.{with_sender, closes_at_once, after_closing, after_abort}
use Rattle.tcp_machine.specs.Timers.{has_unsent, is_held_back, with_probe_timer, is_given_up, after_loss_of_all, is_unheard, after_user_timeout, gives_up_at}
use Rattle.tcp_machine.specs.Timers.{after_probe_time, after_resend_timer, most_probes, keep_alive_at, after_keep_alive}
use Rattle.tcp_machine.specs.Timers.{after_time_wait, after_timers}
use Rattle.tcp_machine.specs.Outgoing.{Action, SendSyn, SendNext, SendAgain, SendProbe, action_in_opening, is_repeated_syn, is_challenge, is_syn_sent}
use Rattle.tcp_machine.specs.Outgoing.{next_piece, first_piece, again_piece, has_octets, is_worth_sending, ack_if, tells_something}
use Rattle.tcp_machine.specs.Outgoing.{action_pending, is_reset, is_owed, is_syn_due, action, after_action}
use Rattle.tcp_machine.specs.Path.{size_told, path_told}
use Rattle.tcp_machine.specs.Reports.{is_too_long, after_too_long, after_unreachable}
use Rattle.tcp_machine.specs.Due.{least, owed_at, timer_at, lacks_timer, due_at}
use Rattle.tcp_laws.specs.Machines.{Side, unopened, Act, Opens, Accepts, Writes, Reads, Closes, Aborts, Chooses, Fits, Fails, Gets, Expires, Sends}
use Rattle.tcp_laws.specs.Machines.{arrived, after_sending, after_act}
use Rattle.tcp_laws.specs.Waiting.{after_acts, after_all, IsUnanswered, NeverStuck}
use Rattle.tcp_laws.proofs.ReceivingSteps.{false_true, first_of_two}
use Rattle.tcp_laws.proofs.MachineArrivals.{either, last_of, is_lt}
use Rattle.tcp_laws.proofs.MachineTimers.{probing, once_more}

-- with no timer, nothing is on its way
pub record Timed (st : State) (u t n : ℕ) (at : Option ℕ) : Type 0 where
  pub begun : 1 ≤ u
  pub una : u ≤ t
  pub nxt : n ≤ t
  pub first : is_opening st ≡ true → t ≤ 1
  pub octets : is_none at ≡ true → sends_octets st ≡ true → n ≤ u
  pub syn : is_none at ≡ true → is_opening st ≡ true → n ≡ 0

abbrev pub IsTimed : Connection → Type 0
IsTimed c = Timed c.state c.transmission.sender.una c.transmission.sender.top c.transmission.nxt c.timers.resend_at

-- from one state to another
abbrev IsAfter : (before after : State) → Type 0
IsAfter s t = (sends_octets t ≡ true → sends_octets s ≡ true) × (is_opening t ≡ true → is_opening s ≡ true)

moved : (s0 s : State) (u t n : ℕ) (at : Option ℕ) → IsAfter s0 s → Timed s0 u t n at → Timed s u t n at
moved s0 s u t n at m h = record {
  begun = h.begun;
  una = h.una;
  nxt = h.nxt;
  first = λ e. h.first (m.1 e);
  octets = λ e f. h.octets e (m.0 f);
  syn = λ e f. h.syn e (m.1 f);
}

end_moves : (s : State) → IsAfter s (after_end_acknowledged s)
end_moves Closed = (λ e. e, λ e. e)
end_moves Listen = (λ e. e, λ e. e)
end_moves SynSent = (λ e. e, λ e. e)
end_moves SynReceived = (λ e. e, λ e. e)
end_moves Established = (λ e. e, λ e. e)
end_moves FinWait1 = (λ _. refl, λ e. e)
end_moves FinWait2 = (λ e. e, λ e. e)
end_moves CloseWait = (λ e. e, λ e. e)
end_moves Closing = (λ _. refl, λ e. e)
end_moves LastAck = (λ _. refl, λ e. e)
end_moves TimeWait = (λ e. e, λ e. e)

peers_end_moves : (s : State) → IsAfter s (after_peers_end s)
peers_end_moves Closed = (λ e. e, λ e. e)
peers_end_moves Listen = (λ e. e, λ e. e)
peers_end_moves SynSent = (λ e. e, λ e. e)
peers_end_moves SynReceived = (λ e. e, λ e. e)
peers_end_moves Established = (λ e. e, λ e. e)
peers_end_moves FinWait1 = (λ e. e, λ e. e)
peers_end_moves FinWait2 = (λ e. e, λ e. e)
peers_end_moves CloseWait = (λ e. e, λ e. e)
peers_end_moves Closing = (λ e. e, λ e. e)
peers_end_moves LastAck = (λ e. e, λ e. e)
peers_end_moves TimeWait = (λ e. e, λ e. e)

close_moves : (s : State) → IsAfter s (after_program_closes s)
close_moves Closed = (λ e. e, λ e. e)
close_moves Listen = (λ e. e, λ e. e)
close_moves SynSent = (λ e. e, λ _. refl)
close_moves SynReceived = (λ e. e, λ e. e)
close_moves Established = (λ e. e, λ e. e)
close_moves FinWait1 = (λ e. e, λ e. e)
close_moves FinWait2 = (λ e. e, λ e. e)
close_moves CloseWait = (λ e. e, λ e. e)
close_moves Closing = (λ e. e, λ e. e)
close_moves LastAck = (λ e. e, λ e. e)
close_moves TimeWait = (λ e. e, λ e. e)

-- nothing waits any more
abbrev IsOver : State → Type 0
IsOver s = (sends_octets s ≡ false) × (is_opening s ≡ false)

over : (s0 s : State) (u t n : ℕ) (at0 at : Option ℕ) → IsOver s → Timed s0 u t n at0 → Timed s u t n at
over s0 s u t n at0 at e h = record {
  begun = h.begun;
  una = h.una;
  nxt = h.nxt;
  first = λ g. false_true (sym e.1 ∙ g);
  octets = λ _ g. false_true (sym e.0 ∙ g);
  syn = λ _ g. false_true (sym e.1 ∙ g);
}

over_in_time_wait : (s : State) → is_time_wait s ≡ true → IsOver s
over_in_time_wait Closed e = false_true e
over_in_time_wait Listen e = false_true e
over_in_time_wait SynSent e = false_true e
over_in_time_wait SynReceived e = false_true e
over_in_time_wait Established e = false_true e
over_in_time_wait FinWait1 e = false_true e
over_in_time_wait FinWait2 e = false_true e
over_in_time_wait CloseWait e = false_true e
over_in_time_wait Closing e = false_true e
over_in_time_wait LastAck e = false_true e
over_in_time_wait TimeWait e = (refl, refl)

received_opens : (s : State) → is_syn_received s ≡ true → is_opening s ≡ true
received_opens Closed e = false_true e
received_opens Listen e = false_true e
received_opens SynSent e = refl
received_opens SynReceived e = refl
received_opens Established e = false_true e
received_opens FinWait1 e = false_true e
received_opens FinWait2 e = false_true e
received_opens CloseWait e = false_true e
received_opens Closing e = false_true e
received_opens LastAck e = false_true e
received_opens TimeWait e = false_true e

not_false : (b : Bool) → not b ≡ false → b ≡ true
not_false true e = refl
not_false false e = false_true (sym e)

not_implied : (a b : Bool) → (a ≡ true → b ≡ true) → not b ≡ true → a ≡ false
not_implied false b h e = refl
not_implied true true h e = false_true e
not_implied true false h e = false_true (h refl)

-- numbers
max_below : (m n t : ℕ) → m ≤ t → n ≤ t → max m n ≤ t
max_below m n t h k = grind arith

max_left : (m n k : ℕ) → k ≤ m → k ≤ max m n
max_left m n k h = grind arith

is_eq : (a t : ℕ) → (a == t) ≡ true → a ≡ t
is_eq a t h = grind (arith, nat_tests)

is_le : (a t : ℕ) → nat_le a t ≡ true → a ≤ t
is_le a t h = grind (arith, nat_tests)

le_is : (a t : ℕ) → a ≤ t → nat_le a t ≡ true
le_is a t h = grind (arith, nat_tests)

both_are : (a b : Bool) → a ≡ true → b ≡ true → a && b ≡ true
both_are true b e f = f
both_are false b e f = false_true e

-- a connection that is gone, or that something is owed to
timed_ended : (why : Option Ending) (d : Connection) → IsTimed d → IsTimed (ended why d)
timed_ended why d h =
    over d.state Closed d.transmission.sender.una d.transmission.sender.top d.transmission.nxt d.timers.resend_at None (refl, refl) h

timed_aborted : (why : Ending) (d : Connection) → IsTimed d → IsTimed (aborted why d)
timed_aborted why d h =
    either IsTimed (is_synchronized d.state || is_syn_received d.state)
    (record (ended (Some why) d) { pending = Reset (number_at d.local (empty_position d.transmission)) }) (ended (Some why) d)
    (λ _. timed_ended (Some why) d h) (λ _. timed_ended (Some why) d h)

timed_pending : (p : Pending) (d : Connection) → IsTimed d → IsTimed (with_pending p d)
timed_pending p d h = either IsTimed (nat_lt (rank d.pending) (rank p)) (record d { pending = p }) d (λ _. h) (λ _. h)

timed_wait : (now : ℕ) (d : Connection) → is_time_wait d.state ≡ true → IsTimed d → IsTimed (with_time_wait now d)
timed_wait now d e h =
    over d.state d.state d.transmission.sender.una d.transmission.sender.top d.transmission.nxt d.timers.resend_at None
    (over_in_time_wait d.state e) h

-- the own SYN is acknowledged
established_numbers : (o : Option ℕ) (u t n : ℕ) → 1 ≤ u → u ≤ t → n ≤ t → t ≤ 1 → Timed (state_after_handshake o) u t (max 1 n) None
established_numbers None u t n b l m k = record {
  begun = b;
  una = l;
  nxt = max_below 1 n t (omega (arith, b, l)) m;
  first = λ e. false_true e;
  octets = λ _ _. max_below 1 n u b (omega (arith, b, m, k));
  syn = λ _ e. false_true e;
}
established_numbers (Some s) u t n b l m k = record {
  begun = b;
  una = l;
  nxt = max_below 1 n t (omega (arith, b, l)) m;
  first = λ e. false_true e;
  octets = λ _ _. max_below 1 n u b (omega (arith, b, m, k));
  syn = λ _ e. false_true e;
}

timed_established : (d : Connection) → is_opening d.state ≡ true → IsTimed d → IsTimed (established d)
timed_established d e h =
    let s = d.transmission.sender in
    established_numbers s.stop s.una s.top d.transmission.nxt h.begun h.una h.nxt (h.first e)

not_opening : (o : Option ℕ) → is_opening (state_after_handshake o) ≡ false
not_opening None = refl
not_opening (Some s) = refl

-- what is acknowledged
progress_octets : (b : Bool) (l a t n : ℕ) → (b ≡ true → a ≡ t) → n ≤ t → is_none (if b then None else Some l) ≡ true → max n a ≤ a
progress_octets true l a t n e h f = let k = e refl in max_below n a a (omega (arith, k, h)) (omega arith)
progress_octets false l a t n e h f = false_true f

progress_numbers : (st : State) (u t n a l : ℕ) (at : Option ℕ) → is_opening st ≡ false → u < a → a ≤ t → Timed st u t n at →
    Timed st a t (max n a) (if a == t then None else Some l)
progress_numbers st u t n a l at o low high h = record {
  begun = let b = h.begun in omega (arith, b, low);
  una = high;
  nxt = max_below n a t h.nxt high;
  first = h.first;
  octets = λ e _. progress_octets (a == t) l a t n (is_eq a t) h.nxt e;
  syn = λ _ e. false_true (sym o ∙ e);
}

position_numbers : (st : State) (u t n a : ℕ) (at : Option ℕ) → u ≤ a → a ≤ t → Timed st u t n at → Timed st a t n at
position_numbers st u t n a at low high h = record {
  begun = let b = h.begun in omega (arith, b, low);
  una = high;
  nxt = h.nxt;
  first = h.first;
  octets = λ e f. let k = h.octets e f in omega (arith, k, low);
  syn = h.syn;
}

module _ (now a : ℕ) (s : Segment) (p : Piece) where
  timed_progress : (d : Connection) (window : ℕ) → is_opening d.state ≡ false → d.transmission.sender.una < a →
      a ≤ d.transmission.sender.top → IsTimed d → IsTimed (after_progress now a window d)
  timed_progress d window o low high h =
      let x = d.transmission.sender in
      let l = later now (after_measured d.settings.shortest_timeout now a d.timers.measured d.estimator).timeout in
      let up : nat_le x.una a && nat_le a x.top ≡ true =
      both_are (nat_le x.una a) (nat_le a x.top) (le_is x.una a (omega (arith, low))) (le_is a x.top high) in
      either (λ (y : Sender). Timed d.state y.una y.top (max d.transmission.nxt a) (if a == x.top then None else Some l))
      (nat_le x.una a && nat_le a x.top) (record x { una = a; ring = drop (a - x.una) x.ring; edge = max x.edge (a + window) }) x
      (λ _. progress_numbers d.state x.una x.top d.transmission.nxt a l d.timers.resend_at o low high h)
      (λ e. false_true (sym e ∙ up))

  timed_duplicate : (d : Connection) (window : ℕ) → IsTimed d → IsTimed (after_duplicate a window p d)
  timed_duplicate d window h =
      let t = d.transmission in
      let x = t.sender in
      either IsTimed (not d.reception.sack_permitted && is_duplicate a window p t) (record d {
        congestion = congestion.after_duplicate t.mss a (flight t) t.sender.top d.congestion;
        pending = if congestion.is_third a d.congestion then Resend else d.pending;
      }) (record d { transmission = record t { sender = after_position a window t.sender } }) (λ _. h) (λ _.
      either (λ (y : Sender). Timed d.state y.una y.top t.nxt d.timers.resend_at) (nat_le x.una a && nat_le a x.top)
      (record x { una = a; ring = drop (a - x.una) x.ring; edge = max x.edge (a + window) }) x
      (λ e. position_numbers d.state x.una x.top t.nxt a d.timers.resend_at
      (is_le x.una a (first_of_two (nat_le x.una a) (nat_le a x.top) e)) (is_le a x.top (last_of (nat_le x.una a) (nat_le a x.top) e)) h)
      (λ _. h))

  timed_acked : (d : Connection) → is_opening d.state ≡ false → is_believed a d.transmission ≡ true → IsTimed d →
      IsTimed (after_acked now a s p d)
  timed_acked d o b h =
      let t = d.transmission in
      let window = window_in d s in
      either IsTimed (nat_lt t.sender.una a) (after_progress now a window d) (after_duplicate a window p d)
      (λ e. timed_progress d window o (is_lt t.sender.una a e)
      (is_le a t.sender.top (last_of (nat_le t.sender.una (a + t.largest_window)) (nat_le a t.sender.top) b)) h)
      (λ _. timed_duplicate d window h)

  timed_window : (d : Connection) (window : ℕ) → IsTimed d → (b : Bool) →
      IsTimed (record d { transmission = if b then with_window p.start a window d.transmission else d.transmission })
  timed_window d window h true = h
  timed_window d window h false = h

  timed_told : (c d : Connection) → IsTimed d → IsTimed (after_told a s p c d)
  timed_told c d h =
      either IsTimed (nat_le c.transmission.sender.una a)
      (record d { transmission = after_window p.start a (window_in c s) d.transmission }) d
      (λ _. timed_window d (window_in c s) h (tells_window p.start a d.transmission)) (λ _. h)

  timed_end : (d : Connection) → IsTimed d → IsTimed (after_end d)
  timed_end d h =
      either IsTimed (is_end_acknowledged d.transmission.sender) (record d { state = after_end_acknowledged d.state }) d
      (λ _. moved d.state (after_end_acknowledged d.state) d.transmission.sender.una d.transmission.sender.top d.transmission.nxt
      d.timers.resend_at (end_moves d.state) h) (λ _. h)

  timed_waiting : (t : Transmission) (d : Connection) → IsTimed d → IsTimed (with_waiting now t d)
  timed_waiting t d h = record {
    begun = h.begun;
    una = h.una;
    nxt = h.nxt;
    first = h.first;
    octets = λ e f. h.octets (was d.timers.resend_at e) f;
    syn = λ e f. h.syn (was d.timers.resend_at e) f;
  } where
    opened : Bool
    opened = opens t d.transmission

    was : (at : Option ℕ) → is_none (resend_after opened now (timeout_after opened d.settings.shortest_timeout d.estimator) at) ≡ true →
        is_none at ≡ true
    was None e = refl
    was (Some at) e = e

  timed_acknowledgement : (d : Connection) → is_opening d.state ≡ false → is_believed a d.transmission ≡ true → IsTimed d →
      IsTimed (after_acknowledgement now a s p d)
  timed_acknowledgement d o b h =
      timed_end (with_waiting now d.transmission (after_blocks s (after_told a s p d (after_acked now a s p d))))
      (timed_waiting d.transmission (after_blocks s (after_told a s p d (after_acked now a s p d))) (timed_told d (after_acked now a s p d) (timed_acked d o b h)))

timed_entering : (now : ℕ) (before : State) (d : Connection) → IsTimed d → IsTimed (after_entering now before d)
timed_entering now before d h =
    either IsTimed (is_time_wait d.state && not (is_time_wait before)) (with_time_wait now d) d
    (λ e. timed_wait now d (first_of_two (is_time_wait d.state) (not (is_time_wait before)) e) h) (λ _. h)

timed_last : (d : Connection) → IsTimed d → IsTimed (after_last d)
timed_last d h = either IsTimed (is_closed d.state) (ended None d) d (λ _. timed_ended None d h) (λ _. h)

-- what arrives
module _ (now : ℕ) (keeps : Bool) (s : Segment) (p : Piece) where
  timed_octets : (d : Connection) → IsTimed d → IsTimed (after_octets_of now keeps p d)
  timed_octets d h =
      either IsTimed (not (takes_octets d.state && has_text p)) d
      (if keeps
      then record d { reception = reception_after now d.settings p d.reception }
      else with_owed AtOnce d) (λ _. h) (λ _.
      either IsTimed keeps (record d { reception = reception_after now d.settings p d.reception })
      (with_owed AtOnce d) (λ _. h) (λ _. h))

  timed_fin : (d : Connection) → IsTimed d → IsTimed (after_fin now d)
  timed_fin d h =
      let e : Connection = record (with_owed AtOnce d) { state = after_peers_end d.state } in
      either IsTimed (takes_octets d.state && has_ended d.reception.receiver) (after_entering now d.state e) d
      (λ _. timed_entering now d.state e (moved d.state (after_peers_end d.state) d.transmission.sender.una d.transmission.sender.top
      d.transmission.nxt d.timers.resend_at (peers_end_moves d.state) h)) (λ _. h)

  timed_unbelieved : (d : Connection) → IsTimed d → IsTimed (after_unbelieved p d)
  timed_unbelieved d h = either IsTimed (has_text p) (with_pending Challenge d) d (λ _. timed_pending Challenge d h) (λ _. h)

  timed_position : (o : Option ℕ) (d : Connection) → is_opening d.state ≡ false → IsTimed d →
      IsTimed (after_position_acknowledged now keeps o s p d)
  timed_position None d f h = timed_unbelieved d h
  timed_position (Some a) d f h =
      let e = after_entering now d.state (after_acknowledgement now a s p d) in
      either IsTimed (is_believed a d.transmission) (after_text now keeps p (after_last e)) (after_unbelieved p d)
      (λ b. timed_fin (after_octets_of now keeps p (after_last e)) (timed_octets (after_last e)
      (timed_last e (timed_entering now d.state (after_acknowledgement now a s p d) (timed_acknowledgement now a s p d f b h)))))
      (λ _. timed_unbelieved d h)

  timed_field : (o : Option ℕ) (d : Connection) → (is_opening d.state ≡ true → is_syn_received d.state ≡ true) → IsTimed d →
      IsTimed (after_ack_field now keeps o s p d)
  timed_field None d k h = h
  timed_field (Some n) d k h =
      either IsTimed (not (is_syn_received d.state)) (after_position_acknowledged now keeps (acknowledged_in d n) s p d)
      (if n == number_at d.local 1 then after_position_acknowledged now keeps (Some 1) s p (established d) else with_pending (Reset n) d)
      (λ e. timed_position (acknowledged_in d n) d (not_implied (is_opening d.state) (is_syn_received d.state) k e) h) (λ e.
      either IsTimed (n == number_at d.local 1) (after_position_acknowledged now keeps (Some 1) s p (established d))
      (with_pending (Reset n) d) (λ _. timed_position (Some 1) (established d) (not_opening d.transmission.sender.stop)
      (timed_established d (received_opens d.state (not_false (is_syn_received d.state) e)) h)) (λ _. timed_pending (Reset n) d h))

module _ (c : Connection) (h : IsTimed c) where
  timed_unacceptable : (now : ℕ) (s : Segment) → IsTimed (after_unacceptable now s c)
  timed_unacceptable now s =
      either IsTimed (s.rst || not (is_answered s c)) c
      (if s.fin && is_time_wait c.state then with_time_wait now (with_pending Challenge c) else with_pending Challenge c) (λ _. h) (λ _.
      either IsTimed (s.fin && is_time_wait c.state) (with_time_wait now (with_pending Challenge c)) (with_pending Challenge c)
      (λ e. waits (nat_lt (rank c.pending) (rank Challenge)) (last_of s.fin (is_time_wait c.state) e)) (λ _. timed_pending Challenge c h)) where
        waits : (b : Bool) → is_time_wait c.state ≡ true →
            IsTimed (with_time_wait now (if b then record c { pending = Challenge } else c))
        waits true e = timed_wait now (record c { pending = Challenge }) e h
        waits false e = timed_wait now c e h

  timed_reset : (p : Piece) → IsTimed (after_reset p c)
  timed_reset p =
      either IsTimed (is_time_wait c.state) c
      (if p.start == expected c.reception.receiver then ended (Some (why_reset c)) c
      else if is_in_window c.reception.receiver p.start then with_pending Challenge c else c) (λ _. h) (λ _.
      either IsTimed (p.start == expected c.reception.receiver) (ended (Some (why_reset c)) c)
      (if is_in_window c.reception.receiver p.start then with_pending Challenge c else c) (λ _. timed_ended (Some (why_reset c)) c h) (λ _.
      either IsTimed (is_in_window c.reception.receiver p.start) (with_pending Challenge c) c (λ _. timed_pending Challenge c h) (λ _. h)))

  module _ (k : is_opening c.state ≡ true → is_syn_received c.state ≡ true) (now : ℕ) (keeps : Bool) (s : Segment) where
    timed_piece : (o : Option Piece) → IsTimed (after_piece_of now keeps o s c)
    timed_piece None = timed_unacceptable now s
    timed_piece (Some p) =
        either IsTimed s.rst (after_reset p c) (after_ack_field now keeps s.ack s p (heard now c)) (λ _. timed_reset p)
        (λ _. timed_field now keeps s p s.ack (heard now c) k h)

    timed_arrival : IsTimed (after_segment_arrives now keeps s c)
    timed_arrival =
        let a = is_at s.ack (number_at c.local 1) in
        let b = s.number == c.remote in
        either IsTimed (s.syn && not s.rst)
        (after_syn_once_more s c)
        (after_piece_of now keeps (acceptable_piece c s) s c) (λ _.
        either IsTimed (is_own_syn_acknowledged s c) (with_owed AtOnce (established c))
        (if is_syn_again s c then with_pending SynAgain c else with_pending Challenge c)
        (λ e. timed_established c (received_opens c.state (last_of (a && b) (is_syn_received c.state) e)) h) (λ _.
        either IsTimed (is_syn_again s c) (with_pending SynAgain c) (with_pending Challenge c) (λ _. timed_pending SynAgain c h)
        (λ _. timed_pending Challenge c h))) (λ _. timed_piece (acceptable_piece c s))

  module _ (default link now : ℕ) (s : Segment) (o : is_opening c.state ≡ true) where
    timed_syn : (b : Bool) → IsTimed (after_syn default link now b s c)
    timed_syn true = timed_established (with_syn default link s (heard now c)) o h
    timed_syn false =
        moved c.state SynReceived c.transmission.sender.una c.transmission.sender.top c.transmission.nxt c.timers.resend_at
        (λ e. false_true e, λ _. o) h

    timed_wrong : (n : Option ℕ) → IsTimed (after_wrong_ack n s c)
    timed_wrong None = h
    timed_wrong (Some n) = either IsTimed s.rst c (with_pending (Reset n) c) (λ _. h) (λ _. timed_pending (Reset n) c h)

    timed_asking : IsTimed (after_arrival_in_syn_sent default link now s c)
    timed_asking =
        either IsTimed (is_acknowledgement_of_syn s c)
        (if s.rst then ended (Some Refused) c else if s.syn then after_syn default link now true s c else c)
        (if is_some s.ack then after_wrong_ack s.ack s c else if s.syn && not s.rst then after_syn default link now false s c else c) (λ _.
        either IsTimed s.rst (ended (Some Refused) c) (if s.syn then after_syn default link now true s c else c)
        (λ _. timed_ended (Some Refused) c h) (λ _.
        either IsTimed s.syn (after_syn default link now true s c) c (λ _. timed_syn true) (λ _. h))) (λ _.
        either IsTimed (is_some s.ack) (after_wrong_ack s.ack s c)
        (if s.syn && not s.rst then after_syn default link now false s c else c) (λ _. timed_wrong s.ack) (λ _.
        either IsTimed (s.syn && not s.rst) (after_syn default link now false s c) c (λ _. timed_syn false) (λ _. h)))

  timed_in : (default link now : ℕ) (keeps : Bool) (s : Segment) (t : State) → c.state ≡ t →
      IsTimed (after_arrival_in t default link now keeps s c)
  timed_in default link now keeps s Closed e = h
  timed_in default link now keeps s Listen e = h
  timed_in default link now keeps s SynSent e = timed_asking default link now s (ap is_opening e)
  timed_in default link now keeps s SynReceived e = timed_arrival (λ _. ap is_syn_received e) now keeps s
  timed_in default link now keeps s Established e = timed_arrival (λ f. false_true (sym (ap is_opening e) ∙ f)) now keeps s
  timed_in default link now keeps s FinWait1 e = timed_arrival (λ f. false_true (sym (ap is_opening e) ∙ f)) now keeps s
  timed_in default link now keeps s FinWait2 e = timed_arrival (λ f. false_true (sym (ap is_opening e) ∙ f)) now keeps s
  timed_in default link now keeps s CloseWait e = timed_arrival (λ f. false_true (sym (ap is_opening e) ∙ f)) now keeps s
  timed_in default link now keeps s Closing e = timed_arrival (λ f. false_true (sym (ap is_opening e) ∙ f)) now keeps s
  timed_in default link now keeps s LastAck e = timed_arrival (λ f. false_true (sym (ap is_opening e) ∙ f)) now keeps s
  timed_in default link now keeps s TimeWait e = timed_arrival (λ f. false_true (sym (ap is_opening e) ∙ f)) now keeps s

-- timers
lost_numbers : (b : Bool) (st : State) (u t n : ℕ) (at : Option ℕ) → is_opening st ≡ b → Timed st u t n at →
    Timed st u t (if b then 0 else u) None
lost_numbers true st u t n at e h = record {
  begun = h.begun;
  una = h.una;
  nxt = omega arith;
  first = h.first;
  octets = λ _ _. omega arith;
  syn = λ _ _. refl;
}
lost_numbers false st u t n at e h = record {
  begun = h.begun;
  una = h.una;
  nxt = h.una;
  first = h.first;
  octets = λ _ _. omega arith;
  syn = λ _ f. false_true (sym e ∙ f);
}

none_on_its_way : (n u : ℕ) → (n - u == 0) ≡ true → n ≤ u
none_on_its_way n u h = grind (arith, nat_tests)

running : (st : State) (u t n l : ℕ) (at : Option ℕ) → Timed st u t n at → Timed st u t n (Some l)
running st u t n l at h = record {
  begun = h.begun;
  una = h.una;
  nxt = h.nxt;
  first = h.first;
  octets = λ e _. false_true e;
  syn = λ e _. false_true e;
}

module _ (now : ℕ) (c : Connection) (h : IsTimed c) where
  timed_time_wait : IsTimed (after_time_wait now c)
  timed_time_wait = either IsTimed (has_passed c.timers.ends_at now) (ended None c) c (λ _. timed_ended None c h) (λ _. h)

  timed_probing : is_held_back c && not (is_opening c.state) ≡ true → IsTimed (probing c)
  timed_probing e =
      let t = c.transmission in
      let u = has_unsent t.sender t.nxt in
      let w = not (is_worth_sending c (next_piece c)) in
      let f =
      first_of_two (flight t == 0) u
      (first_of_two ((flight t == 0) && u) w (first_of_two (is_held_back c) (not (is_opening c.state)) e)) in
      let o = last_of (is_held_back c) (not (is_opening c.state)) e in record {
        begun = h.begun;
        una = h.una;
        nxt = h.nxt;
        first = h.first;
        octets = λ _ _. none_on_its_way t.nxt t.sender.una f;
        syn = λ _ g. false_true (sym (ap not g) ∙ o);
      }

  timed_resend : IsTimed (after_resend_timer now c)
  timed_resend =
      either IsTimed (not (has_passed c.timers.resend_at now)) c
      (if is_held_back c && not (is_opening c.state) then after_probe_time now c
      else if is_given_up c then aborted TimedOut c else after_loss_of_all c) (λ _. h) (λ _.
      either IsTimed (is_held_back c && not (is_opening c.state)) (after_probe_time now c)
      (if is_given_up c then aborted TimedOut c else after_loss_of_all c) (λ e.
      either IsTimed (is_unheard c) (aborted TimedOut c) (with_pending Probe (probing c))
      (λ _. timed_aborted TimedOut c h) (λ _. timed_pending Probe (probing c) (timed_probing e))) (λ _.
      either IsTimed (is_given_up c) (aborted TimedOut c) (after_loss_of_all c) (λ _. timed_aborted TimedOut c h)
      (λ _. lost_numbers (is_opening c.state) c.state c.transmission.sender.una c.transmission.sender.top c.transmission.nxt
      c.timers.resend_at refl h)))

  timed_alive : IsTimed (after_keep_alive now c)
  timed_alive =
      either IsTimed (not (has_passed (keep_alive_at c) now)) c
      (if nat_le most_probes c.timers.probes then aborted TimedOut c else with_pending KeepAlive (once_more now c)) (λ _. h) (λ _.
      either IsTimed (nat_le most_probes c.timers.probes) (aborted TimedOut c) (with_pending KeepAlive (once_more now c))
      (λ _. timed_aborted TimedOut c h) (λ _. timed_pending KeepAlive (once_more now c) h))

  timed_probe_timer : IsTimed (with_probe_timer now c)
  timed_probe_timer =
      either IsTimed (is_none c.timers.resend_at && sends_octets c.state && is_held_back c)
      (record c { timers = record c.timers { resend_at = Some (later now c.estimator.timeout) } }) c
      (λ _. running c.state c.transmission.sender.una c.transmission.sender.top c.transmission.nxt (later now c.estimator.timeout)
      c.timers.resend_at h) (λ _. h)

timed_user_timeout : (now : ℕ) (c : Connection) → IsTimed c → IsTimed (after_user_timeout now c)
timed_user_timeout now c h = either IsTimed (has_passed (gives_up_at c) now) (aborted TimedOut c) c (λ _. timed_aborted TimedOut c h) (λ _. h)

timed_timers : (now : ℕ) (c : Connection) → IsTimed c → IsTimed (after_timers now c)
timed_timers now c h =
    let z = after_time_wait now c in
    let a = after_user_timeout now z in
    let b = after_resend_timer now a in
    let d = after_keep_alive now b in
    timed_probe_timer now d (timed_alive now b (timed_resend now a (timed_user_timeout now z (timed_time_wait now c h))))

-- what is sent
still_running : (o : Option ℕ) (l : ℕ) → is_none (if is_none o then Some l else o) ≡ false
still_running None l = refl
still_running (Some x) l = refl

sent_numbers : (st : State) (u t n t' n' l : ℕ) (at : Option ℕ) → is_opening st ≡ false → t ≤ t' → n' ≤ t' → Timed st u t n at →
    Timed st u t' n' (if is_none at then Some l else at)
sent_numbers st u t n t' n' l at o up m h = record {
  begun = h.begun;
  una = let k = h.una in omega (arith, k, up);
  nxt = m;
  first = λ e. false_true (sym o ∙ e);
  octets = λ e _. false_true (sym (still_running at l) ∙ e);
  syn = λ e _. false_true (sym (still_running at l) ∙ e);
}

syn_numbers : (st : State) (u t n l : ℕ) (at : Option ℕ) → Timed st u t n at → Timed st u t 1 (if is_none at then Some l else at)
syn_numbers st u t n l at h = record {
  begun = h.begun;
  una = h.una;
  nxt = let b = h.begun in let k = h.una in omega (arith, b, k);
  first = h.first;
  octets = λ e _. false_true (sym (still_running at l) ∙ e);
  syn = λ e _. false_true (sym (still_running at l) ∙ e);
}

probe_numbers : (st : State) (u t n t' l : ℕ) (at : Option ℕ) → is_opening st ≡ false → t ≤ t' → Timed st u t n at →
    Timed st u t' n (Some l)
probe_numbers st u t n t' l at o up h = record {
  begun = h.begun;
  una = let k = h.una in omega (arith, k, up);
  nxt = let k = h.nxt in omega (arith, k, up);
  first = λ e. false_true (sym o ∙ e);
  octets = λ e _. false_true e;
  syn = λ e _. false_true e;
}

le_left : (t k : ℕ) → t ≤ max t k
le_left t k = grind arith

le_right : (t k : ℕ) → k ≤ max t k
le_right t k = grind arith

not_and_true : (b : Bool) → b && true ≡ false → b ≡ false
not_and_true true e = false_true (sym e)
not_and_true false e = refl

abbrev after_some : ℕ → Option Action → Connection → Connection
after_some now None c = c
after_some now (Some m) c = after_action now m c

module _ (now : ℕ) (c : Connection) (h : IsTimed c) where
  abbrev IsSentTimed : Option Action → Type 0
  IsSentTimed o = IsTimed (after_some now o c)

  timed_ack : (b : Bool) → IsSentTimed (ack_if b)
  timed_ack true = h
  timed_ack false = h

  module _ (o : is_opening c.state ≡ false) where
    timed_sent_next : (p : Piece) → IsSentTimed (Some (SendNext p))
    timed_sent_next p =
        let t = c.transmission in
        sent_numbers c.state t.sender.una t.sender.top t.nxt (max t.sender.top (after_piece p)) (after_piece p)
        (later now c.estimator.timeout) c.timers.resend_at o (le_left t.sender.top (after_piece p)) (le_right t.sender.top (after_piece p)) h

    timed_sent_again : (p : Piece) → IsSentTimed (Some (SendAgain p))
    timed_sent_again p =
        let t = c.transmission in
        let m = h.nxt in
        let up = le_left t.sender.top (after_piece p) in
        sent_numbers c.state t.sender.una t.sender.top t.nxt (max t.sender.top (after_piece p)) t.nxt
        (later now c.estimator.timeout) c.timers.resend_at o up (omega (arith, m, up)) h

    timed_sent_probe : (p : Piece) → IsSentTimed (Some (SendProbe p))
    timed_sent_probe p =
        let t = c.transmission in
        probe_numbers c.state t.sender.una t.sender.top t.nxt (max t.sender.top (after_piece p)) (later now c.estimator.timeout)
        c.timers.resend_at o (le_left t.sender.top (after_piece p)) h

  timed_action_pending : (p : Pending) → is_opening c.state && not (is_reset p) ≡ false → IsSentTimed (action_pending p now c)
  timed_action_pending Empty e =
      either IsSentTimed (sends_octets c.state && is_worth_sending c (next_piece c)) (Some (SendNext (next_piece c)))
      (ack_if (is_synchronized c.state && tells_something now c))
      (λ _. timed_sent_next (not_and_true (is_opening c.state) e) (next_piece c))
      (λ _. timed_ack (is_synchronized c.state && tells_something now c))
  timed_action_pending Challenge e = timed_ack (is_synchronized c.state)
  timed_action_pending SynAgain e = timed_ack (is_synchronized c.state)
  timed_action_pending KeepAlive e = h
  timed_action_pending Probe e =
      either IsSentTimed (sends_octets c.state && has_octets (next_piece c)) (Some (SendNext (next_piece c)))
      (Some (SendProbe (first_piece 1 c))) (λ _. timed_sent_next (not_and_true (is_opening c.state) e) (next_piece c))
      (λ _. timed_sent_probe (not_and_true (is_opening c.state) e) (first_piece 1 c))
  timed_action_pending Resend e = timed_sent_again (not_and_true (is_opening c.state) e) (again_piece c)
  timed_action_pending (Reset number) e = h

  timed_sends : IsSentTimed (action now c)
  timed_sends =
      let t = c.transmission in
      either IsSentTimed (is_opening c.state && not (is_reset c.pending)) (action_in_opening now c)
      (action_pending c.pending now c) (λ _.
      either IsSentTimed (is_syn_due now c) (Some SendSyn) (ack_if (is_challenge c.pending && not (is_syn_sent c.state)))
      (λ _. syn_numbers c.state t.sender.una t.sender.top t.nxt (later now c.estimator.timeout) c.timers.resend_at h)
      (λ _. timed_ack (is_challenge c.pending && not (is_syn_sent c.state))))
      (λ e. timed_action_pending c.pending e)

-- what a program does
timed_closing : (c : Connection) → IsTimed c → IsTimed (after_closing c)
timed_closing c h =
    let d : Connection = record (with_sender (after_close c.transmission.sender) c) { state = after_program_closes c.state } in
    either IsTimed (closes_at_once c.state) (ended None c) (if is_none c.transmission.sender.stop then d else c)
    (λ _. timed_ended None c h) (λ _.
    either IsTimed (is_none c.transmission.sender.stop) d c
    (λ _. moved c.state (after_program_closes c.state) c.transmission.sender.una c.transmission.sender.top c.transmission.nxt
    c.timers.resend_at (close_moves c.state) h) (λ _. h))

timed_abort : (c : Connection) → IsTimed c → IsTimed (after_abort c)
timed_abort c h = either IsTimed (is_closed c.state) c (aborted Aborted c) (λ _. h) (λ _. timed_aborted Aborted c h)

-- what others say of it
not_both_sending : (s : State) → sends_octets s ≡ true → is_opening s ≡ true → ⊥
not_both_sending Established e f = false_true f
not_both_sending FinWait1 e f = false_true f
not_both_sending CloseWait e f = false_true f
not_both_sending Closing e f = false_true f
not_both_sending LastAck e f = false_true f
not_both_sending SynSent e f = false_true e
not_both_sending SynReceived e f = false_true e
not_both_sending Closed e f = false_true e
not_both_sending Listen e f = false_true e
not_both_sending FinWait2 e f = false_true e
not_both_sending TimeWait e f = false_true e

timed_fits : (size : ℕ) (c : Connection) → IsTimed c → IsTimed (after_too_long size c)
timed_fits size c h =
    let t = c.transmission in
    either IsTimed (is_too_long size c)
    (record c {
      transmission = record t { nxt = t.sender.una; mss = size_told size t.path; path = path_told size t.path };
      timers = record c.timers { measured = None };
    })
    c (λ e. record {
      begun = h.begun;
      una = h.una;
      nxt = h.una;
      first = h.first;
      octets = λ _ _. omega arith;
      syn = λ _ o. absurd (not_both_sending c.state (first_of_two (sends_octets c.state) (nat_lt (size_told size t.path) t.mss) e) o);
    }) (λ _. h)

timed_fails : (c : Connection) → IsTimed c → IsTimed (after_unreachable c)
timed_fails c h = either IsTimed (is_opening c.state) (aborted Unreachable c) c (λ _. timed_aborted Unreachable c h) (λ _. h)

-- whatever a side does
first_numbers : (st : State) → Timed st 1 1 0 None
first_numbers st = record {
  begun = omega arith;
  una = omega arith;
  nxt = omega arith;
  first = λ _. omega arith;
  octets = λ _ _. omega arith;
  syn = λ _ _. refl;
}

timed_after : (now : ℕ) (x : Side) (o : Option Action) → IsTimed (after_some now o x.connection) →
    IsTimed (after_sending now o x).connection
timed_after now x None h = h
timed_after now x (Some m) h = h

timed_act : (iss : ℕ) (act : Act) (x : Side) → IsTimed x.connection → IsTimed (after_act iss act x).connection
timed_act iss (Opens now mss settings) x h = first_numbers SynSent
timed_act iss (Accepts now default link settings k options) x h = first_numbers SynReceived
timed_act iss (Writes octets) x h = h
timed_act iss (Reads count) x h = h
timed_act iss Closes x h = timed_closing x.connection h
timed_act iss Aborts x h = timed_abort x.connection h
timed_act iss (Chooses settings) x h = h
timed_act iss (Fits size) x h = timed_fits size x.connection h
timed_act iss Fails x h = timed_fails x.connection h
timed_act iss (Gets default link now keeps k options) x h =
    timed_in x.connection h default link now keeps (arrived k.segment options) x.connection.state refl
timed_act iss (Expires now) x h = timed_timers now x.connection h
timed_act iss (Sends now) x h = timed_after now x (action now x.connection) (timed_sends now x.connection h)

timed_acts : (iss : ℕ) (acts : List Act) (x : Side) → IsTimed x.connection → IsTimed (after_acts iss acts x).connection
timed_acts iss [] x h = h
timed_acts iss (act ∷ acts) x h = timed_acts iss acts (after_act iss act x) (timed_act iss act x h)

-- so something is due
least_some : (a b : Option ℕ) → is_some a ≡ true → is_some (least a b) ≡ true
least_some None b e = false_true e
least_some (Some a) None e = refl
least_some (Some a) (Some b) e = refl

some_of_not_none : (o : Option ℕ) → is_none o ≡ false → is_some o ≡ true
some_of_not_none None e = false_true (sym e)
some_of_not_none (Some x) e = refl

sends_synchronized : (s : State) → sends_octets s ≡ true → is_synchronized s ≡ true
sends_synchronized Closed e = false_true e
sends_synchronized Listen e = false_true e
sends_synchronized SynSent e = false_true e
sends_synchronized SynReceived e = false_true e
sends_synchronized Established e = refl
sends_synchronized FinWait1 e = refl
sends_synchronized FinWait2 e = false_true e
sends_synchronized CloseWait e = refl
sends_synchronized Closing e = refl
sends_synchronized LastAck e = refl
sends_synchronized TimeWait e = false_true e

sends_opened : (s : State) → sends_octets s ≡ true → is_opening s ≡ false
sends_opened Closed e = refl
sends_opened Listen e = refl
sends_opened SynSent e = false_true e
sends_opened SynReceived e = false_true e
sends_opened Established e = refl
sends_opened FinWait1 e = refl
sends_opened FinWait2 e = refl
sends_opened CloseWait e = refl
sends_opened Closing e = refl
sends_opened LastAck e = refl
sends_opened TimeWait e = refl

nothing_on_its_way : (n u : ℕ) → n ≤ u → (n - u == 0) ≡ true
nothing_on_its_way n u h = grind (arith, nat_tests)

is_below : (n e : ℕ) → n < e → nat_lt n e ≡ true
is_below n e h = grind (arith, nat_tests)

abbrev IsSome : Option Action → Type 0
IsSome o = is_some o ≡ true

module _ (now : ℕ) (c : Connection) where
  some_ack : (b : Bool) → b ≡ true → IsSome (ack_if b)
  some_ack true e = refl
  some_ack false e = false_true e

  -- whatever is pending is sent, and with nothing pending what is worth sending
  some_pending : sends_octets c.state ≡ true → (p : Pending) → (p ≡ Empty → is_worth_sending c (next_piece c) ≡ true) →
      IsSome (action_pending p now c)
  some_pending e Empty w =
      either IsSome (sends_octets c.state && is_worth_sending c (next_piece c)) (Some (SendNext (next_piece c)))
      (ack_if (is_synchronized c.state && tells_something now c)) (λ _. refl)
      (λ f. false_true (sym f ∙ both_are (sends_octets c.state) (is_worth_sending c (next_piece c)) e (w refl)))
  some_pending e Challenge w = some_ack (is_synchronized c.state) (sends_synchronized c.state e)
  some_pending e SynAgain w = some_ack (is_synchronized c.state) (sends_synchronized c.state e)
  some_pending e KeepAlive w = refl
  some_pending e Probe w =
      either IsSome (sends_octets c.state && has_octets (next_piece c)) (Some (SendNext (next_piece c)))
      (Some (SendProbe (first_piece 1 c))) (λ _. refl) (λ _. refl)
  some_pending e Resend w = refl
  some_pending e (Reset number) w = refl

  some_action : sends_octets c.state ≡ true → is_worth_sending c (next_piece c) ≡ true → IsSome (action now c)
  some_action e w =
      either IsSome (is_opening c.state && not (is_reset c.pending)) (action_in_opening now c)
      (action_pending c.pending now c)
      (λ f. false_true (sym (sends_opened c.state e) ∙ first_of_two (is_opening c.state) (not (is_reset c.pending)) f))
      (λ _. some_pending e c.pending (λ _. w))

  some_reset : (p : Pending) → is_opening c.state && not (is_reset p) ≡ false → is_opening c.state ≡ true → IsSome (action_pending p now c)
  some_reset Empty e o = false_true (sym (not_and_true (is_opening c.state) e) ∙ o)
  some_reset SynAgain e o = false_true (sym (not_and_true (is_opening c.state) e) ∙ o)
  some_reset Challenge e o = false_true (sym (not_and_true (is_opening c.state) e) ∙ o)
  some_reset KeepAlive e o = false_true (sym (not_and_true (is_opening c.state) e) ∙ o)
  some_reset Probe e o = false_true (sym (not_and_true (is_opening c.state) e) ∙ o)
  some_reset Resend e o = false_true (sym (not_and_true (is_opening c.state) e) ∙ o)
  some_reset (Reset number) e o = refl

  or_left : (a b : Bool) → a ≡ true → a || b ≡ true
  or_left true b e = refl
  or_left false b e = false_true e

  first_is : (n : ℕ) → n ≡ 0 → (n == 0) ≡ true
  first_is n e = grind (arith, nat_tests)

  some_syn : is_opening c.state ≡ true → c.transmission.nxt ≡ 0 → IsSome (action now c)
  some_syn o n =
      let z = c.transmission.nxt == 0 in
      let w = is_owed c.reception.owed now in
      let p = is_repeated_syn c.pending in
      either IsSome (is_opening c.state && not (is_reset c.pending)) (action_in_opening now c)
      (action_pending c.pending now c) (λ _.
      either IsSome (is_syn_due now c) (Some SendSyn) (ack_if (is_challenge c.pending && not (is_syn_sent c.state))) (λ _. refl)
      (λ f. false_true (sym f ∙ or_left (z || w) p (or_left z w (first_is c.transmission.nxt n)))))
      (λ e. some_reset c.pending e o)

  abbrev IsDue : Option ℕ → Type 0
  IsDue o = is_some o ≡ true

  due_if : (is_some (action now c) ≡ false → lacks_timer c ≡ false → is_none c.timers.resend_at ≡ true → IsDue (timer_at c)) →
      IsDue (due_at now c)
  due_if k =
      either IsDue (is_some (action now c)) (Some now) (if lacks_timer c then Some now else timer_at c) (λ _. refl) (λ e.
      either IsDue (lacks_timer c) (Some now) (timer_at c) (λ _. refl) (λ f. by (is_none c.timers.resend_at) refl e f)) where
        by : (b : Bool) → is_none c.timers.resend_at ≡ b → is_some (action now c) ≡ false → lacks_timer c ≡ false → IsDue (timer_at c)
        by true r e f = k e f r
        by false r e f =
            least_some (least c.timers.resend_at c.timers.ends_at) (least (least (gives_up_at c) (keep_alive_at c)) (owed_at c.reception.owed))
            (least_some c.timers.resend_at c.timers.ends_at (some_of_not_none c.timers.resend_at r))

  held_back : sends_octets c.state ≡ true → c.transmission.nxt ≤ c.transmission.sender.una →
      c.transmission.sender.una < after_all c.transmission.sender → is_worth_sending c (next_piece c) ≡ false →
      is_none c.timers.resend_at ≡ true → lacks_timer c ≡ true
  held_back e n l w r =
      let t = c.transmission in
      let s = t.sender in
      let z = flight t == 0 in
      let u = has_unsent s t.nxt in
      let v = not (is_worth_sending c (next_piece c)) in
      let zu = both_are z u (nothing_on_its_way t.nxt s.una n) (is_below t.nxt (after_all s) (omega (arith, n, l))) in
      let all = both_are (z && u) v zu (ap not w) in
      both_are (is_none c.timers.resend_at && sends_octets c.state) (is_held_back c)
      (both_are (is_none c.timers.resend_at) (sends_octets c.state) r e) all

  due : IsTimed c → IsUnanswered c → IsDue (due_at now c)
  due h (inl o) = due_if (λ e f r. false_true (sym e ∙ some_syn o (h.syn r o)))
  due h (inr q) = due_if (λ e f r. by (is_worth_sending c (next_piece c)) refl e f r) where
    by : (b : Bool) → is_worth_sending c (next_piece c) ≡ b → is_some (action now c) ≡ false → lacks_timer c ≡ false →
        is_none c.timers.resend_at ≡ true → IsDue (timer_at c)
    by true w e f r = false_true (sym e ∙ some_action q.0 w)
    by false w e f r = false_true (sym f ∙ held_back q.0 (h.octets r q.0) q.1 w r)

pub never_stuck : NeverStuck
never_stuck iss room size settings acts now u =
    let x = unopened room size settings in
    due now (after_acts iss acts x).connection (timed_acts iss acts x (first_numbers Closed)) u
