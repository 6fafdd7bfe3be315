-- What arrives, timers and a program keep of the windows that a connection told.
use Rattle.std.proofs.Common.{◌≡◌, ◌≤◌, ◌+◌, ◌-◌, ℕ, Bool, true, false}
use Rattle.std.proofs.Common.{refl, sym, ap, ◌∙◌, arith, Option, Some, None, length}
use Rattle.std.specs.Prelude.{nat_le, nat_lt, ◌==◌, ◌&&◌, ◌||◌, not, is_none, is_some, min, drop, if◌then◌else◌}
use Rattle.tcp_machine.specs.declared.state.State.{State}
use Rattle.tcp_machine.specs.declared.state.State.TheVariants.{Closed, Listen, SynSent, SynReceived, Established, FinWait1}
use Rattle.tcp_machine.specs.declared.state.State.TheVariants.{FinWait2, CloseWait, Closing, LastAck, TimeWait}
use Rattle.tcp_machine.specs.declared.timers.Pending.{Pending}
use Rattle.tcp_machine.specs.declared.timers.Pending.TheVariants.{Challenge, Resend, Probe, KeepAlive, Reset, SynAgain}
use Rattle.tcp_machine.specs.declared.timers.Owed.{Owed}
use Rattle.tcp_machine.specs.declared.timers.Owed.TheVariants.{AtOnce}
use Rattle.tcp_machine.specs.declared.timers.Ending.{Ending}
use Rattle.tcp_machine.specs.declared.timers.Ending.TheVariants.{Refused, TimedOut, Aborted, Unreachable}
use Rattle.tcp_machine.specs.Instants.{later, has_passed}
use Rattle.tcp_machine.specs.Positions.{number_at}
use Rattle.tcp_machine.specs.Pieces.{Piece}
use Rattle.tcp_machine.specs.Sending.{after_position, after_close}
use Rattle.tcp_machine.specs.Receiving.{expected, first_new, with_piece, is_in_window}
use Rattle.tcp_machine.specs.States.{is_synchronized, sends_octets, takes_octets, after_program_closes, after_peers_end, is_opening}
use Rattle.tcp_machine.specs.States.{after_end_acknowledged}
use Rattle.tcp_machine.specs.Outgoing.{is_syn_sent}
use Rattle.tcp_machine.specs.Connection.{Connection, Reception, most_tries}
use Rattle.tcp_machine.specs.Segments.{Segment, window_in, acceptable_piece, acknowledged_in}
use Rattle.tcp_machine.specs.Windows.{after_window}
use Rattle.tcp_machine.specs.Congestion as congestion
use Rattle.tcp_machine.specs.Estimator as estimator
use Rattle.tcp_machine.specs.Acknowledgements.{rank, with_pending, empty_position, is_believed, is_end_acknowledged, is_duplicate, with_waiting}
use Rattle.tcp_machine.specs.Acknowledgements.{after_progress, after_duplicate, after_acked, after_told, after_blocks, after_end}
use Rattle.tcp_machine.specs.Acknowledgements.{after_acknowledgement, flight}
use Rattle.tcp_machine.specs.Arrivals.{is_time_wait, is_syn_received, is_closed, with_owed, ended, aborted, with_time_wait, after_entering, after_syn_once_more, is_syn_again, state_after_handshake}
use Rattle.tcp_machine.specs.Arrivals.{after_unacceptable, why_reset, after_reset, is_own_syn_acknowledged, established}
use Rattle.tcp_machine.specs.Arrivals.{reception_after, has_text, after_octets_of, has_ended, after_fin, after_text, after_last}
use Rattle.tcp_machine.specs.Arrivals.{after_position_acknowledged, after_ack_field, heard, after_piece_of, after_segment_arrives, is_answered, after_unbelieved}
use Rattle.tcp_machine.specs.Opening.{with_syn, is_acknowledgement_of_syn, after_wrong_ack, after_syn, after_arrival_in_syn_sent}
use Rattle.tcp_machine.specs.Opening.{after_arrival_in}
use Rattle.tcp_machine.specs.Calls.{with_sender, closes_at_once, after_closing, after_abort}
use Rattle.tcp_machine.specs.Timers.{is_held_back, with_probe_timer, is_given_up, after_loss_of_all, is_unheard, after_user_timeout, gives_up_at}
use Rattle.tcp_machine.specs.Timers.{after_probe_time, after_resend_timer, most_probes, keep_alive_at, after_question, after_keep_alive}
use Rattle.tcp_machine.specs.Timers.{after_time_wait, after_timers}
use Rattle.tcp_machine.specs.Path.{size_told, path_told}
use Rattle.tcp_machine.specs.Reports.{is_too_long, after_too_long, after_unreachable}
use Rattle.tcp_laws.proofs.Lists.{length-filled}
use Rattle.tcp_laws.proofs.ReceivingSteps.{false_true, expected_kept}
use Rattle.tcp_laws.proofs.MachineArrivals.{either}

-- A reception after another one, with which a connection was in a state
pub record Onward (st : State) (r : Reception) (s : State) (q : Reception) : Type 0 where
  pub opens : is_syn_sent s ≡ true → is_syn_sent st ≡ true
  pub promised : q.promised ≡ r.promised
  pub scale : is_syn_sent st ≡ false → q.scale ≡ r.scale
  pub expected : expected r.receiver ≤ expected q.receiver
  pub base : r.receiver.base ≤ q.receiver.base
  pub places : length q.receiver.cells ≡ length r.receiver.cells

pub onward_same : (s : State) (r : Reception) → Onward s r s r
onward_same s r = record {
  opens = λ e. e;
  promised = refl;
  scale = λ _. refl;
  expected = omega arith;
  base = omega arith;
  places = refl;
}

never_opens : {P : Type 0} (s : State) → is_syn_sent s ≡ false → is_syn_sent s ≡ true → P
never_opens s e f = false_true (sym e ∙ f)

handshake_knows : (stop : Option ℕ) → is_syn_sent (state_after_handshake stop) ≡ false
handshake_knows None = refl
handshake_knows (Some end) = refl

end_keeps : (s : State) → is_syn_sent (after_end_acknowledged s) ≡ true → is_syn_sent s ≡ true
end_keeps Closed e = e
end_keeps Listen e = e
end_keeps SynSent e = e
end_keeps SynReceived e = e
end_keeps Established e = e
end_keeps FinWait1 e = false_true e
end_keeps FinWait2 e = e
end_keeps CloseWait e = e
end_keeps Closing e = false_true e
end_keeps LastAck e = false_true e
end_keeps TimeWait e = e

peers_end_keeps : (s : State) → is_syn_sent (after_peers_end s) ≡ true → is_syn_sent s ≡ true
peers_end_keeps Closed e = e
peers_end_keeps Listen e = e
peers_end_keeps SynSent e = e
peers_end_keeps SynReceived e = e
peers_end_keeps Established e = false_true e
peers_end_keeps FinWait1 e = false_true e
peers_end_keeps FinWait2 e = false_true e
peers_end_keeps CloseWait e = e
peers_end_keeps Closing e = e
peers_end_keeps LastAck e = e
peers_end_keeps TimeWait e = e

close_keeps : (s : State) → is_syn_sent (after_program_closes s) ≡ true → is_syn_sent s ≡ true
close_keeps Closed e = e
close_keeps Listen e = false_true e
close_keeps SynSent e = false_true e
close_keeps SynReceived e = e
close_keeps Established e = false_true e
close_keeps FinWait1 e = e
close_keeps FinWait2 e = e
close_keeps CloseWait e = false_true e
close_keeps Closing e = e
close_keeps LastAck e = e
close_keeps TimeWait e = e

module _ (st : State) (r : Reception) where
  abbrev pub On : Connection → Type 0
  On c = Onward st r c.state c.reception

  -- another state
  moved : (s : State) (q : Reception) (t : State) → (is_syn_sent t ≡ true → is_syn_sent s ≡ true) → Onward st r s q → Onward st r t q
  moved s q t m h = record {
    opens = λ e. h.opens (m e);
    promised = h.promised;
    scale = h.scale;
    expected = h.expected;
    base = h.base;
    places = h.places;
  }

  owing : (s : State) (q : Reception) (o : Owed) → Onward st r s q → Onward st r s (record q { owed = o })
  owing s q o h = record {
    opens = h.opens;
    promised = h.promised;
    scale = h.scale;
    expected = h.expected;
    base = h.base;
    places = h.places;
  }

  on_pending : (p : Pending) (c : Connection) → On c → On (with_pending p c)
  on_pending p c h = either On (nat_lt (rank c.pending) (rank p)) (record c { pending = p }) c (λ _. h) (λ _. h)

  on_ended : (why : Option Ending) (c : Connection) → On c → On (ended why c)
  on_ended why c h = record {
    opens = λ e. false_true e;
    promised = h.promised;
    scale = h.scale;
    expected = h.expected;
    base = h.base;
    places = h.places;
  }

  on_aborted : (why : Ending) (c : Connection) → On c → On (aborted why c)
  on_aborted why c h =
      either On (is_synchronized c.state || is_syn_received c.state)
      (record (ended (Some why) c) { pending = Reset (number_at c.local (empty_position c.transmission)) }) (ended (Some why) c)
      (λ _. on_ended (Some why) c h) (λ _. on_ended (Some why) c h)

  on_entering : (now : ℕ) (before : State) (c : Connection) → On c → On (after_entering now before c)
  on_entering now before c h =
      either On (is_time_wait c.state && not (is_time_wait before)) (with_time_wait now c) c (λ _. h) (λ _. h)

  on_unacceptable : (now : ℕ) (s : Segment) (c : Connection) → On c → On (after_unacceptable now s c)
  on_unacceptable now s c h =
      either On (s.rst || not (is_answered s c)) c
      (if s.fin && is_time_wait c.state then with_time_wait now (with_pending Challenge c) else with_pending Challenge c) (λ _. h) (λ _.
      either On (s.fin && is_time_wait c.state) (with_time_wait now (with_pending Challenge c)) (with_pending Challenge c)
      (λ _. on_pending Challenge c h) (λ _. on_pending Challenge c h))

  on_unbelieved : (p : Piece) (c : Connection) → On c → On (after_unbelieved p c)
  on_unbelieved p c h = either On (has_text p) (with_pending Challenge c) c (λ _. on_pending Challenge c h) (λ _. h)

  on_reset : (p : Piece) (c : Connection) → On c → On (after_reset p c)
  on_reset p c h =
      either On (is_time_wait c.state) c
      (if p.start == expected c.reception.receiver then ended (Some (why_reset c)) c
      else if is_in_window c.reception.receiver p.start then with_pending Challenge c else c) (λ _. h) (λ _.
      either On (p.start == expected c.reception.receiver) (ended (Some (why_reset c)) c)
      (if is_in_window c.reception.receiver p.start then with_pending Challenge c else c) (λ _. on_ended (Some (why_reset c)) c h) (λ _.
      either On (is_in_window c.reception.receiver p.start) (with_pending Challenge c) c (λ _. on_pending Challenge c h) (λ _. h)))

  on_established : (c : Connection) → On c → On (established c)
  on_established c h =
      moved c.state c.reception (established c).state
      (λ e. never_opens (established c).state (handshake_knows c.transmission.sender.stop) e) h

  -- acknowledgements
  module _ (now a : ℕ) (s : Segment) (p : Piece) where
    on_acked : (c : Connection) → On c → On (after_acked now a s p c)
    on_acked c h =
        let window = window_in c s in
        let t = c.transmission in
        either On (nat_lt t.sender.una a) (after_progress now a window c) (after_duplicate a window p c) (λ _. h) (λ _.
        either On (not c.reception.sack_permitted && is_duplicate a window p t) (record c {
          congestion = congestion.after_duplicate t.mss a (flight t) t.sender.top c.congestion;
          pending = if congestion.is_third a c.congestion then Resend else c.pending;
        }) (record c { transmission = record t { sender = after_position a window t.sender } }) (λ _. h) (λ _. h))

    on_told : (c d : Connection) → On d → On (after_told a s p c d)
    on_told c d h =
        either On (nat_le c.transmission.sender.una a)
        (record d { transmission = after_window p.start a (window_in c s) d.transmission }) d (λ _. h) (λ _. h)

    on_end : (c : Connection) → On c → On (after_end c)
    on_end c h =
        either On (is_end_acknowledged c.transmission.sender) (record c { state = after_end_acknowledged c.state }) c
        (λ _. moved c.state c.reception (after_end_acknowledged c.state) (end_keeps c.state) h) (λ _. h)

    on_acknowledgement : (c : Connection) → On c → On (after_acknowledgement now a s p c)
    on_acknowledgement c h = on_end (with_waiting now c.transmission (after_blocks s (after_told a s p c (after_acked now a s p c)))) (on_told c (after_acked now a s p c) (on_acked c h))

  -- octets, and the end
  onto : (x y z : ℕ) → x ≤ y → y ≤ z → x ≤ z
  onto x y z h k = omega (arith, h, k)

  on_octets : (now : ℕ) (keeps : Bool) (p : Piece) (c : Connection) → On c → On (after_octets_of now keeps p c)
  on_octets now keeps p c h =
      let q = c.reception in
      let after = with_piece p q.receiver in
      let taken : On (record c { reception = reception_after now c.settings p q }) =
      record {
        opens = h.opens;
        promised = h.promised;
        scale = h.scale;
        expected = onto (expected r.receiver) (expected q.receiver) (expected after) h.expected (expected_kept q.receiver p);
        base = h.base;
        places =
            length-filled (first_new p q.receiver - q.receiver.base) (drop (first_new p q.receiver - p.start) p.octets) q.receiver.cells
            ∙ h.places;
      } in
      either On (not (takes_octets c.state && has_text p)) c
      (if keeps then record c { reception = reception_after now c.settings p q } else with_owed AtOnce c) (λ _. h) (λ _.
      either On keeps (record c { reception = reception_after now c.settings p q }) (with_owed AtOnce c) (λ _. taken)
      (λ _. owing c.state q AtOnce h))

  on_fin : (now : ℕ) (c : Connection) → On c → On (after_fin now c)
  on_fin now c h =
      let d : Connection = record (with_owed AtOnce c) { state = after_peers_end c.state } in
      either On (takes_octets c.state && has_ended c.reception.receiver) (after_entering now c.state d) c
      (λ _. on_entering now c.state d (moved c.state d.reception d.state (peers_end_keeps c.state) (owing c.state c.reception AtOnce h)))
      (λ _. h)

  on_last : (c : Connection) → On c → On (after_last c)
  on_last c h = either On (is_closed c.state) (ended None c) c (λ _. on_ended None c h) (λ _. h)

  module _ (now : ℕ) (keeps : Bool) (s : Segment) where
    on_position : (o : Option ℕ) (p : Piece) (c : Connection) → On c → On (after_position_acknowledged now keeps o s p c)
    on_position None p c h = on_unbelieved p c h
    on_position (Some a) p c h =
        let d = after_entering now c.state (after_acknowledgement now a s p c) in
        either On (is_believed a c.transmission) (after_text now keeps p (after_last d)) (after_unbelieved p c) (λ _.
        on_fin now (after_octets_of now keeps p (after_last d)) (on_octets now keeps p (after_last d)
        (on_last d (on_entering now c.state (after_acknowledgement now a s p c) (on_acknowledgement now a s p c h)))))
        (λ _. on_unbelieved p c h)

    on_ack_field : (o : Option ℕ) (p : Piece) (c : Connection) → On c → On (after_ack_field now keeps o s p c)
    on_ack_field None p c h = h
    on_ack_field (Some n) p c h =
        either On (not (is_syn_received c.state)) (after_position_acknowledged now keeps (acknowledged_in c n) s p c)
        (if n == number_at c.local 1 then after_position_acknowledged now keeps (Some 1) s p (established c) else with_pending (Reset n) c)
        (λ _. on_position (acknowledged_in c n) p c h) (λ _.
        either On (n == number_at c.local 1) (after_position_acknowledged now keeps (Some 1) s p (established c)) (with_pending (Reset n) c)
        (λ _. on_position (Some 1) p (established c) (on_established c h)) (λ _. on_pending (Reset n) c h))

    on_piece : (o : Option Piece) (c : Connection) → On c → On (after_piece_of now keeps o s c)
    on_piece None c h = on_unacceptable now s c h
    on_piece (Some p) c h =
        either On s.rst (after_reset p c) (after_ack_field now keeps s.ack s p (heard now c)) (λ _. on_reset p c h)
        (λ _. on_ack_field s.ack p (heard now c) h)

    on_segment : (c : Connection) → On c → On (after_segment_arrives now keeps s c)
    on_segment c h =
        either On (s.syn && not s.rst)
        (after_syn_once_more s c)
        (after_piece_of now keeps (acceptable_piece c s) s c) (λ _.
        either On (is_own_syn_acknowledged s c) (with_owed AtOnce (established c))
        (if is_syn_again s c then with_pending SynAgain c else with_pending Challenge c)
        (λ _. owing (established c).state c.reception AtOnce (on_established c h)) (λ _.
        either On (is_syn_again s c) (with_pending SynAgain c) (with_pending Challenge c)
        (λ _. on_pending SynAgain c h) (λ _. on_pending Challenge c h)))
        (λ _. on_piece (acceptable_piece c s) c h)

    -- the peer's SYN tells whether windows are scaled
    module _ (default link : ℕ) where
      scaled : (c : Connection) → is_syn_sent st ≡ true → On c → On (with_syn default link s c)
      scaled c o h = record {
        opens = λ _. o;
        promised = h.promised;
        scale = λ e. false_true (sym e ∙ o);
        expected = h.expected;
        base = h.base;
        places = h.places;
      }

      opening : (s t : State) (q : Reception) → is_syn_sent st ≡ true → Onward st r s q → Onward st r t q
      opening s t q o h = record {
        opens = λ _. o;
        promised = h.promised;
        scale = h.scale;
        expected = h.expected;
        base = h.base;
        places = h.places;
      }

      on_syn : (b : Bool) (c : Connection) → is_syn_sent st ≡ true → On c → On (after_syn default link now b s c)
      on_syn true c o h =
          let d = with_syn default link s (heard now c) in
          owing (established d).state d.reception AtOnce (on_established d (scaled (heard now c) o h))
      on_syn false c o h =
          let d = with_syn default link s (heard now c) in
          owing SynReceived d.reception AtOnce (opening d.state SynReceived d.reception o (scaled (heard now c) o h))

      on_wrong_ack : (o : Option ℕ) (c : Connection) → On c → On (after_wrong_ack o s c)
      on_wrong_ack None c h = h
      on_wrong_ack (Some n) c h = either On s.rst c (with_pending (Reset n) c) (λ _. h) (λ _. on_pending (Reset n) c h)

      on_asking : (c : Connection) → is_syn_sent st ≡ true → On c → On (after_arrival_in_syn_sent default link now s c)
      on_asking c o h =
          either On (is_acknowledgement_of_syn s c)
          (if s.rst then ended (Some Refused) c else if s.syn then after_syn default link now true s c else c)
          (if is_some s.ack then after_wrong_ack s.ack s c else if s.syn && not s.rst then after_syn default link now false s c else c) (λ _.
          either On s.rst (ended (Some Refused) c) (if s.syn then after_syn default link now true s c else c)
          (λ _. on_ended (Some Refused) c h)
          (λ _. either On s.syn (after_syn default link now true s c) c (λ _. on_syn true c o h) (λ _. h))) (λ _.
          either On (is_some s.ack) (after_wrong_ack s.ack s c)
          (if s.syn && not s.rst then after_syn default link now false s c else c) (λ _. on_wrong_ack s.ack c h)
          (λ _. either On (s.syn && not s.rst) (after_syn default link now false s c) c (λ _. on_syn false c o h) (λ _. h)))

      pub on_in : (t : State) (c : Connection) → c.state ≡ t → On c → On (after_arrival_in t default link now keeps s c)
      on_in Closed c e h = h
      on_in Listen c e h = h
      on_in SynSent c e h = on_asking c (h.opens (ap is_syn_sent e)) h
      on_in SynReceived c e h = on_segment c h
      on_in Established c e h = on_segment c h
      on_in FinWait1 c e h = on_segment c h
      on_in FinWait2 c e h = on_segment c h
      on_in CloseWait c e h = on_segment c h
      on_in Closing c e h = on_segment c h
      on_in LastAck c e h = on_segment c h
      on_in TimeWait c e h = on_segment c h

  -- timers
  on_time_wait : (now : ℕ) (c : Connection) → On c → On (after_time_wait now c)
  on_time_wait now c h = either On (has_passed c.timers.ends_at now) (ended None c) c (λ _. on_ended None c h) (λ _. h)

  on_user_timeout : (now : ℕ) (c : Connection) → On c → On (after_user_timeout now c)
  on_user_timeout now c h = either On (has_passed (gives_up_at c) now) (aborted TimedOut c) c (λ _. on_aborted TimedOut c h) (λ _. h)

  on_probe_time : (now : ℕ) (c : Connection) → On c → On (after_probe_time now c)
  on_probe_time now c h =
      let d : Connection = record c {
        estimator = estimator.after_timeout c.estimator;
        timers = record c.timers { resend_at = None; probes = min most_tries (c.timers.probes + 1) };
      } in
      either On (is_unheard c) (aborted TimedOut c) (with_pending Probe d) (λ _. on_aborted TimedOut c h)
      (λ _. on_pending Probe d h)

  on_resend : (now : ℕ) (c : Connection) → On c → On (after_resend_timer now c)
  on_resend now c h =
      either On (not (has_passed c.timers.resend_at now)) c
      (if is_held_back c && not (is_opening c.state) then after_probe_time now c
      else if is_given_up c then aborted TimedOut c
      else after_loss_of_all c) (λ _. h) (λ _.
      either On (is_held_back c && not (is_opening c.state)) (after_probe_time now c)
      (if is_given_up c then aborted TimedOut c else after_loss_of_all c) (λ _. on_probe_time now c h)
      (λ _. either On (is_given_up c) (aborted TimedOut c) (after_loss_of_all c) (λ _. on_aborted TimedOut c h) (λ _. h)))

  on_keep_alive : (now : ℕ) (c : Connection) → On c → On (after_keep_alive now c)
  on_keep_alive now c h =
      let d : Connection = record c { timers = after_question now c.timers } in
      either On (not (has_passed (keep_alive_at c) now)) c
      (if nat_le most_probes c.timers.probes then aborted TimedOut c else with_pending KeepAlive d) (λ _. h) (λ _.
      either On (nat_le most_probes c.timers.probes) (aborted TimedOut c) (with_pending KeepAlive d) (λ _. on_aborted TimedOut c h)
      (λ _. on_pending KeepAlive d h))

  on_probe_timer : (now : ℕ) (c : Connection) → On c → On (with_probe_timer now c)
  on_probe_timer now c h =
      either On (is_none c.timers.resend_at && sends_octets c.state && is_held_back c)
      (record c { timers = record c.timers { resend_at = Some (later now c.estimator.timeout) } }) c (λ _. h) (λ _. h)

  pub on_timers : (now : ℕ) (c : Connection) → On c → On (after_timers now c)
  on_timers now c h =
      let z = after_time_wait now c in
      let a = after_user_timeout now z in
      let b = after_resend_timer now a in
      on_probe_timer now (after_keep_alive now b) (on_keep_alive now b (on_resend now a (on_user_timeout now z (on_time_wait now c h))))

  -- what a program does but for reading
  pub on_closing : (c : Connection) → On c → On (after_closing c)
  on_closing c h =
      let d : Connection = record (with_sender (after_close c.transmission.sender) c) { state = after_program_closes c.state } in
      either On (closes_at_once c.state) (ended None c) (if is_none c.transmission.sender.stop then d else c) (λ _. on_ended None c h) (λ _.
      either On (is_none c.transmission.sender.stop) d c
      (λ _. moved c.state c.reception (after_program_closes c.state) (close_keeps c.state) h) (λ _. h))

  pub on_fits : (size : ℕ) (c : Connection) → On c → On (after_too_long size c)
  on_fits size c h =
      either On (is_too_long size c)
      (record c {
        transmission = record c.transmission {
          nxt = c.transmission.sender.una;
          mss = size_told size c.transmission.path;
          path = path_told size c.transmission.path;
        };
        timers = record c.timers { measured = None };
      })
      c (λ _. h) (λ _. h)

  pub on_fails : (c : Connection) → On c → On (after_unreachable c)
  on_fails c h = either On (is_opening c.state) (aborted Unreachable c) c (λ _. on_aborted Unreachable c h) (λ _. h)

  pub on_abort : (c : Connection) → On c → On (after_abort c)
  on_abort c h = either On (is_closed c.state) c (aborted Aborted c) (λ _. h) (λ _. on_aborted Aborted c h)
