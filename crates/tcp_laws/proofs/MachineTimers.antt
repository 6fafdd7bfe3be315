-- What timers, and a program that closes or aborts, leave; and a segment that arrives in SYN-SENT.
use Rattle.std.proofs.Common.{◌≡◌, ◌≤◌, ◌+◌, ℕ, Bool, true, false}
use Rattle.std.proofs.Common.{refl, sym, ap, ◌∙◌, arith, Option, Some, None, inl, inr}
use Rattle.std.specs.Prelude.{min, nat_le, nat_lt, ◌&&◌, ◌||◌, not, ◌⊎◌, is_some, is_none, if◌then◌else◌}
use Rattle.tcp_machine.specs.declared.state.State.{State}
use Rattle.tcp_machine.specs.declared.state.State.TheVariants.{Closed, Listen, SynSent, SynReceived, Established, FinWait1}
use Rattle.tcp_machine.specs.declared.state.State.TheVariants.{FinWait2, CloseWait, Closing, LastAck, TimeWait}
use Rattle.tcp_machine.specs.declared.timers.Pending.{Pending}
use Rattle.tcp_machine.specs.declared.timers.Pending.TheVariants.{Reset, Probe, KeepAlive}
use Rattle.tcp_machine.specs.declared.timers.Ending.{Ending}
use Rattle.tcp_machine.specs.declared.timers.Ending.TheVariants.{Refused, TimedOut, Aborted, Unreachable}
use Rattle.tcp_machine.specs.Instants.{later, has_passed}
use Rattle.tcp_machine.specs.Positions.{number_at}
use Rattle.tcp_machine.specs.Sending.{after_close}
use Rattle.tcp_machine.specs.States.{is_opening, is_synchronized, sends_octets, after_program_closes}
use Rattle.tcp_machine.specs.Connection.{Connection, most_tries}
use Rattle.tcp_machine.specs.Segments.{Segment}
use Rattle.tcp_machine.specs.Estimator as estimator
use Rattle.tcp_machine.specs.Acknowledgements.{rank, with_pending, empty_position}
use Rattle.tcp_machine.specs.Arrivals.{is_time_wait, is_syn_received, is_closed, ended, aborted, established, heard}
use Rattle.tcp_machine.specs.Opening.{with_syn, is_acknowledgement_of_syn, after_wrong_ack, after_syn, after_arrival_in_syn_sent}
use Rattle.tcp_machine.specs.Timers.{is_held_back, with_probe_timer, is_given_up, after_loss_of_all, is_unheard, after_user_timeout, gives_up_at}
use Rattle.tcp_machine.specs.Timers.{after_probe_time, after_resend_timer, most_probes, keep_alive_at, asked_at, after_question}
use Rattle.tcp_machine.specs.Timers.{is_all_acknowledged, after_keep_alive}
use Rattle.tcp_machine.specs.Timers.{after_time_wait, after_timers}
use Rattle.tcp_machine.specs.Calls.{with_sender, closes_at_once, after_closing, after_abort}
use Rattle.tcp_machine.specs.Outgoing.{is_syn_sent}
use Rattle.tcp_machine.specs.Path.{size_told, path_told}
use Rattle.tcp_machine.specs.Reports.{is_too_long, after_too_long, after_unreachable}
use Rattle.tcp_laws.proofs.ReceivingSteps.{false_true, first_of_two}
use Rattle.tcp_laws.proofs.MachineStands.{Given, Streams, Knows, Asks, IsGone, Good}
use Rattle.tcp_laws.proofs.MachineStreams.{edged, closed}
use Rattle.tcp_laws.proofs.MachineArrivals.{either, last_of, is_established, knows_pending, knows_ended, knows_aborted}

-- from any phase
pub is_ended : (g : Given) (why : Option Ending) (c : Connection) → c.local ≡ g.i → Streams g c.transmission.sender c.reception.receiver →
    IsGone g (ended why c)
is_ended g why c l h = (record { state = refl; pending = refl; resend_at = refl; local = l }, h)

pub is_aborted : (g : Given) (why : Ending) (c : Connection) → c.local ≡ g.i → Streams g c.transmission.sender c.reception.receiver →
    IsGone g (aborted why c)
is_aborted g why c l h =
    either (IsGone g) (is_synchronized c.state || is_syn_received c.state)
    (record (ended (Some why) c) { pending = Reset (number_at c.local (empty_position c.transmission)) }) (ended (Some why) c)
    (λ _. (record { state = refl; pending = refl; resend_at = refl; local = l }, h)) (λ _. is_ended g (Some why) c l h)

pub asks_pending : (g : Given) (p : Pending) (c : Connection) → Asks g c → Asks g (with_pending p c)
asks_pending g p c h = either (Asks g) (nat_lt (rank c.pending) (rank p)) (record c { pending = p }) c (λ _. h) (λ _. h)

-- each timer in turn: TIME-WAIT
time_wait : (g : Given) (now : ℕ) (c : Connection) → Good g c → Good g (after_time_wait now c)
time_wait g now c (inl h) =
    inl (either (Knows g) (has_passed c.timers.ends_at now) (ended None c) c (λ _. knows_ended g None c h) (λ _. h))
time_wait g now c (inr (inl h)) =
    either (Good g) (has_passed c.timers.ends_at now) (ended None c) c (λ _. inr (inr (is_ended g None c h.0.local h.1)))
    (λ _. inr (inl h))
time_wait g now c (inr (inr h)) =
    inr (inr (either (IsGone g) (has_passed c.timers.ends_at now) (ended None c) c (λ _. is_ended g None c h.0.local h.1) (λ _. h)))

-- retransmission
first_again : (b : Bool) (u t : ℕ) → u ≤ t → (if b then 0 else u) ≤ t
first_again true u t h = omega arith
first_again false u t h = h

not_first : (s : State) (u : ℕ) → is_synchronized s ≡ true → u ≤ (if is_opening s then 0 else u)
not_first Closed u e = false_true e
not_first Listen u e = false_true e
not_first SynSent u e = false_true e
not_first SynReceived u e = false_true e
not_first Established u e = omega arith
not_first FinWait1 u e = omega arith
not_first FinWait2 u e = omega arith
not_first CloseWait u e = omega arith
not_first Closing u e = omega arith
not_first LastAck u e = omega arith
not_first TimeWait u e = omega arith

knows_loss : (g : Given) (c : Connection) → Knows g c → Knows g (after_loss_of_all c)
knows_loss g c h =
    let s = c.transmission.sender in
    let t = h.1.own.sender.una_top in
    let k = h.0 in (
      record {
        local = k.local;
        remote = k.remote;
        nxt = first_again (is_opening c.state) s.una s.top t;
        una = λ e. not_first c.state s.una e;
        opening = k.opening;
        asks = k.asks;
      },
      h.1,
    )

asks_loss : (g : Given) (c : Connection) → Asks g c → Asks g (after_loss_of_all c)
asks_loss g c h =
    let s = c.transmission.sender in
    let t = h.1.own.sender.una_top in
    let k = h.0 in (
      record { local = k.local; state = k.state; nxt = first_again (is_opening c.state) s.una s.top t; una = k.una },
      h.1,
    )

abbrev pub probing : Connection → Connection
probing c = record c {
  estimator = estimator.after_timeout c.estimator;
  timers = record c.timers { resend_at = None; probes = min most_tries (c.timers.probes + 1) };
}

none_passed : {P : Type 0} (o : Option ℕ) (now : ℕ) → o ≡ None → not (has_passed o now) ≡ false → P
none_passed o now e f = false_true (sym f ∙ ap (λ o. not (has_passed o now)) e)

probe_time : (g : Given) (now : ℕ) (c : Connection) → (Knows g c ⊎ Asks g c) → Good g (after_probe_time now c)
probe_time g now c (inl h) =
    inl (either (Knows g) (is_unheard c) (aborted TimedOut c) (with_pending Probe (probing c))
    (λ _. knows_aborted g TimedOut c h) (λ _. knows_pending g Probe (probing c) h))
probe_time g now c (inr h) =
    either (Good g) (is_unheard c) (aborted TimedOut c) (with_pending Probe (probing c))
    (λ _. inr (inr (is_aborted g TimedOut c h.0.local h.1))) (λ _. inr (inl (asks_pending g Probe (probing c) h)))

resend : (g : Given) (now : ℕ) (c : Connection) → Good g c → Good g (after_resend_timer now c)
resend g now c h = by h where
  by : Good g c → Good g (after_resend_timer now c)
  by (inl h) =
      either (Good g) (not (has_passed c.timers.resend_at now)) c
      (if is_held_back c && not (is_opening c.state) then after_probe_time now c
      else if is_given_up c then aborted TimedOut c else after_loss_of_all c) (λ _. inl h) (λ _.
      either (Good g) (is_held_back c && not (is_opening c.state)) (after_probe_time now c)
      (if is_given_up c then aborted TimedOut c else after_loss_of_all c) (λ _. probe_time g now c (inl h)) (λ _.
      either (Good g) (is_given_up c) (aborted TimedOut c) (after_loss_of_all c) (λ _. inl (knows_aborted g TimedOut c h))
      (λ _. inl (knows_loss g c h))))
  by (inr (inl h)) =
      either (Good g) (not (has_passed c.timers.resend_at now)) c
      (if is_held_back c && not (is_opening c.state) then after_probe_time now c
      else if is_given_up c then aborted TimedOut c else after_loss_of_all c) (λ _. inr (inl h)) (λ _.
      either (Good g) (is_held_back c && not (is_opening c.state)) (after_probe_time now c)
      (if is_given_up c then aborted TimedOut c else after_loss_of_all c) (λ _. probe_time g now c (inr h)) (λ _.
      either (Good g) (is_given_up c) (aborted TimedOut c) (after_loss_of_all c)
      (λ _. inr (inr (is_aborted g TimedOut c h.0.local h.1))) (λ _. inr (inl (asks_loss g c h)))))
  by (inr (inr h)) =
      either (Good g) (not (has_passed c.timers.resend_at now)) c
      (if is_held_back c && not (is_opening c.state) then after_probe_time now c
      else if is_given_up c then aborted TimedOut c else after_loss_of_all c) (λ _. inr (inr h))
      (λ e. none_passed c.timers.resend_at now h.0.resend_at e)

-- the program's time-out
user_timeout : (g : Given) (now : ℕ) (c : Connection) → Good g c → Good g (after_user_timeout now c)
user_timeout g now c h = either (Good g) (has_passed (gives_up_at c) now) (aborted TimedOut c) c (λ _. by h) (λ _. h) where
  by : Good g c → Good g (aborted TimedOut c)
  by (inl h) = inl (knows_aborted g TimedOut c h)
  by (inr (inl h)) = inr (inr (is_aborted g TimedOut c h.0.local h.1))
  by (inr (inr h)) = inr (inr (is_aborted g TimedOut c h.0.local h.1))

-- keep-alive
abbrev pub once_more : ℕ → Connection → Connection
once_more now c = record c { timers = after_question now c.timers }

not_kept : (c : Connection) → c.state ≡ Closed → keep_alive_at c ≡ None
not_kept c e =
    ap (λ s. if is_synchronized s && not (is_time_wait s) && is_all_acknowledged c.transmission.sender
    then asked_at c.settings.keep_alive c.timers else None) e

keep_alive : (g : Given) (now : ℕ) (c : Connection) → Good g c → Good g (after_keep_alive now c)
keep_alive g now c (inl h) =
    inl (either (Knows g) (not (has_passed (keep_alive_at c) now)) c
    (if nat_le most_probes c.timers.probes then aborted TimedOut c else with_pending KeepAlive (once_more now c)) (λ _. h) (λ _.
    either (Knows g) (nat_le most_probes c.timers.probes) (aborted TimedOut c) (with_pending KeepAlive (once_more now c))
    (λ _. knows_aborted g TimedOut c h) (λ _. knows_pending g KeepAlive (once_more now c) h)))
keep_alive g now c (inr (inl h)) =
    either (Good g) (not (has_passed (keep_alive_at c) now)) c
    (if nat_le most_probes c.timers.probes then aborted TimedOut c else with_pending KeepAlive (once_more now c)) (λ _. inr (inl h)) (λ _.
    either (Good g) (nat_le most_probes c.timers.probes) (aborted TimedOut c) (with_pending KeepAlive (once_more now c))
    (λ _. inr (inr (is_aborted g TimedOut c h.0.local h.1))) (λ _. inr (inl (asks_pending g KeepAlive (once_more now c) h))))
keep_alive g now c (inr (inr h)) =
    either (Good g) (not (has_passed (keep_alive_at c) now)) c
    (if nat_le most_probes c.timers.probes then aborted TimedOut c else with_pending KeepAlive (once_more now c)) (λ _. inr (inr h))
    (λ e. none_passed (keep_alive_at c) now (not_kept c h.0.state) e)

-- the timer of a closed window
middle : (a b c : Bool) → a && b && c ≡ true → b ≡ true
middle true true c h = refl
middle true false c h = h
middle false b c h = false_true h

pub not_sending : {P : Type 0} (s : State) → s ≡ Closed → sends_octets s ≡ true → P
not_sending s e h = false_true (sym (ap sends_octets e) ∙ h)

probe_timer : (g : Given) (now : ℕ) (c : Connection) → Good g c → Good g (with_probe_timer now c)
probe_timer g now c (inl h) =
    inl (either (Knows g) (is_none c.timers.resend_at && sends_octets c.state && is_held_back c)
    (record c { timers = record c.timers { resend_at = Some (later now c.estimator.timeout) } }) c (λ _. h) (λ _. h))
probe_timer g now c (inr (inl h)) =
    inr (inl (either (Asks g) (is_none c.timers.resend_at && sends_octets c.state && is_held_back c)
    (record c { timers = record c.timers { resend_at = Some (later now c.estimator.timeout) } }) c (λ _. h) (λ _. h)))
probe_timer g now c (inr (inr h)) =
    inr (inr (either (IsGone g) (is_none c.timers.resend_at && sends_octets c.state && is_held_back c)
    (record c { timers = record c.timers { resend_at = Some (later now c.estimator.timeout) } }) c
    (λ e. not_sending c.state h.0.state (middle (is_none c.timers.resend_at) (sends_octets c.state) (is_held_back c) e))
    (λ _. h)))

pub expires : (g : Given) (now : ℕ) (c : Connection) → Good g c → Good g (after_timers now c)
expires g now c h =
    let z = after_time_wait now c in
    let a = after_user_timeout now z in
    let b = after_resend_timer now a in
    probe_timer g now (after_keep_alive now b) (keep_alive g now b (resend g now a (user_timeout g now z (time_wait g now c h))))

-- the program closes
closing_synchronized : (s : State) → is_synchronized (after_program_closes s) ≡ true → is_synchronized s ≡ true
closing_synchronized Closed h = h
closing_synchronized Listen h = h
closing_synchronized SynSent h = h
closing_synchronized SynReceived h = h
closing_synchronized Established h = refl
closing_synchronized FinWait1 h = refl
closing_synchronized FinWait2 h = refl
closing_synchronized CloseWait h = refl
closing_synchronized Closing h = refl
closing_synchronized LastAck h = refl
closing_synchronized TimeWait h = refl

closing_opening : (s : State) → is_opening (after_program_closes s) ≡ true → is_opening s ≡ true
closing_opening Closed h = h
closing_opening Listen h = h
closing_opening SynSent h = refl
closing_opening SynReceived h = refl
closing_opening Established h = h
closing_opening FinWait1 h = h
closing_opening FinWait2 h = h
closing_opening CloseWait h = h
closing_opening Closing h = h
closing_opening LastAck h = h
closing_opening TimeWait h = h

closing_asks : (s : State) → is_syn_sent (after_program_closes s) ≡ false
closing_asks Closed = refl
closing_asks Listen = refl
closing_asks SynSent = refl
closing_asks SynReceived = refl
closing_asks Established = refl
closing_asks FinWait1 = refl
closing_asks FinWait2 = refl
closing_asks CloseWait = refl
closing_asks Closing = refl
closing_asks LastAck = refl
closing_asks TimeWait = refl

pub is_open : (o : Option ℕ) → is_none o ≡ true → o ≡ None
is_open None h = refl
is_open (Some e) h = false_true h

abbrev closed_by_program : Connection → Connection
closed_by_program c = record (with_sender (after_close c.transmission.sender) c) { state = after_program_closes c.state }

not_at_once : {P : Type 0} (s t : State) → s ≡ t → closes_at_once t ≡ true → closes_at_once s ≡ false → P
not_at_once s t e f h = false_true (sym h ∙ ap closes_at_once e ∙ f)

pub closes_down : (g : Given) (c : Connection) → Good g c → Good g (after_closing c)
closes_down g c (inl h) =
    let k = h.0 in
    inl (either (Knows g) (closes_at_once c.state) (ended None c)
    (if is_none c.transmission.sender.stop then closed_by_program c else c) (λ _. knows_ended g None c h) (λ _.
    either (Knows g) (is_none c.transmission.sender.stop) (closed_by_program c) c (λ e. (
      record {
        local = k.local;
        remote = k.remote;
        nxt = k.nxt;
        una = λ f. k.una (closing_synchronized c.state f);
        opening = λ f. k.opening (closing_opening c.state f);
        asks = closing_asks c.state;
      },
      closed g c.transmission.sender c.reception.receiver (is_open c.transmission.sender.stop e) h.1,
    )) (λ _. h)))
closes_down g c (inr (inl h)) =
    either (Good g) (closes_at_once c.state) (ended None c) (if is_none c.transmission.sender.stop then closed_by_program c else c)
    (λ _. inr (inr (is_ended g None c h.0.local h.1))) (λ e. not_at_once c.state SynSent h.0.state refl e)
closes_down g c (inr (inr h)) =
    either (Good g) (closes_at_once c.state) (ended None c) (if is_none c.transmission.sender.stop then closed_by_program c else c)
    (λ _. inr (inr (is_ended g None c h.0.local h.1))) (λ e. not_at_once c.state Closed h.0.state refl e)

-- it aborts
pub aborts : (g : Given) (c : Connection) → Good g c → Good g (after_abort c)
aborts g c (inl h) =
    inl (either (Knows g) (is_closed c.state) c (aborted Aborted c) (λ _. h) (λ _. knows_aborted g Aborted c h))
aborts g c (inr (inl h)) =
    either (Good g) (is_closed c.state) c (aborted Aborted c) (λ _. inr (inl h))
    (λ _. inr (inr (is_aborted g Aborted c h.0.local h.1)))
aborts g c (inr (inr h)) =
    inr (inr (either (IsGone g) (is_closed c.state) c (aborted Aborted c) (λ _. h) (λ _. is_aborted g Aborted c h.0.local h.1)))

-- somebody says that segments are too long
abbrev shorter : ℕ → Connection → Connection
shorter size c = record c {
  transmission = record c.transmission {
    nxt = c.transmission.sender.una;
    mss = size_told size c.transmission.path;
    path = path_told size c.transmission.path;
  };
  timers = record c.timers { measured = None };
}

pub told_shorter : (g : Given) (size : ℕ) (c : Connection) → Good g c → Good g (after_too_long size c)
told_shorter g size c (inl h) =
    let t = h.1.own.sender.una_top in
    let k = h.0 in
    inl (either (Knows g) (is_too_long size c) (shorter size c) c (λ _. (
      record { local = k.local; remote = k.remote; nxt = t; una = λ _. omega arith; opening = k.opening; asks = k.asks },
      h.1,
    )) (λ _. h))
told_shorter g size c (inr (inl h)) =
    let t = h.1.own.sender.una_top in
    let k = h.0 in
    inr (inl (either (Asks g) (is_too_long size c) (shorter size c) c
    (λ _. (record { local = k.local; state = k.state; nxt = t; una = k.una }, h.1)) (λ _. h)))
told_shorter g size c (inr (inr h)) =
    inr (inr (either (IsGone g) (is_too_long size c) (shorter size c) c
    (λ _. (record { local = h.0.local; state = h.0.state; pending = h.0.pending; resend_at = h.0.resend_at }, h.1)) (λ _. h)))

-- or that the peer can't be reached
pub fails : (g : Given) (c : Connection) → Good g c → Good g (after_unreachable c)
fails g c h = either (Good g) (is_opening c.state) (aborted Unreachable c) c (λ _. by h) (λ _. h) where
  by : Good g c → Good g (aborted Unreachable c)
  by (inl h) = inl (knows_aborted g Unreachable c h)
  by (inr (inl h)) = inr (inr (is_aborted g Unreachable c h.0.local h.1))
  by (inr (inr h)) = inr (inr (is_aborted g Unreachable c h.0.local h.1))

not_set : (b : Bool) → not b ≡ true → b ≡ false
not_set true e = sym e
not_set false e = refl

-- a segment arrives in SYN-SENT
module _ (g : Given) (default link now : ℕ) (s : Segment) (c : Connection) (h : Asks g c)
    (number : s.rst ≡ false → s.syn ≡ true → s.number ≡ number_at g.j 0) where
  with_edge : Streams g (with_syn default link s (heard now c)).transmission.sender c.reception.receiver
  with_edge = edged g c.transmission.sender c.reception.receiver c.transmission.sender.ring (1 + s.window) refl h.1

  -- with the peer's SYN
  met : s.rst ≡ false → s.syn ≡ true → Knows g (record (with_syn default link s (heard now c)) { state = SynReceived })
  met no_reset syn =
      let k = h.0 in (
        record {
          local = k.local;
          remote = number no_reset syn;
          nxt = k.nxt;
          una = λ e. false_true e;
          opening = λ _. k.una;
          asks = refl;
        },
        with_edge,
      )

  -- and the acknowledgement of the own one
  answered : s.rst ≡ false → s.syn ≡ true → Knows g (established (with_syn default link s (heard now c)))
  answered no_reset syn =
      let d : Connection = record (with_syn default link s (heard now c)) { state = SynReceived } in
      (is_established g d (met no_reset syn) (λ e. false_true (sym e))).0

  wrong : (o : Option ℕ) → Good g (after_wrong_ack o s c)
  wrong None = inr (inl h)
  wrong (Some n) = inr (inl (either (Asks g) s.rst c (with_pending (Reset n) c) (λ _. h) (λ _. asks_pending g (Reset n) c h)))

  others : Good g (if is_some s.ack then after_wrong_ack s.ack s c else if s.syn && not s.rst then after_syn default link now false s c else c)
  others =
      either (Good g) (is_some s.ack) (after_wrong_ack s.ack s c) (if s.syn && not s.rst then after_syn default link now false s c else c)
      (λ _. wrong s.ack) (λ _.
      either (Good g) (s.syn && not s.rst) (after_syn default link now false s c) c (λ e. inl (met (not_set s.rst (last_of s.syn (not s.rst) e)) (first_of_two s.syn (not s.rst) e)))
      (λ _. inr (inl h)))

  pub gets_asking : Good g (after_arrival_in_syn_sent default link now s c)
  gets_asking =
      either (Good g) (is_acknowledgement_of_syn s c)
      (if s.rst then ended (Some Refused) c else if s.syn then after_syn default link now true s c else c)
      (if is_some s.ack then after_wrong_ack s.ack s c else if s.syn && not s.rst then after_syn default link now false s c else c) (λ _.
      either (Good g) s.rst (ended (Some Refused) c) (if s.syn then after_syn default link now true s c else c)
      (λ _. inr (inr (is_ended g (Some Refused) c h.0.local h.1))) (λ no_reset.
      either (Good g) s.syn (after_syn default link now true s c) c
      (λ syn. inl (answered no_reset syn))
      (λ _. inr (inl h)))) (λ _. others)
