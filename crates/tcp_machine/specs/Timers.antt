-- What happens by itself when a timer has ended: retransmission (RFC 6298 5), probes of a closed window (RFC 9293 3.8.6.1),
-- what too small a window held back (3.8.6.2.1), keep-alive (3.8.4), the user time-out (3.8.3) and TIME-WAIT (3.4.2).
use Rattle.std.specs.Prelude.{ℕ, ◌+◌, min, nat_lt, nat_le, ◌==◌, ◌&&◌, not, Bool, []}
use Rattle.std.specs.Prelude.{length, Option, Some, None, is_none, is_some, if◌then◌else◌}
use Rattle.tcp_machine.specs.Instants.{later, has_passed}
use Rattle.tcp_machine.specs.declared.timers.Timers.{Timers}
use Rattle.tcp_machine.specs.declared.timers.Pending.TheVariants.{Probe, KeepAlive}
use Rattle.tcp_machine.specs.declared.timers.Ending.TheVariants.{TimedOut}
use Rattle.tcp_machine.specs.Sending.{Sender}
use Rattle.tcp_machine.specs.Estimator as estimator
use Rattle.tcp_machine.specs.Congestion as congestion
use Rattle.tcp_machine.specs.Path.{is_black_hole, path_shortened}
use Rattle.tcp_machine.specs.States.{is_synchronized, is_opening, sends_octets}
use Rattle.tcp_machine.specs.Connection.{Connection, most_tries}
use Rattle.tcp_machine.specs.Acknowledgements.{with_pending, flight}
use Rattle.tcp_machine.specs.Arrivals.{ended, aborted, is_time_wait}
use Rattle.tcp_machine.specs.Outgoing.{next_piece, is_worth_sending}

-- octets, or the end, wait to be sent for the first time
abbrev pub has_unsent : Sender → ℕ → Bool
has_unsent s nxt = nat_lt nxt (s.una + length s.ring + (if is_some s.stop then 1 else 0))

-- nothing is on its way, and what waits isn't sent now: the window has no room for it, or for less than is worth sending
abbrev pub is_held_back : Connection → Bool
is_held_back c =
    (flight c.transmission == 0) && has_unsent c.transmission.sender c.transmission.nxt && not (is_worth_sending c (next_piece c))

-- The timer runs while all is held back, too: else nothing would ever be sent again, if the peer's word that its window
-- opens is lost (RFC 9293 3.8.6.1; 3.8.6.2.1, rule (4), of which this is the override time-out)
abbrev pub with_probe_timer : ℕ → Connection → Connection
with_probe_timer now c =
    if is_none c.timers.resend_at && sends_octets c.state && is_held_back c
    then record c { timers = record c.timers { resend_at = Some (later now c.estimator.timeout) } } else c

-- When the program's time-out ends: the peer has let something wait for so long (RFC 9293 3.8.3)
abbrev pub waited_until : Option ℕ → Option ℕ → Option ℕ
waited_until None since = None
waited_until (Some timeout) None = None
waited_until (Some timeout) (Some since) = Some (later since timeout)

abbrev pub gives_up_at : Connection → Option ℕ
gives_up_at c = waited_until c.settings.timeout c.timers.waiting_since

abbrev pub after_user_timeout : ℕ → Connection → Connection
after_user_timeout now c = if has_passed (gives_up_at c) now then aborted TimedOut c else c

-- without such a time-out a connection is given up after so many tries
abbrev pub is_given_up : Connection → Bool
is_given_up c = is_none c.settings.timeout && nat_le most_tries c.timers.tries

abbrev pub with_next_try : Timers → Timers
with_next_try t = record t { resend_at = None; tries = min most_tries (t.tries + 1); measured = None }

-- segments are shortened where the path may be a black hole; the own SYN is short
abbrev pub is_shortened : Connection → Bool
is_shortened c = not (is_opening c.state) && is_black_hole c.timers.tries c.transmission.mss c.transmission.path

abbrev pub mss_after_loss : Connection → ℕ
mss_after_loss c = if is_shortened c then c.transmission.path.least else c.transmission.mss

-- All from the first unacknowledged position on is sent again, and the time-out is doubled (RFC 6298 5.4 to 5.6). What blocks told is
-- forgotten, since the peer may have dropped it (RFC 2018 8)
abbrev pub after_loss_of_all : Connection → Connection
after_loss_of_all c = record c {
  transmission = record c.transmission {
    nxt = if is_opening c.state then 0 else c.transmission.sender.una;
    mss = mss_after_loss c;
    path = if is_shortened c then path_shortened c.transmission.sender.una c.transmission.path else c.transmission.path;
    told = [];
    resent = 0;
  };
  estimator = estimator.after_timeout c.estimator;
  congestion =
      if is_opening c.state then congestion.after_lost_syn (mss_after_loss c) c.congestion
      else congestion.after_timeout (c.timers.tries == 0) (mss_after_loss c) (flight c.transmission) c.transmission.sender.top
      c.congestion;
  timers = with_next_try c.timers;
}

-- The peer is probed. Its window may stay closed for as long as it answers (RFC 9293 3.8.6.1); without a time-out it is given up
-- after so many probes that it didn't answer
abbrev pub is_unheard : Connection → Bool
is_unheard c = is_none c.settings.timeout && nat_le most_tries c.timers.probes

abbrev pub after_probe_time : ℕ → Connection → Connection
after_probe_time now c =
    if is_unheard c then aborted TimedOut c
    else with_pending Probe (record c {
      estimator = estimator.after_timeout c.estimator;
      timers = record c.timers { resend_at = None; probes = min most_tries (c.timers.probes + 1) };
    })

abbrev pub after_resend_timer : ℕ → Connection → Connection
after_resend_timer now c =
    if not (has_passed c.timers.resend_at now) then c
    else if is_held_back c && not (is_opening c.state) then after_probe_time now c
    else if is_given_up c then aborted TimedOut c
    else after_loss_of_all c

-- While nothing that was sent is unacknowledged, the peer is asked whether it is still there after each interval in which
-- nothing arrived, and given up an interval after the ninth of these (RFC 9293 3.8.4)
abbrev pub most_probes : ℕ
most_probes = 9

abbrev pub is_all_acknowledged : Sender → Bool
is_all_acknowledged s = nat_le s.top s.una

abbrev pub is_kept_alive : Connection → Bool
is_kept_alive c = is_synchronized c.state && not (is_time_wait c.state) && is_all_acknowledged c.transmission.sender

abbrev pub asked_at : Option ℕ → Timers → Option ℕ
asked_at None t = None
asked_at (Some interval) t = Some (later t.idle_since interval)

abbrev pub keep_alive_at : Connection → Option ℕ
keep_alive_at c = if is_kept_alive c then asked_at c.settings.keep_alive c.timers else None

abbrev pub after_question : ℕ → Timers → Timers
after_question now t = record t { probes = min most_tries (t.probes + 1); idle_since = now }

abbrev pub after_keep_alive : ℕ → Connection → Connection
after_keep_alive now c =
    if not (has_passed (keep_alive_at c) now) then c
    else if nat_le most_probes c.timers.probes then aborted TimedOut c
    else with_pending KeepAlive (record c { timers = after_question now c.timers })

abbrev pub after_time_wait : ℕ → Connection → Connection
after_time_wait now c = if has_passed c.timers.ends_at now then ended None c else c

-- Where all is acknowledged, and nothing was sent for a time-out, no acknowledgements pace what is sent next (RFC 5681 4.1)
abbrev pub is_unpaced : ℕ → Connection → Bool
is_unpaced now c = is_all_acknowledged c.transmission.sender && nat_le (later c.timers.sent_at c.estimator.timeout) now

abbrev pub with_restart_window : ℕ → Connection → Connection
with_restart_window now c = record c {
  congestion = record c.congestion {
    window =
        if is_unpaced now c then congestion.restart_window c.transmission.mss c.congestion.window else c.congestion.window;
  };
}

-- all timers, at an instant
abbrev pub after_timers : ℕ → Connection → Connection
after_timers now c =
    with_restart_window now
    (with_probe_timer now (after_keep_alive now (after_resend_timer now (after_user_timeout now (after_time_wait now c)))))
