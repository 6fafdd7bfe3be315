-- What is acknowledged (RFC 9293 3.10.7.4, fifth check; RFC 5961 5; RFC 6298 5; RFC 5681 2).
use Rattle.std.specs.Prelude.{ℕ, ◌+◌, ◌-◌, min, max, nat_lt, nat_le, ◌==◌, ◌&&◌, ◌||◌, not, Bool, false, is_none}
use Rattle.std.specs.Prelude.{List, length, Option, Some, None, if◌then◌else◌}
use Rattle.tcp_machine.specs.Instants.{later}
use Rattle.tcp_machine.specs.declared.timers.Timers.{Timers}
use Rattle.tcp_machine.specs.declared.timers.Measured.{Measured}
use Rattle.tcp_machine.specs.declared.timers.Pending.{Pending}
use Rattle.tcp_machine.specs.declared.timers.Pending.TheVariants.{Empty, Challenge, SynAgain, Resend, Probe, KeepAlive, Reset}
use Rattle.tcp_machine.specs.Pieces.{Piece}
use Rattle.tcp_machine.specs.Sending.{Sender, after_position}
use Rattle.tcp_machine.specs.declared.estimator.Estimator.{Estimator}
use Rattle.tcp_machine.specs.Estimator.{after_sample, without_doubling}
use Rattle.tcp_machine.specs.Congestion as congestion
use Rattle.tcp_machine.specs.Scoreboard as scoreboard
use Rattle.net_base.specs.declared.assembler.Range.{Range}
use Rattle.tcp_machine.specs.Path.{mss_acknowledged, path_acknowledged}
use Rattle.tcp_machine.specs.Connection.{Connection, Transmission}
use Rattle.tcp_machine.specs.Segments.{Segment, window_in}
use Rattle.tcp_machine.specs.Windows.{after_window}
use Rattle.tcp_machine.specs.States.{after_end_acknowledged}

-- A segment that is to be sent once: the one that tells more stays
abbrev pub rank : Pending → ℕ
rank Empty = 0
rank Challenge = 1
rank SynAgain = 2
rank KeepAlive = 3
rank Probe = 4
rank Resend = 5
rank (Reset number) = 6

abbrev pub with_pending : Pending → Connection → Connection
with_pending p c = if nat_lt (rank c.pending) (rank p) then record c { pending = p } else c

-- how much is on its way
abbrev pub flight : Transmission → ℕ
flight t = t.nxt - t.sender.una

-- Where an empty segment stands: after all that was sent within the peer's window (SND.NXT). While octets are sent again
-- that is further than what is sent next, since what stands before the octets that have arrived isn't acceptable
abbrev pub empty_position : Transmission → ℕ
empty_position t = max t.nxt (min t.sender.top t.sender.edge)

-- An acknowledgement is believed, if it isn't older than the largest window and not above what was sent:
-- SND.UNA - MAX.SND.WND =< SEG.ACK =< SND.NXT (RFC 5961 5.2)
abbrev pub is_believed : ℕ → Transmission → Bool
is_believed a t = nat_le t.sender.una (a + t.largest_window) && nat_le a t.sender.top

-- a position, if there is one, is acknowledged
abbrev pub is_acknowledged : Option ℕ → ℕ → Bool
is_acknowledged None una = false
is_acknowledged (Some p) una = nat_lt p una

-- the own end is acknowledged
abbrev pub is_end_acknowledged : Sender → Bool
is_end_acknowledged s = is_acknowledged s.stop s.una

-- the round trip is measured by the segment that was being timed, once its last position is acknowledged
abbrev pub after_measured : (shortest now a : ℕ) → Option Measured → Estimator → Estimator
after_measured shortest now a None e = e
after_measured shortest now a (Some m) e = if nat_le m.position a then after_sample shortest (now - m.sent_at) e else e

abbrev pub still_measured : ℕ → Option Measured → Option Measured
still_measured a None = None
still_measured a (Some m) = if nat_le m.position a then None else Some m

-- The timer is off once all that was sent is acknowledged, and begins anew otherwise (RFC 6298 5.2, 5.3)
abbrev pub timers_after_progress : (now timeout a : ℕ) → Sender → Timers → Timers
timers_after_progress now timeout a s t = record t {
  resend_at = if a == s.top then None else Some (later now timeout);
  tries = 0;
  measured = still_measured a t.measured;
  waiting_since = if a == s.top then None else Some now;
}

-- Octets that were sent are acknowledged up to a position. In a recovery that tells of the next loss, unless blocks guide it and that was
-- sent again already
abbrev pub shows_next_loss : ℕ → Connection → Bool
shows_next_loss a c = congestion.shows_a_loss a c.congestion && nat_le c.transmission.resent a

abbrev pub after_progress : (now a window : ℕ) → Connection → Connection
after_progress now a window c =
    let t = c.transmission in
    let e = after_measured c.settings.shortest_timeout now a c.timers.measured c.estimator in
    record c {
      transmission = record t {
        sender = after_position a window t.sender;
        nxt = max t.nxt a;
        mss = mss_acknowledged a t.mss t.path;
        path = path_acknowledged a t.path;
        told = scoreboard.after_acknowledged a t.told;
      };
      estimator = e;
      timers = timers_after_progress now e.timeout a t.sender c.timers;
      congestion = congestion.after_progress c.reception.sack_permitted t.mss (a - t.sender.una) a (max t.nxt a - a) c.congestion;
      pending = if shows_next_loss a c then Resend else c.pending;
    }

-- Whether something that was sent, and for which the peer's window has room, waits to be acknowledged
abbrev pub is_waited_for : Transmission → Bool
is_waited_for t = nat_lt t.sender.una (min t.sender.top t.told_edge)

-- A segment tells nothing new: something is unacknowledged, it carries neither octets nor the end, it acknowledges what is
-- acknowledged already, and tells the window that was told last (RFC 5681 2). What answers a probe of a closed window is none. Where the peer
-- tells blocks these are asked instead
abbrev pub is_duplicate : (a window : ℕ) → Piece → Transmission → Bool
is_duplicate a window p t =
    is_waited_for t && (length p.octets == 0) && not p.ends && (a == t.sender.una) && (a + window == t.told_edge)

abbrev pub after_duplicate : (a window : ℕ) → Piece → Connection → Connection
after_duplicate a window p c =
    let t = c.transmission in
    if not c.reception.sack_permitted && is_duplicate a window p t then
    record c {
      congestion = congestion.after_duplicate t.mss a (flight t) t.sender.top c.congestion;
      pending = if congestion.is_third a c.congestion then Resend else c.pending;
    }
    else record c { transmission = record t { sender = after_position a window t.sender } }

-- what is acknowledged
abbrev pub after_acked : (now a : ℕ) → Segment → Piece → Connection → Connection
after_acked now a s p c =
    if nat_lt c.transmission.sender.una a then after_progress now a (window_in c s) c
    else after_duplicate a (window_in c s) p c

-- then the window, if the acknowledgement isn't older than what was acknowledged already
abbrev pub after_told : (a : ℕ) → Segment → Piece → (before now : Connection) → Connection
after_told a s p c d =
    if nat_le c.transmission.sender.una a
    then record d { transmission = after_window p.start a (window_in c s) d.transmission } else d

-- Then the blocks, where the peer's SYN permitted them and the own one did: what they tell
abbrev pub told_after : Segment → Connection → List Range
told_after s c =
    let t = c.transmission in
    if c.reception.sack_permitted
    then scoreboard.after_blocks c.local t.sender.una t.sender.top s.options.blocks t.told else t.told

abbrev pub with_told : Segment → Connection → Connection
with_told s c = record c { transmission = record c.transmission { told = told_after s c } }

-- the octets between what is acknowledged and what is sent next that are told
abbrev pub octets_told : Transmission → ℕ
octets_told t = scoreboard.told_between t.sender.una t.nxt t.told

-- the first octet that isn't told and wasn't sent again in this recovery, and whether it is lost (RFC 6675 4, NextSeg, rule (1))
abbrev pub next_hole : Transmission → ℕ
next_hole t = min t.sender.top (scoreboard.hole_from (max t.sender.una t.resent) t.told)

abbrev pub is_hole_lost : Transmission → Bool
is_hole_lost t = scoreboard.is_lost t.mss (next_hole t) t.told

-- how much is on its way: neither told, nor lost and not sent again (RFC 6675 4, SetPipe)
abbrev pub pipe : Transmission → ℕ
pipe t = flight t - octets_told t - scoreboard.lost_from t.mss (next_hole t) t.told

-- they tell more than was told (RFC 6675 2)
abbrev pub is_more_told : (before after : Transmission) → Bool
is_more_told before after =
    nat_lt (scoreboard.told_between after.sender.una after.sender.top before.told)
    (scoreboard.told_between after.sender.una after.sender.top after.told)

-- A recovery begins: that is the third time in a row, or the first unacknowledged octet is lost (RFC 6675 5, steps (1) to (4))
abbrev pub is_first_lost : Connection → Bool
is_first_lost c =
    let t = c.transmission in
    not c.congestion.is_recovering && nat_lt c.congestion.recover t.sender.una && scoreboard.is_lost t.mss t.sender.una t.told

abbrev pub begins_recovery : Connection → Bool
begins_recovery c = congestion.is_third c.transmission.sender.una c.congestion || is_first_lost c

-- In one the next hole that is lost is sent again, as far as the window has room for what is on its way (step (C))
abbrev pub is_hole_due : Connection → Bool
is_hole_due c =
    c.congestion.is_recovering && is_hole_lost c.transmission
    && nat_le (pipe c.transmission + c.transmission.mss) c.congestion.window

-- what follows, where they may tell more, and a hole may be due
abbrev pub after_more : (is_more is_due : Bool) → Connection → Connection
after_more is_more is_due c =
    let t = c.transmission in
    let begins = is_more && begins_recovery c in
    record c {
      transmission = record t { resent = if begins then t.sender.una else t.resent };
      congestion =
          if begins then congestion.after_loss_told t.mss (min (flight t) c.congestion.window) t.sender.top
          else if is_more then congestion.after_more_told c.congestion
          else c.congestion;
      pending = if begins || is_due then Resend else c.pending;
    }

abbrev pub after_blocks : Segment → Connection → Connection
after_blocks s c =
    let is_permitted = c.reception.sack_permitted in
    let d = with_told s c in
    after_more (is_permitted && is_more_told c.transmission d.transmission) (is_permitted && is_hole_due d) d

-- and then the state, if the own end is acknowledged
abbrev pub after_end : Connection → Connection
after_end c =
    if is_end_acknowledged c.transmission.sender then record c { state = after_end_acknowledged c.state } else c

-- The peer has let something wait from the first segment on that it didn't answer. An acknowledgement ends that, unless something
-- for which the window has room stays unacknowledged; and where the window had no room before, the wait begins anew
abbrev pub since_first : ℕ → Option ℕ → Option ℕ
since_first now since = if is_none since then Some now else since

abbrev pub waiting_after : ℕ → (before after : Transmission) → Option ℕ → Option ℕ
waiting_after now before after since =
    if is_waited_for after then (if is_waited_for before then since_first now since else Some now) else None

-- The peer's window was closed, and is open. What waits goes now, so it has the time-out that was measured, not the one that
-- probes doubled
abbrev pub is_closed_window : Transmission → Bool
is_closed_window t = nat_le t.told_edge t.sender.una

abbrev pub opens : (before after : Transmission) → Bool
opens before after = is_closed_window before && not (is_closed_window after)

abbrev pub timeout_after : (opened : Bool) → (shortest : ℕ) → Estimator → ℕ
timeout_after opened shortest e = if opened then (without_doubling shortest e).timeout else e.timeout

abbrev pub resend_after : (opened : Bool) → (now timeout : ℕ) → Option ℕ → Option ℕ
resend_after opened now timeout None = None
resend_after opened now timeout (Some t) = Some (if opened then later now timeout else t)

abbrev pub with_waiting : ℕ → (before : Transmission) → Connection → Connection
with_waiting now before c =
    let opened = opens before c.transmission in
    let timeout = timeout_after opened c.settings.shortest_timeout c.estimator in
    record c {
      estimator = record c.estimator { timeout = timeout };
      timers = record c.timers {
        resend_at = resend_after opened now timeout c.timers.resend_at;
        waiting_since = waiting_after now before c.transmission c.timers.waiting_since;
      };
    }

-- what an acknowledgement that is believed changes
abbrev pub after_acknowledgement : (now a : ℕ) → Segment → Piece → Connection → Connection
after_acknowledgement now a s p c =
    after_end (with_waiting now c.transmission (after_blocks s (after_told a s p c (after_acked now a s p c))))
