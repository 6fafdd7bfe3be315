-- Rules of the machine, by the parts of a segment that they ask for.
use Rattle.std.specs.Prelude.{ℕ, ◌+◌, ◌==◌, ◌&&◌, not, Bool, nat_lt, Some, None, if◌then◌else◌}
use Rattle.tcp_machine.specs.declared.timers.Pending.TheVariants.{Resend, Reset}
use Rattle.tcp_machine.specs.Segments.{Segment}
use Rattle.tcp_machine.specs.Arrivals.{established, after_position_acknowledged}
use Rattle.tcp_machine.specs.Pieces.{Piece}
use Rattle.tcp_machine.specs.Positions.{number_at}
use Rattle.tcp_machine.specs.Sending.{after_position}
use Rattle.tcp_machine.specs.Congestion as congestion
use Rattle.tcp_machine.specs.Connection.{Connection, Transmission}
use Rattle.tcp_machine.specs.Acknowledgements.{flight, after_progress, with_pending, is_closed_window, is_waited_for, resend_after, since_first, timeout_after}

-- an acknowledgement tells nothing new, if the segment is empty
abbrev pub tells_nothing : (a window : ℕ) → (is_empty : Bool) → Transmission → Bool
tells_nothing a window is_empty t = is_waited_for t && is_empty && (a == t.sender.una) && (a + window == t.told_edge)

abbrev pub after_old_position : (a window : ℕ) → (is_empty : Bool) → Connection → Connection
after_old_position a window is_empty c =
    let t = c.transmission in
    if not c.reception.sack_permitted && tells_nothing a window is_empty t then
    record c {
      congestion = congestion.after_duplicate t.mss a (flight t) t.sender.top c.congestion;
      pending = if congestion.is_third a c.congestion then Resend else c.pending;
    }
    else record c { transmission = record t { sender = after_position a window t.sender } }

abbrev pub after_position_of : (now a window len : ℕ) → (ends : Bool) → Connection → Connection
after_position_of now a window len ends c =
    if nat_lt c.transmission.sender.una a then after_progress now a window c
    else after_old_position a window ((len == 0) && not ends) c

-- what waits to be acknowledged, where it is known whether something did before
abbrev pub with_waiting_from : (now : ℕ) → (was_waited_for : Bool) → Connection → Connection
with_waiting_from now was_waited_for c = record c {
  timers = record c.timers {
    waiting_since =
        if is_waited_for c.transmission
        then (if was_waited_for then since_first now c.timers.waiting_since else Some now) else None;
  };
}

-- the window may have opened, where it is known whether it was closed before
abbrev pub with_opening_from : (now : ℕ) → (was_closed : Bool) → Connection → Connection
with_opening_from now was_closed c =
    let opened = was_closed && not (is_closed_window c.transmission) in
    let timeout = timeout_after opened c.settings.shortest_timeout c.estimator in
    record c {
      estimator = record c.estimator { timeout = timeout };
      timers = record c.timers { resend_at = resend_after opened now timeout c.timers.resend_at };
    }

-- an acknowledgement arrives in SYN-RECEIVED
abbrev pub after_ack_of_syn : (now : ℕ) → (keeps : Bool) → (number : ℕ) → Segment → Piece → Connection → Connection
after_ack_of_syn now keeps number s p c =
    if number == number_at c.local 1 then after_position_acknowledged now keeps (Some 1) s p (established c)
    else with_pending (Reset number) c
