-- A segment arrives at a connection whose peer's initial number is known (RFC 9293 3.10.7.4). In SYN-SENT `Opening` tells
-- what happens; in CLOSED and LISTEN there is no connection, and the host answers.
use Rattle.std.specs.Prelude.{ℕ, ◌+◌, ◌-◌, ◌*◌, ◌<◌, min, max, nat_lt, nat_le, ◌==◌, ◌&&◌, ◌||◌, not, Bool, true, false}
use Rattle.std.specs.Prelude.{List, [], ◌∷◌, length, drop, Option, Some, None, is_none, if◌then◌else◌}
use Rattle.std.specs.Option.{option_and_then}
use Rattle.tcp_machine.specs.Instants.{later}
use Rattle.tcp_machine.specs.declared.settings.Settings.{Settings}
use Rattle.tcp_machine.specs.declared.timers.Timers.{Timers}
use Rattle.tcp_machine.specs.declared.timers.Owed.{Owed}
use Rattle.tcp_machine.specs.declared.timers.Owed.TheVariants.{Nothing, By, AtOnce}
use Rattle.tcp_machine.specs.declared.timers.Pending.TheVariants.{Empty, Challenge, SynAgain, Reset}
use Rattle.tcp_machine.specs.declared.timers.Ending.{Ending}
use Rattle.tcp_machine.specs.declared.timers.Ending.TheVariants.{ByPeer, Refused}
use Rattle.tcp_machine.specs.declared.state.State.{State}
use Rattle.tcp_machine.specs.declared.state.State.TheVariants.{Closed, SynReceived, Established, FinWait1, TimeWait}
use Rattle.tcp_machine.specs.Positions.{number_at, position_near}
use Rattle.tcp_machine.specs.Pieces.{Piece}
use Rattle.tcp_machine.specs.Receiving.{Receiver, in_order, next, expected, is_at, with_piece, is_in_window}
use Rattle.tcp_machine.specs.declared.estimator.Estimator.{Estimator}
use Rattle.tcp_machine.specs.States.{is_synchronized, takes_octets, after_peers_end}
use Rattle.tcp_machine.specs.Connection.{Connection, Reception, Transmission}
use Rattle.tcp_machine.specs.Segments.{Segment, acceptable_piece, acknowledged_in}
use Rattle.tcp_machine.specs.Acknowledgements.{with_pending, empty_position, is_believed, after_acknowledgement, after_measured}

abbrev pub is_time_wait : State → Bool
is_time_wait TimeWait = true
is_time_wait s = false

abbrev pub is_syn_received : State → Bool
is_syn_received SynReceived = true
is_syn_received s = false

abbrev pub is_closed : State → Bool
is_closed Closed = true
is_closed s = false

-- the connection is no more; nothing is sent by itself
abbrev pub no_timers : Timers → Timers
no_timers t = record t { resend_at = None; measured = None; waiting_since = None; ends_at = None }

abbrev pub with_owed : Owed → Connection → Connection
with_owed o c = record c { reception = record c.reception { owed = o } }

abbrev pub ended : Option Ending → Connection → Connection
ended why c = record (with_owed Nothing c) { state = Closed; ending = why; timers = no_timers c.timers; pending = Empty }

-- the connection is given up or aborted; a peer that knows of it gets a reset (RFC 9293 3.10.5)
abbrev pub aborted : Ending → Connection → Connection
aborted why c =
    if is_synchronized c.state || is_syn_received c.state
    then record (ended (Some why) c) { pending = Reset (number_at c.local (empty_position c.transmission)) } else ended (Some why) c

-- TIME-WAIT begins, or begins anew (RFC 9293 3.4.2)
abbrev pub with_time_wait : ℕ → Connection → Connection
with_time_wait now c = record c { timers = record (no_timers c.timers) { ends_at = Some (later now c.settings.time_wait) } }

abbrev pub after_entering : ℕ → State → Connection → Connection
after_entering now before c = if is_time_wait c.state && not (is_time_wait before) then with_time_wait now c else c

-- Whether a segment that isn't taken is answered. One with octets or the end is: its sender waits. An empty one is, where it asks
-- as a keep-alive does (RFC 9293 3.8.4): it stands before the next position, and acknowledges nothing that wasn't sent. Any other
-- one is an answer itself, and two sides whose numbers don't fit would answer each other without end
abbrev pub is_before : Option ℕ → ℕ → Bool
is_before None p = true
is_before (Some start) p = nat_lt start p

abbrev pub is_of_sent : Option ℕ → Transmission → Bool
is_of_sent None t = false
is_of_sent (Some a) t = is_believed a t && nat_le a (empty_position t)

abbrev pub asks : Segment → Connection → Bool
asks s c =
    is_before (position_near c.remote (next c.reception.receiver) s.number) (expected c.reception.receiver)
    && is_of_sent (option_and_then (λ (n : ℕ). acknowledged_in c n) s.ack) c.transmission

abbrev pub is_answered : Segment → Connection → Bool
is_answered s c = nat_lt 0 (length s.octets) || s.fin || asks s c

-- First: a segment isn't acceptable. It is answered by an acknowledgement, unless it is a reset. An end that comes once
-- more restarts TIME-WAIT
abbrev pub after_unacceptable : ℕ → Segment → Connection → Connection
after_unacceptable now s c =
    if s.rst || not (is_answered s c) then c
    else if s.fin && is_time_wait c.state then with_time_wait now (with_pending Challenge c)
    else with_pending Challenge c

-- Second: a reset. Only one of exactly the next number ends the connection; another one in the window brings an
-- acknowledgement, and one outside of it nothing (RFC 5961 3.2). In TIME-WAIT none counts, since both sides have closed (RFC 1337)
abbrev pub why_reset : Connection → Ending
why_reset c = if c.is_active && is_syn_received c.state then Refused else ByPeer

abbrev pub after_reset : Piece → Connection → Connection
after_reset p c =
    if is_time_wait c.state then c
    else if p.start == expected c.reception.receiver then ended (Some (why_reset c)) c
    else if is_in_window c.reception.receiver p.start then with_pending Challenge c
    else c

-- Fourth: a SYN (RFC 5961 4.2). In SYN-RECEIVED the peer's own one may come once more, and acknowledge the own one: both
-- sides opened at once (RFC 9293 3.5, figure 7)
abbrev pub is_own_syn_acknowledged : Segment → Connection → Bool
is_own_syn_acknowledged s c = is_at s.ack (number_at c.local 1) && (s.number == c.remote) && is_syn_received c.state

-- And it may come once more alone, where the answer to it was lost
abbrev pub is_syn_again : Segment → Connection → Bool
is_syn_again s c = (s.number == c.remote) && is_none s.ack && is_syn_received c.state

-- Fifth: an acknowledgement of the own SYN (RFC 9293 3.10.7.4); its timer is off, and its round trip is measured (RFC 6298 2.2).
-- If the timer had run out, octets wait for 3 s at first (5.7). What is sent next is behind it, though it was to be sent again. If the program has closed, the
-- end follows
abbrev pub timeout_after_syn : ℕ → Estimator → Estimator
timeout_after_syn tries e = if tries == 0 then e else record e { timeout = 3000000 }

abbrev pub state_after_handshake : Option ℕ → State
state_after_handshake None = Established
state_after_handshake (Some end) = FinWait1

abbrev pub established : Connection → Connection
established c = record c {
  state = state_after_handshake c.transmission.sender.stop;
  transmission = record c.transmission { nxt = max 1 c.transmission.nxt };
  estimator = timeout_after_syn c.timers.tries
      (after_measured c.settings.shortest_timeout c.timers.heard_at 1 c.timers.measured c.estimator);
  timers = record c.timers { resend_at = None; tries = 0; measured = None; waiting_since = None };
}

-- Seventh: octets. When they are acknowledged (RFC 5681 4.2): at once, if something is held out of order, before or
-- after, or all of it had arrived before, or two segments or more wait for it; otherwise within the delay
abbrev pub is_any_held : List (Option ℕ) → Bool
is_any_held [] = false
is_any_held (None ∷ cells) = is_any_held cells
is_any_held (Some x ∷ cells) = true

abbrev pub has_gap : Receiver → Bool
has_gap r = is_any_held (drop (length (in_order r.cells)) r.cells)

-- the octets that wait for an acknowledgement are counted up to here
abbrev pub most_counted : ℕ
most_counted = 1073741824

-- how many positions more are in order
abbrev pub advance : Receiver → Receiver → ℕ
advance before after = expected after - expected before

abbrev pub is_owed_at_once : (own_mss waiting : ℕ) → (before after : Receiver) → Bool
is_owed_at_once own_mss waiting before after =
    has_gap before || has_gap after || (advance before after == 0) || nat_le (2 * own_mss) (waiting + advance before after)

abbrev pub sooner : Owed → ℕ → Owed
sooner Nothing t = By t
sooner (By s) t = By (min s t)
sooner AtOnce t = AtOnce

-- where the octets begin that arrived last beyond a gap, after a piece arrived
abbrev pub latest_after : ℕ → Reception → ℕ
latest_after start r = if nat_lt (next r.receiver) start then start else r.latest

abbrev pub reception_after : (now : ℕ) → Settings → Piece → Reception → Reception
reception_after now settings p r =
    let after = with_piece p r.receiver in record r {
      receiver = after;
      owed =
          if is_owed_at_once settings.own_mss r.unacknowledged r.receiver after then AtOnce
          else sooner r.owed (later now settings.ack_delay);
      unacknowledged = min most_counted (r.unacknowledged + advance r.receiver after);
      latest = latest_after p.start r;
    }

-- whether a segment takes positions of the stream
abbrev pub has_text : Piece → Bool
has_text p = nat_lt 0 (length p.octets) || p.ends

-- Octets beyond a gap may be left, if there are too many runs of them to be kept. They are answered all the same
abbrev pub MayBeLeft : Piece → Receiver → Type 0
MayBeLeft p r = next r < p.start

abbrev pub after_octets_of : (now : ℕ) → (keeps : Bool) → Piece → Connection → Connection
after_octets_of now keeps p c =
    if not (takes_octets c.state && has_text p) then c
    else if keeps
    then record c { reception = reception_after now c.settings p c.reception }
    else with_owed AtOnce c

-- Eighth: all up to the peer's end has arrived; that is acknowledged at once
abbrev pub has_ended : Receiver → Bool
has_ended r = is_at r.stop (next r)

abbrev pub after_fin : ℕ → Connection → Connection
after_fin now c =
    if takes_octets c.state && has_ended c.reception.receiver
    then after_entering now c.state (record (with_owed AtOnce c) { state = after_peers_end c.state }) else c

abbrev pub after_text : (now : ℕ) → (keeps : Bool) → Piece → Connection → Connection
after_text now keeps p c = after_fin now (after_octets_of now keeps p c)

-- in LAST-ACK the acknowledgement of the own end ends the connection
abbrev pub after_last : Connection → Connection
after_last c = if is_closed c.state then ended None c else c

-- Fifth, in a synchronized state: octets, or the end, with an acknowledgement that isn't believed bring one, and no more is read
abbrev pub after_unbelieved : Piece → Connection → Connection
after_unbelieved p c = if has_text p then with_pending Challenge c else c

abbrev pub after_position_acknowledged : (now : ℕ) → (keeps : Bool) → Option ℕ → Segment → Piece → Connection → Connection
after_position_acknowledged now keeps None s p c = after_unbelieved p c
after_position_acknowledged now keeps (Some a) s p c =
    if is_believed a c.transmission then after_text now keeps p (after_last (after_entering now c.state (after_acknowledgement now a s p c)))
    else after_unbelieved p c

-- in SYN-RECEIVED: it has to be that of the own SYN, or is answered by a reset
abbrev pub after_ack_field : (now : ℕ) → (keeps : Bool) → Option ℕ → Segment → Piece → Connection → Connection
after_ack_field now keeps None s p c = c
after_ack_field now keeps (Some n) s p c =
    if not (is_syn_received c.state) then after_position_acknowledged now keeps (acknowledged_in c n) s p c
    else if n == number_at c.local 1 then after_position_acknowledged now keeps (Some 1) s p (established c)
    else with_pending (Reset n) c

-- something arrived
abbrev pub heard : ℕ → Connection → Connection
heard now c = record c { timers = record c.timers { heard_at = now; probes = 0; idle_since = now } }

abbrev pub after_piece_of : (now : ℕ) → (keeps : Bool) → Option Piece → Segment → Connection → Connection
after_piece_of now keeps None s c = after_unacceptable now s c
after_piece_of now keeps (Some p) s c =
    if s.rst then after_reset p c else after_ack_field now keeps s.ack s p (heard now c)

abbrev pub after_syn_once_more : Segment → Connection → Connection
after_syn_once_more s c =
    if is_own_syn_acknowledged s c then with_owed AtOnce (established c)
    else if is_syn_again s c then with_pending SynAgain c
    else with_pending Challenge c

-- the steps in their order; SYN is asked for first, since a challenge answers it whatever its number is
abbrev pub after_segment_arrives : (now : ℕ) → (keeps : Bool) → Segment → Connection → Connection
after_segment_arrives now keeps s c =
    if s.syn && not s.rst then after_syn_once_more s c else after_piece_of now keeps (acceptable_piece c s) s c
