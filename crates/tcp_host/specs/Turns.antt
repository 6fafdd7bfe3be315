-- What a host sends, and what happens by itself: a turn of the connection at which something is due first.
use Rattle.std.specs.Prelude.{◌≡◌, ◌<◌, ℕ, ◌+◌, ◌-◌, min, max, nat_lt, nat_le, Bool, ◌&&◌, length, get_or, slice_set, Option, Some, None, if◌then◌else◌}
use Rattle.tcp_machine.specs.Arrivals.{is_closed, is_time_wait}
use Rattle.tcp_machine.specs.Instants.{later, has_passed}
use Rattle.tcp_machine.specs.Connection.{Connection}
use Rattle.tcp_connection.specs.Asked.{offered_scale}
use Rattle.tcp_connection.specs.declared.outgoing.Header.{Header}
use Rattle.tcp_host.specs.declared.iss.Endpoints.{Endpoints}
use Rattle.tcp_machine.specs.Calls.{after_abort}
use Rattle.tcp_machine.specs.Due.{due_at}
use Rattle.tcp_machine.specs.Outgoing as outgoing
use Rattle.tcp_machine.specs.States.{is_synchronized}
use Rattle.tcp_machine.specs.Timers.{after_timers}
use Rattle.tcp_connection.specs.Actions.{action_of, after_sending}
use Rattle.tcp_host.specs.Alarms.{IsLeast}
use Rattle.tcp_host.specs.Listener as listener
use Rattle.tcp_host.specs.declared.slot.Owner.{Owner}
use Rattle.tcp_host.specs.declared.slot.Slot.{Slot}
use Rattle.tcp_host.specs.declared.slot.Owner.TheVariants.{HalfOpen, Waiting, Program, Itself}
use Rattle.tcp_host.specs.declared.turns.Turn.{Turn}
use Rattle.tcp_host.specs.declared.turns.Turn.TheVariants.{Idle, Quiet, Sends}
use Rattle.tcp_host.specs.News.{noted, seen_at}
use Rattle.tcp_host.specs.Challenges.{is_challenge_left, slot_after_sending}
use Rattle.tcp_host.specs.Host.{Host, never, is_let_go, limit_of, slot_at, connection_at, with_slot, with_connection, with_owner, with_alarm, vacated, listener_at, with_listener, link_mss}

-- what timers do that have ended
abbrev pub expired : (place now : ℕ) → Host → Host
expired place now h = with_connection place (after_timers now (connection_at place h)) h

-- a handshake is complete: the connection waits for the program, and if too many do it is aborted
abbrev pub completed_in : (place index : ℕ) → Host → Host
completed_in place index h =
    let after = with_listener index (listener.after_handshake place (listener_at index h)) h in
    if listener.has_room (listener_at index h) then with_owner place (Waiting index) after
    else with_connection place (after_abort (connection_at place h)) (with_owner place (Itself None) after)

abbrev pub completed : (place index : ℕ) → Host → Host
completed place index h = if nat_lt index (length h.listeners) then completed_in place index h else h

abbrev pub advanced_by : Owner → ℕ → Host → Host
advanced_by (HalfOpen index) place h = if is_synchronized (connection_at place h).state then completed place index h else h
advanced_by owner place h = h

abbrev pub advanced : ℕ → Host → Host
advanced place h = advanced_by (slot_at place h).owner place h

-- a connection that is no more: a program still has its place, and a listener doesn't
abbrev pub ended_in : (place index : ℕ) → Host → Host
ended_in place index h =
    if nat_lt index (length h.listeners) then with_listener index (listener.after_end place (listener_at index h)) h else h

abbrev pub finished_by : Owner → ℕ → Host → Host
finished_by Program place h = record h { ends = slice_set h.ends place None; alarms = slice_set h.alarms place never }
finished_by (HalfOpen index) place h = vacated place (ended_in place index h)
finished_by (Waiting index) place h = vacated place (ended_in place index h)
finished_by owner place h = vacated place h

-- nothing is sent now: it is due again when its first timer ends, and not at this instant once more
abbrev pub again_at : ℕ → Option ℕ → ℕ
again_at now None = never
again_at now (Some t) = max t (min never (now + 1))

-- but no later than when its time ends, if the program let go of it
abbrev pub not_after : Option ℕ → ℕ → ℕ
not_after None t = t
not_after (Some limit) t = min t limit

abbrev pub due_after : ℕ → Slot → ℕ
due_after now s = not_after (limit_of s.owner) (again_at now (due_at now s.connection))

-- In TIME-WAIT a connection of which the program let go has its place until it ends, unless another one needs the place before
abbrev pub gives_way : Slot → Bool
gives_way s = is_let_go s.owner && is_time_wait s.connection.state

abbrev pub taken_until : (place instant : ℕ) → Host → Host
taken_until place instant h = record h { taken = slice_set h.taken place (max instant 1) }

abbrev pub waiting_until : (place instant : ℕ) → Host → Host
waiting_until place instant h =
    if gives_way (slot_at place h) then taken_until place instant (with_alarm place instant h) else with_alarm place instant h

abbrev pub rested : (place now : ℕ) → Host → Host
rested place now h =
    if is_closed (connection_at place h).state then finished_by (slot_at place h).owner place h
    else waiting_until place (due_after now (slot_at place h)) h

-- A connection of which the program let go has so long to end, from its first turn after that on: then it is aborted (RFC 9293
-- 3.10.5; RFC 6429 5)
abbrev pub limited_by : Owner → (place now : ℕ) → Host → Host
limited_by (Itself None) place now h = with_owner place (Itself (Some (later now h.config.release_timeout))) h
limited_by (Itself (Some t)) place now h = if nat_le t now then with_connection place (after_abort (connection_at place h)) h else h
limited_by owner place now h = h

abbrev pub limited : (place now : ℕ) → Host → Host
limited place now h = limited_by (slot_at place h).owner place now h

-- its reset has a second to be sent, if there is no room for it at once; then its place is free
abbrev pub time_for_a_reset : ℕ
time_for_a_reset = 1000000

abbrev pub over_at : Option ℕ → Option ℕ
over_at None = None
over_at (Some t) = Some (later t time_for_a_reset)

abbrev pub is_over : ℕ → Slot → Bool
is_over now s = has_passed (over_at (limit_of s.owner)) now

abbrev pub before_sending : (place now : ℕ) → Host → Host
before_sending place now h = noted place now (seen_at place h) (limited place now (advanced place (expired place now h)))

abbrev pub left_at : (place now : ℕ) → Host → Host
left_at place now h = with_alarm place now (with_connection place (after_sending now (connection_at place h)) h)

abbrev pub turn_by : Option outgoing.Action → (place now : ℕ) → Host → Turn × Host
turn_by None place now h = (Quiet, rested place now h)
turn_by (Some a) place now h = (Sends place (action_of a), h)

-- a challenge that may not be sent is left: it counts as sent, as if the link had lost it
abbrev pub turn_asked : (place now : ℕ) → Host → Turn × Host
turn_asked place now h =
    if is_challenge_left now (slot_at place h) then (Quiet, left_at place now h)
    else turn_by (outgoing.action now (connection_at place h)) place now h

abbrev pub turn_due : (place now : ℕ) → Host → Turn × Host
turn_due place now h =
    if is_over now (slot_at place h) then (Quiet, vacated place h) else turn_asked place now (before_sending place now h)

abbrev pub turn_at : (place now : ℕ) → Host → Turn × Host
turn_at place now h = if nat_lt now (get_or h.alarms place 0) then (Idle, h) else turn_due place now h

-- what the connection at a place sent was sent
abbrev pub sent_at : (place now : ℕ) → Host → Host
sent_at place now h = with_alarm place now (with_slot place (slot_after_sending now (slot_at place h)) h)

abbrev pub sent_if : (place now : ℕ) → Host → Host
sent_if place now h = if nat_lt place (length h.slots) then sent_at place now h else h

abbrev pub postponed : (place instant : ℕ) → Host → Host
postponed place instant h = if nat_lt place (length h.slots) then with_alarm place instant h else h

-- the place is one at which something is due first
pub record TakesTurn (now : ℕ) (old : Host) (turn : Turn) (new : Host) : Type 0 where
  pub place : ℕ
  pub within : place < length old.slots
  pub first : IsLeast old.alarms (get_or old.alarms place 0)
  pub is : (turn, new) ≡ turn_at place now old

abbrev pub IsPollAt : Host → Option ℕ → Type 0
IsPollAt h None = IsLeast h.alarms never
IsPollAt h (Some t) = IsLeast h.alarms t × (t < never)

-- the options of a SYN (RFC 9293 3.7.1, RFC 7323 2.2); other segments have none
abbrev pub mss_of : Endpoints → Header → Host → Option ℕ
mss_of e header h = if header.syn then Some (link_mss h.config e.remote_addr) else None

abbrev pub scale_of : Header → Connection → Option ℕ
scale_of header c = if header.syn then offered_scale c else None

-- the peer has answered, and something came from it within the last minute
abbrev pub is_peer_heard : ℕ → Connection → Bool
is_peer_heard now c = is_synchronized c.state && nat_le (now - c.timers.heard_at) 60000000

abbrev pub is_heard : (place now : ℕ) → Host → Bool
is_heard place now h = nat_lt place (length h.slots) && is_peer_heard now (connection_at place h)

-- the connection at a place is aborted (RFC 9293 3.10.5)
abbrev pub aborted_at : ℕ → Host → Host
aborted_at place h = noted place 0 (seen_at place h) (with_alarm place 0 (with_connection place (after_abort (connection_at place h)) h))

abbrev pub aborted_if : ℕ → Host → Host
aborted_if place h = if nat_lt place (length h.slots) then aborted_at place h else h
