-- What a connection sends, and when (RFC 9293 3.7.4, 3.8.6.2.1, 3.10.7.4; RFC 5681).
use Rattle.std.specs.Prelude.{ℕ, ◌+◌, ◌-◌, ◌*◌, min, max, nat_lt, nat_le, ◌==◌, ◌&&◌, ◌||◌, not, Bool, true, false}
use Rattle.std.specs.Prelude.{List, [], map, length, take, drop, Option, Some, None, is_none, if◌then◌else◌}
use Rattle.tcp_machine.specs.Instants.{later}
use Rattle.tcp_machine.specs.declared.timers.Measured.{Measured}
use Rattle.tcp_machine.specs.declared.timers.Timers.{Timers}
use Rattle.tcp_machine.specs.declared.timers.Owed.{Owed}
use Rattle.tcp_machine.specs.declared.timers.Owed.TheVariants.{Nothing, By, AtOnce}
use Rattle.tcp_machine.specs.declared.timers.Pending.{Pending}
use Rattle.tcp_machine.specs.declared.timers.Pending.TheVariants.{Empty, Challenge, SynAgain, Resend, Probe, KeepAlive, Reset}
use Rattle.tcp_machine.specs.declared.state.State.{State}
use Rattle.tcp_machine.specs.declared.state.State.TheVariants.{SynSent}
use Rattle.tcp_machine.specs.Positions.{number_at}
use Rattle.tcp_machine.specs.Pieces.{Piece, after_octets, after_piece}
use Rattle.tcp_machine.specs.Sending.{Sender, after_send}
use Rattle.tcp_machine.specs.Receiving.{expected, is_at}
use Rattle.tcp_machine.specs.States.{is_synchronized, is_opening, sends_octets}
use Rattle.tcp_machine.specs.Congestion.{beyond_window}
use Rattle.tcp_machine.specs.Connection.{Connection, Reception}
use Rattle.tcp_machine.specs.Acknowledgements.{empty_position, since_first, octets_told, next_hole, is_hole_lost}
use Rattle.tcp_machine.specs.Scoreboard.{is_empty, above, start_of}
use Rattle.tcp_machine.specs.Windows.{next_promise, window_field, is_update_due}
use Rattle.tcp_machine.specs.Path.{path_sent}
use Rattle.tcp_machine.specs.declared.sack.SackBlock.{SackBlock}
use Rattle.tcp_machine.specs.Sack.{Block, blocks_of}

-- what is sent: a reset of this number; the own SYN; a piece for the next positions; the first one once more; a probe of a
-- closed window; or an empty segment before the next position, or at it
pub data Action : Type 0 where
  SendReset : (number : ℕ) → Action
  SendSyn : Action
  SendNext : (piece : Piece) → Action
  SendAgain : (piece : Piece) → Action
  SendProbe : (piece : Piece) → Action
  SendKeepAlive : Action
  SendAck : Action

-- the octets from a position on, so many at most, and the end if it follows them
abbrev pub octets_from : ℕ → ℕ → Sender → List ℕ
octets_from p most s = take most (drop (p - s.una) s.ring)

abbrev pub piece_from : ℕ → ℕ → Sender → Piece
piece_from p most s = record {
  start = p;
  octets = octets_from p most s;
  ends = is_at s.stop (p + length (octets_from p most s));
}

-- How much beyond the congestion window may be sent: what limited transmit lets go; where blocks are told, what they tell has left the
-- network, and nothing new goes before a hole that is lost (RFC 6675 4, NextSeg; 5, step (C))
abbrev pub beyond_window_of : Connection → ℕ
beyond_window_of c =
    if is_empty c.transmission.told then beyond_window c.transmission.mss c.congestion
    else if c.congestion.is_recovering && is_hole_lost c.transmission then 0
    else octets_told c.transmission

-- the first position that may not be sent: by the window told last, and by the congestion window
abbrev pub limit_of : Connection → ℕ
limit_of c =
    if c.settings.congestion_control
    then min c.transmission.told_edge (c.transmission.sender.una + (c.congestion.window + beyond_window_of c)) else c.transmission.told_edge

abbrev pub next_piece : Connection → Piece
next_piece c =
    piece_from c.transmission.nxt (min c.transmission.mss (limit_of c - c.transmission.nxt)) c.transmission.sender

-- Whether a piece is sent now (RFC 9293 3.8.6.2.1): a whole segment; the last octets, unless Nagle's rule holds them back
-- (3.7.4); half of the largest window; what was sent before; the end
abbrev pub is_held_by_nagle : Connection → Bool
is_held_by_nagle c =
    c.settings.nagle && is_none c.transmission.sender.stop && nat_lt c.transmission.sender.una c.transmission.nxt

abbrev pub is_last : Piece → Sender → Bool
is_last p s = nat_le (s.una + length s.ring) (after_octets p)

abbrev pub has_octets : Piece → Bool
has_octets p = nat_lt 0 (length p.octets)

abbrev pub is_worth_sending : Connection → Piece → Bool
is_worth_sending c p =
    p.ends || (has_octets p && (nat_le c.transmission.mss (length p.octets) || (is_last p c.transmission.sender && not (is_held_by_nagle c))
    || nat_le c.transmission.largest_window (2 * length p.octets) || nat_lt p.start c.transmission.sender.top))

-- Whether an acknowledgement is to be sent by itself
abbrev pub is_owed : Owed → ℕ → Bool
is_owed Nothing now = false
is_owed (By t) now = nat_le t now
is_owed AtOnce now = true

abbrev pub tells_something : ℕ → Connection → Bool
tells_something now c = is_owed c.reception.owed now || is_update_due c.settings.own_mss c.reception

abbrev pub ack_if : Bool → Option Action
ack_if tells = if tells then Some SendAck else None

-- in a synchronized state, with nothing pending
abbrev pub next_action : ℕ → Connection → Option Action
next_action now c =
    if sends_octets c.state && is_worth_sending c (next_piece c) then Some (SendNext (next_piece c))
    else ack_if (is_synchronized c.state && tells_something now c)

-- the first unacknowledged segment, and the first octet beyond a closed window, or the end
abbrev pub first_piece : ℕ → Connection → Piece
first_piece most c = piece_from c.transmission.sender.una most c.transmission.sender

-- What is sent again: from the first unacknowledged position on, in a recovery from the next hole on, up to what is told above that; of
-- what was sent, and what the window told last has room for
abbrev pub again_from : Connection → ℕ
again_from c = if c.congestion.is_recovering then next_hole c.transmission else c.transmission.sender.una

abbrev pub again_to : Connection → ℕ
again_to c =
    let end = max c.transmission.sender.top c.transmission.told_edge in
    min end (start_of end (above (again_from c) c.transmission.told))

abbrev pub most_again : Connection → ℕ
most_again c = min c.transmission.mss (again_to c - again_from c)

abbrev pub again_piece : Connection → Piece
again_piece c = piece_from (again_from c) (most_again c) c.transmission.sender

-- What probes the peer: what its window has room for, whatever that is worth (RFC 9293 3.8.6.2.1, rule (4)); where there is
-- no room, one octet beyond it, or the end (3.8.6.1)
abbrev pub probe_action : Connection → Option Action
probe_action c =
    if sends_octets c.state && has_octets (next_piece c) then Some (SendNext (next_piece c)) else Some (SendProbe (first_piece 1 c))

abbrev pub action_pending : Pending → ℕ → Connection → Option Action
action_pending Empty now c = next_action now c
action_pending Challenge now c = if is_synchronized c.state then Some SendAck else None
action_pending SynAgain now c = if is_synchronized c.state then Some SendAck else None
action_pending KeepAlive now c = Some SendKeepAlive
action_pending Probe now c = probe_action c
action_pending Resend now c = Some (SendAgain (again_piece c))
action_pending (Reset number) now c = Some (SendReset number)

abbrev pub is_reset : Pending → Bool
is_reset (Reset number) = true
is_reset p = false

abbrev pub is_repeated_syn : Pending → Bool
is_repeated_syn SynAgain = true
is_repeated_syn p = false

abbrev pub is_challenge : Pending → Bool
is_challenge Challenge = true
is_challenge p = false

-- Before the own SYN is acknowledged, that SYN is sent: at first, when it has been unacknowledged for too long, and in answer to
-- the peer's
abbrev pub is_syn_due : ℕ → Connection → Bool
is_syn_due now c = (c.transmission.nxt == 0) || is_owed c.reception.owed now || is_repeated_syn c.pending

-- Anything else that isn't acceptable in SYN-RECEIVED is answered by an acknowledgement, after the own SYN (RFC 9293 3.10.7.4)
abbrev pub is_syn_sent : State → Bool
is_syn_sent SynSent = true
is_syn_sent s = false

abbrev pub action_in_opening : ℕ → Connection → Option Action
action_in_opening now c = if is_syn_due now c then Some SendSyn else ack_if (is_challenge c.pending && not (is_syn_sent c.state))

-- what is sent now, if anything
abbrev pub action : ℕ → Connection → Option Action
action now c = if is_opening c.state && not (is_reset c.pending) then action_in_opening now c else action_pending c.pending now c

-- A segment that is sent, as it stands on the wire but for ports, options and checksum
pub record Outgoing : Type 0 where
  pub number : ℕ
  pub ack : Option ℕ
  pub window : ℕ
  pub syn : Bool
  pub fin : Bool
  pub rst : Bool
  -- the blocks of its option of selective acknowledgements (RFC 2018 3)
  pub blocks : List SackBlock
  pub octets : List ℕ

-- the number that is expected next, and the window field that tells what is promised now
abbrev pub ack_number : Connection → ℕ
ack_number c = number_at c.remote (expected c.reception.receiver)

abbrev pub promise_now : Connection → ℕ
promise_now c = next_promise c.settings.own_mss c.reception

-- The blocks that an acknowledgement tells, if the peer permits them (RFC 2018 2, 4). A segment with octets or the end tells none: so
-- the option takes no room from octets, and none is longer than the peer's MSS (RFC 9293 3.7.1)
abbrev pub block_on_wire : ℕ → Block → SackBlock
block_on_wire initial b = record { left = number_at initial b.left; right = number_at initial b.right }

abbrev pub blocks_told : Reception → List Block
blocks_told r = if r.sack_permitted then blocks_of r.latest r.receiver else []

abbrev pub blocks_on_wire : Connection → List SackBlock
blocks_on_wire c = map (block_on_wire c.remote) (blocks_told c.reception)

abbrev pub empty_at : ℕ → Connection → Outgoing
empty_at p c = record {
  number = number_at c.local p;
  ack = Some (ack_number c);
  window = window_field (promise_now c) c.reception;
  syn = false;
  fin = false;
  rst = false;
  blocks = blocks_on_wire c;
  octets = [];
}

abbrev pub segment_of_piece : Piece → Connection → Outgoing
segment_of_piece p c = record (empty_at p.start c) { blocks = []; octets = p.octets; fin = p.ends }

-- the window of a SYN isn't scaled (RFC 7323 2.2)
abbrev pub syn_segment : Connection → Outgoing
syn_segment c = record (empty_at 0 c) {
  ack = if is_syn_sent c.state then None else Some (ack_number c);
  window = min 65535 (length c.reception.receiver.cells);
  syn = true;
  blocks = [];
}

abbrev pub reset_segment : ℕ → Outgoing
reset_segment number = record {
  number = number;
  ack = None;
  window = 0;
  syn = false;
  fin = false;
  rst = true;
  blocks = [];
  octets = [];
}

abbrev pub segment_for : Action → Connection → Outgoing
segment_for (SendReset number) c = reset_segment number
segment_for SendSyn c = syn_segment c
segment_for (SendNext p) c = segment_of_piece p c
segment_for (SendAgain p) c = segment_of_piece p c
segment_for (SendProbe p) c = segment_of_piece p c
segment_for SendKeepAlive c = empty_at (empty_position c.transmission - 1) c
segment_for SendAck c = empty_at (empty_position c.transmission) c

-- what the acknowledgement in a segment tells: nothing is owed any more, and the window is promised
abbrev pub reception_told : Connection → Reception
reception_told c = record c.reception { owed = Nothing; unacknowledged = 0; promised = promise_now c }

-- the timer runs from the first segment that isn't acknowledged; a segment sent for the first time is measured, if none is
abbrev pub timers_sent : (now after : ℕ) → (is_new : Bool) → Connection → Timers
timers_sent now after is_new c = record c.timers {
  resend_at = if is_none c.timers.resend_at then Some (later now c.estimator.timeout) else c.timers.resend_at;
  measured = if is_new && is_none c.timers.measured then Some (record { position = after; sent_at = now }) else c.timers.measured;
  sent_at = now;
  waiting_since = since_first now c.timers.waiting_since;
}

abbrev pub told_to_peer : Connection → Connection
told_to_peer c = record c { reception = reception_told c; pending = Empty }

abbrev pub piece_sent : (now : ℕ) → Piece → (nxt : ℕ) → Connection → Connection
piece_sent now p nxt c = record (told_to_peer c) {
  transmission = record c.transmission {
    sender = after_send p c.transmission.sender;
    nxt = nxt;
    path = path_sent c.transmission.mss (length p.octets) (after_octets p) c.transmission.path;
  };
  timers = timers_sent now (after_piece p) (nat_le c.transmission.sender.top p.start) c;
}

-- in a recovery that blocks guide no hole is sent again twice
abbrev pub again_sent : Piece → Connection → Connection
again_sent p c = record c {
  transmission = record c.transmission {
    resent = if c.reception.sack_permitted then after_octets p else c.transmission.resent;
  };
}

-- a probe takes no position, until it is acknowledged
abbrev pub probe_sent : ℕ → Piece → Connection → Connection
probe_sent now p c = record (told_to_peer c) {
  transmission = record c.transmission { sender = after_send p c.transmission.sender };
  timers = record c.timers {
    resend_at = Some (later now c.estimator.timeout);
    waiting_since = since_first now c.timers.waiting_since;
  };
}

-- The own SYN was sent. Its round trip is measured, unless it was sent before (Karn's rule, RFC 6298 3)
abbrev pub measured_syn : ℕ → Timers → Option Measured
measured_syn now t = if (t.tries == 0) && is_none t.resend_at then Some (record { position = 1; sent_at = now }) else None

abbrev pub syn_sent : ℕ → Connection → Connection
syn_sent now c = record (told_to_peer c) {
  transmission = record c.transmission { nxt = 1 };
  timers = record c.timers {
    resend_at = if is_none c.timers.resend_at then Some (later now c.estimator.timeout) else c.timers.resend_at;
    measured = measured_syn now c.timers;
    waiting_since = since_first now c.timers.waiting_since;
  };
  reception = record c.reception {
    owed = Nothing;
    unacknowledged = 0;
    promised = max c.reception.promised (1 + min 65535 (length c.reception.receiver.cells));
  };
}

-- what the connection is after the segment was sent
abbrev pub after_action : ℕ → Action → Connection → Connection
after_action now (SendReset number) c = record c { pending = Empty }
after_action now SendSyn c = syn_sent now c
after_action now (SendNext p) c = piece_sent now p (after_piece p) c
after_action now (SendAgain p) c = again_sent p (piece_sent now p c.transmission.nxt c)
after_action now (SendProbe p) c = probe_sent now p c
after_action now SendKeepAlive c = told_to_peer c
after_action now SendAck c = told_to_peer c
