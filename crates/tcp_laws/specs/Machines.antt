-- Two connections as `tcp_machine` has them, A and B, each driven by any list of events, over a channel that loses,
-- repeats, reorders and delays.
use Rattle.std.specs.Prelude.{◌≡◌, ℕ, ◌+◌, ◌-◌, ◌≤◌, ◌^◌, ◌==◌, ◌&&◌, Bool, true, false, List, [], ◌∷◌, ◌++◌, length, take, slice_get}
use Rattle.std.specs.Prelude.{Option, Some, None}
use Rattle.std.specs.List.{Contains}
use Rattle.tcp_machine.specs.declared.settings.Settings.{Settings}
use Rattle.tcp_machine.specs.declared.state.State.TheVariants.{Closed}
use Rattle.tcp_machine.specs.Positions.{number_at}
use Rattle.tcp_machine.specs.Pieces.{IsBeginning, octet_at}
use Rattle.tcp_machine.specs.Receiving.{next, expected}
use Rattle.tcp_machine.specs.Connection.{Connection}
use Rattle.tcp_machine.specs.Segments.{Segment, Options}
use Rattle.tcp_machine.specs.Acknowledgements.{empty_position}
use Rattle.tcp_machine.specs.Arrivals.{has_ended}
use Rattle.tcp_machine.specs.Opening.{opened, accepted, after_arrival}
use Rattle.tcp_machine.specs.Calls.{taken, after_writing, readable, read_of, after_reading, after_closing, after_abort}
use Rattle.tcp_machine.specs.Timers.{after_timers}
use Rattle.tcp_machine.specs.Reports.{after_too_long, after_unreachable}
use Rattle.tcp_machine.specs.Outgoing.{Action, SendReset, SendSyn, SendNext, SendAgain, SendProbe, SendKeepAlive, SendAck}
use Rattle.tcp_machine.specs.Outgoing.{Outgoing, action, segment_for, blocks_told, after_action}
use Rattle.tcp_machine.specs.Sack.{Block}

-- A segment that a connection sent. The channel doesn't see the other three: the position at which it stands, the one that it
-- acknowledges, and those of its blocks
pub record Sent : Type 0 where
  pub segment : Outgoing
  pub start : ℕ
  pub acknowledged : ℕ
  pub blocks : List Block

-- the position of what is sent; a reset has none
abbrev pub start_of : Action → Connection → ℕ
start_of (SendReset number) c = 0
start_of SendSyn c = 0
start_of (SendNext p) c = p.start
start_of (SendAgain p) c = p.start
start_of (SendProbe p) c = p.start
start_of SendKeepAlive c = empty_position c.transmission - 1
start_of SendAck c = empty_position c.transmission

abbrev pub blocks_by : Action → Connection → List Block
blocks_by SendKeepAlive c = blocks_told c.reception
blocks_by SendAck c = blocks_told c.reception
blocks_by m c = []

abbrev pub sent_as : Action → Connection → Sent
sent_as m c = record {
  segment = segment_for m c;
  start = start_of m c;
  acknowledged = expected c.reception.receiver;
  blocks = blocks_by m c;
}

-- The segment as it arrives: the same values and octets. Its options may be any: the law doesn't need them
abbrev pub arrived : Outgoing → Options → Segment
arrived s options = record {
  number = s.number;
  ack = s.ack;
  window = s.window;
  syn = s.syn;
  fin = s.fin;
  rst = s.rst;
  octets = s.octets;
  options = options;
}

-- One side: its connection, all that it sent, the octets that its program wrote and the connection took, and those that
-- its program read
pub record Side : Type 0 where
  pub connection : Connection
  pub is_begun : Bool
  pub sent : List Sent
  pub written : List ℕ
  pub read : List ℕ

-- a connection that was never opened, with room for so many octets each way
abbrev pub unopened : (room size : ℕ) → Settings → Side
unopened room size settings = record {
  connection = record (opened 0 0 room size 536 settings) { state = Closed };
  is_begun = false;
  sent = [];
  written = [];
  read = [];
}

-- What a side does. It opens to the peer, or a SYN of the peer's arrives where it listens. The program writes, reads,
-- closes, aborts, and chooses other settings. Somebody says that segments may have so many octets, or that the peer can't be
-- reached. A segment arrives, and octets beyond a gap of it are kept or left. Timers expire. What the connection offers to send, if
-- anything, is sent
pub data Act : Type 0 where
  Opens : (now mss : ℕ) → Settings → Act
  Accepts : (now default link : ℕ) → Settings → Sent → Options → Act
  Writes : (octets : List ℕ) → Act
  Reads : (count : ℕ) → Act
  Closes : Act
  Aborts : Act
  Chooses : Settings → Act
  Fits : (size : ℕ) → Act
  Fails : Act
  Gets : (default link now : ℕ) → (keeps : Bool) → Sent → Options → Act
  Expires : (now : ℕ) → Act
  Sends : (now : ℕ) → Act

-- a segment that carries a position: neither a SYN nor a reset
pub record IsPlain (s : Outgoing) : Type 0 where
  pub no_syn : s.syn ≡ false
  pub no_reset : s.rst ≡ false

-- A segment may arrive, if the peer sent it, and if it isn't older than 2^31 positions, nor its acknowledgement. A reset may
-- come from anyone: a host sends one, too, where the connection isn't known any more (RFC 9293 3.5.2)
pub record MayArrive (c : Connection) (sent : List Sent) (k : Sent) : Type 0 where
  pub was_sent : k.segment.rst ≡ false → Contains sent k
  pub fresh : IsPlain k.segment → next c.reception.receiver ≤ k.start + 2 ^ 31
  pub fresh_acknowledgement : IsPlain k.segment → c.transmission.sender.una ≤ k.acknowledged + 2 ^ 31

-- when a side may do it: it begins once
abbrev pub MayAct : Act → (mine peers : Side) → Type 0
MayAct (Opens now mss settings) mine peers = mine.is_begun ≡ false
MayAct (Accepts now default link settings k options) mine peers =
    (mine.is_begun ≡ false) × Contains peers.sent k × (k.segment.syn ≡ true)
MayAct (Gets default link now keeps k options) mine peers =
    (mine.is_begun ≡ true) × MayArrive mine.connection peers.sent k
MayAct act mine peers = mine.is_begun ≡ true

abbrev pub with_connection : Connection → Side → Side
with_connection c x = record x { connection = c }

abbrev pub after_sending : ℕ → Option Action → Side → Side
after_sending now None x = x
after_sending now (Some m) x =
    record x { connection = after_action now m x.connection; sent = x.sent ++ sent_as m x.connection ∷ [] }

-- and what it leaves; the own initial number comes first
abbrev pub after_act : ℕ → Act → Side → Side
after_act iss (Opens now mss settings) x = record x {
  connection = opened now iss x.connection.transmission.sender.room (length x.connection.reception.receiver.cells) mss settings;
  is_begun = true;
}
after_act iss (Accepts now default link settings k options) x = record x {
  connection =
      accepted now iss x.connection.transmission.sender.room (length x.connection.reception.receiver.cells) default link settings
      (arrived k.segment options);
  is_begun = true;
}
after_act iss (Writes octets) x = record x {
  connection = after_writing octets x.connection;
  written = x.written ++ take (taken (length octets) x.connection) octets;
}
after_act iss (Reads count) x =
    record x { connection = after_reading count x.connection; read = x.read ++ read_of count x.connection }
after_act iss Closes x = with_connection (after_closing x.connection) x
after_act iss Aborts x = with_connection (after_abort x.connection) x
after_act iss (Chooses settings) x = with_connection (record x.connection { settings = settings }) x
after_act iss (Fits size) x = with_connection (after_too_long size x.connection) x
after_act iss Fails x = with_connection (after_unreachable x.connection) x
after_act iss (Gets default link now keeps k options) x =
    with_connection (after_arrival default link now keeps (arrived k.segment options) x.connection) x
after_act iss (Expires now) x = with_connection (after_timers now x.connection) x
after_act iss (Sends now) x = after_sending now (action now x.connection) x

pub record Pair : Type 0 where
  pub a : Side
  pub b : Side

pub data Move : Type 0 where
  OfA : Act → Move
  OfB : Act → Move

abbrev pub MayMove : Move → Pair → Type 0
MayMove (OfA act) p = MayAct act p.a p.b
MayMove (OfB act) p = MayAct act p.b p.a

abbrev pub after_move : (i j : ℕ) → Move → Pair → Pair
after_move i j (OfA act) p = record p { a = after_act i act p.a }
after_move i j (OfB act) p = record p { b = after_act j act p.b }

-- each of these may happen when its turn comes
abbrev pub AreMoves : (i j : ℕ) → Pair → List Move → Type 0
AreMoves i j p [] = Unit {0}
AreMoves i j p (m ∷ ms) = MayMove m p × AreMoves i j (after_move i j m p) ms

abbrev pub after_moves : (i j : ℕ) → Pair → List Move → Pair
after_moves i j p [] = p
after_moves i j p (m ∷ ms) = after_moves i j (after_move i j m p) ms

-- all octets up to the peer's end were read: that is what a program is told as the end
abbrev pub is_told_end : Connection → Bool
is_told_end c = has_ended c.reception.receiver && (length (readable c) == 0)

-- What holds of the octets from one side to the other
pub record StreamHolds (from to : Side) : Type 0 where
  -- what was read, and what can be read next, is a beginning of what was written
  pub prefix : IsBeginning (to.read ++ readable to.connection) from.written
  -- and what was read is all of it, once the end is told
  pub finished : is_told_end to.connection ≡ true → to.read ≡ from.written
  -- what was acknowledged, and so has left the ring, had arrived in order
  pub acknowledged :
      (gone : List ℕ) × (gone ++ from.connection.transmission.sender.ring ≡ from.written)
      × IsBeginning gone (to.read ++ readable to.connection)

-- What holds of a segment with a position that a side sent; i is its initial number, j the peer's
pub record SegmentHolds (i j : ℕ) (x : Side) (k : Sent) : Type 0 where
  -- it has its own number, and for ever the octets of its positions
  pub number : k.segment.number ≡ number_at i k.start
  pub octets : (n y : ℕ) → slice_get k.segment.octets n ≡ Some y → octet_at x.written (k.start + n) ≡ Some y
  -- a FIN stands after the last octet
  pub last : k.segment.fin ≡ true → k.start + length k.segment.octets ≡ length x.written + 1
  -- and nothing is acknowledged that hasn't arrived in order
  pub ack : k.segment.ack ≡ Some (number_at j k.acknowledged)
  pub acknowledged : k.acknowledged ≤ expected x.connection.reception.receiver

-- It holds of each that either side sent, at every point of a run
abbrev pub SegmentsHold : Type 0
SegmentsHold =
    (i j room_a size_a room_b size_b : ℕ) (settings_a settings_b : Settings) (ms : List Move) →
    room_a ≤ 2 ^ 30 → room_b ≤ 2 ^ 30 →
    let start : Pair = record { a = unopened room_a size_a settings_a; b = unopened room_b size_b settings_b } in
    AreMoves i j start ms →
    ((k : Sent) → Contains (after_moves i j start ms).a.sent k → IsPlain k.segment → SegmentHolds i j (after_moves i j start ms).a k)
    × ((k : Sent) → Contains (after_moves i j start ms).b.sent k → IsPlain k.segment → SegmentHolds j i (after_moves i j start ms).b k)

-- It holds both ways at every point of a run: a beginning of a run is a run. A's and B's initial numbers are i and j
abbrev pub MachinesKeep : Type 0
MachinesKeep =
    (i j room_a size_a room_b size_b : ℕ) (settings_a settings_b : Settings) (ms : List Move) →
    room_a ≤ 2 ^ 30 → room_b ≤ 2 ^ 30 →
    let start : Pair = record { a = unopened room_a size_a settings_a; b = unopened room_b size_b settings_b } in
    AreMoves i j start ms →
    StreamHolds (after_moves i j start ms).a (after_moves i j start ms).b
    × StreamHolds (after_moves i j start ms).b (after_moves i j start ms).a
