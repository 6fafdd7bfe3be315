-- A direction of a connection from A to B: what either side does, over a channel that loses, repeats and reorders. The
-- machine leaves open when what is done, so timers and congestion windows only narrow it.
use Rattle.std.specs.Prelude.{◌≡◌, ℕ, ◌+◌, ◌≤◌, List, [], ◌∷◌, ◌++◌, length, Some, None}
use Rattle.std.specs.List.{Contains}
use Rattle.tcp_machine.specs.Pieces.{IsBeginning, Piece, piece_on_wire, Ack, ack_on_wire}
use Rattle.tcp_machine.specs.Sending.{Sender, open_sender, MayWrite, after_write, after_close, MaySend, after_send, after_ack}
use Rattle.tcp_machine.specs.Receiving.{Receiver, open_receiver, in_order, next, edge, expected, after_segment, after_read}

pub data Event : Type 0 where
  -- A's program writes octets, and closes
  Write : (octets : List ℕ) → Event
  Close : Event
  -- A sends a piece, and it arrives at B: as often as the channel likes, or never
  Send : (piece : Piece) → Event
  Arrive : (piece : Piece) → Event
  -- B's program reads octets, and is told that the end is reached
  Read : (octets : List ℕ) → Event
  TellEnd : Event
  -- B sends an acknowledgement with a window, and it arrives at A
  Acknowledge : (window : ℕ) → Event
  ArriveAck : (ack : Ack) → Event

pub record Direction : Type 0 where
  pub sender : Sender
  pub receiver : Receiver
  -- what was sent so far
  pub pieces : List Piece
  pub acks : List Ack

-- after the handshake. B has room for `size` octets, and A was told a window within it
abbrev pub opened : ℕ → ℕ → ℕ → Direction
opened room size window =
    record { sender = open_sender room window; receiver = open_receiver size; pieces = []; acks = [] }

-- what B acknowledges now
abbrev pub ack_now : ℕ → Receiver → Ack
ack_now window r = record { position = expected r; window = window }

-- When an event may happen. What arrives was sent; it is not older than 2^31 positions
abbrev pub May : Event → Direction → Type 0
May (Write octets) d = MayWrite d.sender octets
May Close d = d.sender.stop ≡ None
May (Send p) d = MaySend d.sender p
May (Arrive p) d = Contains d.pieces p × (next d.receiver ≤ p.start + 2147483648)
May (Read octets) d = IsBeginning octets (in_order d.receiver.cells)
May TellEnd d = d.receiver.stop ≡ Some d.receiver.base
May (Acknowledge window) d = next d.receiver + window ≤ edge d.receiver
May (ArriveAck a) d = Contains d.acks a × (d.sender.una ≤ a.position + 2147483648)

-- and what it leaves. The initial number is A's
abbrev pub after : ℕ → Event → Direction → Direction
after initial (Write octets) d = record d { sender = after_write octets d.sender }
after initial Close d = record d { sender = after_close d.sender }
after initial (Send p) d = record d { sender = after_send p d.sender; pieces = d.pieces ++ p ∷ [] }
after initial (Arrive p) d = record d { receiver = after_segment initial (piece_on_wire initial p) d.receiver }
after initial (Read octets) d = record d { receiver = after_read (length octets) d.receiver }
after initial TellEnd d = d
after initial (Acknowledge window) d = record d { acks = d.acks ++ ack_now window d.receiver ∷ [] }
after initial (ArriveAck a) d = record d { sender = after_ack initial (ack_on_wire initial a) d.sender }

-- each of these events may happen when its turn comes
abbrev pub AreRun : ℕ → Direction → List Event → Type 0
AreRun initial d [] = Unit {0}
AreRun initial d (e ∷ es) = May e d × AreRun initial (after initial e d) es

abbrev pub after_all : ℕ → Direction → List Event → Direction
after_all initial d [] = d
after_all initial d (e ∷ es) = after_all initial (after initial e d) es
