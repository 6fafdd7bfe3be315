-- A connection: two directions whose segments carry a piece of the one and the acknowledgement of the other.
use Rattle.std.specs.Prelude.{◌≡◌, ℕ, ◌+◌, ◌≤◌, Bool, List, [], ◌∷◌, ◌++◌, length, Some, None, if◌then◌else◌}
use Rattle.std.specs.List.{Contains}
use Rattle.tcp_machine.specs.Pieces.{IsBeginning, Piece, piece_on_wire, Ack, ack_on_wire}
use Rattle.tcp_machine.specs.Sending.{Sender, open_sender, MayWrite, after_write, after_close, MaySend, after_send, after_ack}
use Rattle.tcp_machine.specs.Receiving.{Receiver, open_receiver, in_order, next, edge, after_segment, after_read}
use Rattle.tcp_laws.specs.Run.{Event, Write, Close, Send, Arrive, Read, TellEnd, Acknowledge, ArriveAck, ack_now}
use Rattle.tcp_laws.specs.Laws.{Law}

-- what a segment carries
pub record Packet : Type 0 where
  pub piece : Piece
  pub ack : Ack

pub record Endpoint : Type 0 where
  pub sender : Sender
  pub receiver : Receiver

pub record Connection : Type 0 where
  pub a : Endpoint
  pub b : Endpoint
  -- what each sent so far
  pub sent_a : List Packet
  pub sent_b : List Packet

-- what an endpoint does. A segment carries the acknowledgement as it is when it is sent; of one that arrives the piece or
-- the acknowledgement may be left (an unacceptable segment, or one without ACK)
pub data Act : Type 0 where
  Writes : (octets : List ℕ) → Act
  Closes : Act
  Sends : (piece : Piece) → (window : ℕ) → Act
  Gets : (packet : Packet) → (takes_piece : Bool) → (takes_ack : Bool) → Act
  Reads : (octets : List ℕ) → Act
  IsTold : Act

pub data Move : Type 0 where
  OfA : Act → Move
  OfB : Act → Move

-- both sides' roles exchanged
abbrev pub swap : Connection → Connection
swap c = record { a = c.b; b = c.a; sent_a = c.sent_b; sent_b = c.sent_a }

-- when A may do it
abbrev pub MayAct : Act → Connection → Type 0
MayAct (Writes octets) c = MayWrite c.a.sender octets
MayAct Closes c = c.a.sender.stop ≡ None
MayAct (Sends p window) c = MaySend c.a.sender p × (next c.a.receiver + window ≤ edge c.a.receiver)
MayAct (Gets k takes_piece takes_ack) c =
    Contains c.sent_b k × (next c.a.receiver ≤ k.piece.start + 2147483648)
    × (c.a.sender.una ≤ k.ack.position + 2147483648)
MayAct (Reads octets) c = IsBeginning octets (in_order c.a.receiver.cells)
MayAct IsTold c = c.a.receiver.stop ≡ Some c.a.receiver.base

-- and what it leaves. The initial numbers are A's and B's
abbrev pub after_act : ℕ → ℕ → Act → Connection → Connection
after_act mine peers (Writes octets) c = record c { a = record c.a { sender = after_write octets c.a.sender } }
after_act mine peers Closes c = record c { a = record c.a { sender = after_close c.a.sender } }
after_act mine peers (Sends p window) c = record c {
  a = record c.a { sender = after_send p c.a.sender };
  sent_a = c.sent_a ++ record { piece = p; ack = ack_now window c.a.receiver } ∷ [];
}
after_act mine peers (Gets k takes_piece takes_ack) c = record c {
  a = record {
    sender = if takes_ack then after_ack mine (ack_on_wire mine k.ack) c.a.sender else c.a.sender;
    receiver = if takes_piece then after_segment peers (piece_on_wire peers k.piece) c.a.receiver else c.a.receiver;
  };
}
after_act mine peers (Reads octets) c = record c { a = record c.a { receiver = after_read (length octets) c.a.receiver } }
after_act mine peers IsTold c = c

abbrev pub MayMove : Move → Connection → Type 0
MayMove (OfA act) c = MayAct act c
MayMove (OfB act) c = MayAct act (swap c)

abbrev pub after_move : ℕ → ℕ → Move → Connection → Connection
after_move i j (OfA act) c = after_act i j act c
after_move i j (OfB act) c = swap (after_act j i act (swap c))

abbrev pub AreMoves : ℕ → ℕ → Connection → List Move → Type 0
AreMoves i j c [] = Unit {0}
AreMoves i j c (m ∷ ms) = MayMove m c × AreMoves i j (after_move i j m c) ms

-- what they are in the direction from the one that acts, and in the other one
abbrev pub own : Act → List Event
own (Writes octets) = Write octets ∷ []
own Closes = Close ∷ []
own (Sends p window) = Send p ∷ []
own (Gets k takes_piece takes_ack) = if takes_ack then ArriveAck k.ack ∷ [] else []
own (Reads octets) = []
own IsTold = []

abbrev pub other : Act → List Event
other (Writes octets) = []
other Closes = []
other (Sends p window) = Acknowledge window ∷ []
other (Gets k takes_piece takes_ack) = if takes_piece then Arrive k.piece ∷ [] else []
other (Reads octets) = Read octets ∷ []
other IsTold = TellEnd ∷ []

-- the events in the direction from A, and in that from B
abbrev pub from_a : List Move → List Event
from_a [] = []
from_a (OfA act ∷ ms) = own act ++ from_a ms
from_a (OfB act ∷ ms) = other act ++ from_a ms

abbrev pub from_b : List Move → List Event
from_b [] = []
from_b (OfA act ∷ ms) = other act ++ from_b ms
from_b (OfB act ∷ ms) = own act ++ from_b ms

-- after the handshake: the rooms of the rings, and the windows that were told
abbrev pub opened_endpoint : ℕ → ℕ → ℕ → Endpoint
opened_endpoint room size window = record { sender = open_sender room window; receiver = open_receiver size }

abbrev pub opened_connection : ℕ → ℕ → ℕ → ℕ → ℕ → ℕ → Connection
opened_connection room_a size_a window_a room_b size_b window_b = record {
  a = opened_endpoint room_a size_a window_b;
  b = opened_endpoint room_b size_b window_a;
  sent_a = [];
  sent_b = [];
}

-- the law holds of both directions
abbrev pub ConnectionsKeep : Type 0
ConnectionsKeep =
    (i j room_a size_a window_a room_b size_b window_b : ℕ) (ms : List Move) →
    size_a ≤ 1073741824 → window_a ≤ size_a → size_b ≤ 1073741824 → window_b ≤ size_b →
    AreMoves i j (opened_connection room_a size_a window_a room_b size_b window_b) ms →
    Law i room_a size_b window_b (from_a ms) × Law j room_b size_a window_a (from_b ms)
