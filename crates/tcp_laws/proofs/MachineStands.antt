-- What holds of two connections all along a run.
use Rattle.std.proofs.Common.{◌≡◌, ◌≤◌, ◌+◌, ℕ, Bool, true, false, List, [], length, Option, Some, None}
use Rattle.std.specs.Prelude.{◌⊎◌, ◌||◌, ◌<◌, map, slice_get}
use Rattle.tcp_machine.specs.Sack.{Block}
use Rattle.std.specs.List.{All}
use Rattle.tcp_machine.specs.declared.state.State.{State}
use Rattle.tcp_machine.specs.declared.state.State.TheVariants.{Closed, SynSent}
use Rattle.tcp_machine.specs.declared.timers.Pending.{Pending}
use Rattle.tcp_machine.specs.declared.timers.Pending.TheVariants.{Empty, Reset}
use Rattle.tcp_machine.specs.Positions.{number_at}
use Rattle.tcp_machine.specs.Pieces.{Piece}
use Rattle.tcp_machine.specs.Sending.{Sender, open_sender}
use Rattle.tcp_machine.specs.Receiving.{Receiver, open_receiver, expected}
use Rattle.tcp_machine.specs.States.{is_opening, is_synchronized}
use Rattle.tcp_machine.specs.Connection.{Connection}
use Rattle.tcp_machine.specs.Outgoing.{is_syn_sent}
use Rattle.tcp_laws.specs.Machines.{Sent, Side, IsPlain}
use Rattle.tcp_laws.proofs.Stands.{SenderStands, PieceStands, ReceiverStands}

-- the piece that a segment carries
abbrev pub piece_of : Sent → Piece
piece_of k = record { start = k.start; octets = k.segment.octets; ends = k.segment.fin }

-- a segment that carries a position
pub record PlainStands (i j : ℕ) (s : Sender) (w : List ℕ) (r : Receiver) (k : Sent) : Type 0 where
  pub number : k.segment.number ≡ number_at i k.start
  pub ack : k.segment.ack ≡ Some (number_at j k.acknowledged)
  pub piece : PieceStands s w (piece_of k)
  pub near : k.start ≤ s.una + s.room + 1
  pub known : k.acknowledged ≤ expected r

-- an octet that was read, or is held
abbrev pub IsHeld : Receiver → ℕ → Type 0
IsHeld r p = (p < r.base) ⊎ ((i : ℕ) × (x : ℕ) × (r.base + i ≡ p) × (slice_get r.cells i ≡ Some (Some x)))

-- a block that a segment tells
pub record BlockStands (r : Receiver) (acknowledged : ℕ) (b : Block) : Type 0 where
  pub some : b.left < b.right
  pub beyond : acknowledged < b.left
  pub held : (p : ℕ) → b.left ≤ p → p < b.right → IsHeld r p

pub record BlocksStand (j : ℕ) (r : Receiver) (k : Sent) : Type 0 where
  pub numbers : k.segment.blocks ≡ map (λ (b : Block). record { left = number_at j b.left; right = number_at j b.right }) k.blocks
  pub blocks : All (BlockStands r k.acknowledged) k.blocks
  pub alone : (k.blocks ≡ []) ⊎ (k.segment.octets ≡ [])
  pub none : k.segment.syn || k.segment.rst ≡ true → k.blocks ≡ []

-- a segment that was sent: i is the own initial number, j the peer's
pub record SentStands (i j : ℕ) (s : Sender) (w : List ℕ) (r : Receiver) (k : Sent) : Type 0 where
  pub blocks : BlocksStand j r k
  pub syn : k.segment.syn ≡ true → k.segment.number ≡ number_at i 0
  pub plain : IsPlain k.segment → PlainStands i j s w r k

-- what is given beside a side's connection: both initial numbers, the rooms, what this side logged, and the other side
pub record Given : Type 0 where
  pub i : ℕ
  pub j : ℕ
  pub room : ℕ
  pub size : ℕ
  pub peers_size : ℕ
  pub sent : List Sent
  pub written : List ℕ
  pub read : List ℕ
  pub peer : Side

-- one direction, without windows
pub record Carries (size : ℕ) (s : Sender) (r : Receiver) (w rd : List ℕ) : Type 0 where
  pub receiver : ReceiverStands size s r w rd
  pub acknowledged : s.una ≤ expected r

pub record Owns (i j size : ℕ) (s : Sender) (r : Receiver) (w : List ℕ) (log : List Sent) : Type 0 where
  pub sender : SenderStands s w
  pub room : s.room ≡ size
  pub ring : length s.ring ≤ size
  pub sent : All (SentStands i j s w r) log

-- both, from this side
pub record Streams (g : Given) (s : Sender) (r : Receiver) : Type 0 where
  pub own : Owns g.i g.j g.room s r g.written g.sent
  pub there : Carries g.peers_size s g.peer.connection.reception.receiver g.written g.peer.read
  pub here : Carries g.size g.peer.connection.transmission.sender r g.peer.written g.read

-- the numbers of a connection that knows its peer's initial number
pub record Known (i j own theirs : ℕ) (st : State) (n u t : ℕ) : Type 0 where
  pub local : own ≡ i
  pub remote : theirs ≡ number_at j 0
  pub nxt : n ≤ t
  pub una : is_synchronized st ≡ true → u ≤ n
  pub opening : is_opening st ≡ true → u ≡ 1
  pub asks : is_syn_sent st ≡ false

-- of one that doesn't yet
pub record Asking (i own : ℕ) (st : State) (n u t : ℕ) : Type 0 where
  pub local : own ≡ i
  pub state : st ≡ SynSent
  pub nxt : n ≤ t
  pub una : u ≡ 1

abbrev pub is_quiet : Pending → Bool
is_quiet Empty = true
is_quiet (Reset number) = true
is_quiet p = false

-- and of one that never will
pub record Gone (i own : ℕ) (st : State) (p : Pending) (at : Option ℕ) : Type 0 where
  pub local : own ≡ i
  pub state : st ≡ Closed
  pub pending : is_quiet p ≡ true
  pub resend_at : at ≡ None

abbrev pub Knows : Given → Connection → Type 0
Knows g c =
    Known g.i g.j c.local c.remote c.state c.transmission.nxt c.transmission.sender.una c.transmission.sender.top
    × Streams g c.transmission.sender c.reception.receiver

abbrev pub Asks : Given → Connection → Type 0
Asks g c =
    Asking g.i c.local c.state c.transmission.nxt c.transmission.sender.una c.transmission.sender.top
    × Streams g c.transmission.sender c.reception.receiver

abbrev pub IsGone : Given → Connection → Type 0
IsGone g c = Gone g.i c.local c.state c.pending c.timers.resend_at × Streams g c.transmission.sender c.reception.receiver

abbrev pub Good : Given → Connection → Type 0
Good g c = Knows g c ⊎ (Asks g c ⊎ IsGone g c)

-- a side that hasn't begun
pub record Idle (room size : ℕ) (x : Side) : Type 0 where
  pub sender : x.connection.transmission.sender ≡ open_sender room 0
  pub receiver : x.connection.reception.receiver ≡ open_receiver size
  pub written : x.written ≡ []
  pub sent : x.sent ≡ []
