-- What holds of a direction all along a run.
use Rattle.std.proofs.Common.{◌≡◌, ◌<◌, ◌≤◌, ◌+◌, ◌-◌, ℕ, suc, true, List, length, take, drop, Some, None, slice_get}
use Rattle.std.specs.List.{All}
use Rattle.tcp_machine.specs.Pieces.{octet_at, Piece, after_octets, after_piece, Ack}
use Rattle.tcp_machine.specs.Sending.{Sender}
use Rattle.tcp_machine.specs.Receiving.{Receiver, expected}
use Rattle.tcp_laws.specs.Run.{Direction}

-- a sender, after w was written
pub record SenderStands (s : Sender) (w : List ℕ) : Type 0 where
  pub una : 1 ≤ s.una
  pub ring : s.ring ≡ drop (s.una - 1) w
  pub una_top : s.una ≤ s.top
  pub top_open : s.stop ≡ None → s.top ≤ suc (length w)
  pub top_stop : (e : ℕ) → s.stop ≡ Some e → (e ≡ suc (length w)) × (s.top ≤ suc (suc (length w)))

-- a piece that it sent
pub record PieceStands (s : Sender) (w : List ℕ) (p : Piece) : Type 0 where
  pub octets : (i x : ℕ) → slice_get p.octets i ≡ Some x → octet_at w (p.start + i) ≡ Some x
  pub last : p.ends ≡ true → s.stop ≡ Some (after_octets p)
  pub sent : after_piece p ≤ s.top

-- a receiver, of which rd was read
pub record ReceiverStands (size : ℕ) (s : Sender) (r : Receiver) (w rd : List ℕ) : Type 0 where
  pub places : length r.cells ≡ size
  pub cells : (i x : ℕ) → slice_get r.cells i ≡ Some (Some x) → octet_at w (r.base + i) ≡ Some x
  pub held : (i x : ℕ) → slice_get r.cells i ≡ Some (Some x) → r.base + i < s.top
  pub base : 1 ≤ r.base
  pub read : rd ≡ take (r.base - 1) w
  pub within : r.base ≤ suc (length w)
  pub base_top : r.base ≤ s.top
  pub stop : (e : ℕ) → r.stop ≡ Some e → (s.stop ≡ Some e) × (e < s.top)

-- an acknowledgement that it sent
pub record AckStands (size : ℕ) (r : Receiver) (a : Ack) : Type 0 where
  pub position : a.position ≤ expected r
  pub edge : a.position + a.window ≤ r.base + size + 1
  pub window : a.window ≤ size

-- windows: what the sender may send, and what it sent, lies within the receiver's ring
abbrev pub StartsWithin : Sender → Piece → Type 0
StartsWithin s p = p.start ≤ s.edge + 1

pub record WindowStands (size : ℕ) (s : Sender) (base : ℕ) (ps : List Piece) : Type 0 where
  pub top_edge : s.top ≤ s.edge + 2
  pub edge : s.edge ≤ s.una + size
  pub room : s.edge ≤ base + size + 1
  pub starts : All (StartsWithin s) ps

pub record Stands (size : ℕ) (d : Direction) (w rd : List ℕ) : Type 0 where
  pub sender : SenderStands d.sender w
  pub receiver : ReceiverStands size d.sender d.receiver w rd
  pub window : WindowStands size d.sender d.receiver.base d.pieces
  pub pieces : All (PieceStands d.sender w) d.pieces
  pub acks : All (AckStands size d.receiver) d.acks
  pub acknowledged : d.sender.una ≤ expected d.receiver
