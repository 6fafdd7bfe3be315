-- What goes over the wire in one direction: pieces of the stream, and in the other direction their acknowledgements.
use Rattle.std.specs.Prelude.{◌≡◌, ℕ, zero, suc, ◌+◌, Bool, List, ◌++◌, length, slice_get, Option, None}
use Rattle.std.specs.Prelude.{if◌then◌else◌}
use Rattle.tcp_machine.specs.Positions.{number_at}

-- xs is the beginning of ys
abbrev pub IsBeginning : {X : Type 0} → List X → List X → Type 0
IsBeginning {X} xs ys = (rest : List X) × (xs ++ rest ≡ ys)

-- the octet of a stream at a position
abbrev pub octet_at : List ℕ → ℕ → Option ℕ
octet_at stream zero = None
octet_at stream (suc p) = slice_get stream p

-- a piece of a stream: the position of its first octet, its octets, and whether the end follows them
pub record Piece : Type 0 where
  pub start : ℕ
  pub octets : List ℕ
  pub ends : Bool

-- the position after its octets
abbrev pub after_octets : Piece → ℕ
after_octets p = p.start + length p.octets

-- the position after it; the end takes one (RFC 9293 3.4)
abbrev pub after_piece : Piece → ℕ
after_piece p = after_octets p + (if p.ends then 1 else 0)

-- its segment on the wire
pub record PieceOnWire : Type 0 where
  pub number : ℕ
  pub octets : List ℕ
  pub fin : Bool

abbrev pub piece_on_wire : ℕ → Piece → PieceOnWire
piece_on_wire initial p = record { number = number_at initial p.start; octets = p.octets; fin = p.ends }

-- an acknowledgement: the next position that is expected, and how many from there on there is room for
pub record Ack : Type 0 where
  pub position : ℕ
  pub window : ℕ

-- on the wire (the window is taken as unscaled)
pub record AckOnWire : Type 0 where
  pub number : ℕ
  pub window : ℕ

abbrev pub ack_on_wire : ℕ → Ack → AckOnWire
ack_on_wire initial a = record { number = number_at initial a.position; window = a.window }
