-- Pieces of what is sent, without their octets.
use Rattle.std.specs.Prelude.{◌≡◌, ℕ, length}
use Rattle.tcp_machine.specs.Pieces.{Piece}
use Rattle.tcp_machine.specs.Sending.{Sender}
use Rattle.tcp_machine.specs.Outgoing.{piece_from}
use Rattle.tcp_connection.specs.declared.transmission.Part.{Part}

abbrev pub part_of : Piece → Part
part_of p = record { start = p.start; len = length p.octets; ends = p.ends }

-- a part is the piece from its start on with some number of octets at most
pub record IsPieceOf (part : Part) (s : Sender) : Type 0 where
  pub most : ℕ
  pub is : part ≡ part_of (piece_from part.start most s)
