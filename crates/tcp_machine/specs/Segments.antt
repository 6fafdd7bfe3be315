-- A segment that arrives (RFC 9293 3.1), its numbers as they stand on the wire, and what they are read as.
use Rattle.std.specs.Prelude.{ℕ, ◌*◌, ◌^◌, Bool, List, Option, Some, None, if◌then◌else◌}
use Rattle.std.specs.Option.{option_map, option_and_then}
use Rattle.tcp_machine.specs.declared.sack.SackBlock.{SackBlock}
use Rattle.tcp_machine.specs.Positions.{position_near}
use Rattle.tcp_machine.specs.Pieces.{Piece}
use Rattle.tcp_machine.specs.Receiving.{next, is_acceptable}
use Rattle.tcp_machine.specs.Connection.{Connection}

-- the options that are read: those of a SYN (RFC 9293 3.2, RFC 7323 2.2, RFC 2018 2), and the blocks of any other segment (RFC 2018 3)
pub record Options : Type 0 where
  pub mss : Option ℕ
  pub scale : Option ℕ
  pub sack_permitted : Bool
  pub blocks : List SackBlock

pub record Segment : Type 0 where
  -- SEG.SEQ and SEG.ACK
  pub number : ℕ
  pub ack : Option ℕ
  -- SEG.WND, as it stands in the header
  pub window : ℕ
  pub syn : Bool
  pub fin : Bool
  pub rst : Bool
  pub octets : List ℕ
  pub options : Options

-- the piece of the peer's stream that a segment without SYN carries, if it isn't older than position 0
abbrev pub piece_in : Connection → Segment → Option Piece
piece_in c s =
    option_map (λ p. record { start = p; octets = s.octets; ends = s.fin })
    (position_near c.remote (next c.reception.receiver) s.number)

-- the piece, if it is acceptable (RFC 9293 3.10.7.4, first check)
abbrev pub acceptable_piece : Connection → Segment → Option Piece
acceptable_piece c s =
    option_and_then (λ (p : Piece). if is_acceptable c.reception.receiver p then Some p else None) (piece_in c s)

-- the position that a segment acknowledges
abbrev pub acknowledged_in : Connection → ℕ → Option ℕ
acknowledged_in c number = position_near c.local c.transmission.sender.una number

-- the window that a segment tells, in octets (RFC 7323 2.3); that of a SYN isn't scaled (2.2)
abbrev pub window_in : Connection → Segment → ℕ
window_in c s = s.window * 2 ^ c.transmission.scale
