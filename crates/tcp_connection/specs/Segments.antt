-- Segments as the machine has them.
use Rattle.std.specs.Prelude.{ℕ, List}
use Rattle.std.specs.List.{filter_map}
use Rattle.tcp_machine.specs.Pieces.{Piece}
use Rattle.tcp_machine.specs.Segments as machine
use Rattle.tcp_connection.specs.declared.segment.Segment.{Segment}

-- a segment's values with its octets
abbrev pub segment_of : Segment → List ℕ → machine.Segment
segment_of s octets = record {
  number = s.number;
  ack = s.ack;
  window = s.window;
  syn = s.syn;
  fin = s.fin;
  rst = s.rst;
  octets = octets;
  options = record { mss = s.mss; scale = s.scale; sack_permitted = s.sack_permitted; blocks = filter_map (λ b. b) s.blocks };
}

-- the piece that it carries, from a position on
abbrev pub piece_of : ℕ → Segment → List ℕ → Piece
piece_of start s octets = record { start = start; octets = octets; ends = s.fin }
