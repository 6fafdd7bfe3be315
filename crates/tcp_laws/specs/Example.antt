-- A worked example: numbers that wrap within a segment, segments out of order and twice, and the end.
use Rattle.std.specs.Prelude.{◌≡◌, ℕ, true, false, List, [], ◌∷◌}
use Rattle.tcp_machine.specs.Pieces.{Piece, piece_on_wire}
use Rattle.tcp_laws.specs.Run.{Event, Write, Close, Send, Arrive, Read, TellEnd, Acknowledge, ArriveAck, opened, AreRun, after_all}
use Rattle.tcp_laws.specs.Laws.{written, read}

-- A's initial number is 2^32 - 3, so the third octet has number 0
abbrev pub initial : ℕ
initial = 4294967293

abbrev pub first : Piece
first = record { start = 1; octets = 10 ∷ 20 ∷ 30 ∷ []; ends = false }

abbrev pub second : Piece
second = record { start = 4; octets = 40 ∷ 50 ∷ []; ends = true }

-- both once more in one piece
abbrev pub whole : Piece
whole = record { start = 1; octets = 10 ∷ 20 ∷ 30 ∷ 40 ∷ 50 ∷ []; ends = true }

abbrev pub events : List Event
events =
    Write (10 ∷ 20 ∷ 30 ∷ []) ∷ Send first ∷ Write (40 ∷ 50 ∷ []) ∷ Close ∷ Send second ∷ Arrive second ∷ Acknowledge 8
    ∷ Send whole ∷ Arrive whole ∷ Read (10 ∷ 20 ∷ []) ∷ Arrive first ∷ Acknowledge 5
    ∷ ArriveAck (record { position = 7; window = 5 }) ∷ ArriveAck (record { position = 1; window = 8 }) ∷ Arrive second
    ∷ Read (30 ∷ 40 ∷ 50 ∷ []) ∷ TellEnd ∷ []

-- the numbers on the wire; the run may happen; all is read; and all is acknowledged, the end too
pub record AStreamWraps : Type 0 where
  pub first_number : (piece_on_wire initial first).number ≡ 4294967294
  pub second_number : (piece_on_wire initial second).number ≡ 1
  pub run : AreRun initial (opened 8 8 8) events
  pub what_was_read : read events ≡ 10 ∷ 20 ∷ 30 ∷ 40 ∷ 50 ∷ []
  pub what_was_written : written events ≡ 10 ∷ 20 ∷ 30 ∷ 40 ∷ 50 ∷ []
  pub una : (after_all initial (opened 8 8 8) events).sender.una ≡ 7
  pub ring : (after_all initial (opened 8 8 8) events).sender.ring ≡ []
