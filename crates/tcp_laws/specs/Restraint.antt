-- What segments don't do to a connection that knows its peer's initial number, by their positions; and what a connection
-- that is gone doesn't send.
use Rattle.std.specs.Prelude.{◌≡◌, ℕ, ◌<◌, ◌≤◌, Bool, true, false, Some, None, ◌⊎◌}
use Rattle.tcp_machine.specs.declared.state.State.TheVariants.{Closed}
use Rattle.tcp_machine.specs.declared.timers.Pending.TheVariants.{Empty, Challenge, Reset}
use Rattle.tcp_machine.specs.Positions.{number_at, position_near}
use Rattle.tcp_machine.specs.Pieces.{Piece, after_piece}
use Rattle.tcp_machine.specs.Receiving.{Receiver, next, edge, expected}
use Rattle.tcp_machine.specs.Connection.{Connection}
use Rattle.tcp_machine.specs.Segments.{Segment}
use Rattle.tcp_machine.specs.Arrivals.{is_time_wait, after_segment_arrives}
use Rattle.tcp_machine.specs.Opening.{after_arrival, after_arrival_in_syn_sent}
use Rattle.tcp_machine.specs.Outgoing.{action}

-- nothing changes but that one acknowledgement is to be sent, where nothing else was
abbrev pub IsUntouched : Connection → Connection → Type 0
IsUntouched old new = (new ≡ old) ⊎ ((old.pending ≡ Empty) × (new ≡ record old { pending = Challenge }))

-- Each position of a piece is before the window or beyond it. An empty one is before the next position and the edge, or
-- beyond both
pub record IsOutside (r : Receiver) (p : Piece) : Type 0 where
  pub positions : (q : ℕ) → p.start ≤ q → q < after_piece p → (q < expected r) ⊎ (edge r ≤ q)
  pub empty : after_piece p ≡ p.start →
      ((p.start < expected r) × (p.start < edge r)) ⊎ ((expected r < p.start) × (edge r < p.start))

-- A segment outside the window changes nothing, and brings at most one acknowledgement. A FIN in TIME-WAIT restarts it
abbrev pub OutsideChangesNothing : Type 0
OutsideChangesNothing =
    (now : ℕ) (keeps : Bool) (s : Segment) (c : Connection) (p : ℕ) →
    s.syn ≡ false → is_time_wait c.state ≡ false → position_near c.remote (next c.reception.receiver) s.number ≡ Some p →
    IsOutside c.reception.receiver (record { start = p; octets = s.octets; ends = s.fin }) →
    IsUntouched c (after_segment_arrives now keeps s c)

-- A reset with any number but the next one changes nothing, and brings at most one acknowledgement
abbrev pub OtherResetsChangeNothing : Type 0
OtherResetsChangeNothing =
    (now : ℕ) (keeps : Bool) (s : Segment) (c : Connection) → s.rst ≡ true →
    (position_near c.remote (next c.reception.receiver) s.number ≡ Some (expected c.reception.receiver) → ⊥) →
    IsUntouched c (after_segment_arrives now keeps s c)

-- In SYN-SENT one that doesn't acknowledge the own SYN changes nothing at all
abbrev pub EarlyResetsChangeNothing : Type 0
EarlyResetsChangeNothing =
    (default link now : ℕ) (s : Segment) (c : Connection) → s.rst ≡ true → (s.ack ≡ Some (number_at c.local 1) → ⊥) →
    after_arrival_in_syn_sent default link now s c ≡ c

-- No reset answers a reset, in no state
abbrev pub NoResetAnswersAReset : Type 0
NoResetAnswersAReset =
    (default link now : ℕ) (keeps : Bool) (s : Segment) (c : Connection) (number : ℕ) → s.rst ≡ true →
    (after_arrival default link now keeps s c).pending ≡ Reset number → c.pending ≡ Reset number

-- A connection that is gone sends nothing, once its reset is sent, whatever arrives
pub record GoneIsSilent (now : ℕ) (c : Connection) : Type 0 where
  pub silent : action now c ≡ None
  pub stays : (default link : ℕ) (keeps : Bool) (s : Segment) → after_arrival default link now keeps s c ≡ c

abbrev pub ClosedIsSilent : Type 0
ClosedIsSilent = (now : ℕ) (c : Connection) → c.state ≡ Closed → c.pending ≡ Empty → GoneIsSilent now c
