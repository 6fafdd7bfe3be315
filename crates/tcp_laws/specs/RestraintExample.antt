-- What segments do to B of the worked run, which expects position 4, has room up to 10, and owes nothing.
use Rattle.std.specs.Prelude.{◌≡◌, ℕ, Bool, true, false, List, [], ◌∷◌, Some}
use Rattle.tcp_machine.specs.declared.state.State.TheVariants.{Closed}
use Rattle.tcp_machine.specs.declared.timers.Pending.TheVariants.{Challenge}
use Rattle.tcp_machine.specs.Connection.{Connection}
use Rattle.tcp_machine.specs.Segments.{Segment}
use Rattle.tcp_machine.specs.Arrivals.{after_segment_arrives}
use Rattle.tcp_machine.specs.Calls.{readable}
use Rattle.tcp_laws.specs.Machines.{Sends, after_act, after_moves}
use Rattle.tcp_laws.specs.MachinesExample.{i, j, start, moves, no_options}

abbrev pub b : Connection
b = (after_act j (Sends 4) (after_moves i j start moves).b).connection

abbrev pub segment : ℕ → Bool → List ℕ → Segment
segment number rst octets = record {
  number = number;
  ack = Some 301;
  window = 8;
  syn = false;
  fin = false;
  rst = rst;
  octets = octets;
  options = no_options;
}

abbrev pub after : Segment → Connection
after s = after_segment_arrives 5 true s b

pub record SegmentsDo : Type 0 where
  -- a reset of the next number but one brings an acknowledgement, and one beyond the window nothing
  pub other_reset : after (segment 3 true []) ≡ record b { pending = Challenge }
  pub far_reset : after (segment 40 true []) ≡ b
  -- octets at the window's edge are left, and so are those that were read; an acknowledgement answers
  pub beyond : after (segment 9 false (5 ∷ [])) ≡ record b { pending = Challenge }
  pub before : after (segment 4294967295 false (7 ∷ 8 ∷ [])) ≡ record b { pending = Challenge }
  -- What must not stay: the next reset ends the connection, and octets at the next position are taken
  pub next_reset : (after (segment 2 true [])).state ≡ Closed
  pub next_octets : readable (after (segment 2 false (5 ∷ []))) ≡ 9 ∷ 5 ∷ []
