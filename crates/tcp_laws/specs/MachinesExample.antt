-- A worked example: two connections of the machine, from the first SYN to the octets that are read; and beside it what the
-- premise keeps out.
use Rattle.std.specs.Prelude.{◌≡◌, ℕ, true, false, List, [], ◌∷◌, None}
use Rattle.tcp_machine.specs.declared.settings.Settings.{Settings}
use Rattle.tcp_machine.specs.declared.state.State.TheVariants.{Closed}
use Rattle.tcp_machine.specs.Segments.{Options}
use Rattle.tcp_machine.specs.Calls.{readable}
use Rattle.tcp_machine.specs.Outgoing.{SendSyn, SendNext, next_piece}
use Rattle.tcp_laws.specs.Machines.{Sent, sent_as, Side, unopened, MayArrive, Opens, Accepts, Writes, Reads, Gets, Sends, after_act, Pair}
use Rattle.tcp_laws.specs.Machines.{Move, OfA, OfB, AreMoves, after_moves}

abbrev pub settings : Settings
settings = record {
  nagle = false;
  ack_delay = 0;
  keep_alive = None;
  timeout = None;
  shortest_timeout = 1000000;
  congestion_control = false;
  time_wait = 60000000;
  own_mss = 100;
  own_scale = 0;
}

abbrev pub no_options : Options
no_options = record { mss = None; scale = None; sack_permitted = false; blocks = [] }

abbrev pub side : Side
side = unopened 8 8 settings

-- A's initial number is 2^32 - 2, so its second octet has number 0; B's is 300
abbrev pub i : ℕ
i = 4294967294

abbrev pub j : ℕ
j = 300

-- A's SYN, B's SYN-ACK, and A's octets after it
abbrev pub a_asks : Side
a_asks = after_act i (Opens 0 100 settings) side

abbrev pub syn : Sent
syn = sent_as SendSyn a_asks.connection

abbrev pub b_answers : Side
b_answers = after_act j (Accepts 1 536 100 settings syn no_options) side

abbrev pub syn_ack : Sent
syn_ack = sent_as SendSyn b_answers.connection

abbrev pub a_writes : Side
a_writes = after_act i (Writes (7 ∷ 8 ∷ 9 ∷ [])) (after_act i (Gets 536 100 2 true syn_ack no_options) (after_act i (Sends 0) a_asks))

abbrev pub text : Sent
text = sent_as (SendNext (next_piece a_writes.connection)) a_writes.connection

-- the octets arrive twice, and are read
abbrev pub moves : List Move
moves =
    OfA (Opens 0 100 settings) ∷ OfA (Sends 0) ∷ OfB (Accepts 1 536 100 settings syn no_options) ∷ OfB (Sends 1)
    ∷ OfA (Gets 536 100 2 true syn_ack no_options) ∷ OfA (Writes (7 ∷ 8 ∷ 9 ∷ [])) ∷ OfA (Sends 2)
    ∷ OfB (Gets 536 100 3 true text no_options) ∷ OfB (Reads 2) ∷ OfB (Gets 536 100 4 true text no_options) ∷ []

abbrev pub start : Pair
start = record { a = side; b = side }

-- a segment that nobody sent, with the next number
abbrev pub forged : Sent
forged = record text { segment = record text.segment { number = 2; octets = 1 ∷ [] } }

-- and a reset of the same number, which nobody sent either
abbrev pub reset : Sent
reset = record text { segment = record text.segment { number = 2; rst = true; octets = [] } }

abbrev pub after_reset : Side
after_reset = after_act j (Gets 536 100 5 true reset no_options) (after_moves i j start moves).b

pub record TwoMachinesRun : Type 0 where
  pub number : text.segment.number ≡ 4294967295
  pub run : AreMoves i j start moves
  pub what_was_read : (after_moves i j start moves).b.read ≡ 7 ∷ 8 ∷ []
  pub what_is_left : readable (after_moves i j start moves).b.connection ≡ 9 ∷ []
  -- What must not be: with a segment that A didn't send, what B reads isn't what A wrote
  pub forged_octet :
      readable (after_act j (Gets 536 100 5 true forged no_options) (after_moves i j start moves).b).connection ≡ 9 ∷ 1 ∷ []
  -- the reset may come, as from a host that knows no such connection. It ends the connection, and takes no octet
  pub reset_comes : MayArrive (after_moves i j start moves).b.connection (after_moves i j start moves).a.sent reset
  pub reset_ends : after_reset.connection.state ≡ Closed
  pub reset_keeps : readable after_reset.connection ≡ 9 ∷ []
