-- Answers end: two connections whose numbers don't fit don't answer each other for ever (RFC 9293 3.10.7.4; RFC 5961 7).
use Rattle.std.specs.Prelude.{◌≡◌, ℕ, ◌+◌, ◌*◌, ◌≤◌, ◌^◌, Bool, true, false, Some}
use Rattle.tcp_machine.specs.declared.timers.Pending.TheVariants.{Empty, Challenge}
use Rattle.tcp_machine.specs.Connection.{Connection}
use Rattle.tcp_machine.specs.Segments.{Segment, Options}
use Rattle.tcp_machine.specs.Acknowledgements.{empty_position}
use Rattle.tcp_machine.specs.Arrivals.{after_segment_arrives}
use Rattle.tcp_machine.specs.Opening.{after_arrival}
use Rattle.tcp_machine.specs.Outgoing.{SendSyn, SendAck, action, segment_for, ack_number, is_syn_due}
use Rattle.tcp_laws.specs.Machines.{arrived}

-- the acknowledgement by which a connection answers, as it arrives at the other one
abbrev pub answer_of : Connection → Options → Segment
answer_of c options = arrived (segment_for SendAck c) options

-- windows are as large as a field can tell (RFC 7323 2.3), and no more is on its way than the largest ring holds, and the end
pub record IsBounded (c : Connection) : Type 0 where
  pub window : c.transmission.largest_window ≤ 65535 * 2 ^ 14
  pub sent : empty_position c.transmission ≤ c.transmission.sender.una + 2 ^ 30 + 1

-- a segment makes a connection answer, that would send nothing but that
pub record Answers (now : ℕ) (keeps : Bool) (s : Segment) (c : Connection) : Type 0 where
  pub none : c.pending ≡ Empty
  pub one : (after_segment_arrives now keeps s c).pending ≡ Challenge

-- Whatever two connections are, and whatever each believes of the other's numbers: if an answer of C makes D answer, then this one
-- makes C answer no more
abbrev pub AnswersEnd : Type 0
AnswersEnd =
    (now t : ℕ) (keeps kept : Bool) (o p : Options) (c d : Connection) → IsBounded d → Answers now keeps (answer_of c o) d →
    Answers t kept (answer_of (after_segment_arrives now keeps (answer_of c o) d) p) c → ⊥

-- Nor does a SYN that acknowledges something bring a SYN, in no state
abbrev pub NoSynAnswersASynAck : Type 0
NoSynAnswersASynAck =
    (default link now t number : ℕ) (keeps : Bool) (s : Segment) (c : Connection) → s.syn ≡ true → s.ack ≡ Some number →
    is_syn_due t c ≡ false → action t (after_arrival default link now keeps s c) ≡ Some SendSyn → ⊥

-- Nor does a reset that answers an acknowledgement of a connection bring anything: its number is the one that was acknowledged
abbrev pub NothingAnswersAReset : Type 0
NothingAnswersAReset =
    (now : ℕ) (keeps : Bool) (s : Segment) (c : Connection) → s.rst ≡ true → s.number ≡ ack_number c → c.pending ≡ Empty →
    (after_segment_arrives now keeps s c).pending ≡ Empty
