-- What the two connections of the worked run do for their programs, and beside it what they don't.
use Rattle.std.specs.Prelude.{◌≡◌, ℕ, true, false, [], ◌∷◌, Some, None}
use Rattle.tcp_machine.specs.declared.state.State.TheVariants.{Established, SynReceived}
use Rattle.tcp_machine.specs.declared.timers.Pending.TheVariants.{Empty, Challenge}
use Rattle.tcp_machine.specs.Connection.{Connection}
use Rattle.tcp_machine.specs.Segments.{Segment}
use Rattle.tcp_machine.specs.Arrivals.{after_segment_arrives}
use Rattle.tcp_machine.specs.Calls.{readable, after_closing}
use Rattle.tcp_machine.specs.Outgoing.{SendSyn, SendNext, SendAck, action, after_action}
use Rattle.tcp_laws.specs.Machines.{Sends, after_act}
use Rattle.tcp_laws.specs.MachinesExample.{no_options, i, b_answers, a_writes}
use Rattle.tcp_laws.specs.RestraintExample.{segment, after}

-- A has sent octets 7, 8 and 9 at positions 1 to 3; B acknowledges up to a number
abbrev pub a_sent : Connection
a_sent = (after_act i (Sends 2) a_writes).connection

abbrev pub acknowledgement : ℕ → Segment
acknowledgement number = record {
  number = 301;
  ack = Some number;
  window = 8;
  syn = false;
  fin = false;
  rst = false;
  octets = [];
  options = no_options;
}

abbrev pub a_hears : ℕ → Connection
a_hears number = after_segment_arrives 3 true (acknowledgement number) a_sent

-- A, had B told a window up to a position, after it has acknowledged B's SYN
abbrev pub a_with_edge : ℕ → Connection
a_with_edge edge =
    after_action 2 SendAck (record a_writes.connection { transmission = record a_writes.connection.transmission { told_edge = edge } })

-- A's program has closed, and all octets were sent
abbrev pub a_closed : Connection
a_closed = after_closing a_sent

-- B, once its own SYN is acknowledged
abbrev pub b_up : Connection
b_up =
    after_segment_arrives 2 true (record (acknowledgement 301) { number = 4294967295 })
    (after_action 1 SendSyn b_answers.connection)

pub record AConnectionServes : Type 0 where
  -- octets behind what was read are read; behind a gap they aren't
  pub next : readable (after (segment 2 false (5 ∷ []))) ≡ 9 ∷ 5 ∷ []
  pub behind_a_gap : readable (after (segment 3 false (5 ∷ []))) ≡ 9 ∷ []
  -- two of three octets are acknowledged, and leave the ring; of five that weren't sent nothing is believed
  pub leave : (a_hears 1).transmission.sender.ring ≡ 9 ∷ []
  pub above : (a_hears 4).transmission ≡ a_sent.transmission
  -- an empty segment that tells so brings nothing; one with an octet is answered
  pub silent : (a_hears 4).pending ≡ Empty
  pub answered : (after_segment_arrives 3 true (record (acknowledgement 4) { octets = 5 ∷ [] }) a_sent).pending ≡ Challenge
  -- A sends all three octets at once; with a window for two of them it waits
  pub sent : action 2 a_writes.connection ≡ Some (SendNext (record { start = 1; octets = 7 ∷ 8 ∷ 9 ∷ []; ends = false }))
  pub held_back : action 3 (a_with_edge 3) ≡ None
  -- its end follows, but not before the last octet
  pub end : action 3 a_closed ≡ Some (SendNext (record { start = 4; octets = []; ends = true }))
  pub no_end : action 3 a_sent ≡ None
  -- a listener answers the SYN, which doesn't establish it; the acknowledgement of its own SYN does
  pub answers : action 1 b_answers.connection ≡ Some SendSyn
  pub not_yet : b_answers.connection.state ≡ SynReceived
  pub established : b_up.state ≡ Established
