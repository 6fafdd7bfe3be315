-- What the worked examples are made of: two ends, and what goes from one to the other.
use Rattle.std.specs.Prelude.{ℕ, true, false, List, [], Option, Some, None}
use Rattle.std.specs.Option.{option_map}
use Rattle.tcp_machine.specs.declared.settings.Settings.{Settings}
use Rattle.tcp_machine.specs.Connection.{Connection}
use Rattle.tcp_machine.specs.Segments.{Segment, Options}
use Rattle.tcp_machine.specs.Opening.{opened, accepted, after_arrival}
use Rattle.tcp_machine.specs.Outgoing.{Outgoing, Action, action, segment_for, after_action}

-- acknowledgements after 10 ms, no keep-alive, no time-out of the user's, segments of 100 octets, windows not scaled
abbrev pub settings : Settings
settings = record {
  nagle = true;
  ack_delay = 10000;
  keep_alive = None;
  timeout = None;
  shortest_timeout = 1000000;
  congestion_control = true;
  time_wait = 60000000;
  own_mss = 100;
  own_scale = 0;
}

-- rings of twenty octets
abbrev pub opened_by : ℕ → Connection
opened_by iss = opened 0 iss 20 20 100 settings

abbrev pub accepted_by : ℕ → Segment → Connection
accepted_by iss s = accepted 0 iss 20 20 536 100 settings s

abbrev pub no_options : Options
no_options = record { mss = None; scale = None; sack_permitted = false; blocks = [] }

-- a segment of a peer: its number and its acknowledgement, with a window of twenty octets
abbrev pub ack_segment : ℕ → ℕ → Segment
ack_segment number ack = record {
  number = number;
  ack = Some ack;
  window = 20;
  syn = false;
  fin = false;
  rst = false;
  octets = [];
  options = no_options;
}

abbrev pub syn_segment : ℕ → Option ℕ → Segment
syn_segment number ack = record (ack_segment number 0) { ack = ack; syn = true }

abbrev pub reset_segment : ℕ → Segment
reset_segment number = record (ack_segment number 0) { ack = None; rst = true }

abbrev pub fin_segment : ℕ → ℕ → Segment
fin_segment number ack = record (ack_segment number ack) { fin = true }

abbrev pub text_segment : ℕ → ℕ → List ℕ → Segment
text_segment number ack octets = record (ack_segment number ack) { octets = octets }

-- what an end sends at an instant, and what it is then
abbrev pub sends : ℕ → Connection → Option Outgoing
sends now c = option_map (λ (a : Action). segment_for a c) (action now c)

abbrev pub after_sending_of : ℕ → Option Action → Connection → Connection
after_sending_of now None c = c
after_sending_of now (Some a) c = after_action now a c

abbrev pub after_sending : ℕ → Connection → Connection
after_sending now c = after_sending_of now (action now c) c

abbrev pub after_segment : ℕ → Segment → Connection → Connection
after_segment now s c = after_arrival 536 100 now true s c

-- what is sent: SYN, an acknowledgement alone, octets, the end, a reset. Each tells a window of twenty octets, but resets
abbrev pub sent_ack : ℕ → ℕ → Outgoing
sent_ack number ack = record {
  number = number;
  ack = Some ack;
  window = 20;
  syn = false;
  fin = false;
  rst = false;
  blocks = [];
  octets = [];
}

abbrev pub sent_syn : ℕ → Option ℕ → Outgoing
sent_syn number ack = record (sent_ack number 0) { ack = ack; syn = true }

abbrev pub sent_text : ℕ → ℕ → List ℕ → Outgoing
sent_text number ack octets = record (sent_ack number ack) { octets = octets }

abbrev pub sent_fin : ℕ → ℕ → Outgoing
sent_fin number ack = record (sent_ack number ack) { fin = true }

abbrev pub sent_reset : ℕ → Outgoing
sent_reset number = record (sent_ack number 0) { ack = None; window = 0; rst = true }
