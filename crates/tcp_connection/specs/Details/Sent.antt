-- What is sent, by its parts, as code has them.
use Rattle.std.specs.Prelude.{ℕ, ◌+◌, nat_le, Bool, List, [], length, Some, is_none, if◌then◌else◌}
use Rattle.tcp_machine.specs.Instants.{later}
use Rattle.tcp_machine.specs.Sending.{Sender}
use Rattle.tcp_machine.specs.Connection.{Connection}
use Rattle.tcp_machine.specs.Acknowledgements.{since_first}
use Rattle.tcp_machine.specs.Outgoing as machine
use Rattle.tcp_connection.specs.declared.transmission.Part.{Part}
use Rattle.tcp_machine.specs.Outgoing.{octets_from}
use Rattle.tcp_connection.specs.declared.outgoing.Header.{Header}
use Rattle.tcp_connection.specs.declared.outgoing.Action.{Action}
use Rattle.tcp_connection.specs.declared.outgoing.Action.TheVariants.{SendReset, SendSyn, SendNext, SendAgain, SendProbe, SendKeepAlive, SendAck}
use Rattle.tcp_connection.specs.Actions.{header_of}

abbrev pub is_last_part : Part → Sender → Bool
is_last_part p s = nat_le (s.una + length s.ring) (p.start + p.len)

abbrev pub header_at : ℕ → Connection → Header
header_at p c = header_of (machine.empty_at p c)

abbrev pub syn_header : Connection → Header
syn_header c = header_of (machine.syn_segment c)

abbrev pub reset_header : ℕ → Header
reset_header number = header_of (machine.reset_segment number)

-- the timer runs from the first segment that isn't acknowledged
abbrev pub with_resend_timer : ℕ → Connection → Connection
with_resend_timer now c = record c {
  timers = record c.timers {
    resend_at = if is_none c.timers.resend_at then Some (later now c.estimator.timeout) else c.timers.resend_at;
    waiting_since = since_first now c.timers.waiting_since;
  };
}

-- the octets of a piece of what is held
abbrev pub octets_in : Action → Connection → List ℕ
octets_in (SendReset number) c = []
octets_in SendSyn c = []
octets_in (SendNext part) c = octets_from part.start part.len c.transmission.sender
octets_in (SendAgain part) c = octets_from part.start part.len c.transmission.sender
octets_in (SendProbe part) c = octets_from part.start part.len c.transmission.sender
octets_in SendKeepAlive c = []
octets_in SendAck c = []
