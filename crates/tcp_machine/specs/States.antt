-- The states of a connection and what moves it from one to the next (RFC 9293 3.3.2, figure 5).
use Rattle.std.specs.Prelude.{Bool, true, false}
use Rattle.tcp_machine.specs.declared.state.State.{State}
use Rattle.tcp_machine.specs.declared.state.State.TheVariants.{Closed, Listen, SynSent, SynReceived, Established, FinWait1}
use Rattle.tcp_machine.specs.declared.state.State.TheVariants.{FinWait2, CloseWait, Closing, LastAck, TimeWait}

-- both sides know the other's initial number (RFC 9293 3.10.7.4)
abbrev pub is_synchronized : State → Bool
is_synchronized Closed = false
is_synchronized Listen = false
is_synchronized SynSent = false
is_synchronized SynReceived = false
is_synchronized s = true

-- the own SYN isn't acknowledged
abbrev pub is_opening : State → Bool
is_opening SynSent = true
is_opening SynReceived = true
is_opening s = false

-- octets are taken from the peer (RFC 9293 3.10.7.4, seventh check)
abbrev pub takes_octets : State → Bool
takes_octets Established = true
takes_octets FinWait1 = true
takes_octets FinWait2 = true
takes_octets s = false

-- the program may write (RFC 9293 3.10.2); what it writes before the handshake ends waits for that
abbrev pub may_write : State → Bool
may_write SynSent = true
may_write SynReceived = true
may_write Established = true
may_write CloseWait = true
may_write s = false

-- octets, and the end, are sent or sent again
abbrev pub sends_octets : State → Bool
sends_octets Established = true
sends_octets FinWait1 = true
sends_octets CloseWait = true
sends_octets Closing = true
sends_octets LastAck = true
sends_octets s = false

-- The program closes (RFC 9293 3.10.4). In SYN-RECEIVED that waits until the own SYN is acknowledged
abbrev pub after_program_closes : State → State
after_program_closes Listen = Closed
after_program_closes SynSent = Closed
after_program_closes Established = FinWait1
after_program_closes CloseWait = LastAck
after_program_closes s = s

-- all up to the peer's end has arrived (RFC 9293 3.10.7.4, eighth check)
abbrev pub after_peers_end : State → State
after_peers_end Established = CloseWait
after_peers_end FinWait1 = Closing
after_peers_end FinWait2 = TimeWait
after_peers_end s = s

-- the own end is acknowledged (RFC 9293 3.10.7.4, fifth check)
abbrev pub after_end_acknowledged : State → State
after_end_acknowledged FinWait1 = FinWait2
after_end_acknowledged Closing = TimeWait
after_end_acknowledged LastAck = Closed
after_end_acknowledged s = s
