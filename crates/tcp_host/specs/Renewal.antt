-- A SYN reopens a connection in TIME-WAIT (RFC 9293 3.6.1, MAY-2; RFC 1122 4.2.2.13; RFC 6191 2, without timestamps).
use Rattle.std.specs.Prelude.{ℕ, ◌+◌, ◌-◌, ◌%◌, ◌^◌, nat_lt, ◌&&◌, Bool}
use Rattle.tcp_machine.specs.Positions.{number_at}
use Rattle.tcp_machine.specs.Connection.{Connection}
use Rattle.tcp_machine.specs.Acknowledgements.{empty_position}
use Rattle.tcp_machine.specs.Arrivals.{is_time_wait}
use Rattle.tcp_machine.specs.Outgoing.{ack_number}

-- a number is another one, or less than 2^31 behind it
abbrev pub is_from : (first n : ℕ) → Bool
is_from first n = nat_lt ((n + (2 ^ 32 - first)) % 2 ^ 32) (2 ^ 31)

-- The peer's initial number is larger than each that arrived, and the own one larger than each that was sent: they are from RCV.NXT
-- and SND.NXT on. So no octet of the connection that was has a number of the next one
abbrev pub is_renewed_by : (peers own : ℕ) → Connection → Bool
is_renewed_by peers own c =
    is_time_wait c.state && is_from (ack_number c) peers && is_from (number_at c.local (empty_position c.transmission)) own
