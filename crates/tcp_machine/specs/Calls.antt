-- What a program does with a connection (RFC 9293 3.10.2 to 3.10.5).
use Rattle.std.specs.Prelude.{ℕ, ◌+◌, ◌-◌, ◌^◌, min, Bool, List, length, take, None, is_none, ◌&&◌, if◌then◌else◌}
use Rattle.tcp_machine.specs.declared.timers.Ending.TheVariants.{Aborted}
use Rattle.tcp_machine.specs.declared.state.State.{State}
use Rattle.tcp_machine.specs.Sending.{Sender, after_write, after_close}
use Rattle.tcp_machine.specs.Receiving.{in_order, after_read}
use Rattle.tcp_machine.specs.States.{may_write, after_program_closes}
use Rattle.tcp_machine.specs.Connection.{Connection}
use Rattle.tcp_machine.specs.Arrivals.{ended, aborted, is_closed}

-- Positions end here, after a year at a terabit a second: nothing more is written, and nothing more is read
abbrev pub last_position : ℕ
last_position = 2 ^ 62

-- how many octets the send ring still takes
abbrev pub room_to_write : Sender → ℕ
room_to_write s = min (s.room - length s.ring) (last_position - (s.una + length s.ring))

-- how many of so many octets a write takes (RFC 9293 3.10.2)
abbrev pub taken : ℕ → Connection → ℕ
taken n c =
    if may_write c.state && is_none c.transmission.sender.stop then min n (room_to_write c.transmission.sender) else 0

abbrev pub with_sender : Sender → Connection → Connection
with_sender s c = record c { transmission = record c.transmission { sender = s } }

abbrev pub after_writing : List ℕ → Connection → Connection
after_writing octets c = with_sender (after_write (take (taken (length octets) c) octets) c.transmission.sender) c

-- the octets in order
abbrev pub readable : Connection → List ℕ
readable c = in_order c.reception.receiver.cells

-- how many octets a read gives, of so many that it wants (RFC 9293 3.10.3)
abbrev pub readable_count : ℕ → Connection → ℕ
readable_count n c = min n (min (length (readable c)) (last_position - c.reception.receiver.base))

abbrev pub read_of : ℕ → Connection → List ℕ
read_of n c = take (readable_count n c) (readable c)

abbrev pub after_reading : ℕ → Connection → Connection
after_reading n c = record c {
  reception = record c.reception { receiver = after_read (readable_count n c) c.reception.receiver };
}

-- The program closes (RFC 9293 3.10.4): the end follows what was written. In SYN-SENT the connection is gone at once
abbrev pub closes_at_once : State → Bool
closes_at_once s = is_closed (after_program_closes s)

abbrev pub after_closing : Connection → Connection
after_closing c =
    if closes_at_once c.state then ended None c
    else if is_none c.transmission.sender.stop
    then record (with_sender (after_close c.transmission.sender) c) { state = after_program_closes c.state } else c

-- It aborts (RFC 9293 3.10.5)
abbrev pub after_abort : Connection → Connection
after_abort c = if is_closed c.state then c else aborted Aborted c
