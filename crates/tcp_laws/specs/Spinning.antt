-- At an instant nothing goes on for ever: so many segments leave nothing to be sent (RFC 9293 3.8.6.2.2 for what a window tells).
use Rattle.std.specs.Prelude.{◌≡◌, ℕ, zero, suc, ◌+◌, ◌-◌, length, Option, Some, None}
use Rattle.tcp_machine.specs.Connection.{Connection}
use Rattle.tcp_machine.specs.Outgoing.{Action, action, after_action}

-- what a connection offers at an instant is sent, if it offers something
abbrev pub after_offer : (now : ℕ) → Option Action → Connection → Connection
after_offer now None c = c
after_offer now (Some m) c = after_action now m c

-- so many times, one after the other
abbrev pub after_offers : (now n : ℕ) → Connection → Connection
after_offers now zero c = c
after_offers now (suc n) c = after_offers now n (after_offer now (action now c) c)

-- how many octets wait that aren't on their way
abbrev pub waiting_octets : Connection → ℕ
waiting_octets c = c.transmission.sender.una + length c.transmission.sender.ring - c.transmission.nxt

-- Whatever the connection is: a segment for each octet that waits, one for the end, one that is pending, and one that
-- acknowledges or tells a window, and there is nothing to be sent
abbrev pub NothingSpins : Type 0
NothingSpins = (now : ℕ) (c : Connection) → action now (after_offers now (waiting_octets c + 3) c) ≡ None
