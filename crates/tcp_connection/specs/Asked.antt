-- What a host asks of a connection, besides its events.
use Rattle.std.specs.Prelude.{ℕ, Bool, true, false, nat_lt, nat_le, ◌==◌, ◌&&◌, ◌||◌, not, length, is_none, Option, Some, None, if◌then◌else◌}
use Rattle.tcp_machine.specs.Connection.{Connection}
use Rattle.tcp_machine.specs.Positions.{position_near}
use Rattle.tcp_machine.specs.States.{may_write, takes_octets, is_synchronized, is_opening}
use Rattle.tcp_machine.specs.Calls.{taken, readable, room_to_write}
use Rattle.tcp_machine.specs.Outgoing.{is_syn_sent, next_action}
use Rattle.tcp_machine.specs.Arrivals.{is_syn_received}
use Rattle.tcp_machine.specs.Opening.{opened}
use Rattle.tcp_machine.specs.declared.settings.Settings.{Settings}
use Rattle.tcp_machine.specs.declared.state.State.TheVariants.{Closed}
use Rattle.tcp_machine.specs.declared.timers.Owed.{Owed}
use Rattle.tcp_machine.specs.declared.timers.Owed.TheVariants.{Nothing}
use Rattle.tcp_machine.specs.declared.timers.Pending.{Pending}
use Rattle.tcp_machine.specs.declared.timers.Pending.TheVariants.{Challenge, SynAgain}

-- no connection yet, with room for so many octets each way
abbrev pub unopened : (send_room receive_room : ℕ) → Settings → Connection
unopened send_room receive_room settings = record (opened 0 0 send_room receive_room 536 settings) { state = Closed }

-- the program may write, and an octet has room
abbrev pub may_send : Connection → Bool
may_send c = may_write c.state && is_none c.transmission.sender.stop

abbrev pub can_send : Connection → Bool
can_send c = nat_lt 0 (taken 1 c)

-- how many octets a write takes, if it has as many
abbrev pub send_room : Connection → ℕ
send_room c = if may_send c then room_to_write c.transmission.sender else 0

-- an octet in order isn't read
abbrev pub can_recv : Connection → Bool
can_recv c = nat_lt 0 (length (readable c))

-- there is one, or one may still come
abbrev pub may_recv : Connection → Bool
may_recv c = takes_octets c.state || can_recv c

-- the scale that the own SYN offers: one that answers a SYN only if that offered one, as far as either side scales its windows
abbrev pub offered_scale : Connection → Option ℕ
offered_scale c =
    if is_syn_sent c.state || nat_lt 0 c.transmission.scale || nat_lt 0 c.reception.scale then Some c.settings.own_scale else None

-- only a challenge is to be sent: an acknowledgement, or the own SYN once more, answers a segment that may be an attacker's (RFC
-- 5961), and without that segment nothing would be sent now, and no acknowledgement would be owed
abbrev pub is_answer : Pending → Bool
is_answer Challenge = true
is_answer SynAgain = true
is_answer p = false

abbrev pub owes_nothing : Owed → Bool
owes_nothing Nothing = true
owes_nothing o = false

abbrev pub is_otherwise_silent : ℕ → Connection → Bool
is_otherwise_silent now c =
    if is_synchronized c.state then is_none (next_action now c) else is_syn_received c.state && not (c.transmission.nxt == 0)

abbrev pub is_only_challenged : ℕ → Connection → Bool
is_only_challenged now c = is_answer c.pending && owes_nothing c.reception.owed && is_otherwise_silent now c

-- a segment with this number was sent and isn't acknowledged (RFC 5927 4.1); of a connection that is being opened it is the own SYN
abbrev pub is_within : Option ℕ → (from to : ℕ) → Bool
is_within None from to = false
is_within (Some p) from to = nat_le from p && nat_lt p to

abbrev pub is_unacknowledged : ℕ → Connection → Bool
is_unacknowledged number c =
    if is_opening c.state then number == c.local
    else is_within (position_near c.local c.transmission.sender.una number) c.transmission.sender.una c.transmission.sender.top
