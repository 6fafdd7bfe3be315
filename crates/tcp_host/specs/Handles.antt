-- What a program does with its connections (RFC 9293 3.10.1 to 3.10.5).
use Rattle.std.specs.Prelude.{◌≡◌, ℕ, ◌+◌, ◌%◌, ◌^◌, nat_lt, ◌==◌, ◌&&◌, Bool, true, false, [], ◌∷◌, ◌++◌, length, slice_set, Option, Some, None, if◌then◌else◌, not}
use Rattle.tcp_machine.specs.Connection.{Connection}
use Rattle.tcp_machine.specs.Opening.{opened}
use Rattle.tcp_machine.specs.Calls.{after_abort}
use Rattle.tcp_machine.specs.declared.state.State.{State}
use Rattle.tcp_machine.specs.declared.state.State.TheVariants.{Closed, Closing, LastAck, TimeWait}
use Rattle.tcp_host.specs.declared.iss.Endpoints.{Endpoints}
use Rattle.tcp_host.specs.Iss.{iss}
use Rattle.tcp_host.specs.declared.slot.Owner.TheVariants.{Program, Itself}
use Rattle.tcp_host.specs.declared.calls.Handle.{Handle}
use Rattle.tcp_host.specs.Arrivals.{FindsPlace, is_proper}
use Rattle.tcp_host.specs.Challenges.{all_challenges}
use Rattle.tcp_host.specs.Host.{Host, is_program, never, slot_at, connection_at, with_slot, with_connection, with_owner, with_alarm, default_hop_limit, enrolled, link_mss, settings_for, listener_at, with_listener}
use Rattle.ip_address.specs.declared.ip.IpAddress.{IpAddress}
use Rattle.tcp_host.specs.Backlog.{first_of}
use Rattle.tcp_host.specs.Listener.{after_accepting, after_closing, first}
use Rattle.tcp_machine.specs.declared.settings.Settings.{Settings}

-- a handle names the connection of its place, if the place wasn't given to another one since, and the program has it
abbrev pub is_named : Handle → Host → Bool
is_named handle h =
    nat_lt handle.place (length h.slots) && ((slot_at handle.place h).generation == handle.generation) && is_program (slot_at handle.place h).owner

-- the connection becomes another one, and something may be due at once
abbrev pub changed : ℕ → Connection → Host → Host
changed place c h = with_alarm place 0 (with_connection place c h)

-- where no octet was written or read, nothing changes
abbrev pub changed_by : (count place : ℕ) → Connection → Host → Host
changed_by count place c h = if count == 0 then h else changed place c h

-- The program lets go: a connection on which the peer may still send is aborted, another one ends by itself. Its time begins with its
-- next turn, at once
abbrev pub ends_by_itself : State → Bool
ends_by_itself Closed = true
ends_by_itself Closing = true
ends_by_itself LastAck = true
ends_by_itself TimeWait = true
ends_by_itself s = false

abbrev pub untold : (place since : ℕ) → Host → Host
untold place since h = record h { news = slice_set h.news place since }

abbrev pub released : ℕ → Host → Host
released place h =
    untold place never
    (with_alarm place 0
    (with_owner place (Itself None) (if ends_by_itself (connection_at place h).state then h else with_connection place (after_abort (connection_at place h)) h)))

-- a connection that the program opens at a place
abbrev pub opened_at : (place now : ℕ) → Endpoints → Host → Host
opened_at place now e h =
    enrolled place e
    (with_slot place (record {
      connection = opened now (iss h.config.number_key e now) (connection_at place h).transmission.sender.room
          (length (connection_at place h).reception.receiver.cells) (link_mss h.config e.remote_addr) (settings_for h.config e.remote_addr);
      owner = Program;
      generation = ((slot_at place h).generation + 1) % 2 ^ 64;
      challenges = all_challenges;
      hop_limit = default_hop_limit;
      reported = None;
    }) h)

-- at a place that was free or has given way
pub record Opens (now : ℕ) (e : Endpoints) (place : ℕ) (old new : Host) : Type 0 where
  pub ready : Host
  pub found : FindsPlace old place ready
  pub opened : new ≡ opened_at place now e ready

abbrev pub with_settings : Settings → Connection → Connection
with_settings settings c = record c { settings = settings }

-- the connection of a listener that waits longest becomes the program's, which is to be told of it
abbrev pub accepting_at : Option ℕ → Host → Option Handle × Host
accepting_at None h = (None, h)
accepting_at (Some place) h =
    if nat_lt place (length h.slots)
    then (Some (record { place = place; generation = (slot_at place h).generation }), untold place 0 (with_owner place Program h)) else (None, h)

abbrev pub accepting_from : ℕ → Host → Option Handle × Host
accepting_from index h =
    accepting_at (first_of (listener_at index h).ready) (with_listener index (after_accepting (listener_at index h)) h)

abbrev pub accepting : ℕ → Host → Option Handle × Host
accepting index h = if nat_lt index (length h.listeners) then accepting_from index h else (None, h)

-- one more listener
abbrev pub listening : ℕ → Option IpAddress → ℕ → Host → Host
listening port address most h = record h {
  listeners = h.listeners ++ first port address most ∷ [];
}

abbrev pub is_listener : ℕ → Host → Bool
is_listener index h = nat_lt index (length h.listeners)

-- a listener is closed: what it began stays as it is (RFC 9293 3.10.4)
abbrev pub listener_closed : ℕ → Host → Host
listener_closed index h = if is_listener index h then with_listener index (after_closing (listener_at index h)) h else h

-- the packets of the connection at a place may pass so many routers
abbrev pub with_hop_limit : (place hop_limit : ℕ) → Host → Host
with_hop_limit place hop_limit h = with_slot place (record (slot_at place h) { hop_limit = hop_limit }) h

-- a program may ask for a connection between two hosts, at ports that there are
abbrev pub is_addressable : Endpoints → Bool
is_addressable e = is_proper e && not (e.local_port == 0) && not (e.remote_port == 0)
