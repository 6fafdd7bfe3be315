-- Which connections changed since their program was told of them last.
use Rattle.std.specs.Prelude.{◌≡◌, ◌<◌, ℕ, ◌-◌, min, nat_lt, ◌==◌, ◌&&◌, not, Bool, true, false, length, get_or, slice_set, Option, Some, None, if◌then◌else◌}
use Rattle.tcp_machine.specs.Calls.{readable}
use Rattle.tcp_machine.specs.Connection.{Connection}
use Rattle.tcp_machine.specs.declared.state.State.{State}
use Rattle.tcp_machine.specs.declared.state.State.TheVariants as state
use Rattle.tcp_connection.specs.Asked.{send_room}
use Rattle.tcp_host.specs.declared.calls.Handle.{Handle}
use Rattle.tcp_host.specs.declared.news.Shown.{Shown}
use Rattle.tcp_host.specs.Host.{Host, is_program, never, slot_at, connection_at}

-- what a program sees of a connection: its state, how many octets a write takes, and how many can be read. An end that arrives, and
-- an end by a reset or a timer, are another state
abbrev pub number_of : State → ℕ
number_of state.Closed = 0
number_of state.Listen = 1
number_of state.SynSent = 2
number_of state.SynReceived = 3
number_of state.Established = 4
number_of state.FinWait1 = 5
number_of state.FinWait2 = 6
number_of state.CloseWait = 7
number_of state.Closing = 8
number_of state.LastAck = 9
number_of state.TimeWait = 10

abbrev pub seen : Connection → Shown
seen c = record { state = number_of c.state; writable = send_room c; readable = length (readable c) }

abbrev pub seen_at : ℕ → Host → Shown
seen_at place h = seen (connection_at place h)

abbrev pub is_same : Shown → Shown → Bool
is_same a b = (a.state == b.state) && (a.writable == b.writable) && (a.readable == b.readable)

-- The connection at a place was seen so before: if its program sees a difference now, it is to be told, those first that changed first
abbrev pub has_news : ℕ → Shown → Host → Bool
has_news place before h = is_program (slot_at place h).owner && not (is_same before (seen_at place h))

abbrev pub since : (now earlier : ℕ) → (is_new : Bool) → ℕ
since now earlier is_new = if is_new then min (min now (never - 1)) earlier else earlier

abbrev pub noted : (place now : ℕ) → Shown → Host → Host
noted place now before h =
    record h { news = slice_set h.news place (since now (get_or h.news place 0) (has_news place before h)) }

-- what a handle names has changed
abbrev pub has_changed : ℕ → Host → Bool
has_changed place h = is_program (slot_at place h).owner && nat_lt (get_or h.news place 0) never

-- A program is told of one that has changed, which then hasn't; of all others nothing is lost; and of none only if none has
abbrev pub is_place_of : Option Handle → ℕ → Bool
is_place_of None place = false
is_place_of (Some handle) place = handle.place == place

pub record IsToldOf (handle : Handle) (old new : Host) : Type 0 where
  pub within : handle.place < length old.slots
  pub generation : handle.generation ≡ (slot_at handle.place old).generation
  pub changed : has_changed handle.place old ≡ true
  pub told : has_changed handle.place new ≡ false

pub record TellsChanged (old : Host) (told : Option Handle) (new : Host) : Type 0 where
  pub rest : new ≡ record old { news = new.news }
  pub one : (handle : Handle) → told ≡ Some handle → IsToldOf handle old new
  pub others : (place : ℕ) → is_place_of told place ≡ false → has_changed place new ≡ has_changed place old
  pub none : told ≡ None → (place : ℕ) → place < length old.slots → has_changed place old ≡ false
