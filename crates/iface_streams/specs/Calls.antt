-- What a program does with its connections (RFC 9293 3.10.2 to 3.10.5).
use Rattle.std.specs.Prelude.{ℕ, ◌≡◌, ◌++◌, min, List, length, drop, take, Option, Some, None, if◌then◌else◌}
use Rattle.tcp_connection.specs.Asked.{send_room}
use Rattle.tcp_host.specs.Table.{ends_at}
use Rattle.tcp_host.specs.declared.iss.Endpoints.{Endpoints}
use Rattle.tcp_machine.specs.Calls as calls
use Rattle.tcp_machine.specs.Connection.{Connection}
use Rattle.tcp_machine.specs.declared.settings.Settings.{Settings}
use Rattle.tcp_machine.specs.declared.state.State.{State}
use Rattle.tcp_machine.specs.declared.timers.Ending.{Ending}
use Rattle.tcp_host.specs.Handles.{changed, changed_by, is_named, released, with_hop_limit, with_settings}
use Rattle.tcp_host.specs.Host.{connection_at, slot_at}
use Rattle.tcp_host.specs.Reports.{ending_of}
use Rattle.tcp_host.specs.declared.calls.Handle.{Handle}
use Rattle.iface_host.specs.declared.refusal.Refusal.{Refusal}
use Rattle.iface_host.specs.declared.refusal.Refusal.TheVariants.{NoSocket, NotThere}
use Rattle.iface_streams.specs.Connect.{with_connections}
use Rattle.iface_streams.specs.declared.streams.Streams.{Streams}

-- the handle names no connection
abbrev pub call_refusal : Handle → Streams → Option Refusal
call_refusal handle s = if is_named handle s.connections then None else Some NoSocket

-- the connection of a handle, and the connections with another one in its place, which may have something due at once
abbrev pub connection_of : Handle → Streams → Connection
connection_of handle s = connection_at handle.place s.connections

abbrev pub with_connection : Handle → Connection → Streams → Streams
with_connection handle c s = with_connections s (changed handle.place c s.connections)

-- where no octet was written or read, nothing changes
abbrev pub with_connection_by : (count : ℕ) → Handle → Connection → Streams → Streams
with_connection_by count handle c s = with_connections s (changed_by count handle.place c s.connections)

pub record Sends (handle : Handle) (octets : List ℕ) (count : ℕ) (old new : Streams) : Type 0 where
  pub count_is : count ≡ calls.taken (length octets) (connection_of handle old)
  pub after : new ≡ with_connection_by count handle (calls.after_writing octets (connection_of handle old)) old

pub record Receives (handle : Handle) (before after : List ℕ) (count : ℕ) (old new : Streams) : Type 0 where
  pub count_is : count ≡ calls.readable_count (length before) (connection_of handle old)
  pub written : after ≡ calls.read_of (length before) (connection_of handle old) ++ drop count before
  pub taken : new ≡ with_connection_by (min (length before) (length (calls.readable (connection_of handle old)))) handle
      (calls.after_reading (length before) (connection_of handle old)) old

-- octets in order stand in the front of a buffer, as many as it has room for
pub record Peeks (handle : Handle) (before after : List ℕ) (count : ℕ) (s : Streams) : Type 0 where
  pub count_is : count ≡ min (length (calls.readable (connection_of handle s))) (length before)
  pub written : after ≡ take count (calls.readable (connection_of handle s)) ++ drop count before

abbrev pub Finishes : Handle → Streams → Streams → Type 0
Finishes handle old new = new ≡ with_connection handle (calls.after_closing (connection_of handle old)) old

abbrev pub Aborts : Handle → Streams → Streams → Type 0
Aborts handle old new = new ≡ with_connection handle (calls.after_abort (connection_of handle old)) old

abbrev pub Releases : Handle → Streams → Streams → Type 0
Releases handle old new = new ≡ with_connections old (released handle.place old.connections)

abbrev pub IsState : Handle → State → Streams → Type 0
IsState handle state s = state ≡ (connection_of handle s).state

abbrev pub IsEnding : Handle → Option Ending → Streams → Type 0
IsEnding handle ending s = ending ≡ ending_of (slot_at handle.place s.connections)

-- its two ends, if it has them
abbrev pub unended : Option Endpoints → Option Refusal
unended None = Some NotThere
unended (Some ends) = None

abbrev pub ends_refusal : Handle → Streams → Option Refusal
ends_refusal handle s =
    if is_named handle s.connections then unended (ends_at s.connections.ends handle.place) else Some NoSocket

abbrev pub AreEnds : Handle → Endpoints → Streams → Type 0
AreEnds handle ends s = ends_at s.connections.ends handle.place ≡ Some ends

-- how many octets a write takes, and how many can be read
pub record AreRooms (handle : Handle) (writable readable : ℕ) (s : Streams) : Type 0 where
  pub writes : writable ≡ send_room (connection_of handle s)
  pub reads : readable ≡ length (calls.readable (connection_of handle s))

-- its settings are others
abbrev pub Sets : Handle → (Settings → Settings) → Streams → Streams → Type 0
Sets handle change old new =
    new ≡ with_connection handle (with_settings (change (connection_of handle old).settings) (connection_of handle old)) old

-- its packets may pass so many routers
abbrev pub SetsHopLimit : Handle → (hop_limit : ℕ) → Streams → Streams → Type 0
SetsHopLimit handle hop_limit old new = new ≡ with_connections old (with_hop_limit handle.place hop_limit old.connections)
