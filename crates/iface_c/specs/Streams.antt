-- Connections of TCP: what their calls do, and what C writes and reads of them.
use Rattle.std.specs.Prelude.{ℕ, ℤ, ◌≡◌, ◌≢◌, ◌==◌, ◌^◌, ◌-◌, pos, not, List, [], ◌∷◌, replicate, slice_index, Option, Some, None, if◌then◌else◌}
use Rattle.sockets.specs.declared.endpoint.IpEndpoint.{IpEndpoint}
use Rattle.sockets.specs.declared.endpoint.IpListenEndpoint.{IpListenEndpoint}
use Rattle.tcp_host.specs.declared.iss.Endpoints.{Endpoints}
use Rattle.tcp_machine.specs.declared.settings.Settings.{Settings}
use Rattle.tcp_machine.specs.declared.state.State.{State}
use Rattle.tcp_machine.specs.declared.state.State.TheVariants as state
use Rattle.tcp_machine.specs.declared.timers.Ending.{Ending}
use Rattle.tcp_machine.specs.declared.timers.Ending.TheVariants as ending
use Rattle.tcp_host.specs.Handles.{accepting}
use Rattle.tcp_host.specs.Arrivals.{HasNoPlace}
use Rattle.tcp_host.specs.News.{TellsChanged}
use Rattle.tcp_host.specs.declared.calls.Handle.{Handle}
use Rattle.iface_host.specs.declared.host.IfaceHost.{IfaceHost}
use Rattle.iface_host.specs.declared.refusal.Refusal.{Refusal}
use Rattle.iface_streams.specs.Calls as calls
use Rattle.iface_streams.specs.Connect as connect
use Rattle.iface_streams.specs.Poll.{IsDue}
use Rattle.iface_streams.specs.Settings.{is_proper}
use Rattle.iface_streams.specs.Streams as streams
use Rattle.iface_streams.specs.Streams.{IsNew, new_refusal}
use Rattle.iface_streams.specs.declared.settings.StreamSettings.{StreamSettings}
use Rattle.iface_streams.specs.declared.streams.Streams.{Streams}
use Rattle.iface_c.specs.Addresses.{written_end}
use Rattle.iface_c.specs.Handle.{host_in}
use Rattle.iface_c.specs.Packets.{read_as}
use Rattle.iface_c.specs.Status.{code_by, code_if, code_of}
use Rattle.iface_c.specs.StreamsHandle.{streams_in}
use Rattle.iface_c.specs.declared.addresses.IfaceEndpoint.{IfaceEndpoint}
use Rattle.iface_c.specs.declared.handle.Iface.{Iface}
use Rattle.iface_c.specs.declared.streams.IfaceStream.{IfaceStream}
use Rattle.iface_c.specs.declared.streams.IfaceStreamsConfig.{IfaceStreamsConfig}
use Rattle.iface_c.specs.declared.streams_handle.IfaceStreams.{IfaceStreams}

-- the code of a call of connections: 21 where the handle owns none
abbrev pub code_of_one : (Streams → Option Refusal) → Option Streams → ℕ
code_of_one why None = 21
code_of_one why (Some s) = code_if (why s)

-- of a call with an argument that may have no meaning: 3 where it has none
abbrev pub code_with : {A : Type 0} → (A → Option Refusal) → Option A → Option Streams → ℕ
code_with why None s = 3
code_with why (Some a) s = code_of_one (λ _. why a) s

-- the same where the rest of the call's code is known
abbrev pub code_if_meant : {A : Type 0} → Option A → ℕ → ℕ
code_if_meant None code = 3
code_if_meant (Some a) code = code

-- of a call of connections and a host
abbrev pub code_of_both : (Streams → IfaceHost → Option Refusal) → Option Streams → Option IfaceHost → ℕ
code_of_both why None host = 21
code_of_both why (Some s) host = code_by (why s) host

-- of a call that makes connections: 22 where the handle owns some, 3 where none are made by the settings
abbrev pub code_for_new : StreamSettings → Option Streams → Option IfaceHost → ℕ
code_for_new settings (Some s) host = 22
code_for_new settings None host = if is_proper settings then code_by (new_refusal settings) host else 3

-- there are connections before and after, and they were changed so
abbrev pub ChangedOne : (Streams → Streams → Type 0) → Option Streams → Option Streams → Type 0
ChangedOne Step (Some old) (Some new) = Step old new
ChangedOne Step (Some old) None = ⊥
ChangedOne Step None new = ⊥

-- 0: the call is done; else it is refused, and nothing changed
pub record DidOne (code : ℕ) (Step : Streams → Streams → Type 0) (old new : IfaceStreams) : Type 0 where
  pub done : code ≡ 0 → ChangedOne Step (streams_in old) (streams_in new)
  pub refused : code ≢ 0 → streams_in new ≡ streams_in old

-- there are connections and a host before and after, and they were changed so
abbrev pub ChangedBoth : (Streams → Streams → IfaceHost → IfaceHost → Type 0) → Option Streams → Option Streams → Option IfaceHost → Option IfaceHost → Type 0
ChangedBoth Step s s' (Some old) (Some new) = ChangedOne (λ c c'. Step c c' old new) s s'
ChangedBoth Step s s' (Some old) None = ⊥
ChangedBoth Step s s' None new = ⊥

pub record DidBoth (code : ℕ) (Step : Streams → Streams → IfaceHost → IfaceHost → Type 0) (s s' : IfaceStreams) (old new : Iface) : Type 0 where
  pub done : code ≡ 0 → ChangedBoth Step (streams_in s) (streams_in s') (host_in old) (host_in new)
  pub streams : code ≢ 0 → streams_in s' ≡ streams_in s
  pub host : code ≢ 0 → host_in new ≡ host_in old

-- a time in microseconds, where 0 stands for none
abbrev pub time_in : ℕ → Option ℕ
time_in n = if n == 0 then None else Some n

-- what each connection begins with, by what C writes; its MSS and window scale are set by the link and its room
abbrev pub connection_in : IfaceStreamsConfig → Settings
connection_in c = record {
  nagle = not (c.nagle == 0);
  ack_delay = c.ack_delay;
  keep_alive = time_in c.keep_alive;
  timeout = time_in c.timeout;
  shortest_timeout = c.shortest_timeout;
  congestion_control = not (c.congestion_control == 0);
  time_wait = c.time_wait;
  own_mss = 0;
  own_scale = 0;
}

abbrev pub settings_in : IfaceStreamsConfig → StreamSettings
settings_in c = record {
  places = c.places;
  send_room = c.send_room;
  receive_room = c.receive_room;
  ipv4 = not (c.ipv4 == 0);
  ipv6 = not (c.ipv6 == 0);
  near = record { packets = c.packets; octets = c.packet_octets };
  far_octets = c.far_octets;
  connection = connection_in c;
  accepted_keep_alive = time_in c.accepted_keep_alive;
  release_timeout = c.release_timeout;
  number_key = c.number_key;
  table_key = record { k0 = slice_index c.table_key 0; k1 = slice_index c.table_key 1 };
}

-- what most programs want: eight connections with 4,096 octets each way, over both families; probes after two minutes of peers that
-- asked for the connection (RFC 9293 3.8.4), and of no other ones; acknowledgements within 10 ms, time-outs of a fifth of a second or
-- more, a minute of TIME-WAIT, and
-- two minutes for a connection that was released
abbrev pub usual : IfaceStreamsConfig
usual = record {
  number_key = replicate 32 0;
  table_key = replicate 2 0;
  keep_alive = 0;
  accepted_keep_alive = 120_000_000;
  timeout = 0;
  ack_delay = 10_000;
  shortest_timeout = 200_000;
  time_wait = 60_000_000;
  release_timeout = 120_000_000;
  places = 8;
  send_room = 4_096;
  receive_room = 4_096;
  packets = 8;
  packet_octets = 1_536;
  far_octets = 1_024;
  ipv4 = 1;
  ipv6 = 1;
  nagle = 1;
  congestion_control = 1;
}

-- there were no connections, and there are new ones of these settings, with sockets of the host
abbrev pub IsMade : StreamSettings → Option Streams → Option Streams → Option IfaceHost → Option IfaceHost → Type 0
IsMade settings None (Some s) (Some old) (Some new) = IsNew settings s old new
IsMade settings None (Some s) (Some old) None = ⊥
IsMade settings None (Some s) None new = ⊥
IsMade settings None None old new = ⊥
IsMade settings (Some s) s' old new = ⊥

pub record Made (code : ℕ) (config : IfaceStreamsConfig) (s s' : IfaceStreams) (old new : Iface) : Type 0 where
  pub done : code ≡ 0 → IsMade (settings_in config) (streams_in s) (streams_in s') (host_in old) (host_in new)
  pub streams : code ≢ 0 → streams_in s' ≡ streams_in s
  pub host : code ≢ 0 → host_in new ≡ host_in old

-- when something is due was written, and nothing changed
pub record ShowsPollAt (at : ℤ) (old new : Streams) : Type 0 where
  pub due : Option ℤ
  pub is_due : IsDue old due
  pub written : at ≡ read_as due
  pub same : new ≡ old

-- connections are freed, and a host that is there has their sockets no more
abbrev pub FreesOf : Streams → Option IfaceHost → Option IfaceHost → Type 0
FreesOf s None new = new ≡ None
FreesOf s (Some old) (Some new) = streams.Closes s old new
FreesOf s (Some old) None = ⊥

abbrev pub Frees : Option Streams → Option IfaceHost → Option IfaceHost → Type 0
Frees None old new = new ≡ old
Frees (Some s) old new = FreesOf s old new

-- the name of a connection as C writes it, and as it reads it
abbrev pub handle_in : IfaceStream → Handle
handle_in s = record { place = s.place; generation = s.generation }

abbrev pub handle_for_c : Handle → IfaceStream
handle_for_c h = record { place = h.place; generation = h.generation }

-- the connection that waited longest was taken, and its name written; or none waited
abbrev pub IsAccepted : Option Handle → (code : ℕ) → (before after : IfaceStream) → Type 0
IsAccepted None code before after = (code ≡ 15) × (after ≡ before)
IsAccepted (Some handle) code before after = (code ≡ 0) × (after ≡ handle_for_c handle)

pub record AcceptedAt (code listener : ℕ) (before after : IfaceStream) (old new : Streams) : Type 0 where
  pub handle : Option Handle
  pub accepted : (handle, new.connections) ≡ accepting listener old.connections
  pub told : IsAccepted handle code before after
  pub rest : new ≡ connect.with_connections old new.connections

abbrev pub Accepted : (code listener : ℕ) → (before after : IfaceStream) → Option Streams → Option Streams → Type 0
Accepted code listener before after None new = (code ≡ 21) × (after ≡ before) × (new ≡ None)
Accepted code listener before after (Some old) (Some new) = AcceptedAt code listener before after old new
Accepted code listener before after (Some old) None = ⊥

-- a connection that changed was told of, and its name written; else none has, which is code 15
pub record ChangedOf (code : ℕ) (before after : IfaceStream) (old new : Streams) : Type 0 where
  pub handle : Option Handle
  pub tells : TellsChanged old.connections handle new.connections
  pub told : IsAccepted handle code before after
  pub rest : new ≡ connect.with_connections old new.connections

abbrev pub Changed : (code : ℕ) → (before after : IfaceStream) → Option Streams → Option Streams → Type 0
Changed code before after None new = (code ≡ 21) × (after ≡ before) × (new ≡ None)
Changed code before after (Some old) (Some new) = ChangedOf code before after old new
Changed code before after (Some old) None = ⊥

-- a connection was opened, and its name written; else nothing changed
abbrev pub IsConnected : ℤ → Option IpListenEndpoint → Option IpEndpoint → IfaceStream → Option Streams → Option Streams → Option IfaceHost → Type 0
IsConnected now (Some local) (Some remote) shown (Some old) (Some new) (Some host) =
    connect.Connects now local remote host (handle_in shown) old new
IsConnected now (Some local) (Some remote) shown (Some old) (Some new) None = ⊥
IsConnected now (Some local) (Some remote) shown (Some old) None host = ⊥
IsConnected now (Some local) (Some remote) shown None new host = ⊥
IsConnected now (Some local) None shown old new host = ⊥
IsConnected now None remote shown old new host = ⊥

pub record Connected (code : ℕ) (now : ℤ) (local : Option IpListenEndpoint) (remote : Option IpEndpoint) (shown : IfaceStream)
    (old new : Option Streams) (host : Option IfaceHost) : Type 0 where
  pub done : code ≡ 0 → IsConnected now local remote shown old new host
  pub refused : code ≢ 0 → new ≡ old

-- the code of a call that connects: of the first reason that holds; else 23 where a connection has these ends, and 10 where each
-- place has one
pub record IsCodeBy (first : Option Refusal) (InUse Full : Type 0) (code : ℕ) : Type 0 where
  pub refused : (e : Refusal) → first ≡ Some e → code ≡ code_of e
  pub in_use : first ≡ None → code ≡ 23 → InUse
  pub full : first ≡ None → code ≢ 0 → code ≢ 23 → (code ≡ 10) × Full

abbrev pub IsConnectCode : ℤ → Option IpListenEndpoint → Option IpEndpoint → Option Streams → Option IfaceHost → ℕ → Type 0
IsConnectCode now None remote s host code = code ≡ 3
IsConnectCode now (Some local) None s host code = code ≡ 3
IsConnectCode now (Some local) (Some remote) None host code = code ≡ 21
IsConnectCode now (Some local) (Some remote) (Some s) None code = code ≡ 1
IsConnectCode now (Some local) (Some remote) (Some s) (Some host) code =
    IsCodeBy (connect.connect_refusal now local remote host) (connect.IsInUse local remote host s) (HasNoPlace s.connections) code

-- octets were written that stay
pub record Peeks (handle : Handle) (before after : List ℕ) (count : ℕ) (old new : Streams) : Type 0 where
  pub peeked : calls.Peeks handle before after count old
  pub same : new ≡ old

-- a state, and why a connection ended, as C reads them
abbrev pub number_of_state : State → ℕ
number_of_state state.Closed = 0
number_of_state state.Listen = 1
number_of_state state.SynSent = 2
number_of_state state.SynReceived = 3
number_of_state state.Established = 4
number_of_state state.FinWait1 = 5
number_of_state state.FinWait2 = 6
number_of_state state.CloseWait = 7
number_of_state state.Closing = 8
number_of_state state.LastAck = 9
number_of_state state.TimeWait = 10

abbrev pub number_of_ending : Option Ending → ℕ
number_of_ending None = 0
number_of_ending (Some ending.ByPeer) = 1
number_of_ending (Some ending.Refused) = 2
number_of_ending (Some ending.TimedOut) = 3
number_of_ending (Some ending.Aborted) = 4
number_of_ending (Some ending.Unreachable) = 5

pub record ShowsState (handle : Handle) (number : ℕ) (old new : Streams) : Type 0 where
  pub is : State
  pub is_state : calls.IsState handle is old
  pub written : number ≡ number_of_state is
  pub same : new ≡ old

pub record ShowsEnding (handle : Handle) (number : ℕ) (old new : Streams) : Type 0 where
  pub is : Option Ending
  pub is_ending : calls.IsEnding handle is old
  pub written : number ≡ number_of_ending is
  pub same : new ≡ old

-- the two ends of a connection, each as C reads it
abbrev pub local_end : Endpoints → IpEndpoint
local_end e = record { addr = e.local_addr; port = e.local_port }

abbrev pub remote_end : Endpoints → IpEndpoint
remote_end e = record { addr = e.remote_addr; port = e.remote_port }

pub record ShowsEnds (handle : Handle) (local remote : IfaceEndpoint) (old new : Streams) : Type 0 where
  pub ends : Endpoints
  pub are_ends : calls.AreEnds handle ends old
  pub local_written : local ≡ written_end (local_end ends)
  pub remote_written : remote ≡ written_end (remote_end ends)
  pub same : new ≡ old

-- how many octets may be written, and read
pub record ShowsRooms (handle : Handle) (writable readable : ℕ) (old new : Streams) : Type 0 where
  pub are_rooms : calls.AreRooms handle writable readable old
  pub same : new ≡ old
