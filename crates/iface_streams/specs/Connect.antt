-- How connections begin (RFC 9293 3.10.1).
use Rattle.std.specs.Prelude.{ℕ, ℤ, ◌≡◌, ◌==◌, ◌&&◌, ◌||◌, pos, max, length, Bool, true, false, Option, Some, None, Result, Ok, Err, if◌then◌else◌}
use Rattle.ip_address.specs.Ip.{is_unicast}
use Rattle.ip_address.specs.declared.ip.IpAddress.{IpAddress}
use Rattle.ip_address.specs.declared.ip.IpAddress.TheVariants.{Ipv4, Ipv6}
use Rattle.sockets.specs.declared.endpoint.IpEndpoint.{IpEndpoint}
use Rattle.sockets.specs.declared.endpoint.IpListenEndpoint.{IpListenEndpoint}
use Rattle.tcp_host.specs.Table.{IsNowhere, IsPlaceOf}
use Rattle.tcp_host.specs.declared.iss.Endpoints.{Endpoints}
use Rattle.tcp_host.specs.Handles as handles
use Rattle.tcp_host.specs.Handles.{Opens, accepting, is_listener, listener_closed, listening}
use Rattle.tcp_host.specs.Host as streams
use Rattle.tcp_host.specs.News.{TellsChanged}
use Rattle.tcp_host.specs.declared.calls.Handle.{Handle}
use Rattle.iface_host.specs.Calls.{has_route, source_for}
use Rattle.iface_host.specs.Refusals.{moment_refusal}
use Rattle.iface_host.specs.TableRefusals.{first_reason}
use Rattle.iface_host.specs.declared.host.IfaceHost.{IfaceHost}
use Rattle.iface_host.specs.declared.refusal.Refusal.{Refusal}
use Rattle.iface_host.specs.declared.refusal.Refusal.TheVariants.{BadAddress, BadPort, Empty, NoRoute, NotThere}
use Rattle.iface_streams.specs.declared.streams.Streams.{Streams}

-- the same with other connections
abbrev pub with_connections : Streams → streams.Host → Streams
with_connections s h = record s { connections = h }

-- a host can have this address, if it is one
abbrev pub is_hosts : Option IpAddress → Bool
is_hosts None = true
is_hosts (Some address) = is_unicast address

-- a listener's port is 0, or its address no host's
abbrev pub listen_refusal : IpListenEndpoint → Option Refusal
listen_refusal local = if local.port == 0 then Some BadPort else (if is_hosts local.addr then None else Some BadAddress)

-- there is one more listener, whose number is that of those before
pub record Listens (local : IpListenEndpoint) (backlog number : ℕ) (old new : Streams) : Type 0 where
  pub number_is : number ≡ length old.connections.listeners
  pub after : new ≡ with_connections old (listening local.port local.addr (max 1 backlog) old.connections)

-- the connection that waits longest, if one does
abbrev pub accepted_as : Option Handle → Result Handle Refusal
accepted_as None = Err Empty
accepted_as (Some handle) = Ok handle

pub record Accepts (listener : ℕ) (result : Result Handle Refusal) (old new : Streams) : Type 0 where
  pub handle : Option Handle
  pub accepted : (handle, new.connections) ≡ accepting listener old.connections
  pub told : result ≡ accepted_as handle
  pub rest : new ≡ with_connections old new.connections

-- one that has changed, if any has
pub record TellsOfChange (result : Result Handle Refusal) (old new : Streams) : Type 0 where
  pub handle : Option Handle
  pub tells : TellsChanged old.connections handle new.connections
  pub told : result ≡ accepted_as handle
  pub rest : new ≡ with_connections old new.connections

-- no listener has this number
abbrev pub listener_refusal : ℕ → Streams → Option Refusal
listener_refusal listener s = if is_listener listener s.connections then None else Some NotThere

abbrev pub ClosesListener : ℕ → Streams → Streams → Type 0
ClosesListener listener old new = new ≡ with_connections old (listener_closed listener old.connections)

-- the local address of a connection: the one that is asked for, or else that from which packets to the destination are sent
abbrev pub source_of : IfaceHost → Option IpAddress → IpAddress → Option IpAddress
source_of host None remote = source_for host remote
source_of host (Some address) remote = Some address

-- two hosts of one family can have these addresses
abbrev pub are_of_one_family : IpAddress → IpAddress → Bool
are_of_one_family (Ipv4 a) (Ipv4 b) = true
are_of_one_family (Ipv4 a) (Ipv6 b) = false
are_of_one_family (Ipv6 a) (Ipv4 b) = false
are_of_one_family (Ipv6 a) (Ipv6 b) = true

abbrev pub is_pair : IpAddress → IpAddress → Bool
is_pair local remote = is_unicast local && is_unicast remote && are_of_one_family local remote

abbrev pub pair_refusal : Option IpAddress → IpAddress → Option Refusal
pair_refusal None remote = Some NotThere
pair_refusal (Some local) remote = if is_pair local remote then None else Some BadAddress

-- no network and no route of a host has an address
abbrev pub route_refusal : ℤ → IpAddress → IfaceHost → Option Refusal
route_refusal now remote host = if has_route now host remote then None else Some NoRoute

-- a connection that a program asks for: the moment is out of range, a port is 0, there is no own address, an address is no host's, or
-- there is no route
abbrev pub connect_refusal : ℤ → IpListenEndpoint → IpEndpoint → IfaceHost → Option Refusal
connect_refusal now local remote host =
    first_reason (moment_refusal now)
    (if (local.port == 0) || (remote.port == 0) then Some BadPort
    else first_reason (pair_refusal (source_of host local.addr remote.addr) remote.addr) (route_refusal now remote.addr host))

-- its ends, and the moment
pub record AreEnds (now : ℤ) (local : IpListenEndpoint) (remote : IpEndpoint) (host : IfaceHost) (micros : ℕ) (ends : Endpoints) : Type 0 where
  pub is_now : pos micros ≡ now
  pub source : source_of host local.addr remote.addr ≡ Some ends.local_addr
  pub local_port : ends.local_port ≡ local.port
  pub remote_addr : ends.remote_addr ≡ remote.addr
  pub remote_port : ends.remote_port ≡ remote.port
  pub are_hosts : handles.is_addressable ends ≡ true

-- no connection had these ends, a place was free or has given way, and a connection is opened there
pub record Connects (now : ℤ) (local : IpListenEndpoint) (remote : IpEndpoint) (host : IfaceHost) (handle : Handle)
    (old new : Streams) : Type 0 where
  pub micros : ℕ
  pub ends : Endpoints
  pub are_ends : AreEnds now local remote host micros ends
  pub nowhere : IsNowhere ends old.connections.ends
  pub opened : Opens micros ends handle.place old.connections new.connections
  pub rest : new ≡ with_connections old new.connections
  pub named : handles.is_named handle new.connections ≡ true

-- a connection has these ends
pub record IsInUse (local : IpListenEndpoint) (remote : IpEndpoint) (host : IfaceHost) (s : Streams) : Type 0 where
  pub ends : Endpoints
  pub source : source_of host local.addr remote.addr ≡ Some ends.local_addr
  pub local_port : ends.local_port ≡ local.port
  pub remote_addr : ends.remote_addr ≡ remote.addr
  pub remote_port : ends.remote_port ≡ remote.port
  pub place : ℕ
  pub there : IsPlaceOf ends s.connections.ends place
