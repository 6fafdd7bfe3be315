-- Connections of TCP at a host: their raw sockets, and their poll.
use Rattle.std.specs.Prelude.{ℕ, ℤ, ◌≡◌, ◌&&◌, pos, nat_le, Bool, length}
use Rattle.std.specs.List.{count_by}
use Rattle.std.specs.Option.{is_none}
use Rattle.socket_set.specs.SocketSet.{first_free}
use Rattle.tcp_sockets.specs.Polls as tcp
use Rattle.tcp_sockets.specs.Polls.{Carrier, state}
use Rattle.tcp_host.specs.Host as streams
use Rattle.ip_address.specs.declared.ip.IpAddress.{IpAddress}
use Rattle.host_machine.specs.Context.Host.{SocketSet}
use Rattle.host_machine.specs.Send.Hops.{HasNeighbor}
use Rattle.interface.specs.Stands.{host_with}
use Rattle.interface.specs.declared.interface.Interface.{Interface}
use Rattle.iface_host.specs.Calls.{addresses_of}
use Rattle.iface_host.specs.Sockets.{Opens, Socket}
use Rattle.iface_host.specs.declared.host.IfaceHost.{IfaceHost}
use Rattle.iface_host.specs.declared.streams.StreamPair.{StreamPair}

-- how many numbers name no socket, and how many places have none
abbrev pub unused_numbers : IfaceHost → ℕ
unused_numbers host = count_by is_none host.names

abbrev pub free_places : IfaceHost → ℕ
free_places host = count_by is_none host.sockets.places

-- so many sockets more can be opened
abbrev pub has_room_for : ℕ → IfaceHost → Bool
has_room_for count host =
    nat_le (length host.names) 4294967296 && nat_le count (unused_numbers host) && nat_le count (free_places host)

-- two sockets are opened, one after the other
pub record OpensPair (near far : Socket) (pair : StreamPair) (old new : IfaceHost) : Type 0 where
  pub between : IfaceHost
  pub near_opened : Opens near pair.near old between
  pub far_opened : Opens far pair.far between new
  pub near_handle : pair.handles.near ≡ first_free old.sockets.places
  pub far_handle : pair.handles.far ≡ first_free between.sockets.places

-- what the interface says of the next hop to an address
abbrev pub IsKnownAt : Interface → IpAddress → Bool → Type 0
IsKnownAt i a known = (sockets : SocketSet) → HasNeighbor (host_with i sockets) a known

-- connections are polled over the host's own addresses, what it knows of neighbours, and its sockets; nothing else changes
pub record PollsStreams (now : ℤ) (c c' : Carrier) (h h' : streams.Host) (old new : IfaceHost) : Type 0 where
  pub micros : ℕ
  pub is_now : pos micros ≡ now
  pub polls : tcp.Polls (IsKnownAt old.interface.value) micros (addresses_of old) (state c h old.sockets) (state c' h' new.sockets)
  pub rest : new ≡ record old { sockets = new.sockets }
