-- The hop limits of sockets (RFC 791 3.1, time to live; RFC 8200 3).
use Rattle.std.specs.Prelude.{ℕ, ◌≡◌, is_some, IsSome, Option, Some, None, if◌then◌else◌}
use Rattle.std.specs.Option.{option_and_then}
use Rattle.sockets.specs.declared.socket.SocketOf.TheVariants.{Raw, Icmp, Udp, Tcp}
use Rattle.socket_set.specs.SocketSet.{socket_at}
use Rattle.iface_host.specs.Names.{handle_named}
use Rattle.iface_host.specs.Sockets.{Names, Socket, with_socket}
use Rattle.iface_host.specs.declared.host.IfaceHost.{IfaceHost}
use Rattle.iface_host.specs.declared.refusal.Refusal.{Refusal}
use Rattle.iface_host.specs.declared.refusal.Refusal.TheVariants.{NoSocket}

-- the hop limit of a socket's packets: those of a raw one have their own headers
abbrev pub hop_limit_of : Socket → Option ℕ
hop_limit_of (Raw s) = None
hop_limit_of (Icmp s) = Some s.hop_limit
hop_limit_of (Udp s) = Some s.hop_limit
hop_limit_of (Tcp s) = Some s.hop_limit

-- the same socket with another one
abbrev pub with_hop_limit : ℕ → Socket → Socket
with_hop_limit n (Raw s) = Raw s
with_hop_limit n (Icmp s) = Icmp (record s { hop_limit = n })
with_hop_limit n (Udp s) = Udp (record s { hop_limit = n })
with_hop_limit n (Tcp s) = Tcp (record s { hop_limit = n })

-- that of the socket that a number names, if it names one that has one
abbrev pub hop_limit_at : IfaceHost → ℕ → Option ℕ
hop_limit_at host n =
    option_and_then hop_limit_of (option_and_then (socket_at host.sockets) (handle_named host.names n))

-- the socket that a number names has another one
pub record SetsHopLimit (n hop_limit : ℕ) (old new : IfaceHost) : Type 0 where
  pub handle : ℕ
  pub socket : Socket
  pub names : Names n old handle socket
  pub has_one : IsSome (hop_limit_of socket)
  pub after : new ≡ with_socket old handle (Some (with_hop_limit hop_limit socket))

-- the number names no socket that has one
abbrev pub hop_limit_refusal : IfaceHost → ℕ → Option Refusal
hop_limit_refusal host n = if is_some (hop_limit_at host n) then None else Some NoSocket
