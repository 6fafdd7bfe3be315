-- What stands at a place after a datagram was received there.
use Rattle.std.specs.Prelude.{ℕ, Bool, true, false, List, Option, Some, None}
use Rattle.sockets.specs.Udp.{socket_after_delivery}
use Rattle.sockets.specs.declared.endpoint.IpEndpoint.{IpEndpoint}
use Rattle.sockets.specs.declared.socket.SocketOf.{SocketOf}
use Rattle.sockets.specs.declared.socket.SocketOf.TheVariants.{Raw, Icmp, Udp, Tcp}

module _ {L : Type 0} where
  -- whether a UDP socket stands there
  abbrev pub is_udp : Option (SocketOf L) → Bool
  is_udp None = false
  is_udp (Some (Raw s)) = false
  is_udp (Some (Icmp s)) = false
  is_udp (Some (Udp s)) = true
  is_udp (Some (Tcp s)) = false

  -- a UDP socket gets the datagram; whatever else stands there stays as it was
  abbrev pub after_datagram : IpEndpoint → List ℕ → Option (SocketOf L) → Option (SocketOf L)
  after_datagram remote payload None = None
  after_datagram remote payload (Some (Raw s)) = Some (Raw s)
  after_datagram remote payload (Some (Icmp s)) = Some (Icmp s)
  after_datagram remote payload (Some (Udp s)) = Some (Udp (socket_after_delivery remote payload s))
  after_datagram remote payload (Some (Tcp s)) = Some (Tcp s)
