-- UDP sockets (RFC 768).
use Rattle.std.specs.Prelude.{ℕ, ◌==◌, ◌&&◌, ◌||◌, Bool, true, cond, is_none, List, map, Option, Some, None}
use Rattle.std.specs.Option.{option_and_then, option_map}
use Rattle.ip_address.specs.Ip.{is_multicast}
use Rattle.ip_address.specs.declared.ip.IpAddress.{IpAddress}
use Rattle.sockets.specs.Queue.{Queued, first_of, put, queue_after_pop, queue_brought_forward}
use Rattle.sockets.specs.Source.{is_same, source_of}
use Rattle.sockets.specs.declared.endpoint.IpEndpoint.{IpEndpoint}
use Rattle.sockets.specs.declared.endpoint.IpListenEndpoint.{IpListenEndpoint}
use Rattle.sockets.specs.declared.poll_at.PollAt.{PollAt}
use Rattle.sockets.specs.declared.poll_at.PollAt.TheVariants.{Now, Ingress}
use Rattle.sockets.specs.declared.udp.Packet.{Packet}

-- the endpoint at which a socket listens, the hop limit of packets sent, and the datagrams received and to send, each
-- with its remote endpoint
pub record UdpSocket : Type 0 where
  pub endpoint : IpListenEndpoint
  pub hop_limit : ℕ
  pub rx : Queued IpEndpoint
  pub tx : Queued IpEndpoint

-- a datagram with its endpoints
pub record Datagram : Type 0 where
  pub src : IpEndpoint
  pub dst : IpEndpoint
  pub hop_limit : ℕ
  pub payload : List ℕ

-- a packet, apart from where its payload is in memory
abbrev pub value_of : Packet → Datagram
value_of p = record { src = p.src; dst = p.dst; hop_limit = p.hop_limit; payload = p.payload.now }

-- a destination is accepted by a socket for any address, for that address, or if it is broadcast or multicast
abbrev pub is_accepted_at : (IpAddress → Bool) → Option IpAddress → IpAddress → Bool
is_accepted_at broadcast None dst = true
is_accepted_at broadcast (Some a) dst = is_same a dst || broadcast dst || is_multicast dst

-- whether the socket accepts a datagram for an address and a port
abbrev pub accepts : (IpAddress → Bool) → UdpSocket → IpAddress → ℕ → Bool
accepts broadcast s dst port = (s.endpoint.port == port) && is_accepted_at broadcast s.endpoint.addr dst

-- a datagram is received
abbrev pub socket_after_delivery : IpEndpoint → List ℕ → UdpSocket → UdpSocket
socket_after_delivery remote payload s = record s { rx = put s.rx remote payload }

-- the first datagram received is read
abbrev pub socket_after_done : UdpSocket → UdpSocket
socket_after_done s = record s { rx = queue_after_pop s.rx }

-- a datagram is queued for sending
abbrev pub socket_after_send : IpEndpoint → List ℕ → UdpSocket → UdpSocket
socket_after_send remote payload s = record s { tx = put s.tx remote payload }

-- the first datagram to send is removed
abbrev pub without_first_to_send : UdpSocket → UdpSocket
without_first_to_send s = record s { tx = queue_after_pop s.tx }

-- immediately, if there is something to send
abbrev pub poll_at : UdpSocket → PollAt
poll_at s = cond (is_none (first_of s.tx.packets)) Ingress Now

-- a datagram to send, with this source address
abbrev pub datagram : UdpSocket → IpEndpoint × List ℕ → IpAddress → Datagram
datagram s p src =
    record { src = record { addr = src; port = s.endpoint.port }; dst = p.0; hop_limit = s.hop_limit; payload = p.1 }

-- the source address of the first datagram to send, if any
abbrev pub first_source : (IpAddress → Option IpAddress) → UdpSocket → Option IpAddress
first_source source s = option_and_then (λ p. source_of source s.endpoint.addr p.0.addr) (first_of s.tx.packets)

-- the first datagram to send, if it has a source address
abbrev pub offered_packet : (IpAddress → Option IpAddress) → UdpSocket → Option Datagram
offered_packet source s =
    option_and_then (λ p. option_map (datagram s p) (source_of source s.endpoint.addr p.0.addr)) (first_of s.tx.packets)

-- the socket after it was asked: the first datagram is removed if it has no source address
abbrev pub socket_after_offer : (IpAddress → Option IpAddress) → UdpSocket → UdpSocket
socket_after_offer source s = cond (is_none (offered_packet source s)) (without_first_to_send s) s

-- the socket after the acknowledgement
abbrev pub socket_after_told : Bool → UdpSocket → UdpSocket
socket_after_told is_done s = cond is_done (without_first_to_send s) s

-- for which addresses the datagrams to send are, in order
abbrev pub destinations : UdpSocket → List (Option IpAddress)
destinations s = map (λ p. Some p.0.addr) s.tx.packets

-- the socket with the one at an index as the first to send
abbrev pub socket_brought_forward : ℕ → UdpSocket → UdpSocket
socket_brought_forward index s = record s { tx = queue_brought_forward index s.tx }
