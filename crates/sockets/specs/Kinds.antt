-- The kinds of sockets as one type.
use Rattle.std.specs.Prelude.{ℕ, ℤ, Bool, List, Option, Some, None}
use Rattle.std.specs.Option.{option_map}
use Rattle.ip_address.specs.declared.ip.IpAddress.{IpAddress}
use Rattle.sockets.specs.Raw as raw
use Rattle.sockets.specs.Icmp as icmp
use Rattle.sockets.specs.Udp as udp
use Rattle.sockets.specs.Tcp as tcp
use Rattle.sockets.specs.declared.poll_at.PollAt.{PollAt}
use Rattle.sockets.specs.declared.socket.Offer.{Offer}
use Rattle.sockets.specs.declared.socket.Offer.TheVariants as offer
use Rattle.sockets.specs.declared.socket.SocketOf.{SocketOf}
use Rattle.sockets.specs.declared.socket.SocketOf.TheVariants.{Raw, Icmp, Udp, Tcp}

-- what a socket offers
pub data Offered : Type 0 where
  RawOffer : (packet : raw.Sent) → Offered
  IcmpOffer : (message : icmp.Sent) → Offered
  UdpOffer : (datagram : udp.Datagram) → Offered
  TcpOffer : (segment : tcp.Sent) → Offered

-- a packet, apart from where its payload is in memory
abbrev pub value_of : Offer → Offered
value_of (offer.Raw p) = RawOffer (raw.value_of p)
value_of (offer.Icmp p) = IcmpOffer (icmp.value_of p)
value_of (offer.Udp p) = UdpOffer (udp.value_of p)
value_of (offer.Tcp p) = TcpOffer (tcp.value_of p)

module _ {L : Type 0} where
  -- a socket of a kind as a socket of any kind
  abbrev pub up_raw : raw.RawSocket → SocketOf L
  up_raw s = Raw s

  abbrev pub up_icmp : icmp.IcmpSocket → SocketOf L
  up_icmp s = Icmp s

  abbrev pub up_udp : udp.UdpSocket → SocketOf L
  up_udp s = Udp s

  abbrev pub up_tcp : tcp.TcpSocket → SocketOf L
  up_tcp s = Tcp s

  -- the socket of a kind, if it is one
  abbrev pub down_raw : SocketOf L → Option raw.RawSocket
  down_raw (Raw s) = Some s
  down_raw (Icmp s) = None
  down_raw (Udp s) = None
  down_raw (Tcp s) = None

  abbrev pub down_icmp : SocketOf L → Option icmp.IcmpSocket
  down_icmp (Raw s) = None
  down_icmp (Icmp s) = Some s
  down_icmp (Udp s) = None
  down_icmp (Tcp s) = None

  abbrev pub down_udp : SocketOf L → Option udp.UdpSocket
  down_udp (Raw s) = None
  down_udp (Icmp s) = None
  down_udp (Udp s) = Some s
  down_udp (Tcp s) = None

  abbrev pub down_tcp : SocketOf L → Option tcp.TcpSocket
  down_tcp (Raw s) = None
  down_tcp (Icmp s) = None
  down_tcp (Udp s) = None
  down_tcp (Tcp s) = Some s

  -- the socket's own port; raw and ICMP sockets have none
  abbrev pub own_port : SocketOf L → Option ℕ
  own_port (Raw s) = None
  own_port (Icmp s) = None
  own_port (Udp s) = Some s.endpoint.port
  own_port (Tcp s) = Some s.local.port

  -- when it has to be polled again
  abbrev pub poll_at : SocketOf L → PollAt
  poll_at (Raw s) = raw.poll_at s
  poll_at (Icmp s) = icmp.poll_at s
  poll_at (Udp s) = udp.poll_at s
  poll_at (Tcp s) = tcp.poll_at s

  -- the first packet that it has to send, if that can be sent now
  abbrev pub offered_packet : ℤ → (IpAddress → Option IpAddress) → SocketOf L → Option Offered
  offered_packet moment source (Raw s) = option_map RawOffer (raw.offered_packet s)
  offered_packet moment source (Icmp s) = option_map IcmpOffer (icmp.offered_packet source s)
  offered_packet moment source (Udp s) = option_map UdpOffer (udp.offered_packet source s)
  offered_packet moment source (Tcp s) = option_map TcpOffer (tcp.offered_packet moment source s)

  -- the socket after it was asked for a packet
  abbrev pub socket_after_offer : ℤ → (IpAddress → Option IpAddress) → SocketOf L → SocketOf L
  socket_after_offer moment source (Raw s) = Raw (raw.socket_after_offer s)
  socket_after_offer moment source (Icmp s) = Icmp (icmp.socket_after_offer source s)
  socket_after_offer moment source (Udp s) = Udp (udp.socket_after_offer source s)
  socket_after_offer moment source (Tcp s) = Tcp (tcp.socket_after_offer moment source s)

  -- the socket after the acknowledgement of what it offered
  abbrev pub socket_after_told : Bool → SocketOf L → SocketOf L
  socket_after_told is_done (Raw s) = Raw (raw.socket_after_told is_done s)
  socket_after_told is_done (Icmp s) = Icmp (icmp.socket_after_told is_done s)
  socket_after_told is_done (Udp s) = Udp (udp.socket_after_told is_done s)
  socket_after_told is_done (Tcp s) = Tcp (tcp.socket_after_told is_done s)

  -- for which addresses the packets to send are, in order
  abbrev pub destinations : SocketOf L → List (Option IpAddress)
  destinations (Raw s) = raw.destinations s
  destinations (Icmp s) = icmp.destinations s
  destinations (Udp s) = udp.destinations s
  destinations (Tcp s) = tcp.destinations s

  -- the socket with the packet at an index as the first to send
  abbrev pub socket_brought_forward : ℕ → SocketOf L → SocketOf L
  socket_brought_forward index (Raw s) = Raw (raw.socket_brought_forward index s)
  socket_brought_forward index (Icmp s) = Icmp (icmp.socket_brought_forward index s)
  socket_brought_forward index (Udp s) = Udp (udp.socket_brought_forward index s)
  socket_brought_forward index (Tcp s) = Tcp (tcp.socket_brought_forward index s)
