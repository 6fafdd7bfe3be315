-- Segments of TCP (RFC 9293), which sockets hand in and out, and why that is refused.
use Rattle.std.specs.Prelude.{ℕ, ℤ, pos, ◌+◌, ◌==◌, ◌||◌, ◌≡◌, Bool, true, false, List, length}
use Rattle.std.specs.Prelude.{Option, Some, None, if◌then◌else◌}
use Rattle.ip_address.specs.Ip.{is_unspecified}
use Rattle.ip_address.specs.Protocol.{version_of}
use Rattle.sockets.specs.Queue.{first_of, is_room}
use Rattle.sockets.specs.declared.endpoint.IpEndpoint.{IpEndpoint}
use Rattle.sockets.specs.declared.endpoint.IpListenEndpoint.{IpListenEndpoint}
use Rattle.sockets.specs.Tcp as tcps
use Rattle.sockets.specs.declared.tcp.Segment.{Segment}
use Rattle.sockets.specs.Kinds.{down_tcp, up_tcp}
use Rattle.sockets.specs.declared.socket.SocketOf.TheVariants.{Tcp}
use Rattle.iface_host.specs.Refusals.{if_full, kind_at, may_send, moment_refusal, of_packet, of_socket}
use Rattle.iface_host.specs.Sockets.{Names, Peeks, Receives, Socket, queue_of, with_packet, with_socket}
use Rattle.iface_host.specs.TableRefusals.{first_reason, is_no_hosts, opening_refusal}
use Rattle.iface_host.specs.declared.host.IfaceHost.{IfaceHost}
use Rattle.iface_host.specs.declared.opening.Rooms.{Rooms}
use Rattle.iface_host.specs.declared.refusal.Refusal.{Refusal}
use Rattle.iface_host.specs.declared.refusal.Refusal.TheVariants.{BadAddress, BadPort, TooLong}

-- a socket that was just made: it holds nothing back
abbrev pub tcp : IpListenEndpoint → Option IpEndpoint → Rooms → Socket
tcp local remote rooms = Tcp (record {
  local = local;
  remote = remote;
  hop_limit = 64;
  hold = pos 0;
  is_aborted = false;
  rx = queue_of rooms.received;
  tx = queue_of rooms.to_send;
})

-- a segment is queued, for which there is room
pub record SendsTcp (n : ℕ) (segment : Segment) (payload : List ℕ) (old new : IfaceHost) : Type 0 where
  pub handle : ℕ
  pub socket : tcps.TcpSocket
  pub names : Names n old handle (Tcp socket)
  pub room : is_room socket.tx (length payload) ≡ true
  pub after : new ≡ with_packet (40 + length payload)
      (with_socket old handle (Some (Tcp (tcps.socket_after_send segment payload socket))))

-- the first segment that came stands in the front of a buffer; besides, it is taken
abbrev pub PeeksTcp : ℕ → Segment → ℕ → List ℕ → IfaceHost → Type 0
PeeksTcp = Peeks up_tcp (λ (s : tcps.TcpSocket). s.rx)

abbrev pub ReceivesTcp : ℕ → Segment → ℕ → List ℕ → IfaceHost → IfaceHost → Type 0
ReceivesTcp = Receives up_tcp (λ (s : tcps.TcpSocket). s.rx) tcps.socket_after_done

-- a socket sends nothing before a moment
pub record HoldsTcp (n : ℕ) (until : ℤ) (old new : IfaceHost) : Type 0 where
  pub handle : ℕ
  pub socket : tcps.TcpSocket
  pub names : Names n old handle (Tcp socket)
  pub after : new ≡ with_socket old handle (Some (Tcp (record socket { hold = until })))

-- a socket gets no segment from now on
pub record AbortsTcp (n : ℕ) (old new : IfaceHost) : Type 0 where
  pub handle : ℕ
  pub socket : tcps.TcpSocket
  pub names : Names n old handle (Tcp socket)
  pub after : new ≡ with_socket old handle (Some (Tcp (record socket { is_aborted = true })))

-- a remote end, if one is given: its port is 0, or its address unspecified
abbrev pub has_port_0 : Option IpEndpoint → Bool
has_port_0 None = false
has_port_0 (Some end) = end.port == 0

abbrev pub is_to_nowhere : Option IpEndpoint → Bool
is_to_nowhere None = false
is_to_nowhere (Some end) = is_unspecified end.addr

-- a socket to be opened: a port is 0; its own address is no host's, or the remote one unspecified; or as each socket
abbrev pub tcp_opening_refusal : IfaceHost → IpListenEndpoint → Option IpEndpoint → Option Refusal
tcp_opening_refusal host local remote =
    if (local.port == 0) || has_port_0 remote then Some BadPort else
    if is_no_hosts local.addr || is_to_nowhere remote then Some BadAddress else opening_refusal host

-- a segment to be sent, as a datagram
abbrev pub tcp_unsent : IfaceHost → ℕ → IpEndpoint → ℕ → Option Refusal
tcp_unsent host n remote len =
    if remote.port == 0 then Some BadPort
    else (if is_unspecified remote.addr then Some BadAddress
    else (if may_send host.ip_mtu (version_of remote.addr) 20 len
    then of_socket (λ (s : tcps.TcpSocket). if s.local.port == 0 then Some BadPort else if_full (is_room s.tx len))
    (kind_at down_tcp host n)
    else Some TooLong))

-- a segment to be received
abbrev pub tcp_unreceived : IfaceHost → ℕ → ℕ → Option Refusal
tcp_unreceived host n room =
    of_socket (λ (s : tcps.TcpSocket). of_packet room (first_of s.rx.packets)) (kind_at down_tcp host n)

-- a socket that is to get no segment: the number names none
abbrev pub abort_refusal : IfaceHost → ℕ → Option Refusal
abort_refusal host n = of_socket (λ (s : tcps.TcpSocket). None) (kind_at down_tcp host n)

-- one that is to hold back: before that, the moment is out of range
abbrev pub hold_refusal : IfaceHost → ℕ → ℤ → Option Refusal
hold_refusal host n until = first_reason (moment_refusal until) (abort_refusal host n)
