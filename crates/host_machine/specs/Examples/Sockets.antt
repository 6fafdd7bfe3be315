-- Worked examples with sockets: the frames of a datagram, a segment and a packet of an unknown protocol, and how the
-- host of 192.168.69.1/24 processes them.
use Rattle.std.specs.Prelude.{◌≡◌, ℕ, ◌+◌, ℤ, pos, true, false, List, [], ◌∷◌, length, drop, Some, None}
use Rattle.net_base.specs.Device.{Received, Frame, Asked, Sent}
use Rattle.net_base.specs.declared.phy.Medium.TheVariants as medium
use Rattle.ip_address.specs.EthernetAddress.{broadcast}
use Rattle.ip_address.specs.declared.hardware.HardwareAddress.TheVariants as hardware
use Rattle.ip_address.specs.declared.protocol.IpProtocol.TheVariants as protocol
use Rattle.ip_address.specs.declared.protocol.IpVersion.TheVariants as version
use Rattle.ip_wire.specs.declared.tcp.TcpRepr.{TcpRepr}
use Rattle.sockets.specs.declared.endpoint.IpEndpoint.{IpEndpoint}
use Rattle.sockets.specs.Queue.{Queued}
use Rattle.sockets.specs.Raw.{RawSocket}
use Rattle.sockets.specs.Udp.{UdpSocket}
use Rattle.sockets.specs.declared.socket.SocketOf.TheVariants as kind
use Rattle.socket_set.specs.SocketMeta.{Wait}
use Rattle.host_machine.specs.declared.results.HardwareError.TheVariants as hardware_error
use Rattle.host_machine.specs.declared.results.NewError.TheVariants as new_error
use Rattle.host_machine.specs.declared.results.PollIngressSingleResult.TheVariants as result
use Rattle.host_machine.specs.declared.results.PollResult.TheVariants as poll
use Rattle.host_machine.specs.Context.Note.{OfDiscovery, OfIdentification, Ask, Identify}
use Rattle.host_machine.specs.Context.Host.{Host}
use Rattle.host_machine.specs.Interface.Config.{first_id, hardware_refusal_of, refusal_of}
use Rattle.host_machine.specs.Packet.Frame.{with_limited_window}
use Rattle.host_machine.specs.Interface.Ingress.{Ingress}
use Rattle.host_machine.specs.Interface.Egress.{Egress}
use Rattle.host_machine.specs.Examples.ArpAndEcho as example

-- `hi` from 192.168.69.100, port 5000, to port 6969
abbrev pub datagram : List ℕ
datagram =
    0x02 ∷ 0 ∷ 0 ∷ 0 ∷ 0 ∷ 0x01 ∷ 0x02 ∷ 0 ∷ 0 ∷ 0 ∷ 0 ∷ 0x02 ∷ 0x08 ∷ 0
    ∷ 0x45 ∷ 0 ∷ 0 ∷ 0x1e ∷ 0 ∷ 0 ∷ 0x40 ∷ 0 ∷ 0x40 ∷ 0x11 ∷ 0x2f ∷ 0x19 ∷ 192 ∷ 168 ∷ 69 ∷ 100 ∷ 192 ∷ 168 ∷ 69 ∷ 1
    ∷ 0x13 ∷ 0x88 ∷ 0x1b ∷ 0x39 ∷ 0 ∷ 0x0a ∷ 0x5c ∷ 0xf9 ∷ 0x68 ∷ 0x69 ∷ []

-- the port is unreachable; the datagram is quoted
abbrev pub port_unreachable : List ℕ
port_unreachable =
    0x02 ∷ 0 ∷ 0 ∷ 0 ∷ 0 ∷ 0x02 ∷ 0x02 ∷ 0 ∷ 0 ∷ 0 ∷ 0 ∷ 0x01 ∷ 0x08 ∷ 0
    ∷ 0x45 ∷ 0 ∷ 0 ∷ 0x3a ∷ 0 ∷ 0 ∷ 0x40 ∷ 0 ∷ 0x40 ∷ 0x01 ∷ 0x2f ∷ 0x0d ∷ 192 ∷ 168 ∷ 69 ∷ 1 ∷ 192 ∷ 168 ∷ 69 ∷ 100
    ∷ 0x03 ∷ 0x03 ∷ 0x08 ∷ 0xcf ∷ 0 ∷ 0 ∷ 0 ∷ 0
    ∷ 0x45 ∷ 0 ∷ 0 ∷ 0x1e ∷ 0 ∷ 0 ∷ 0x40 ∷ 0 ∷ 0x40 ∷ 0x11 ∷ 0x2f ∷ 0x19 ∷ 192 ∷ 168 ∷ 69 ∷ 100 ∷ 192 ∷ 168 ∷ 69 ∷ 1
    ∷ 0x13 ∷ 0x88 ∷ 0x1b ∷ 0x39 ∷ 0 ∷ 0x0a ∷ 0x5c ∷ 0xf9 ∷ 0x68 ∷ 0x69 ∷ []

-- a segment that opens a connection from 192.168.69.100, port 5000, to port 80; its sequence number is
-- 0x01020304, its window 1000
abbrev pub opening : List ℕ
opening =
    0x02 ∷ 0 ∷ 0 ∷ 0 ∷ 0 ∷ 0x01 ∷ 0x02 ∷ 0 ∷ 0 ∷ 0 ∷ 0 ∷ 0x02 ∷ 0x08 ∷ 0
    ∷ 0x45 ∷ 0 ∷ 0 ∷ 0x28 ∷ 0 ∷ 0 ∷ 0x40 ∷ 0 ∷ 0x40 ∷ 0x06 ∷ 0x2f ∷ 0x1a ∷ 192 ∷ 168 ∷ 69 ∷ 100 ∷ 192 ∷ 168 ∷ 69 ∷ 1
    ∷ 0x13 ∷ 0x88 ∷ 0 ∷ 0x50 ∷ 0x01 ∷ 0x02 ∷ 0x03 ∷ 0x04 ∷ 0 ∷ 0 ∷ 0 ∷ 0 ∷ 0x50 ∷ 0x02
    ∷ 0x03 ∷ 0xe8 ∷ 0x88 ∷ 0x66 ∷ 0 ∷ 0 ∷ []

-- the reset, which acknowledges the sequence number after it
abbrev pub reset : List ℕ
reset =
    0x02 ∷ 0 ∷ 0 ∷ 0 ∷ 0 ∷ 0x02 ∷ 0x02 ∷ 0 ∷ 0 ∷ 0 ∷ 0 ∷ 0x01 ∷ 0x08 ∷ 0
    ∷ 0x45 ∷ 0 ∷ 0 ∷ 0x28 ∷ 0 ∷ 0 ∷ 0x40 ∷ 0 ∷ 0x40 ∷ 0x06 ∷ 0x2f ∷ 0x1a ∷ 192 ∷ 168 ∷ 69 ∷ 1 ∷ 192 ∷ 168 ∷ 69 ∷ 100
    ∷ 0 ∷ 0x50 ∷ 0x13 ∷ 0x88 ∷ 0 ∷ 0 ∷ 0 ∷ 0 ∷ 0x01 ∷ 0x02 ∷ 0x03 ∷ 0x05 ∷ 0x50
    ∷ 0x14 ∷ 0 ∷ 0 ∷ 0x8c ∷ 0x3b ∷ 0 ∷ 0 ∷ []

-- `abcd` by protocol 99
abbrev pub unknown_protocol_frame : List ℕ
unknown_protocol_frame =
    0x02 ∷ 0 ∷ 0 ∷ 0 ∷ 0 ∷ 0x01 ∷ 0x02 ∷ 0 ∷ 0 ∷ 0 ∷ 0 ∷ 0x02 ∷ 0x08 ∷ 0
    ∷ 0x45 ∷ 0 ∷ 0 ∷ 0x18 ∷ 0 ∷ 0 ∷ 0x40 ∷ 0 ∷ 0x40 ∷ 0x63 ∷ 0x2e ∷ 0xcd ∷ 192 ∷ 168 ∷ 69 ∷ 100 ∷ 192 ∷ 168 ∷ 69 ∷ 1
    ∷ 0x61 ∷ 0x62 ∷ 0x63 ∷ 0x64 ∷ []

-- the protocol is unreachable; the packet is quoted
abbrev pub protocol_unreachable : List ℕ
protocol_unreachable =
    0x02 ∷ 0 ∷ 0 ∷ 0 ∷ 0 ∷ 0x02 ∷ 0x02 ∷ 0 ∷ 0 ∷ 0 ∷ 0 ∷ 0x01 ∷ 0x08 ∷ 0
    ∷ 0x45 ∷ 0 ∷ 0 ∷ 0x34 ∷ 0 ∷ 0 ∷ 0x40 ∷ 0 ∷ 0x40 ∷ 0x01 ∷ 0x2f ∷ 0x13 ∷ 192 ∷ 168 ∷ 69 ∷ 1 ∷ 192 ∷ 168 ∷ 69 ∷ 100
    ∷ 0x03 ∷ 0x02 ∷ 0x38 ∷ 0x37 ∷ 0 ∷ 0 ∷ 0 ∷ 0
    ∷ 0x45 ∷ 0 ∷ 0 ∷ 0x18 ∷ 0 ∷ 0 ∷ 0x40 ∷ 0 ∷ 0x40 ∷ 0x63 ∷ 0x2e ∷ 0xcd ∷ 192 ∷ 168 ∷ 69 ∷ 100 ∷ 192 ∷ 168 ∷ 69 ∷ 1
    ∷ 0x61 ∷ 0x62 ∷ 0x63 ∷ 0x64 ∷ []

-- a queue in which one packet fits, of at most 16 octets
abbrev pub empty_queue : Queued IpEndpoint
empty_queue = record { packets = []; most = 1; limit = 16 }

-- a UDP socket that listens at port 6969, without a datagram and with this one
abbrev pub listening_socket : UdpSocket
listening_socket =
    record { endpoint = record { addr = None; port = 6969 }; hop_limit = 64; rx = empty_queue; tx = empty_queue }

abbrev pub socket_with_datagram : UdpSocket
socket_with_datagram = record listening_socket {
  rx = record empty_queue { packets = (record { addr = example.sender; port = 5000 }, 0x68 ∷ 0x69 ∷ []) ∷ [] };
}

-- a host with that socket at the second index; the first one is free
abbrev pub with_socket : UdpSocket → Host → Host
with_socket s H = record H {
  sockets = record { places = None ∷ Some (kind.Udp s) ∷ []; waits = None ∷ None ∷ []; grows = false; room = 2 };
}

-- the datagram is delivered to the socket, and nothing is sent
abbrev pub DatagramIsDelivered : Type 0
DatagramIsDelivered =
    Ingress (pos 0) result.SocketStateChanged
    (with_socket listening_socket (example.host 0x1405 example.neighbors_with_sender))
    (Received (pos 0) (Frame datagram) ∷ []) []
    (with_socket socket_with_datagram (example.host 0x1405 example.neighbors_after_renewal))

-- if no socket listens, the error is sent
abbrev pub DatagramIsRefused : Type 0
DatagramIsRefused =
    Ingress (pos 0) result.SocketStateChanged (example.host 0x1405 example.neighbors_with_sender)
    (Received (pos 0) (Frame datagram) ∷ Sent 0 port_unreachable ∷ []) (example.identify ∷ [])
    (example.host 0x1406 example.neighbors_after_renewal)

-- a raw socket for UDP over IPv4, without a packet and with the one of the datagram
abbrev pub listening_raw_socket : RawSocket
listening_raw_socket = record {
  version = version.Ipv4;
  protocol = protocol.Udp;
  rx = record { packets = []; most = 1; limit = 64 };
  tx = record { packets = []; most = 1; limit = 64 };
}

abbrev pub having_heard : RawSocket
having_heard =
    record listening_raw_socket { rx = record { packets = (tt, drop 14 datagram) ∷ []; most = 1; limit = 64 } }

abbrev pub with_raw : RawSocket → Host → Host
with_raw s H =
    record H { sockets = record { places = Some (kind.Raw s) ∷ []; waits = None ∷ []; grows = false; room = 1 } }

-- a raw socket receives the whole packet, and then no error is sent
abbrev pub RawSocketReceives : Type 0
RawSocketReceives =
    Ingress (pos 0) result.SocketStateChanged
    (with_raw listening_raw_socket (example.host 0x1405 example.neighbors_with_sender))
    (Received (pos 0) (Frame datagram) ∷ []) []
    (with_raw having_heard (example.host 0x1405 example.neighbors_after_renewal))

-- if no socket accepts a connection, it is reset; a UDP socket accepts none
abbrev pub ConnectionIsReset : Type 0
ConnectionIsReset =
    Ingress (pos 0) result.SocketStateChanged
    (with_socket listening_socket (example.host 0x1405 example.neighbors_with_sender))
    (Received (pos 0) (Frame opening) ∷ Sent 0 reset ∷ []) (example.identify ∷ [])
    (with_socket listening_socket (example.host 0x1406 example.neighbors_after_renewal))

-- for an unknown protocol the error is sent
abbrev pub ProtocolIsRefused : Type 0
ProtocolIsRefused =
    Ingress (pos 0) result.SocketStateChanged (example.host 0x1405 example.neighbors_with_sender)
    (Received (pos 0) (Frame unknown_protocol_frame) ∷ Sent 0 protocol_unreachable ∷ []) (example.identify ∷ [])
    (example.host 0x1406 example.neighbors_after_renewal)

-- how long replies are: that to a ping is as long as the ping, and an error has 28 octets more than the frame for which
-- it is sent, as it has a header of IPv4 and one of ICMP before that frame's packet
pub record RepliesAreMeasured : Type 0 where
  pub echo : length example.echo_reply ≡ length example.echo_request
  pub closed_port : length port_unreachable ≡ length datagram + 28
  pub other_protocol : length protocol_unreachable ≡ length unknown_protocol_frame + 28

-- a UDP socket with `hi` to send to port 5000 of 192.168.69.100
abbrev pub sending : UdpSocket
sending = record listening_socket {
  tx = record empty_queue { packets = (record { addr = example.sender; port = 5000 }, 0x68 ∷ 0x69 ∷ []) ∷ [] };
}

-- a host at a moment that knows no neighbour, with that socket alone, which waits or not
abbrev pub with_sending : Wait → ℤ → ℕ → ℤ → Host
with_sending wait t ipv4_id silent_until = record (example.host ipv4_id (example.no_neighbors silent_until)) {
  moment = t;
  sockets = record { places = Some (kind.Udp sending) ∷ []; waits = wait ∷ []; grows = false; room = 1 };
}

-- a socket whose destination is unknown waits for a second; then it is asked again, and another
-- discovery request is sent
pub record SocketWaits : Type 0 where
  pub asked : Egress (pos 0) poll.None (with_sending None (pos 0) 0x1405 (pos 0))
      (Asked (pos 0) true ∷ Sent 0 example.discovery ∷ []) (example.identify ∷ OfDiscovery (Ask (pos 0)) ∷ [])
      (with_sending (Some (example.sender, pos 1000000)) (pos 0) 0x1406 (pos 1000000))
  pub waits :
      Egress (pos 999999) poll.None (with_sending (Some (example.sender, pos 1000000)) (pos 0) 0x1406 (pos 1000000))
      [] [] (with_sending (Some (example.sender, pos 1000000)) (pos 999999) 0x1406 (pos 1000000))
  pub asked_again : Egress (pos 1000000) poll.None
      (with_sending (Some (example.sender, pos 1000000)) (pos 999999) 0x1406 (pos 1000000))
      (Asked (pos 1000000) true ∷ Sent 0 example.discovery ∷ [])
      (OfIdentification (Identify 0x1406) ∷ OfDiscovery (Ask (pos 1000000)) ∷ [])
      (with_sending (Some (example.sender, pos 2000000)) (pos 1000000) 0x1407 (pos 2000000))

-- a segment with the largest window is sent with that of two segments of 1,474 octets, if the device takes bursts
-- of two frames of 1,514
abbrev pub WindowFitsBurst : Type 0
WindowFitsBurst = (r : TcpRepr) → r.window_len ≡ 65535 →
    with_limited_window (record example.device { max_burst_size = Some 2 }) 20 r ≡ record r { window_len = 2948 }

-- which configurations are refused, and why; the first identification from seed 0
pub record ConfigurationsAreTested : Type 0 where
  pub without_address : refusal_of example.device hardware.Ip ≡ Some new_error.MediumMismatch
  pub of_all : refusal_of example.device (hardware.Ethernet broadcast) ≡ Some new_error.NotUnicast
  pub of_575 : refusal_of (record example.device { max_transmission_unit = 589 }) example.sender_hardware
      ≡ Some new_error.MtuTooSmall
  pub of_576 : refusal_of (record example.device { max_transmission_unit = 590 }) example.sender_hardware ≡ None
  pub of_1515 : refusal_of (record example.device { max_transmission_unit = 1515 }) example.sender_hardware
      ≡ Some new_error.MtuTooLarge
  pub of_1514 : refusal_of example.device example.sender_hardware ≡ None
  pub address_of_all : hardware_refusal_of example.device (hardware.Ethernet broadcast) ≡ Some hardware_error.NotUnicast
  pub other_medium : hardware_refusal_of (record example.device { medium = medium.Ip }) example.sender_hardware
      ≡ Some hardware_error.WrongMedium
  pub identification : first_id 0 ≡ 0x1405
