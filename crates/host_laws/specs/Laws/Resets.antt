-- Which numbers a reset has (RFC 9293 3.5.2, 3.10.7.1), and that a segment to a port at which no socket listens is reset.
use Rattle.std.specs.Prelude.{◌≡◌, ◌≢◌, ℕ, ◌/◌, ◌%◌, ◌≤◌, ℤ, List, [], ◌∷◌}
use Rattle.std.specs.Prelude.{slice_get, slice_index, Some}
use Rattle.std.specs.List.{AllByRecursion}
use Rattle.net_base.specs.Checksum.{ip_mtu_of}
use Rattle.net_base.specs.Device.{Event, sent_frames}
use Rattle.ip_wire.specs.Octets.{u16_at}
use Rattle.ip_address.specs.declared.hardware.HardwareAddress.{HardwareAddress}
use Rattle.ip_address.specs.declared.ip.IpAddress.TheVariants.{Ipv4, Ipv6}
use Rattle.ip_address.specs.declared.protocol.IpVersion.TheVariants as version
use Rattle.ip_wire.specs.declared.ipv4_packet.Ipv4Repr.{Ipv4Repr}
use Rattle.ip_wire.specs.declared.tcp.TcpRepr.{TcpRepr}
use Rattle.ip_wire.specs.declared.ipv6_packet.Ipv6Repr.{Ipv6Repr}
use Rattle.sockets.specs.declared.socket.SocketOf.TheVariants.{Tcp}
use Rattle.sockets.specs.Tcp.{TcpSocket}
use Rattle.host_machine.specs.Context.Host.{Host, at}
use Rattle.host_machine.specs.Packet.Frame.{ip_frame}
use Rattle.host_machine.specs.Packet.Packet as packet
use Rattle.host_laws.specs.Laws.Received.{HasSegment, HasSegmentV6}
use Rattle.host_laws.specs.Laws.Restraint.Replies.{IsNoRawFor}
use Rattle.host_laws.specs.Laws.Restraint.ResetNumbers.{IsResetFor}
use Rattle.host_laws.specs.Laws.Service.{HasWay, IsToItself, Takes}

-- no TCP socket of the host is at the port to which a segment goes
abbrev pub IsToClosedPort : Host → List ℕ → Type 0
IsToClosedPort H segment = (k : ℕ) (other : TcpSocket) → slice_get H.sockets.places k ≡ Some (Some (Tcp other)) →
    other.local.port ≢ u16_at segment 2

-- a segment is no reset, by its flags: a reset is never answered
abbrev pub IsNoReset : List ℕ → Type 0
IsNoReset segment = slice_index segment 13 / 4 % 2 ≡ 0

-- if no raw socket takes the packet, the way back is known and the device takes packets so long, the call that receives
-- the segment sends its reset, and nothing else
abbrev pub ResetsClosedPorts : ℤ → Host → List Event → Host → Type 0
ResetsClosedPorts t old told new =
    (own : HardwareAddress) (frame : List ℕ) (r : Ipv4Repr) (header : TcpRepr) (octets : List ℕ) (h : HardwareAddress) →
    Takes own t frame old told new → IsToItself own frame → (s : HasSegment own old frame r header octets) →
    IsNoReset s.payload → IsToClosedPort old s.payload →
    AllByRecursion (IsNoRawFor version.Ipv4 r.next_header) old.sockets.places → HasWay own (at old t) (Ipv4 r.src_addr) h →
    40 ≤ ip_mtu_of old.capabilities →
    (reset : TcpRepr) × IsResetFor s.payload reset × (sent_frames told ≡ ip_frame old h (packet.Ipv4 (record {
      src_addr = r.dst_addr;
      dst_addr = r.src_addr;
      hop_limit = 64;
      payload = packet.Tcp reset [];
    })) ∷ [])

-- so it is over IPv6
abbrev pub ResetsClosedPortsV6 : ℤ → Host → List Event → Host → Type 0
ResetsClosedPortsV6 t old told new =
    (own : HardwareAddress) (frame : List ℕ) (r : Ipv6Repr) (header : TcpRepr) (octets : List ℕ) (h : HardwareAddress) →
    Takes own t frame old told new → IsToItself own frame → (s : HasSegmentV6 own old frame r header octets) →
    IsNoReset s.payload → IsToClosedPort old s.payload →
    AllByRecursion (IsNoRawFor version.Ipv6 r.next_header) old.sockets.places → HasWay own (at old t) (Ipv6 r.src_addr) h →
    60 ≤ ip_mtu_of old.capabilities →
    (reset : TcpRepr) × IsResetFor s.payload reset × (sent_frames told ≡ ip_frame old h (packet.Ipv6 (record {
      src_addr = r.dst_addr;
      dst_addr = r.src_addr;
      hop_limit = 64;
      payload = packet.Tcp reset [];
    })) ∷ [])

abbrev pub ClosedTcpPortsAreReset : Type 0
ClosedTcpPortsAreReset = (t : ℤ) (old new : Host) (told : List Event) →
    ResetsClosedPorts t old told new × ResetsClosedPortsV6 t old told new
