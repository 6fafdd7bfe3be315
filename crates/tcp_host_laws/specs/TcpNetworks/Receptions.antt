-- What waits to be received at the raw sockets of a host, in its run.
use Rattle.std.specs.Prelude.{◌≡◌, ℕ, true, false, List, Some}
use Rattle.std.specs.List.{AllByRecursion, Contains, slice_get}
use Rattle.net_base.specs.Checksum.{is_rx, is_tx}
use Rattle.net_base.specs.Device.{handed_frames}
use Rattle.ip_address.specs.Protocol.{number_of}
use Rattle.ip_address.specs.declared.protocol.IpVersion.{IpVersion}
use Rattle.ip_wire.specs.IpPacket.{next_header}
use Rattle.ip_wire.specs.Ipv4Packet.{IsIpv4, ipv4_in, is_fragment}
use Rattle.sockets.specs.Raw.{RawSocket, Sent as Packet, packet_in}
use Rattle.host_laws.specs.Laws.Frames.{Carries}
use Rattle.host_machine.specs.Context.Real.{IsReal}
use Rattle.host_machine.specs.Interface.Run.{Transition, Run}
use Rattle.host_machine.specs.Context.Host.{Host, SocketSet}
use Rattle.host_laws.specs.Datagrams.{host_at_command}
use Rattle.host_laws.specs.Network.{Runs, IsHost, WereSentBySome}
use Rattle.host_laws.specs.RawArrivals.{raw_at}
use Rattle.host_laws.specs.RawPackets.{SendsByRaw}
use Rattle.tcp_sockets.specs.Reading.{AreEnds}
use Rattle.tcp_host_laws.specs.Lives.{Life}
use Rattle.tcp_host_laws.specs.Readings.{Brings}
use Rattle.tcp_host_laws.specs.TcpNetworks.Stations.{Station, Goes}
use Rattle.tcp_host_laws.specs.TcpNetworks.Arrivals.{Drives}

-- a packet brings what was sent in a life at one of the hosts, or a reset
pub record BringsOfSome (hosts : List Host) (stations : ℕ → Station) (p : Packet) : Type 0 where
  pub sender : ℕ
  pub is_host : IsHost hosts sender
  pub brings : Brings (stations sender).lives p

-- if octets are read as a packet of TCP, it does
abbrev pub IsBrought : List Host → (ℕ → Station) → IpVersion → List ℕ → Type 0
IsBrought hosts stations version octets =
    (p : Packet) → packet_in version octets ≡ Some p → number_of (next_header p.header) ≡ 6 →
    BringsOfSome hosts stations p

-- so it is with each packet that waits to be received at a raw socket
abbrev pub WaitAsBrought : List Host → (ℕ → Station) → SocketSet → Type 0
WaitAsBrought hosts stations sockets =
    (i : ℕ) (r : RawSocket) → raw_at sockets i ≡ Some r →
    AllByRecursion (λ p. IsBrought hosts stations r.version p.1) r.rx.packets

-- a frame carries no fragment of a packet of TCP for a host (RFC 791 3.2)
abbrev pub HasNoFragment : Host → List ℕ → Type 0
HasNoFragment H frame = (packet : List ℕ) → Carries H.hardware_addr frame packet →
    IsIpv4 (is_rx H.capabilities.checksum.ipv4) packet → number_of (ipv4_in packet).0.next_header ≡ 6 →
    is_fragment (ipv4_in packet).1 ≡ false

-- none that is received does
abbrev pub GetsNoFragment : Transition → Type 0
GetsNoFragment q = AllByRecursion (HasNoFragment (host_at_command q.command q.before)) (handed_frames q.told)

-- what a station may have: lives whose ends a packet can name, and a device that leaves no checksum out
pub record IsNamed (first last : Station) : Type 0 where
  pub ends : (l : Life) → Contains last.lives l → AreEnds l.ends
  pub summed : is_tx first.carrier.checksum ≡ true

-- If it is so where a run begins, it is so before each of its transitions, and where it ends: no frame that is received
-- carries a fragment of TCP, and the hosts that sent them drive lives.
abbrev pub QueuesHoldWhatIsBrought : Type 0
QueuesHoldWhatIsBrought =
    (hosts : List Host) (runs : Runs) (first last : ℕ → Station)
    (b b' : Host) (qs : List Transition) (start stop : Station) →
    Run b qs b' → Goes start qs stop → IsReal b →
    ((j : ℕ) (a : Host) → slice_get hosts j ≡ Some a → SendsByRaw 6 b.capabilities.medium a (runs j)) →
    ((j : ℕ) (a : Host) → slice_get hosts j ≡ Some a → Drives hosts runs a (runs j) (first j) (last j)) →
    ((j : ℕ) (a : Host) → slice_get hosts j ≡ Some a → IsNamed (first j) (last j)) →
    WereSentBySome hosts runs qs → AllByRecursion GetsNoFragment qs → WaitAsBrought hosts last b.sockets →
    AllByRecursion (λ q. WaitAsBrought hosts last q.before.sockets) qs × WaitAsBrought hosts last b'.sockets
