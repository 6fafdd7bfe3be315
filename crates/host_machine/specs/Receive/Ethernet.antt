-- Ethernet, frame reception (RFC 894, RFC 1122 2.4): which frames are accepted, and by which
-- protocol they are processed.
use Rattle.std.specs.Prelude.{◌≡◌, ℕ, ◌/◌, ◌≤◌, Bool, true, false, ◌||◌, List, length, drop, slice_index, Option}
use Rattle.std.specs.Str.{bytes_eq}
use Rattle.ip_address.specs.declared.ethernet_address.EthernetAddress.{EthernetAddress}
use Rattle.ip_wire.specs.declared.ethernet.EthernetProtocol.{EthernetProtocol}
use Rattle.ip_wire.specs.declared.ethernet.EthernetProtocol.TheVariants as protocol
use Rattle.ip_address.specs.declared.hardware.HardwareAddress.{HardwareAddress}
use Rattle.ip_address.specs.declared.hardware.HardwareAddress.TheVariants as hardware
use Rattle.ip_address.specs.EthernetAddress.{is_broadcast, is_multicast}
use Rattle.ip_wire.specs.Ethernet.{header_in}
use Rattle.host_machine.specs.Context.Note.{Note}
use Rattle.host_machine.specs.Context.Host.{Host}
use Rattle.host_machine.specs.Receive.Reply.{Reply, IsDropped}
use Rattle.host_machine.specs.Discovery.Arp.{ProcessesArp}
use Rattle.host_machine.specs.Receive.Ipv4.{ProcessesIpv4}
use Rattle.host_machine.specs.Receive.Ipv6.{ProcessesIpv6}

-- frames that are broadcast, multicast, or to the host's own address
abbrev pub is_for : EthernetAddress → EthernetAddress → Bool
is_for own destination = is_broadcast destination || is_multicast destination || bytes_eq destination.0 own.0

-- by the type of the payload, which was received from a hardware address
abbrev pub ProcessesEthertype : EthernetAddress → EthernetAddress → Host → EthernetProtocol → List ℕ →
    Option Reply → List Note → Host → Type 0
ProcessesEthertype own source H protocol.Arp payload reply notes new = ProcessesArp own H payload reply notes new
ProcessesEthertype own source H protocol.Ipv4 payload reply notes new =
    ProcessesIpv4 (hardware.Ethernet source) H payload reply notes new
ProcessesEthertype own source H protocol.Ipv6 payload reply notes new =
    ProcessesIpv6 (hardware.Ethernet source) H payload reply notes new
ProcessesEthertype own source H (protocol.Unknown number) payload reply notes new = IsDropped H reply notes new

-- how a frame is processed
pub data ProcessesEthernet (own : EthernetAddress) (H : Host) (frame : List ℕ) (reply : Option Reply)
    (notes : List Note) (new : Host) : Type 0 where
  Malformed : ¬ (14 ≤ length frame) → IsDropped H reply notes new → ProcessesEthernet own H frame reply notes new
  NotForUs : 14 ≤ length frame → is_for own (header_in frame).dst_addr ≡ false → IsDropped H reply notes new →
      ProcessesEthernet own H frame reply notes new
  Accepted : 14 ≤ length frame → is_for own (header_in frame).dst_addr ≡ true →
      ProcessesEthertype own (header_in frame).src_addr H (header_in frame).ethertype (drop 14 frame) reply notes new →
      ProcessesEthernet own H frame reply notes new

-- the IP version of a packet
abbrev pub version_in : List ℕ → ℕ
version_in packet = slice_index packet 0 / 16

-- how a packet is processed on a medium without hardware addresses: by its version
pub data ProcessesIp (H : Host) (packet : List ℕ) (reply : Option Reply) (notes : List Note) (new : Host) : Type 0 where
  Ipv4 : version_in packet ≡ 4 → ProcessesIpv4 hardware.Ip H packet reply notes new →
      ProcessesIp H packet reply notes new
  Ipv6 : version_in packet ≡ 6 → ProcessesIpv6 hardware.Ip H packet reply notes new →
      ProcessesIp H packet reply notes new
  OtherVersion : (version_in packet ≡ 4 → ⊥) → (version_in packet ≡ 6 → ⊥) → IsDropped H reply notes new →
      ProcessesIp H packet reply notes new

-- by the medium
abbrev pub ProcessesFrame : HardwareAddress → Host → List ℕ → Option Reply → List Note → Host → Type 0
ProcessesFrame (hardware.Ethernet own) H frame reply notes new = ProcessesEthernet own H frame reply notes new
ProcessesFrame hardware.Ip H frame reply notes new = ProcessesIp H frame reply notes new
