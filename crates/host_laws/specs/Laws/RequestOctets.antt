-- Two requests of other hosts on Ethernet, by the octets of their frames: an echo request over IPv4 (RFC 792), and a
-- neighbour solicitation (RFC 4861 4.3).
use Rattle.std.specs.Prelude.{◌≡◌, ◌⊎◌, ◌||◌, ◌&&◌, not, ℕ, ◌*◌, ◌/◌, ◌%◌, ◌≤◌, true, List, ◌++◌, length, drop, take}
use Rattle.std.specs.Prelude.{slice_index, slice_range}
use Rattle.ip_wire.specs.Checksum.{folded_sum, word_sum}
use Rattle.ip_wire.specs.Octets.{u16_at, u32_at}
use Rattle.ip_wire.specs.Pseudo.{pseudo}
use Rattle.ip_address.specs.declared.ethernet_address.EthernetAddress.{EthernetAddress}
use Rattle.ip_address.specs.declared.hardware.HardwareAddress.TheVariants as hardware
use Rattle.ip_address.specs.declared.ip.IpAddress.TheVariants.{Ipv4, Ipv6}
use Rattle.ip_address.specs.declared.ipv4.Ipv4Address.{Ipv4Address}
use Rattle.ip_address.specs.declared.ipv6.Ipv6Address.{Ipv6Address}
use Rattle.ip_address.specs.EthernetAddress as ethernet
use Rattle.ip_address.specs.Ipv6 as ipv6
use Rattle.ip_wire.specs.Ipv4Packet as packet_v4
use Rattle.ip_wire.specs.Ipv6Packet.{address_at}
use Rattle.ip_wire.specs.Ipv6Packet as packet_v6
use Rattle.control_wire.specs.Icmpv4.{IsEchoRequest}
use Rattle.host_machine.specs.Context.Host.{Host, in_same_network, is_assigned}
use Rattle.host_machine.specs.Context.Addresses.{has_solicited_node, is_unicast_v4}
use Rattle.host_laws.specs.Laws.ReplyOctets.{behind_header}
use Rattle.host_laws.specs.Laws.Service.{IsOfLink, Pings, Solicits}

-- a frame with a type (RFC 894, RFC 2464), to a host with this hardware address, or to many: the first octet is odd
-- (IEEE 802.3 3.2.3)
pub record IsFrameTo (own : EthernetAddress) (type : ℕ) (frame : List ℕ) : Type 0 where
  pub whole : 14 ≤ length frame
  pub destination : (slice_range frame 0 6 ≡ own.0) ⊎ (slice_index frame 0 % 2 ≡ 1)
  pub of_type : u16_at frame 12 ≡ type

-- a packet of IPv4 with a message of ICMP, whatever follows it, which is no fragment (RFC 791 3.1)
pub record CarriesIcmp (packet : List ℕ) : Type 0 where
  pub whole : 20 ≤ length packet
  pub version : slice_index packet 0 / 16 ≡ 4
  pub header : 20 ≤ slice_index packet 0 % 16 * 4
  pub header_fits : slice_index packet 0 % 16 * 4 ≤ u16_at packet 2
  pub total_fits : u16_at packet 2 ≤ length packet
  pub none_follow : u16_at packet 6 / 0x2000 % 2 ≡ 0
  pub none_precede : u16_at packet 6 % 0x2000 ≡ 0
  pub protocol_is : slice_index packet 9 ≡ 1
  pub sum : folded_sum (word_sum (take (slice_index packet 0 % 16 * 4) packet)) ≡ 65535

-- the addresses in it
abbrev pub source_of : List ℕ → Ipv4Address
source_of packet = record { bits = u32_at packet 12 }

abbrev pub destination_of : List ℕ → Ipv4Address
destination_of packet = record { bits = u32_at packet 16 }

-- a frame with an echo request in such a packet, from a unicast address to one assigned to the host, is read as that:
-- its identifier, its sequence number and its data are these octets of the message
abbrev pub PingFramesAreRead : Type 0
PingFramesAreRead =
    (own : EthernetAddress) (H : Host) (frame packet message : List ℕ) →
    packet ≡ drop 14 frame → message ≡ behind_header packet →
    IsFrameTo own 0x0800 frame → CarriesIcmp packet → IsEchoRequest message →
    is_unicast_v4 H.ip_addrs (source_of packet) ≡ true → IsOfLink (source_of packet) →
    is_unicast_v4 H.ip_addrs (destination_of packet) ≡ true →
    is_assigned H.ip_addrs (Ipv4 (destination_of packet)) ≡ true →
    Pings (hardware.Ethernet own) H frame (packet_v4.header_in packet)
    (u16_at message 4) (u16_at message 6) (drop 8 message)

-- a packet of IPv6 with a message of ICMPv6 of 32 octets, whatever follows it, which no router forwarded (RFC 8200 3)
pub record CarriesNeighborMessage (packet : List ℕ) : Type 0 where
  pub version : slice_index packet 0 / 16 ≡ 6
  pub len : u16_at packet 4 ≡ 32
  pub fits : 72 ≤ length packet
  pub protocol_is : slice_index packet 6 ≡ 58
  pub hop_limit : slice_index packet 7 ≡ 255

-- a solicitation between two addresses with the source's link-layer address as its only option (RFC 4861 4.3, 4.6.1),
-- and a right checksum
pub record IsSolicitation (source destination : Ipv6Address) (message : List ℕ) : Type 0 where
  pub whole : length message ≡ 32
  pub type : slice_index message 0 ≡ 135
  pub code : slice_index message 1 ≡ 0
  pub option : slice_index (drop 24 message) 0 ≡ 1
  pub units : slice_index (drop 24 message) 1 ≡ 1
  pub sum : folded_sum (word_sum (pseudo (Ipv6 source) (Ipv6 destination) 58 32 ++ message)) ≡ 65535

-- the target of it, and the link-layer address of its source
abbrev pub target_in : List ℕ → Ipv6Address
target_in message = address_at message 8

abbrev pub source_hardware : List ℕ → EthernetAddress
source_hardware message = record { 0 = slice_range (drop 24 message) 2 8 }

-- a frame with a solicitation in such a packet, from a neighbour, to an address of the host or to the solicited-node
-- group of one, for an address of the host, is read as that
abbrev pub SolicitationFramesAreRead : Type 0
SolicitationFramesAreRead =
    (own : EthernetAddress) (H : Host) (frame packet message : List ℕ) →
    packet ≡ drop 14 frame → message ≡ slice_range packet 40 72 →
    IsFrameTo own 0x86dd frame → CarriesNeighborMessage packet →
    IsSolicitation (address_at packet 8) (address_at packet 24) message →
    ipv6.is_unicast (address_at packet 8) ≡ true → in_same_network H.ip_addrs (Ipv6 (address_at packet 8)) ≡ true →
    ethernet.is_unicast (source_hardware message) ≡ true →
    (has_solicited_node H.ip_addrs (address_at packet 24)
    || (is_assigned H.ip_addrs (Ipv6 (address_at packet 24)) && not (ipv6.is_loopback (address_at packet 24)))) ≡ true →
    ipv6.is_unicast (target_in message) ≡ true → is_assigned H.ip_addrs (Ipv6 (target_in message)) ≡ true →
    Solicits own H frame (packet_v6.header_in packet) (target_in message) (source_hardware message)
