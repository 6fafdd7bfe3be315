-- A wrong checksum changes nothing: of the header of IPv4 (RFC 791 3.1, RFC 1122 3.2.1.2), ICMP (RFC 792), ICMPv6 (RFC
-- 4443 2.3), UDP (RFC 768, RFC 1122 4.1.3.4, RFC 8200 8.1) and TCP (RFC 9293 3.1), where the host verifies it.
use Rattle.std.specs.Prelude.{◌≡◌, ◌≢◌, ℕ, ℤ, true, false, List, [], ◌++◌, length, take}
use Rattle.ip_wire.specs.Checksum.{folded_sum, word_sum}
use Rattle.ip_wire.specs.Octets.{u16_at}
use Rattle.ip_wire.specs.Pseudo.{pseudo}
use Rattle.net_base.specs.Checksum.{is_rx}
use Rattle.net_base.specs.Device.{Event, sent_frames}
use Rattle.net_base.specs.declared.phy.ChecksumCapabilities.{ChecksumCapabilities}
use Rattle.ip_address.specs.declared.ip.IpAddress.{IpAddress}
use Rattle.ip_address.specs.declared.protocol.IpProtocol.{IpProtocol}
use Rattle.ip_address.specs.declared.protocol.IpProtocol.TheVariants as protocol
use Rattle.ip_wire.specs.Ipv4Packet.{header_len, ipv4_in, is_fragment}
use Rattle.ip_wire.specs.Udp.{udp_len}
use Rattle.ip_wire.specs.Ipv6Packet.{ipv6_in}
use Rattle.ip_wire.specs.HopByHop.{hop_by_hop_in, first_failure}
use Rattle.ip_wire.specs.declared.hop_by_hop.Ipv6OptionFailureType.TheVariants.{Skip}
use Rattle.iface_tables.specs.Neighbor.{Neighbors}
use Rattle.host_machine.specs.Context.Note.{Note}
use Rattle.host_machine.specs.Context.Host.{Host, Storage, with_neighbors, with_places, without_expired}
use Rattle.host_laws.specs.Laws.Restraint.Readings.{AreSameButRaw, CarriesV4, CarriesV6, IsRenewed, Receives}
use Rattle.host_laws.specs.Laws.Restraint.Readings.{receiver_v4, receiver_v6, sender_v4, sender_v6}
use Rattle.host_laws.specs.Laws.Restraint.Foreign.{HasNoEffect}

-- the ones' complement sum of the 16-bit words of some octets, which is all ones if their checksum is right (RFC 1071)
abbrev pub sum_of : List ℕ → ℕ
sum_of octets = folded_sum (word_sum octets)

-- a packet whose header has a wrong checksum
abbrev pub DropsWrongHeaders : ℤ → List ℕ → Host → List Event → List Note → Host → Type 0
DropsWrongHeaders t frame old told notes new = (packet : List ℕ) → CarriesV4 old.hardware_addr frame packet →
    is_rx old.capabilities.checksum.ipv4 ≡ true → sum_of (take (header_len packet) packet) ≢ 65535 →
    HasNoEffect t old told notes new

abbrev pub WrongHeadersAreDropped : Type 0
WrongHeadersAreDropped =
    (t : ℤ) (frame : List ℕ) (old new : Host) (told : List Event) (notes : List Note) →
    Receives t frame old told notes new → DropsWrongHeaders t frame old told notes new

-- the checksum of a message, a datagram or a segment over IPv4 is verified and wrong. That of UDP may be 0, for none
pub data HasWrongSumV4 (c : ChecksumCapabilities) (src dst : IpAddress) (octets : List ℕ) : IpProtocol → Type 0 where
  OfIcmp : is_rx c.icmpv4 ≡ true → sum_of octets ≢ 65535 → HasWrongSumV4 c src dst octets protocol.Icmp
  OfUdp : is_rx c.udp ≡ true → u16_at octets 6 ≢ 0 →
      sum_of (pseudo src dst 17 (udp_len octets) ++ take (udp_len octets) octets) ≢ 65535 →
      HasWrongSumV4 c src dst octets protocol.Udp
  OfTcp : is_rx c.tcp ≡ true → sum_of (pseudo src dst 6 (length octets) ++ octets) ≢ 65535 →
      HasWrongSumV4 c src dst octets protocol.Tcp

-- over IPv6, where each datagram has one
pub data HasWrongSumV6 (c : ChecksumCapabilities) (src dst : IpAddress) (octets : List ℕ) : IpProtocol → Type 0 where
  OfIcmpv6 : is_rx c.icmpv6 ≡ true → sum_of (pseudo src dst 58 (length octets) ++ octets) ≢ 65535 →
      HasWrongSumV6 c src dst octets protocol.Icmpv6
  OfUdp : is_rx c.udp ≡ true → sum_of (pseudo src dst 17 (udp_len octets) ++ take (udp_len octets) octets) ≢ 65535 →
      HasWrongSumV6 c src dst octets protocol.Udp
  OfTcp : is_rx c.tcp ≡ true → sum_of (pseudo src dst 6 (length octets) ++ octets) ≢ 65535 →
      HasWrongSumV6 c src dst octets protocol.Tcp

-- a whole IPv4 packet with such a payload
pub record HasWrongPayloadV4 (H : Host) (packet : List ℕ) : Type 0 where
  pub whole : is_fragment (ipv4_in packet).1 ≡ false
  pub wrong : HasWrongSumV4 H.capabilities.checksum
      (sender_v4 packet) (receiver_v4 packet) (ipv4_in packet).2 (ipv4_in packet).0.next_header

-- an IPv6 packet with such a payload, after its header, or after options of which each is known or to be skipped
pub data HasWrongPayloadV6 (H : Host) (packet : List ℕ) : Type 0 where
  AfterHeader :
      HasWrongSumV6 H.capabilities.checksum (sender_v6 packet) (receiver_v6 packet)
      (ipv6_in packet).1 (ipv6_in packet).0.next_header →
      HasWrongPayloadV6 H packet
  AfterOptions : (ipv6_in packet).0.next_header ≡ protocol.HopByHop →
      first_failure (hop_by_hop_in (ipv6_in packet).1).0.options.items ≡ Skip →
      HasWrongSumV6 H.capabilities.checksum (sender_v6 packet) (receiver_v6 packet)
      (hop_by_hop_in (ipv6_in packet).1).1 (hop_by_hop_in (ipv6_in packet).1).0.next_header →
      HasWrongPayloadV6 H packet

-- nothing is sent or noted; of the host nothing is other than after the same call without a frame, but what raw sockets
-- received, and how long the sender stays known
pub record ReachesRawOnly (t : ℤ) (sender : IpAddress) (old : Host) (told : List Event)
    (notes : List Note) (new : Host) : Type 0 where
  pub silent : sent_frames told ≡ []
  pub unnoted : notes ≡ []
  pub neighbors : Neighbors
  pub places : List Storage
  pub renewed : IsRenewed sender t old.neighbors neighbors
  pub raw_only : AreSameButRaw old.sockets.places places
  pub others : new ≡ with_places (with_neighbors (without_expired old t) neighbors) places

abbrev pub DropsWrongPayloads : ℤ → List ℕ → Host → List Event → List Note → Host → Type 0
DropsWrongPayloads t frame old told notes new = (packet : List ℕ) → CarriesV4 old.hardware_addr frame packet →
    HasWrongPayloadV4 old packet → ReachesRawOnly t (sender_v4 packet) old told notes new

abbrev pub WrongPayloadsAreDropped : Type 0
WrongPayloadsAreDropped =
    (t : ℤ) (frame : List ℕ) (old new : Host) (told : List Event) (notes : List Note) →
    Receives t frame old told notes new → DropsWrongPayloads t frame old told notes new

abbrev pub DropsWrongPayloadsV6 : ℤ → List ℕ → Host → List Event → List Note → Host → Type 0
DropsWrongPayloadsV6 t frame old told notes new = (packet : List ℕ) → CarriesV6 old.hardware_addr frame packet →
    HasWrongPayloadV6 old packet → ReachesRawOnly t (sender_v6 packet) old told notes new

abbrev pub WrongPayloadsV6AreDropped : Type 0
WrongPayloadsV6AreDropped =
    (t : ℤ) (frame : List ℕ) (old new : Host) (told : List Event) (notes : List Note) →
    Receives t frame old told notes new → DropsWrongPayloadsV6 t frame old told notes new
