-- The packets that a host sends are well formed: who verifies every checksum reads in their octets what they carry, and no
-- octet more (RFC 791 3.1, RFC 8200 3, RFC 768, RFC 9293 3.1, RFC 792, RFC 4443 2.1, RFC 2236 2, RFC 3810 5.2).
use Rattle.std.specs.Prelude.{◌≡◌, ℕ, ◌+◌, ◌<◌, ◌^◌, true, List, length}
use Rattle.net_base.specs.Checksum.{is_tx}
use Rattle.net_base.specs.declared.phy.DeviceCapabilities.{DeviceCapabilities}
use Rattle.ip_address.specs.Protocol.{number_of, protocol_of}
use Rattle.ip_wire.specs.declared.ip_packet.IpRepr.{IpRepr}
use Rattle.ip_wire.specs.declared.ip_packet.IpRepr.TheVariants as repr
use Rattle.ip_wire.specs.IpPacket.{src_addr, dst_addr, header_len}
use Rattle.ip_wire.specs.Ipv4Packet.{IsIpv4, ipv4_in, whole}
use Rattle.ip_wire.specs.Tcp.{IsTcp, tcp_in}
use Rattle.ip_wire.specs.Tcp as tcp
use Rattle.ip_wire.specs.Udp.{IsUdp, udp_in}
use Rattle.ip_wire.specs.Udp as udp
use Rattle.ip_wire.specs.HopByHop.{IsHopByHop, hop_by_hop_in}
use Rattle.ip_wire.specs.Ipv6Packet.{IsIpv6, ipv6_in}
use Rattle.control_wire.specs.Icmpv4.{IsIcmpv4, icmpv4_in}
use Rattle.control_wire.specs.Icmpv4 as icmpv4
use Rattle.control_wire.specs.Icmpv6.{IsIcmpv6, icmpv6_in}
use Rattle.control_wire.specs.Icmpv6 as icmpv6
use Rattle.control_wire.specs.declared.icmpv6.Icmpv6Repr.{Icmpv6Repr}
use Rattle.control_wire.specs.declared.icmpv6.Icmpv6Repr.TheVariants as icmp6
use Rattle.control_wire.specs.declared.router.RouterRepr.TheVariants.{RouterSolicit, RouterAdvert}
use Rattle.control_wire.specs.Igmp.{IsIgmp, igmp_in, is_group, group_of}
use Rattle.control_wire.specs.declared.mld.MldRepr.TheVariants.{Query, Report}
use Rattle.host_machine.specs.Packet.Packet.{IpPayload, Icmpv4, Icmpv6, Udp, Tcp, Raw, Igmp, Mld, PacketV4, PacketV6}
use Rattle.host_machine.specs.Packet.Packet.{IsFormed, header_v4, header_v6, payload_len}
use Rattle.host_machine.specs.Packet.Packet as packet
use Rattle.host_machine.specs.Packet.Frame.{mld_options, packet_text, with_limited_window}

-- the host computes every checksum, and leaves none to its device
pub record ComputesAll (c : DeviceCapabilities) : Type 0 where
  pub ipv4 : is_tx c.checksum.ipv4 ≡ true
  pub udp : is_tx c.checksum.udp ≡ true
  pub tcp : is_tx c.checksum.tcp ≡ true
  pub icmpv4 : is_tx c.checksum.icmpv4 ≡ true
  pub icmpv6 : is_tx c.checksum.icmpv6 ≡ true

-- a message of ICMPv6 that hosts send: no query of MLD, and no advertisement of a router
abbrev pub IsOfHost : Icmpv6Repr → Type 0
IsOfHost (icmp6.EchoRequest ident seq_no) = Unit {0}
IsOfHost (icmp6.EchoReply ident seq_no) = Unit {0}
IsOfHost (icmp6.DstUnreachable reason header) = Unit {0}
IsOfHost (icmp6.PktTooBig mtu header) = Unit {0}
IsOfHost (icmp6.TimeExceeded code header) = Unit {0}
IsOfHost (icmp6.ParamProblem reason pointer header) = Unit {0}
IsOfHost (icmp6.Ndisc message) = Unit {0}
IsOfHost (icmp6.Router (RouterSolicit lladdr)) = Unit {0}
IsOfHost (icmp6.Router (RouterAdvert hop_limit flags lifetime lladdr prefix)) = ⊥
IsOfHost (icmp6.Mld (Query code group)) = ⊥
IsOfHost (icmp6.Mld (Report count)) = Unit {0}

-- the values of a payload fit the fields of its form
abbrev pub HasValues : DeviceCapabilities → IpRepr → IpPayload → Type 0
HasValues c r (Icmpv4 message octets) = icmpv4.IsMessage message
HasValues c r (Icmpv6 message octets) = icmpv6.IsMessage message octets × IsOfHost message
HasValues c r (Udp header octets) = udp.IsHeader header × (8 + length octets < 2 ^ 16)
HasValues c r (Tcp header octets) =
    tcp.IsHeader (with_limited_window c (header_len r) header) × (20 + length octets < 2 ^ 16)
HasValues c r (Raw number octets) = protocol_of (number_of number) ≡ number
HasValues c r (Igmp message) = is_group (group_of message) ≡ true
HasValues c r (Mld count records) = count < 2 ^ 16

-- what is read in the octets behind a header is this payload. A report of MLD stands behind the option by which routers
-- look at it (RFC 3810 5)
abbrev pub IsReadAs : DeviceCapabilities → IpRepr → List ℕ → IpPayload → Type 0
IsReadAs c r text (Icmpv4 message octets) = IsIcmpv4 true text × (icmpv4_in text ≡ (message, octets))
IsReadAs c r text (Icmpv6 message octets) =
    IsIcmpv6 true (src_addr r) (dst_addr r) text × (icmpv6_in text ≡ (message, octets))
IsReadAs c r text (Udp header octets) =
    IsUdp true (src_addr r) (dst_addr r) text × (udp_in text ≡ (header, octets))
IsReadAs c r text (Tcp header octets) =
    IsTcp true (src_addr r) (dst_addr r) text × (tcp_in text ≡ (with_limited_window c (header_len r) header, octets))
IsReadAs c r text (Raw number octets) = text ≡ octets
IsReadAs c r text (Igmp message) = IsIgmp text × (igmp_in text ≡ message)
IsReadAs c r text (Mld count records) = IsHopByHop text × ((hop_by_hop_in text).0 ≡ mld_options)
    × IsIcmpv6 true (src_addr r) (dst_addr r) (hop_by_hop_in text).1
    × (icmpv6_in (hop_by_hop_in text).1 ≡ (icmp6.Mld (Report count), records))

-- a packet's octets are read as its header, whole, and its payload
pub record IsReadV4 (c : DeviceCapabilities) (p : PacketV4) : Type 0 where
  pub payload : List ℕ
  pub is_packet : IsIpv4 true (packet_text c (packet.Ipv4 p))
  pub values : ipv4_in (packet_text c (packet.Ipv4 p)) ≡ (header_v4 p, whole, payload)
  pub len : length payload ≡ payload_len p.payload
  pub reads : IsReadAs c (repr.Ipv4 (header_v4 p)) payload p.payload

pub record IsReadV6 (c : DeviceCapabilities) (p : PacketV6) : Type 0 where
  pub payload : List ℕ
  pub is_packet : IsIpv6 (packet_text c (packet.Ipv6 p))
  pub values : ipv6_in (packet_text c (packet.Ipv6 p)) ≡ (header_v6 p, payload)
  pub len : length payload ≡ payload_len p.payload
  pub reads : IsReadAs c (repr.Ipv6 (header_v6 p)) payload p.payload

abbrev pub PacketsAreWellFormed : Type 0
PacketsAreWellFormed = (c : DeviceCapabilities) → ComputesAll c →
    ((p : PacketV4) → IsFormed (packet.Ipv4 p) → HasValues c (repr.Ipv4 (header_v4 p)) p.payload → IsReadV4 c p)
    × ((p : PacketV6) → IsFormed (packet.Ipv6 p) → HasValues c (repr.Ipv6 (header_v6 p)) p.payload → IsReadV6 c p)
