-- The words by which the laws are said, by lists, numbers and forms: an address of the list is assigned, an address of one
-- host is unicast, the solicited-node group of an own address is the host's, and a right datagram, segment or message is
-- one (RFC 1122 3.2.1.3, RFC 4291 2.7.1, RFC 768, RFC 9293 3.1, RFC 4443 2.3). And a UDP socket that accepts a datagram is
-- at its port, and has no address, the datagram's destination, or any if that is an address of many hosts.
use Rattle.std.specs.Prelude.{◌≡◌, ◌≢◌, ◌⊎◌, ℕ, ◌+◌, ◌%◌, ◌^◌, true, List, slice_get, Some, None}
use Rattle.net_base.specs.Checksum.{is_rx}
use Rattle.ip_address.specs.declared.cidr.IpCidr.{IpCidr}
use Rattle.ip_address.specs.declared.cidr.IpCidr.TheVariants as cidr
use Rattle.ip_address.specs.declared.cidr.Ipv6Cidr.{Ipv6Cidr}
use Rattle.ip_address.specs.declared.ip.IpAddress.{IpAddress}
use Rattle.ip_address.specs.declared.ip.IpAddress.TheVariants.{Ipv6}
use Rattle.ip_address.specs.declared.ipv4.Ipv4Address.{Ipv4Address}
use Rattle.ip_wire.specs.declared.ip_packet.IpRepr.{IpRepr}
use Rattle.ip_wire.specs.IpPacket.{src_addr, dst_addr}
use Rattle.ip_wire.specs.Udp.{IsUdp}
use Rattle.ip_wire.specs.Tcp.{IsTcp}
use Rattle.ip_wire.specs.declared.ipv6_packet.Ipv6Repr.{Ipv6Repr}
use Rattle.control_wire.specs.Icmpv6.{IsIcmpv6}
use Rattle.host_machine.specs.Context.Host.{Host, in_same_network, is_assigned}
use Rattle.sockets.specs.Udp.{UdpSocket, accepts}
use Rattle.host_machine.specs.Context.Addresses.{has_solicited_node, is_broadcast, is_unicast_v4}
use Rattle.host_machine.specs.Sockets.Udp.{IsDatagram}
use Rattle.host_machine.specs.Sockets.Tcp.{IsSegment}
use Rattle.host_machine.specs.Icmp.Icmpv6.{IsMessage}
use Rattle.host_laws.specs.Laws.Restraint.Neighbors.{IsAssigned, IsNear}
use Rattle.host_laws.specs.Laws.Restraint.NextHop.{IsGroup, IsToAll}
use Rattle.host_laws.specs.Laws.Restraint.Replies.{IsOneHostV4}

pub record WordsAreLists : Type 0 where
  pub assigned : (own : List IpCidr) (a : IpAddress) → IsAssigned own a → is_assigned own a ≡ true
  pub near : (own : List IpCidr) (a : IpAddress) → IsNear own a → in_same_network own a ≡ true
  pub one_host : (own : List IpCidr) (a : Ipv4Address) → IsOneHostV4 own a.bits → is_unicast_v4 own a ≡ true
  pub solicited : (own : List IpCidr) (i : ℕ) (n : Ipv6Cidr) → slice_get own i ≡ Some (cidr.Ipv6 n) →
      n.address.bits ≢ 1 → has_solicited_node own
      (record { bits = 0xff02_0000_0000_0000_0000_0001_ff00_0000 + n.address.bits % 2 ^ 24 }) ≡ true
  pub datagrams : (H : Host) (r : IpRepr) (octets : List ℕ) →
      IsUdp (is_rx H.capabilities.checksum.udp) (src_addr r) (dst_addr r) octets → IsDatagram H r octets
  pub sockets : (own : List IpCidr) (s : UdpSocket) (a : IpAddress) (port : ℕ) →
      accepts (is_broadcast own) s a port ≡ true → (s.endpoint.port ≡ port)
      × ((s.endpoint.addr ≡ None) ⊎ (s.endpoint.addr ≡ Some a) ⊎ IsToAll own a ⊎ IsGroup a)
  pub segments : (H : Host) (r : IpRepr) (octets : List ℕ) →
      IsTcp (is_rx H.capabilities.checksum.tcp) (src_addr r) (dst_addr r) octets → IsSegment H r octets
  pub messages : (H : Host) (r : Ipv6Repr) (octets : List ℕ) →
      IsIcmpv6 (is_rx H.capabilities.checksum.icmpv6) (Ipv6 r.src_addr) (Ipv6 r.dst_addr) octets → IsMessage H r octets
