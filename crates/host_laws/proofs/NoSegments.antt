-- Messages to routers, and what ICMP sockets offer, are no segments.
use Rattle.std.proofs.Common.{◌≡◌, ℕ, Bool, true, false, List, refl, Option, Some, None, option_map, option_and_then, if◌then◌else◌}
use Rattle.ip_address.specs.declared.cidr.IpCidr.{IpCidr}
use Rattle.ip_address.specs.declared.ethernet_address.EthernetAddress.{EthernetAddress}
use Rattle.ip_address.specs.declared.hardware.HardwareAddress.{HardwareAddress}
use Rattle.ip_address.specs.declared.hardware.HardwareAddress.TheVariants as hardware
use Rattle.ip_address.specs.declared.ip.IpAddress.{IpAddress}
use Rattle.ip_address.specs.declared.ip.IpAddress.TheVariants as address
use Rattle.ip_address.specs.declared.ipv4.Ipv4Address.{Ipv4Address}
use Rattle.ip_address.specs.declared.ipv6.Ipv6Address.{Ipv6Address}
use Rattle.control_wire.specs.declared.icmp.IcmpRepr.{IcmpRepr}
use Rattle.control_wire.specs.declared.icmp.IcmpRepr.TheVariants as icmp
use Rattle.control_wire.specs.declared.icmpv4.Icmpv4Repr.TheVariants as v4
use Rattle.control_wire.specs.declared.icmpv6.Icmpv6Repr.TheVariants as v6
use Rattle.control_wire.specs.declared.igmp.IgmpRepr.{IgmpRepr}
use Rattle.control_wire.specs.declared.igmp.IgmpVersion.{IgmpVersion}
use Rattle.sockets.specs.Icmp as icmp_socket
use Rattle.sockets.specs.Kinds.{IcmpOffer}
use Rattle.iface_tables.specs.Slaac.{rs_required}
use Rattle.host_machine.specs.Context.Addresses.{ipv4_addr, link_local_addr}
use Rattle.host_machine.specs.Context.Host.{Host}
use Rattle.host_machine.specs.Packet.Packet.{Packet, IpPayload, payload_of}
use Rattle.host_machine.specs.Packet.Packet as packet
use Rattle.host_machine.specs.Multicast.Igmp as multicast
use Rattle.host_machine.specs.Multicast.Igmp.{igmp_packet, next_group, next_report}
use Rattle.host_machine.specs.Multicast.Joins.{join_packet, leave_packet}
use Rattle.host_machine.specs.Discovery.RouterSolicitation.{due_solicitation, router_solicitation, solicitation_by, solicitation_from}
use Rattle.host_machine.specs.Sockets.Icmp.{echo_payload}
use Rattle.host_machine.specs.Sockets.Offers.{packet_between, packet_of}
use Rattle.host_laws.proofs.Interface.Turns.{between_is}
use Rattle.host_laws.proofs.RawReplies.{is_segment}

-- what ICMP sockets offer
echo_is : (m : IcmpRepr) (octets : List ℕ) (payload : IpPayload) → echo_payload m octets ≡ Some payload → is_segment payload ≡ false
echo_is (icmp.Ipv4 (v4.EchoRequest ident seq_no)) octets payload e = let same : packet.Icmpv4 (v4.EchoRequest ident seq_no) octets ≡ payload = cc in
    rw (← same) refl
echo_is (icmp.Ipv4 (v4.EchoReply ident seq_no)) octets payload e = let same : packet.Icmpv4 (v4.EchoReply ident seq_no) octets ≡ payload = cc in
    rw (← same) refl
echo_is (icmp.Ipv4 (v4.DstUnreachable reason header)) octets payload e = absurd cc
echo_is (icmp.Ipv4 (v4.TimeExceeded code header)) octets payload e = absurd cc
echo_is (icmp.Ipv6 (v6.EchoRequest ident seq_no)) octets payload e = let same : packet.Icmpv6 (v6.EchoRequest ident seq_no) octets ≡ payload = cc in
    rw (← same) refl
echo_is (icmp.Ipv6 (v6.EchoReply ident seq_no)) octets payload e = let same : packet.Icmpv6 (v6.EchoReply ident seq_no) octets ≡ payload = cc in
    rw (← same) refl
echo_is (icmp.Ipv6 (v6.DstUnreachable reason header)) octets payload e = absurd cc
echo_is (icmp.Ipv6 (v6.PktTooBig mtu header)) octets payload e = absurd cc
echo_is (icmp.Ipv6 (v6.TimeExceeded code header)) octets payload e = absurd cc
echo_is (icmp.Ipv6 (v6.ParamProblem reason pointer header)) octets payload e = absurd cc
echo_is (icmp.Ipv6 (v6.Ndisc message)) octets payload e = absurd cc
echo_is (icmp.Ipv6 (v6.Router message)) octets payload e = absurd cc
echo_is (icmp.Ipv6 (v6.Mld message)) octets payload e = absurd cc

echo_between : (m : icmp_socket.Sent) (o : Option IpPayload) (p : Packet) → ((payload : IpPayload) → o ≡ Some payload → is_segment payload ≡ false) →
    option_and_then (packet_between m.src_addr m.dst_addr m.hop_limit) o ≡ Some p → is_segment (payload_of p) ≡ false
echo_between m None p all e = absurd cc
echo_between m (Some payload) p all e = rw (between_is m.src_addr m.dst_addr m.hop_limit payload p e) (all payload refl)

pub echo_no_segment : (o : Option icmp_socket.Sent) (p : Packet) →
    option_and_then packet_of (option_map IcmpOffer o) ≡ Some p → is_segment (payload_of p) ≡ false
echo_no_segment None p e = absurd cc
echo_no_segment (Some m) p e = echo_between m (echo_payload m.repr m.payload) p (λ payload is. echo_is m.repr m.payload payload is) e

-- messages to routers
igmp_is : (own : List IpCidr) (dst : Ipv4Address) (m : IgmpRepr) (p : Packet) → igmp_packet own dst m ≡ Some p → is_segment (payload_of p) ≡ false
igmp_is own dst m p e = by (ipv4_addr own) e where
  by : (o : Option Ipv4Address) →
      option_map (λ src. packet.Ipv4 (record { src_addr = src; dst_addr = dst; hop_limit = 1; payload = packet.Igmp m })) o ≡ Some p →
      is_segment (payload_of p) ≡ false
  by None q = absurd cc
  by (Some src) q = let same : packet.Ipv4 (record { src_addr = src; dst_addr = dst; hop_limit = 1; payload = packet.Igmp m }) ≡ p = cc in
      rw (← same) refl

some_is : (p q : Packet) → is_segment (payload_of p) ≡ false → Some p ≡ Some q → is_segment (payload_of q) ≡ false
some_is p q none e = let same : p ≡ q = cc in rw (← same) none

pub join_no_segment : (own : List IpCidr) (a : IpAddress) (p : Packet) → join_packet own a ≡ Some p → is_segment (payload_of p) ≡ false
join_no_segment own (address.Ipv4 a) p e = igmp_is own a _ p e
join_no_segment own (address.Ipv6 a) p e = some_is _ p refl e

pub leave_no_segment : (own : List IpCidr) (a : IpAddress) (p : Packet) → leave_packet own a ≡ Some p → is_segment (payload_of p) ≡ false
leave_no_segment own (address.Ipv4 a) p e = igmp_is own multicast.all_routers _ p e
leave_no_segment own (address.Ipv6 a) p e = some_is _ p refl e

pub report_no_segment : (H : Host) (p : Packet) → next_report H ≡ Some p → is_segment (payload_of p) ≡ false
report_no_segment H p e = by (next_group H H.igmp_report) e where
  by : (o : Option (IgmpVersion × Ipv4Address)) →
      option_and_then (λ n. multicast.igmp_report H.ip_addrs n.0 n.1) o ≡ Some p → is_segment (payload_of p) ≡ false
  by None q = absurd cc
  by (Some n) q = igmp_is H.ip_addrs n.1 _ p q

pub solicitation_no_segment : (H : Host) (p : Packet) → due_solicitation H ≡ Some p → is_segment (payload_of p) ≡ false
solicitation_no_segment H p e = due (rs_required H.slaac H.moment) e where
  from : (own : EthernetAddress) (o : Option Ipv6Address) →
      option_and_then (λ source. Some (solicitation_from own source)) o ≡ Some p → is_segment (payload_of p) ≡ false
  from own None q = absurd cc
  from own (Some source) q = some_is (solicitation_from own source) p refl q

  on_medium : (h : HardwareAddress) → solicitation_by h H.ip_addrs ≡ Some p → is_segment (payload_of p) ≡ false
  on_medium (hardware.Ethernet own) q = from own (link_local_addr H.ip_addrs) q
  on_medium hardware.Ip q = absurd cc

  enabled : (b : Bool) → (if b then solicitation_by H.hardware_addr H.ip_addrs else None) ≡ Some p → is_segment (payload_of p) ≡ false
  enabled true q = on_medium H.hardware_addr q
  enabled false q = absurd cc

  due : (b : Bool) → (if b then router_solicitation H else None) ≡ Some p → is_segment (payload_of p) ≡ false
  due true q = enabled H.slaac_enabled q
  due false q = absurd cc
