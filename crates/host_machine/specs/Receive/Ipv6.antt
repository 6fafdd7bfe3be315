-- IPv6, reception of packets (RFC 8200 3, 4): which packets are accepted, what their options ask for, and by which
-- protocol they are processed.
use Rattle.std.specs.Prelude.{◌≡◌, ◌≢◌, ℕ, Bool, true, false, List, [], Option, Some, None, if◌then◌else◌}
use Rattle.ip_address.specs.declared.hardware.HardwareAddress.{HardwareAddress}
use Rattle.ip_address.specs.declared.ip.IpAddress.TheVariants as address
use Rattle.ip_address.specs.declared.cidr.IpCidr.{IpCidr}
use Rattle.ip_address.specs.declared.protocol.IpProtocol.{IpProtocol}
use Rattle.ip_address.specs.declared.protocol.IpProtocol.TheVariants as protocol
use Rattle.ip_address.specs.Protocol.{number_of}
use Rattle.ip_address.specs.Ipv6.{is_unicast}
use Rattle.ip_wire.specs.declared.ipv6_packet.Ipv6Repr.{Ipv6Repr}
use Rattle.ip_wire.specs.Ipv6Packet.{IsIpv6, ipv6_in}
use Rattle.ip_wire.specs.HopByHop.{IsHopByHop, hop_by_hop_in, first_failure}
use Rattle.ip_wire.specs.declared.hop_by_hop.Ipv6OptionFailureType.{Ipv6OptionFailureType}
use Rattle.ip_wire.specs.declared.hop_by_hop.Ipv6OptionFailureType.TheVariants.{Skip}
use Rattle.control_wire.specs.declared.icmpv6.Icmpv6ParamProblem.TheVariants.{UnrecognizedNxtHdr}
use Rattle.ip_wire.specs.declared.ip_packet.IpRepr.TheVariants as repr
use Rattle.host_machine.specs.Context.Note.{Note}
use Rattle.host_machine.specs.Context.Host.{Host}
use Rattle.host_machine.specs.Context.Addresses.{is_for_host}
use Rattle.host_machine.specs.Receive.Reply.{Reply, IsDropped}
use Rattle.host_machine.specs.Icmp.Icmpv6.{ProcessesIcmpv6, problem}
use Rattle.host_machine.specs.Sockets.Udp.{ProcessesUdp}
use Rattle.host_machine.specs.Sockets.Tcp.{ProcessesTcp}
use Rattle.host_machine.specs.Sockets.Raw.{host_after_raw_delivery, is_taken}
use Rattle.host_machine.specs.Discovery.Renewal.{sender_renewed}
use Rattle.host_machine.specs.Icmp.HopByHop.{unknown_option}

-- the answer to a packet of an unknown protocol: a parameter problem, unless a raw socket accepted the
-- packet (RFC 4443 3.4)
abbrev pub unrecognized_next_header : Bool → List IpCidr → Ipv6Repr → List ℕ → Option Reply
unrecognized_next_header handled_by_raw_socket own r payload =
    if handled_by_raw_socket then None else Some (problem own UnrecognizedNxtHdr r payload)

-- a payload of an unknown protocol
pub record IsRefused (handled_by_raw_socket : Bool) (r : Ipv6Repr) (H : Host) (octets : List ℕ) (reply : Option Reply)
    (notes : List Note) (new : Host) : Type 0 where
  pub replied : reply ≡ unrecognized_next_header handled_by_raw_socket H.ip_addrs r octets
  pub unnoted : notes ≡ []
  pub unchanged : new ≡ H

-- by the protocol of the payload, from the header or the options, and whether a raw socket accepted the packet; options
-- that don't come first, and protocols of IPv4 alone, count as unknown
abbrev pub ProcessesProtocol : IpProtocol → Bool → Ipv6Repr → Host → List ℕ → Option Reply → List Note → Host → Type 0
ProcessesProtocol protocol.Icmpv6 handled_by_raw_socket r H octets reply notes new =
    ProcessesIcmpv6 r H octets reply notes new
ProcessesProtocol protocol.Udp handled_by_raw_socket r H octets reply notes new =
    ProcessesUdp handled_by_raw_socket (repr.Ipv6 r) H octets reply notes new
ProcessesProtocol protocol.Tcp handled_by_raw_socket r H octets reply notes new =
    ProcessesTcp handled_by_raw_socket (repr.Ipv6 r) H octets reply notes new
ProcessesProtocol protocol.Icmp handled_by_raw_socket r H octets reply notes new =
    IsRefused handled_by_raw_socket r H octets reply notes new
ProcessesProtocol protocol.Igmp handled_by_raw_socket r H octets reply notes new =
    IsRefused handled_by_raw_socket r H octets reply notes new
ProcessesProtocol protocol.HopByHop handled_by_raw_socket r H octets reply notes new =
    IsRefused handled_by_raw_socket r H octets reply notes new
ProcessesProtocol (protocol.Unknown number) handled_by_raw_socket r H octets reply notes new =
    IsRefused handled_by_raw_socket r H octets reply notes new

-- a packet by its header, by the protocol of its payload, and by its payload: raw sockets get those for the host
pub data ProcessesDatagramV6 (source : HardwareAddress) (r : Ipv6Repr) (p : IpProtocol) (H : Host)
    (payload : List ℕ) (reply : Option Reply)
    (notes : List Note) (new : Host) : Type 0 where
  NotForUs : is_for_host H (address.Ipv6 r.dst_addr) ≡ false → IsDropped H reply notes new →
      ProcessesDatagramV6 source r p H payload reply notes new
  Accepted : is_for_host H (address.Ipv6 r.dst_addr) ≡ true →
      ProcessesProtocol p (is_taken (repr.Ipv6 r) H) r
      (sender_renewed source (repr.Ipv6 r) (host_after_raw_delivery (repr.Ipv6 r) payload H)) payload
      reply notes new → ProcessesDatagramV6 source r p H payload reply notes new

-- a payload with hop-by-hop options: the first one that is unrecognized and not to be skipped ends it, before the
-- destination is tested
pub data ProcessesHopByHop (source : HardwareAddress) (r : Ipv6Repr) (H : Host) (payload : List ℕ)
    (reply : Option Reply) (notes : List Note)
    (new : Host) : Type 0 where
  MalformedOptions : (IsHopByHop payload → ⊥) → IsDropped H reply notes new →
      ProcessesHopByHop source r H payload reply notes new
  Skipped : IsHopByHop payload → first_failure (hop_by_hop_in payload).0.options.items ≡ Skip →
      ProcessesDatagramV6 source r (hop_by_hop_in payload).0.next_header H (hop_by_hop_in payload).1 reply notes new →
      ProcessesHopByHop source r H payload reply notes new
  Discarded : (failure : Ipv6OptionFailureType) →
      IsHopByHop payload → first_failure (hop_by_hop_in payload).0.options.items ≡ failure →
      failure ≢ Skip → reply ≡ unknown_option failure H.ip_addrs r payload → notes ≡ [] → new ≡ H →
      ProcessesHopByHop source r H payload reply notes new

-- a packet by its header and its payload: its source must be unicast
pub data ProcessesPacket (source : HardwareAddress) (r : Ipv6Repr) (H : Host) (payload : List ℕ)
    (reply : Option Reply) (notes : List Note)
    (new : Host) : Type 0 where
  FromNoHost : is_unicast r.src_addr ≡ false → IsDropped H reply notes new →
      ProcessesPacket source r H payload reply notes new
  WithOptions : is_unicast r.src_addr ≡ true → number_of r.next_header ≡ 0 →
      ProcessesHopByHop source r H payload reply notes new →
      ProcessesPacket source r H payload reply notes new
  Bare : is_unicast r.src_addr ≡ true → number_of r.next_header ≢ 0 →
      ProcessesDatagramV6 source r r.next_header H payload reply notes new →
      ProcessesPacket source r H payload reply notes new

-- how the octets after a frame's header are processed, received from this hardware address
pub data ProcessesIpv6 (source : HardwareAddress) (H : Host) (octets : List ℕ) (reply : Option Reply)
    (notes : List Note) (new : Host) : Type 0 where
  Malformed : (IsIpv6 octets → ⊥) → IsDropped H reply notes new → ProcessesIpv6 source H octets reply notes new
  Read : IsIpv6 octets → ProcessesPacket source (ipv6_in octets).0 H (ipv6_in octets).1 reply notes new →
      ProcessesIpv6 source H octets reply notes new
