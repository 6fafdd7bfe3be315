-- IPv4, reception of packets (RFC 791 3.2, RFC 1122 3.2.1): which packets are accepted, and by which
-- protocol they are processed.
use Rattle.std.specs.Prelude.{◌≡◌, ℕ, ◌*◌, Bool, true, false, not, List, [], ◌++◌, length, Option, Some, None}
use Rattle.net_base.specs.Checksum.{is_rx}
use Rattle.ip_address.specs.declared.hardware.HardwareAddress.{HardwareAddress}
use Rattle.ip_address.specs.declared.ip.IpAddress.TheVariants.{Ipv4}
use Rattle.ip_wire.specs.declared.ipv4_packet.Ipv4Repr.{Ipv4Repr}
use Rattle.ip_wire.specs.declared.ipv4_packet.Ipv4Fragment.{Ipv4Fragment}
use Rattle.ip_wire.specs.declared.ip_packet.IpRepr.TheVariants as repr
use Rattle.ip_address.specs.declared.protocol.IpProtocol.{IpProtocol}
use Rattle.ip_address.specs.declared.protocol.IpProtocol.TheVariants as protocol
use Rattle.ip_wire.specs.Ipv4Packet.{IsIpv4, ipv4_in, is_fragment}
use Rattle.fragmentation.specs.declared.key.FragKey.{FragKey}
use Rattle.fragmentation.specs.Keys.{key_of}
use Rattle.fragmentation.specs.Fragments.{Fragment}
use Rattle.host_machine.specs.Context.Note.{Note}
use Rattle.host_machine.specs.Receive.Reassembly.{TakesFragment}
use Rattle.host_machine.specs.Context.Host.{Host}
use Rattle.host_machine.specs.Context.Addresses.{is_for_host, may_be_source}
use Rattle.host_machine.specs.Receive.Reply.{Reply, IsDropped}
use Rattle.control_wire.specs.declared.icmpv4.Icmpv4DstUnreachable.TheVariants.{ProtoUnreachable}
use Rattle.host_machine.specs.Sockets.Raw.{host_after_raw_delivery, is_taken}
use Rattle.host_machine.specs.Discovery.Renewal.{sender_renewed}
use Rattle.host_machine.specs.Icmp.Icmpv4.{ProcessesIcmpv4, unreachable}
use Rattle.host_machine.specs.Multicast.Igmp.{ProcessesIgmp}
use Rattle.host_machine.specs.Sockets.Udp.{ProcessesUdp}
use Rattle.host_machine.specs.Sockets.Tcp.{ProcessesTcp}

-- a payload of an unknown protocol
pub record IsRefused (handled_by_raw_socket : Bool) (r : Ipv4Repr) (H : Host) (octets : List ℕ) (reply : Option Reply)
    (notes : List Note) (new : Host) : Type 0 where
  pub replied : reply ≡ unreachable handled_by_raw_socket H.ip_addrs ProtoUnreachable r octets
  pub unnoted : notes ≡ []
  pub unchanged : new ≡ H

-- by the protocol of the payload, and whether a raw socket accepted the packet. For an unknown
-- protocol an error is sent
abbrev pub ProcessesProtocol : IpProtocol → Bool → Ipv4Repr → Host → List ℕ → Option Reply → List Note → Host → Type 0
ProcessesProtocol protocol.Icmp handled_by_raw_socket r H octets reply notes new =
    ProcessesIcmpv4 r H octets reply notes new
ProcessesProtocol protocol.Udp handled_by_raw_socket r H octets reply notes new =
    ProcessesUdp handled_by_raw_socket (repr.Ipv4 r) H octets reply notes new
ProcessesProtocol protocol.Tcp handled_by_raw_socket r H octets reply notes new =
    ProcessesTcp handled_by_raw_socket (repr.Ipv4 r) H octets reply notes new
ProcessesProtocol protocol.Igmp handled_by_raw_socket r H octets reply notes new =
    ProcessesIgmp r H octets reply notes new
ProcessesProtocol protocol.HopByHop handled_by_raw_socket r H octets reply notes new =
    IsRefused handled_by_raw_socket r H octets reply notes new
ProcessesProtocol protocol.Icmpv6 handled_by_raw_socket r H octets reply notes new =
    IsRefused handled_by_raw_socket r H octets reply notes new
ProcessesProtocol (protocol.Unknown number) handled_by_raw_socket r H octets reply notes new =
    IsRefused handled_by_raw_socket r H octets reply notes new

-- a packet that was received whole or reassembled, by its header and its payload; raw sockets get it
-- whatever its destination
pub data ProcessesDatagram (source : HardwareAddress) (r : Ipv4Repr) (H : Host)
    (payload : List ℕ) (reply : Option Reply)
    (notes : List Note) (new : Host) : Type 0 where
  NotForUs : is_for_host H (Ipv4 r.dst_addr) ≡ false →
      IsDropped (host_after_raw_delivery (repr.Ipv4 r) payload H) reply notes new →
      ProcessesDatagram source r H payload reply notes new
  Accepted : is_for_host H (Ipv4 r.dst_addr) ≡ true →
      ProcessesProtocol r.next_header (is_taken (repr.Ipv4 r) H) r
      (sender_renewed source (repr.Ipv4 r) (host_after_raw_delivery (repr.Ipv4 r) payload H)) payload reply notes new →
      ProcessesDatagram source r H payload reply notes new

-- the key of a packet's datagram, and the packet's fragment, whose offset is in units of eight octets (RFC 791 3.2)
abbrev pub key_in : Ipv4Repr → Ipv4Fragment → FragKey
key_in r f = key_of r f.identification

abbrev pub fragment_in : Ipv4Fragment → List ℕ → Fragment
fragment_in f payload = record { offset = f.offset * 8; octets = payload; is_last = not f.more_fragments }

-- the header of a reassembled datagram: that of the fragment which completed it, with the length of the whole payload
abbrev pub datagram_header : Ipv4Repr → List ℕ → Ipv4Repr
datagram_header r octets = record r { payload_len = length octets }

-- a packet, by its header, its fragmentation fields and its payload: a fragment is added to those received before, and
-- the datagram is processed once it is reassembled
pub data ProcessesPacket (source : HardwareAddress) (r : Ipv4Repr) (f : Ipv4Fragment) (H : Host)
    (payload : List ℕ) (reply : Option Reply)
    (notes : List Note) (new : Host) : Type 0 where
  FromNoHost : may_be_source H.ip_addrs r.src_addr ≡ false → IsDropped H reply notes new →
      ProcessesPacket source r f H payload reply notes new
  Part : may_be_source H.ip_addrs r.src_addr ≡ true → is_fragment f ≡ true →
      TakesFragment (key_in r f) (fragment_in f payload) None H notes new →
      reply ≡ None → ProcessesPacket source r f H payload reply notes new
  Completed : (octets : List ℕ) (mid : Host) (first rest : List Note) →
      may_be_source H.ip_addrs r.src_addr ≡ true → is_fragment f ≡ true →
      TakesFragment (key_in r f) (fragment_in f payload) (Some octets) H first mid →
      ProcessesDatagram source (datagram_header r octets) mid octets reply rest new →
      notes ≡ first ++ rest → ProcessesPacket source r f H payload reply notes new
  Whole : may_be_source H.ip_addrs r.src_addr ≡ true → is_fragment f ≡ false →
      ProcessesDatagram source r H payload reply notes new →
      ProcessesPacket source r f H payload reply notes new

-- how the octets after a frame's header are processed, received from this hardware address
pub data ProcessesIpv4 (source : HardwareAddress) (H : Host) (octets : List ℕ) (reply : Option Reply)
    (notes : List Note) (new : Host) : Type 0 where
  Malformed : (IsIpv4 (is_rx H.capabilities.checksum.ipv4) octets → ⊥) → IsDropped H reply notes new →
      ProcessesIpv4 source H octets reply notes new
  Read : IsIpv4 (is_rx H.capabilities.checksum.ipv4) octets →
      ProcessesPacket source (ipv4_in octets).0 (ipv4_in octets).1 H (ipv4_in octets).2 reply notes new →
      ProcessesIpv4 source H octets reply notes new
