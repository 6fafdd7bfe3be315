-- What UDP sockets receive, and in which frames it arrives (RFC 768, RFC 1122 4.1.3).
use Rattle.std.specs.Prelude.{◌≡◌, ℕ, ◌==◌, ◌≤◌, true, false, List, [], ◌∷◌}
use Rattle.std.specs.Prelude.{◌++◌, length, drop, Option, Some, if◌then◌else◌}
use Rattle.std.specs.Option.{option_and_then}
use Rattle.net_base.specs.Checksum.{is_rx}
use Rattle.ip_address.specs.declared.ethernet_address.EthernetAddress.{EthernetAddress}
use Rattle.ip_address.specs.declared.hardware.HardwareAddress.{HardwareAddress}
use Rattle.ip_address.specs.declared.hardware.HardwareAddress.TheVariants as hardware
use Rattle.ip_address.specs.declared.protocol.IpProtocol.TheVariants as protocol
use Rattle.ip_address.specs.Protocol.{number_of}
use Rattle.ip_address.specs.Ipv6.{is_unicast}
use Rattle.ip_wire.specs.declared.ethernet.EthernetProtocol.TheVariants as ethertype
use Rattle.ip_wire.specs.declared.ip_packet.IpRepr.{IpRepr}
use Rattle.ip_wire.specs.declared.ip_packet.IpRepr.TheVariants as repr
use Rattle.ip_wire.specs.Ethernet.{header_in}
use Rattle.ip_wire.specs.IpPacket.{src_addr, dst_addr}
use Rattle.ip_wire.specs.Ipv4Packet.{IsIpv4, ipv4_in, is_fragment}
use Rattle.ip_wire.specs.Udp.{IsUdp, udp_in}
use Rattle.ip_wire.specs.Ipv6Packet.{IsIpv6, ipv6_in}
use Rattle.ip_wire.specs.HopByHop.{IsHopByHop, hop_by_hop_in, first_failure}
use Rattle.ip_wire.specs.declared.hop_by_hop.Ipv6OptionFailureType.TheVariants.{Skip}
use Rattle.sockets.specs.declared.endpoint.IpEndpoint.{IpEndpoint}
use Rattle.sockets.specs.Kinds.{down_udp}
use Rattle.sockets.specs.Udp.{UdpSocket, accepts, socket_after_delivery}
use Rattle.fragmentation.specs.Reassembly.{SlotNote, Rebuild}
use Rattle.socket_set.specs.SocketSet.{socket_at}
use Rattle.host_machine.specs.Context.Host.{Host, SocketSet}
use Rattle.host_machine.specs.Context.Addresses.{is_broadcast, is_for_host, may_be_source}
use Rattle.host_machine.specs.Receive.Ethernet.{is_for, version_in}
use Rattle.host_laws.specs.Laws.Frames.{Carries}
use Rattle.host_machine.specs.Receive.Ipv4.{key_in, datagram_header}

-- a datagram that was delivered to a socket: the socket's index, both endpoints, and the payload
pub record Delivery : Type 0 where
  pub index : ℕ
  pub source : IpEndpoint
  pub destination : IpEndpoint
  pub payload : List ℕ

-- the UDP socket at an index, if there is one
abbrev pub udp_at : SocketSet → ℕ → Option UdpSocket
udp_at sockets i = option_and_then down_udp (socket_at sockets i)

-- a frame that a host accepts carries an IPv6 packet: over Ethernet after the header, if the frame is for the host
-- (RFC 2464); on a medium without hardware addresses it is the packet
pub data CarriesIpv6 (h : HardwareAddress) (frame packet : List ℕ) : Type 0 where
  OverEthernet : (own : EthernetAddress) → h ≡ hardware.Ethernet own → 14 ≤ length frame →
      is_for own (header_in frame).dst_addr ≡ true →
      (header_in frame).ethertype ≡ ethertype.Ipv6 → packet ≡ drop 14 frame → CarriesIpv6 h frame packet
  AsItStands : h ≡ hardware.Ip → version_in frame ≡ 6 → packet ≡ frame → CarriesIpv6 h frame packet

-- A frame carries octets for UDP in one packet, with that packet's header: as the payload of a whole IPv4 packet; as
-- the payload of an IPv6 packet; or after hop-by-hop options that are known or to be skipped. The header is right,
-- and its source is valid.
pub data BringsPacket (H : Host) (frame : List ℕ) (r : IpRepr) (octets : List ℕ) : Type 0 where
  OverIpv4 : (packet : List ℕ) → Carries H.hardware_addr frame packet →
      IsIpv4 (is_rx H.capabilities.checksum.ipv4) packet →
      may_be_source H.ip_addrs (ipv4_in packet).0.src_addr ≡ true → is_fragment (ipv4_in packet).1 ≡ false →
      (ipv4_in packet).0.next_header ≡ protocol.Udp → r ≡ repr.Ipv4 (ipv4_in packet).0 →
      octets ≡ (ipv4_in packet).2 → BringsPacket H frame r octets
  OverIpv6 : (packet : List ℕ) → CarriesIpv6 H.hardware_addr frame packet → IsIpv6 packet →
      is_unicast (ipv6_in packet).0.src_addr ≡ true →
      (ipv6_in packet).0.next_header ≡ protocol.Udp → r ≡ repr.Ipv6 (ipv6_in packet).0 →
      octets ≡ (ipv6_in packet).1 → BringsPacket H frame r octets
  AfterOptions : (packet : List ℕ) → CarriesIpv6 H.hardware_addr frame packet → IsIpv6 packet →
      is_unicast (ipv6_in packet).0.src_addr ≡ true →
      number_of (ipv6_in packet).0.next_header ≡ 0 → IsHopByHop (ipv6_in packet).1 →
      first_failure (hop_by_hop_in (ipv6_in packet).1).0.options.items ≡ Skip →
      (hop_by_hop_in (ipv6_in packet).1).0.next_header ≡ protocol.Udp →
      r ≡ repr.Ipv6 (ipv6_in packet).0 → octets ≡ (hop_by_hop_in (ipv6_in packet).1).1 → BringsPacket H frame r octets

-- A frame brings octets for UDP: in one packet; or as what was reassembled when the frame's fragment arrived, which is
-- the last note then, with that fragment's header.
pub data BringsUdp (H : Host) (frame : List ℕ) (noted : List SlotNote) (r : IpRepr) (octets : List ℕ) : Type 0 where
  AtOnce : BringsPacket H frame r octets → BringsUdp H frame noted r octets
  InFragments : (packet : List ℕ) (earlier : List SlotNote) →
      Carries H.hardware_addr frame packet → IsIpv4 (is_rx H.capabilities.checksum.ipv4) packet →
      may_be_source H.ip_addrs (ipv4_in packet).0.src_addr ≡ true → is_fragment (ipv4_in packet).1 ≡ true →
      (ipv4_in packet).0.next_header ≡ protocol.Udp →
      noted ≡ earlier ++ Rebuild (key_in (ipv4_in packet).0 (ipv4_in packet).1) octets ∷ [] →
      r ≡ repr.Ipv4 (datagram_header (ipv4_in packet).0 octets) → BringsUdp H frame noted r octets

-- a frame brings what a socket gets: a datagram with right lengths, and a right checksum if that is verified and there
-- is one, for an address of the host
pub record Gets (H : Host) (frame : List ℕ) (noted : List SlotNote) (d : Delivery) : Type 0 where
  pub header : IpRepr
  pub octets : List ℕ
  pub brought : BringsUdp H frame noted header octets
  pub is_udp : IsUdp (is_rx H.capabilities.checksum.udp) (src_addr header) (dst_addr header) octets
  pub for_host : is_for_host H (dst_addr header) ≡ true
  pub source_is : d.source ≡ record { addr = src_addr header; port = (udp_in octets).0.src_port }
  pub destination_is : d.destination ≡ record { addr = dst_addr header; port = (udp_in octets).0.dst_port }
  pub payload_is : d.payload ≡ (udp_in octets).1

-- what sockets get from frames received one after another, with the notes about slots of each: at most
-- one datagram from each
pub data Deliver (H : Host) : List (List ℕ) → List SlotNote → List Delivery → Type 0 where
  NoFrame : Deliver H [] [] []
  OneGets : {frames : List (List ℕ)} {noted : List SlotNote} {ds : List Delivery} (frame : List ℕ)
      (own : List SlotNote) (d : Delivery) →
      Gets H frame own d → Deliver H frames noted ds → Deliver H (frame ∷ frames) (own ++ noted) (d ∷ ds)
  NoSocketGets : {frames : List (List ℕ)} {noted : List SlotNote} {ds : List Delivery}
      (frame : List ℕ) (own : List SlotNote) →
      Deliver H frames noted ds → Deliver H (frame ∷ frames) (own ++ noted) ds

-- the socket that got a datagram accepts its destination: its port, and its address or a broadcast or multicast one
pub record IsAccepted (H : Host) (d : Delivery) : Type 0 where
  pub socket : UdpSocket
  pub there : udp_at H.sockets d.index ≡ Some socket
  pub hears : accepts (is_broadcast H.ip_addrs) socket d.destination.addr d.destination.port ≡ true

-- the deliveries to the socket at an index, in order
abbrev pub to_index : ℕ → List Delivery → List Delivery
to_index i [] = []
to_index i (d ∷ ds) = if d.index == i then d ∷ to_index i ds else to_index i ds

-- the socket with these appended to its receive queue, each as far as there is room for it
abbrev pub with_deliveries : List Delivery → UdpSocket → UdpSocket
with_deliveries [] s = s
with_deliveries (d ∷ ds) s = with_deliveries ds (socket_after_delivery d.source d.payload s)
