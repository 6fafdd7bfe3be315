-- What a host must do: requests are answered in the call that receives them, packets for a socket are in its queue, and
-- what may be sent is sent.
use Rattle.std.specs.Prelude.{◌≡◌, ◌≢◌, ℕ, ◌+◌, ◌*◌, ◌/◌, ◌^◌, ◌<◌, ◌≤◌, ℤ, pos, ◌≤ℤ◌, ◌<ℤ◌, ◌⊎◌, ◌||◌, ◌&&◌, not, is_some}
use Rattle.std.specs.Prelude.{Bool, true, false, List, [], ◌∷◌, ◌++◌, length, drop, take, slice_get, Option, Some, None}
use Rattle.std.specs.Int.RustNames.{bit_and}
use Rattle.std.specs.List.{list_all}
use Rattle.net_base.specs.Checksum.{is_rx, ip_mtu_of}
use Rattle.net_base.specs.Time.{silence_from}
use Rattle.net_base.specs.Device.{Event, handed_frames, grants, sent_frames}
use Rattle.ip_address.specs.declared.cidr.IpCidr.{IpCidr}
use Rattle.ip_address.specs.declared.ethernet_address.EthernetAddress.{EthernetAddress}
use Rattle.ip_address.specs.declared.hardware.HardwareAddress.{HardwareAddress}
use Rattle.ip_address.specs.declared.hardware.HardwareAddress.TheVariants as hardware
use Rattle.ip_address.specs.declared.ip.IpAddress.{IpAddress}
use Rattle.ip_address.specs.declared.ip.IpAddress.TheVariants.{Ipv4, Ipv6}
use Rattle.ip_address.specs.declared.ipv4.Ipv4Address.{Ipv4Address}
use Rattle.ip_address.specs.declared.ipv6.Ipv6Address.{Ipv6Address}
use Rattle.ip_address.specs.Ipv6 as ipv6
use Rattle.ip_address.specs.declared.protocol.IpProtocol.{IpProtocol}
use Rattle.ip_address.specs.declared.protocol.IpProtocol.TheVariants as ip_protocol
use Rattle.ip_address.specs.Protocol.{number_of}
use Rattle.ip_address.specs.EthernetAddress as ethernet
use Rattle.ip_address.specs.Ip.{is_unicast as is_one}
use Rattle.ip_address.specs.Ipv4 as ipv4
use Rattle.ip_wire.specs.declared.ipv6_packet.Ipv6Repr.{Ipv6Repr}
use Rattle.ip_wire.specs.Ipv6Packet.{IsIpv6, ipv6_in}
use Rattle.ip_wire.specs.HopByHop.{IsHopByHop, first_failure, hop_by_hop_in}
use Rattle.ip_wire.specs.declared.hop_by_hop.Ipv6OptionFailureType.TheVariants.{Skip}
use Rattle.control_wire.specs.Icmpv6.{icmpv6_in}
use Rattle.control_wire.specs.declared.icmpv6.Icmpv6Repr.TheVariants as icmpv6
use Rattle.control_wire.specs.declared.icmpv6.Icmpv6DstUnreachable.TheVariants.{PortUnreachable as PortUnreachableV6}
use Rattle.control_wire.specs.declared.ndisc.NdiscNeighborFlags.{NdiscNeighborFlags}
use Rattle.control_wire.specs.declared.ndisc.NdiscRepr.TheVariants.{NeighborSolicit, NeighborAdvert}
use Rattle.ip_wire.specs.declared.arp.ArpRepr.{ArpRepr}
use Rattle.ip_wire.specs.declared.arp.ArpOperation.TheVariants as operation
use Rattle.ip_wire.specs.declared.ethernet.EthernetProtocol.{EthernetProtocol}
use Rattle.ip_wire.specs.declared.ethernet.EthernetProtocol.TheVariants as protocol
use Rattle.ip_wire.specs.declared.ipv4_packet.Ipv4Repr.{Ipv4Repr}
use Rattle.ip_wire.specs.declared.ip_packet.IpRepr.TheVariants as repr
use Rattle.ip_wire.specs.declared.udp.UdpRepr.{UdpRepr}
use Rattle.ip_wire.specs.Ethernet.{header_in, header_text}
use Rattle.ip_wire.specs.Arp.{IsArp, IsPacket, arp_in, text}
use Rattle.ip_wire.specs.Ipv4Packet.{IsIpv4, ipv4_in, is_fragment}
use Rattle.ip_wire.specs.Udp.{udp_in}
use Rattle.control_wire.specs.declared.icmpv4.Icmpv4Repr.TheVariants.{EchoRequest, EchoReply, DstUnreachable}
use Rattle.control_wire.specs.declared.icmpv4.Icmpv4DstUnreachable.TheVariants.{PortUnreachable}
use Rattle.control_wire.specs.Icmpv4.{IsIcmpv4, icmpv4_in}
use Rattle.sockets.specs.Queue.{is_room}
use Rattle.sockets.specs.Source.{source_of}
use Rattle.sockets.specs.declared.endpoint.IpEndpoint.{IpEndpoint}
use Rattle.socket_set.specs.SocketSet.{wait_at}
use Rattle.sockets.specs.Udp.{UdpSocket}
use Rattle.sockets.specs.Icmp.{IcmpSocket, is_echo}
use Rattle.sockets.specs.declared.icmp.Endpoint.TheVariants.{Ident}
use Rattle.sockets.specs.declared.socket.SocketOf.TheVariants.{Raw, Icmp, Udp, Tcp}
use Rattle.iface_tables.specs.declared.neighbor.Answer.TheVariants.{Found, NotFound}
use Rattle.iface_tables.specs.Neighbor.{answer_of}
use Rattle.fragmentation.specs.Cuts.{Piece}
use Rattle.iface_tables.specs.declared.groups.GroupState.TheVariants.{Joining, Leaving}
use Rattle.iface_tables.specs.declared.report.IgmpReportState.{IgmpReportState}
use Rattle.iface_tables.specs.declared.report.IgmpReportState.TheVariants as igmp
use Rattle.control_wire.specs.declared.igmp.IgmpVersion.{IgmpVersion}
use Rattle.host_machine.specs.declared.results.PollIngressSingleResult.{PollIngressSingleResult}
use Rattle.host_machine.specs.declared.results.PollResult.{PollResult}
use Rattle.host_machine.specs.Context.Note.{Note, asks}
use Rattle.host_machine.specs.Context.Host.{Host, Socket, at, in_same_network, is_assigned}
use Rattle.host_machine.specs.Context.Addresses.{has_solicited_node, is_unicast, is_unicast_v4, source_for}
use Rattle.host_machine.specs.Packet.Packet.{Packet, Icmpv4, Icmpv6, total_len}
use Rattle.host_machine.specs.Packet.Packet as packet
use Rattle.host_machine.specs.Packet.Frame.{arp_frame, ip_frame, piece_frame}
use Rattle.host_machine.specs.Sockets.Raw as raw
use Rattle.host_machine.specs.Sockets.Udp.{IsDatagram}
use Rattle.host_machine.specs.Receive.Ethernet.{is_for}
use Rattle.host_machine.specs.Send.Hops.{IsNextHop}
use Rattle.host_machine.specs.Send.Dispatch.{destination_of}
use Rattle.host_machine.specs.Interface.Egress.{Egress}
use Rattle.host_machine.specs.Sockets.Offers.{packet_from}
use Rattle.host_machine.specs.Interface.Ingress.{Ingress}
use Rattle.host_machine.specs.Icmp.Icmpv6.{IsMessage}
use Rattle.host_machine.specs.Discovery.Ndisc.{solicited_flag}
use Rattle.host_machine.specs.Discovery.RouterSolicitation.{rs_poll_at}
use Rattle.host_machine.specs.Multicast.Igmp.{igmp_poll_at}
use Rattle.host_machine.specs.Multicast.Mld.{mld_timeout_of}
use Rattle.host_machine.specs.Interface.Due.{Due}
use Rattle.host_machine.specs.Sockets.Polling.{SocketDue}
use Rattle.host_machine.specs.Discovery.Polling.{sync_poll_at}
use Rattle.host_machine.specs.Multicast.Polling.{group_poll_at}
use Rattle.host_machine.specs.Interface.Polling.{Polls}

-- Frames received

-- a frame that a host with this hardware address accepts, with a payload of a type after its header
pub record IsTaken (own : EthernetAddress) (type : EthernetProtocol) (frame : List ℕ) : Type 0 where
  pub whole : 14 ≤ length frame
  pub to_host : is_for own (header_in frame).dst_addr ≡ true
  pub of_type : (header_in frame).ethertype ≡ type

-- the same of a frame with an IP packet in it: where there are no hardware addresses, each frame is accepted, and its
-- type is the packet's version
abbrev pub IsAccepted : HardwareAddress → EthernetProtocol → List ℕ → Type 0
IsAccepted (hardware.Ethernet own) type frame = IsTaken own type frame
IsAccepted hardware.Ip type frame = Unit {0}

-- a frame to the host's own hardware address; where there are none, any frame. What came to all hardware addresses, or to
-- a group's, is to be dropped unless its packet is to all or to a group, and brings no error (RFC 1122 3.2.2, 3.3.6,
-- RFC 4443 2.4 e): so the laws of pings, datagrams, segments and errors aren't about it
abbrev pub IsToItself : HardwareAddress → List ℕ → Type 0
IsToItself (hardware.Ethernet own) frame = (header_in frame).dst_addr ≡ own
IsToItself hardware.Ip frame = Unit {0}

-- the packet in it: what follows the frame's header, or the whole frame
abbrev pub packet_in : HardwareAddress → List ℕ → List ℕ
packet_in (hardware.Ethernet own) frame = drop 14 frame
packet_in hardware.Ip frame = frame

-- a call at t that received this frame, of a host with this hardware address, or on a medium without any
pub record Takes (own : HardwareAddress) (t : ℤ) (frame : List ℕ) (old : Host)
    (told : List Event) (new : Host) : Type 0 where
  pub answer : PollIngressSingleResult
  pub notes : List Note
  pub call : Ingress t answer old told notes new
  pub took : handed_frames told ≡ frame ∷ []
  pub on_medium : old.hardware_addr ≡ own

-- ARP

-- the frame is a request with these values: a unicast sender in a network of the host asks for an
-- address assigned to the host
pub record AsksByArp (own : EthernetAddress) (addrs : List IpCidr) (frame : List ℕ) (r : ArpRepr) : Type 0 where
  pub taken : IsTaken own protocol.Arp frame
  pub is_packet : IsArp (drop 14 frame)
  pub values : arp_in (drop 14 frame) ≡ r
  pub request : r.operation ≡ operation.Request
  pub target : is_assigned addrs (Ipv4 r.target_protocol_addr) ≡ true
  pub sender : ipv4.is_unicast r.source_protocol_addr ≡ true
  pub sender_hardware : ethernet.is_unicast r.source_hardware_addr ≡ true
  pub near : in_same_network addrs (Ipv4 r.source_protocol_addr) ≡ true

-- the required answer: the sender, at its own hardware address, gets the host's hardware address for the
-- address that it asked for
abbrev pub arp_answer : EthernetAddress → ArpRepr → ArpRepr
arp_answer own r = record {
  operation = operation.Reply;
  source_hardware_addr = own;
  source_protocol_addr = r.target_protocol_addr;
  target_hardware_addr = r.source_hardware_addr;
  target_protocol_addr = r.source_protocol_addr;
}

-- the call that receives such a request sends that answer and nothing else, and its sender is a
-- known neighbour afterwards
abbrev pub AnswersArpRequests : ℤ → Host → List Event → Host → Type 0
AnswersArpRequests t old told new =
    (own : EthernetAddress) (frame : List ℕ) (r : ArpRepr) →
    Takes (hardware.Ethernet own) t frame old told new → AsksByArp own old.ip_addrs frame r →
    (sent_frames told ≡ arp_frame (arp_answer own r) ∷ [])
    × (answer_of new.neighbors (Ipv4 r.source_protocol_addr) t ≡ Found (hardware.Ethernet r.source_hardware_addr))

abbrev pub ArpRequestsAreAnswered : Type 0
ArpRequestsAreAnswered = (t : ℤ) (old new : Host) (told : List Event) → AnswersArpRequests t old told new

-- an ARP packet with these values, a question or an answer, is for an address assigned to the host, from a unicast sender
-- in a network of it
pub record TellsArp (own : EthernetAddress) (addrs : List IpCidr) (frame : List ℕ) (r : ArpRepr) : Type 0 where
  pub taken : IsTaken own protocol.Arp frame
  pub is_packet : IsArp (drop 14 frame)
  pub values : arp_in (drop 14 frame) ≡ r
  pub target : is_assigned addrs (Ipv4 r.target_protocol_addr) ≡ true
  pub sender : ipv4.is_unicast r.source_protocol_addr ≡ true
  pub sender_hardware : ethernet.is_unicast r.source_hardware_addr ≡ true
  pub near : in_same_network addrs (Ipv4 r.source_protocol_addr) ≡ true

-- its sender is a known neighbour after the call that receives it, so what was asked for is known once it is answered
-- (RFC 826)
abbrev pub LearnsArpSenders : ℤ → Host → List Event → Host → Type 0
LearnsArpSenders t old told new =
    (own : EthernetAddress) (frame : List ℕ) (r : ArpRepr) →
    Takes (hardware.Ethernet own) t frame old told new → TellsArp own old.ip_addrs frame r →
    answer_of new.neighbors (Ipv4 r.source_protocol_addr) t ≡ Found (hardware.Ethernet r.source_hardware_addr)

abbrev pub ArpSendersAreLearnt : Type 0
ArpSendersAreLearnt = (t : ℤ) (old new : Host) (told : List Event) → LearnsArpSenders t old told new

-- Echo

-- the way to an address is known: its next hop, itself or a gateway, is a neighbour with this hardware address
pub record IsReached (H : Host) (a : IpAddress) (h : HardwareAddress) : Type 0 where
  pub hop : IpAddress
  pub next : IsNextHop H a (Some hop)
  pub known : answer_of H.neighbors hop H.moment ≡ Found h

-- so it is on Ethernet; where there are no hardware addresses, no neighbour is needed
abbrev pub HasWay : HardwareAddress → Host → IpAddress → HardwareAddress → Type 0
HasWay (hardware.Ethernet own) H a h = IsReached H a h
HasWay hardware.Ip H a h = h ≡ hardware.Ip

-- an address that may be a source on a link: neither of 127.0.0.0/8, which stays within a host, nor of 240.0.0.0/4, which is
-- reserved. A packet from one of these is to be dropped, and brings no error (RFC 1122 3.2.1.3, 3.2.2): so no law of
-- service is about it
pub record IsOfLink (a : Ipv4Address) : Type 0 where
  pub no_loopback : a.bits / 2 ^ 24 ≢ 127
  pub not_reserved : a.bits < 240 * 2 ^ 24

-- the frame carries a whole IPv4 packet with this header and this payload, from a unicast address that may be a source, to
-- one assigned to the host
pub record HasPacketV4 (own : HardwareAddress) (H : Host) (frame : List ℕ)
    (r : Ipv4Repr) (payload : List ℕ) : Type 0 where
  pub taken : IsAccepted own protocol.Ipv4 frame
  pub is_packet : IsIpv4 (is_rx H.capabilities.checksum.ipv4) (packet_in own frame)
  pub header : (ipv4_in (packet_in own frame)).0 ≡ r
  pub whole : is_fragment (ipv4_in (packet_in own frame)).1 ≡ false
  pub behind : (ipv4_in (packet_in own frame)).2 ≡ payload
  pub sender : is_unicast_v4 H.ip_addrs r.src_addr ≡ true
  pub of_link : IsOfLink r.src_addr
  pub receiver : is_unicast_v4 H.ip_addrs r.dst_addr ≡ true
  pub given : is_assigned H.ip_addrs (Ipv4 r.dst_addr) ≡ true

-- an echo request with this identifier, sequence number and data (RFC 792)
pub record Pings (own : HardwareAddress) (H : Host) (frame : List ℕ) (r : Ipv4Repr)
    (ident seq_no : ℕ) (octets : List ℕ) : Type 0 where
  pub payload : List ℕ
  pub in_packet : HasPacketV4 own H frame r payload
  pub protocol_is : r.next_header ≡ ip_protocol.Icmp
  pub is_message : IsIcmpv4 (is_rx H.capabilities.checksum.icmpv4) payload
  pub values : icmpv4_in payload ≡ (EchoRequest ident seq_no, octets)

-- the call that receives it sends the echo reply and nothing else, if the way back is known and the device
-- takes packets so long
abbrev pub AnswersPings : ℤ → Host → List Event → Host → Type 0
AnswersPings t old told new =
    (own : HardwareAddress) (frame : List ℕ) (r : Ipv4Repr) (ident seq_no : ℕ) (octets : List ℕ)
    (h : HardwareAddress) →
    Takes own t frame old told new → IsToItself own frame → Pings own old frame r ident seq_no octets →
    HasWay own (at old t) (Ipv4 r.src_addr) h →
    28 + length octets ≤ ip_mtu_of old.capabilities →
    sent_frames told ≡ ip_frame old h (packet.Ipv4 (record {
      src_addr = r.dst_addr;
      dst_addr = r.src_addr;
      hop_limit = 64;
      payload = Icmpv4 (EchoReply ident seq_no) octets;
    })) ∷ []

abbrev pub PingsAreAnswered : Type 0
PingsAreAnswered = (t : ℤ) (old new : Host) (told : List Event) → AnswersPings t old told new

-- Datagrams

-- the frame carries a datagram (RFC 768) with these ports and this payload
pub record HasDatagram (own : HardwareAddress) (H : Host) (frame : List ℕ) (r : Ipv4Repr)
    (ports : UdpRepr) (octets : List ℕ) : Type 0 where
  pub payload : List ℕ
  pub in_packet : HasPacketV4 own H frame r payload
  pub protocol_is : r.next_header ≡ ip_protocol.Udp
  pub is_datagram : IsDatagram H (repr.Ipv4 r) payload
  pub values : udp_in payload ≡ (ports, octets)

-- the socket at an index listens at the datagram's port, of any address or of its destination, and has room for it; and
-- no UDP socket before it listens at that port
pub record IsAcceptedBy (H : Host) (destination : IpAddress) (ports : UdpRepr) (octets : List ℕ)
    (i : ℕ) (s : UdpSocket) : Type 0 where
  pub here : slice_get H.sockets.places i ≡ Some (Some (Udp s))
  pub port : s.endpoint.port ≡ ports.dst_port
  pub addr : (s.endpoint.addr ≡ None) ⊎ (s.endpoint.addr ≡ Some destination)
  pub first : (k : ℕ) (other : UdpSocket) → k < i → slice_get H.sockets.places k ≡ Some (Some (Udp other)) →
      other.endpoint.port ≢ ports.dst_port
  pub room : is_room s.rx (length octets) ≡ true

-- then the datagram is appended to the socket's queue, with its sender; and no other UDP socket changes
pub record IsQueued (source : IpAddress) (ports : UdpRepr) (octets : List ℕ) (i : ℕ)
    (s : UdpSocket) (old new : Host) : Type 0 where
  pub got : slice_get new.sockets.places i
      ≡ Some (Some (Udp (record s {
        rx = record s.rx {
          packets = s.rx.packets ++ (record { addr = source; port = ports.src_port }, octets) ∷ [];
        };
      })))
  pub others : (j : ℕ) (other : UdpSocket) → j ≢ i → slice_get old.sockets.places j ≡ Some (Some (Udp other)) →
      slice_get new.sockets.places j ≡ Some (Some (Udp other))

-- the call that receives it does that, and sends nothing
abbrev pub QueuesDatagrams : ℤ → Host → List Event → Host → Type 0
QueuesDatagrams t old told new =
    (own : HardwareAddress) (frame : List ℕ) (r : Ipv4Repr) (ports : UdpRepr) (octets : List ℕ) (i : ℕ)
    (s : UdpSocket) →
    Takes own t frame old told new → IsToItself own frame → HasDatagram own old frame r ports octets →
    IsAcceptedBy old (Ipv4 r.dst_addr) ports octets i s →
    IsQueued (Ipv4 r.src_addr) ports octets i s old new × (sent_frames told ≡ [])

abbrev pub DatagramsAreQueued : Type 0
DatagramsAreQueued = (t : ℤ) (old new : Host) (told : List Event) → QueuesDatagrams t old told new

-- if no socket listens at its port, and no raw socket accepts the packet, the call sends the port unreachable error and
-- nothing else. The error quotes the packet's header and the first octets of its payload (RFC 1122 3.2.2.1, 4.1.3.1)
abbrev pub AnswersClosedPorts : ℤ → Host → List Event → Host → Type 0
AnswersClosedPorts t old told new =
    (own : HardwareAddress) (frame : List ℕ) (r : Ipv4Repr) (ports : UdpRepr) (octets : List ℕ)
    (h : HardwareAddress) →
    Takes own t frame old told new → IsToItself own frame → (d : HasDatagram own old frame r ports octets) →
    ((k : ℕ) (other : UdpSocket) → slice_get old.sockets.places k ≡ Some (Some (Udp other)) →
    other.endpoint.port ≢ ports.dst_port) →
    raw.is_taken (repr.Ipv4 r) old ≡ false → HasWay own (at old t) (Ipv4 r.src_addr) h →
    576 ≤ ip_mtu_of old.capabilities →
    sent_frames told ≡ ip_frame old h (packet.Ipv4 (record {
      src_addr = r.dst_addr;
      dst_addr = r.src_addr;
      hop_limit = 64;
      payload = Icmpv4 (DstUnreachable PortUnreachable r) (take 528 d.payload);
    })) ∷ []

abbrev pub ClosedPortsAreAnswered : Type 0
ClosedPortsAreAnswered = (t : ℤ) (old new : Host) (told : List Event) → AnswersClosedPorts t old told new

-- Echo replies received

-- the frame carries an echo reply with this identifier and this sequence number, as the octets of its message (RFC 792)
pub record HasEchoReply (own : HardwareAddress) (H : Host) (frame : List ℕ) (r : Ipv4Repr)
    (ident seq_no : ℕ) (message : List ℕ) : Type 0 where
  pub in_packet : HasPacketV4 own H frame r message
  pub protocol_is : r.next_header ≡ ip_protocol.Icmp
  pub is_message : IsIcmpv4 (is_rx H.capabilities.checksum.icmpv4) message
  pub values : (icmpv4_in message).0 ≡ EchoReply ident seq_no

-- an ICMP socket with that identifier, which has room for it, has it last in its queue, with its sender; and nothing is
-- sent
abbrev pub QueuesEchoReplies : ℤ → Host → List Event → Host → Type 0
QueuesEchoReplies t old told new =
    (own : HardwareAddress) (frame : List ℕ) (r : Ipv4Repr) (ident seq_no : ℕ) (message : List ℕ) (i : ℕ)
    (s : IcmpSocket) →
    Takes own t frame old told new → IsToItself own frame → HasEchoReply own old frame r ident seq_no message →
    slice_get old.sockets.places i ≡ Some (Some (Icmp s)) → s.endpoint ≡ Ident ident →
    is_room s.rx (length message) ≡ true →
    (slice_get new.sockets.places i ≡ Some (Some (Icmp (record s {
      rx = record s.rx { packets = s.rx.packets ++ (Ipv4 r.src_addr, message) ∷ [] };
    }))))
    × (sent_frames told ≡ [])

abbrev pub EchoRepliesAreQueued : Type 0
EchoRepliesAreQueued = (t : ℤ) (old new : Host) (told : List Event) → QueuesEchoReplies t old told new

-- Datagrams sent

-- each transmit token that was asked for was granted
abbrev pub all_granted : List Event → Bool
all_granted told = list_all (λ given. given) (grants told)

-- the socket at an index may be asked: it isn't waiting, its wait has timed out, or the way to the destination that
-- it waits for is known
pub data MayBeAsked (H : Host) (i : ℕ) : Type 0 where
  NoWait : wait_at H.sockets i ≡ None → MayBeAsked H i
  Over : (a : IpAddress) (end : ℤ) → wait_at H.sockets i ≡ Some (a, end) → end ≤ℤ H.moment → MayBeAsked H i
  IsKnown : (a : IpAddress) (end : ℤ) (h : HardwareAddress) →
      wait_at H.sockets i ≡ Some (a, end) → is_one a ≡ true → IsReached H a h → MayBeAsked H i

-- a packet carries a datagram between two endpoints of one family
pub data IsBetween (source remote : IpEndpoint) (hop_limit : ℕ) (octets : List ℕ) (p : Packet) : Type 0 where
  OverIpv4 : (a b : Ipv4Address) → source.addr ≡ Ipv4 a → remote.addr ≡ Ipv4 b →
      p ≡ packet.Ipv4 (record {
        src_addr = a;
        dst_addr = b;
        hop_limit = hop_limit;
        payload = packet.Udp (record { src_port = source.port; dst_port = remote.port }) octets;
      }) →
      IsBetween source remote hop_limit octets p
  OverIpv6 : (a b : Ipv6Address) → source.addr ≡ Ipv6 a → remote.addr ≡ Ipv6 b →
      p ≡ packet.Ipv6 (record {
        src_addr = a;
        dst_addr = b;
        hop_limit = hop_limit;
        payload = packet.Udp (record { src_port = source.port; dst_port = remote.port }) octets;
      }) →
      IsBetween source remote hop_limit octets p

-- the first datagram that the UDP socket at an index has to send, as a packet with a source address; and those after it
pub record HasFirst (H : Host) (i : ℕ) (s : UdpSocket) (p : Packet) (rest : List (IpEndpoint × List ℕ)) : Type 0 where
  pub here : slice_get H.sockets.places i ≡ Some (Some (Udp s))
  pub remote : IpEndpoint
  pub octets : List ℕ
  pub first : s.tx.packets ≡ (remote, octets) ∷ rest
  pub source : IpAddress
  pub source_is : source_of (source_for H.ip_addrs) s.endpoint.addr remote.addr ≡ Some source
  pub packet_is : IsBetween (record { addr = source; port = s.endpoint.port }) remote s.hop_limit octets p

-- it was sent: its frame is among those that were sent, and those after it are still in the queue
pub record Went (H : Host) (i : ℕ) (s : UdpSocket) (p : Packet) (h : HardwareAddress)
    (rest : List (IpEndpoint × List ℕ)) (told : List Event) (new : Host) : Type 0 where
  pub front : List (List ℕ)
  pub back : List (List ℕ)
  pub frames : sent_frames told ≡ front ++ (ip_frame H h p ∷ back)
  pub left : slice_get new.sockets.places i ≡ Some (Some (Udp (record s { tx = record s.tx { packets = rest } })))

-- a call that sends, and is granted every transmit token, sends the first datagram of each UDP socket that may be
-- asked. Its destination must be unicast, the way to it known, and the device must take packets so long
abbrev pub SendsFirstDatagrams : ℤ → Host → List Event → Host → Type 0
SendsFirstDatagrams t old told new =
    (own : HardwareAddress) (i : ℕ) (s : UdpSocket) (p : Packet) (h : HardwareAddress)
    (rest : List (IpEndpoint × List ℕ)) →
    all_granted told ≡ true → old.hardware_addr ≡ own →
    HasFirst (at old t) i s p rest → MayBeAsked (at old t) i → is_unicast old.ip_addrs (destination_of p) ≡ true →
    HasWay own (at old t) (destination_of p) h →
    total_len p ≤ ip_mtu_of old.capabilities → Went old i s p h rest told new

abbrev pub FirstDatagramsGo : Type 0
FirstDatagramsGo =
    (t : ℤ) (answer : PollResult) (old new : Host) (told : List Event) (notes : List Note) →
    Egress t answer old told notes new → SendsFirstDatagrams t old told new

-- the number of packets that a socket has to send
abbrev pub waiting_in : Socket → ℕ
waiting_in (Raw s) = length s.tx.packets
waiting_in (Icmp s) = length s.tx.packets
waiting_in (Udp s) = length s.tx.packets
waiting_in (Tcp s) = length s.tx.packets

-- the first packet of a socket was sent: its frame is among those that were sent, and the socket has one packet less
pub record WentFirst (H : Host) (i : ℕ) (s : Socket) (p : Packet) (h : HardwareAddress) (told : List Event)
    (new : Host) : Type 0 where
  pub front : List (List ℕ)
  pub back : List (List ℕ)
  pub frames : sent_frames told ≡ front ++ (ip_frame H h p ∷ back)
  pub after : Socket
  pub left : slice_get new.sockets.places i ≡ Some (Some after)
  pub less : waiting_in after + 1 ≡ waiting_in s

-- so the first packet of a socket of any kind is sent: of a raw one its packet, of an ICMP one its echo message, of a
-- TCP one its segment
abbrev pub SendsFirstPackets : ℤ → Host → List Event → Host → Type 0
SendsFirstPackets t old told new =
    (own : HardwareAddress) (i : ℕ) (s : Socket) (p : Packet) (h : HardwareAddress) →
    all_granted told ≡ true → old.hardware_addr ≡ own →
    slice_get old.sockets.places i ≡ Some (Some s) → packet_from (at old t) s ≡ Some p → MayBeAsked (at old t) i →
    is_unicast old.ip_addrs (destination_of p) ≡ true → HasWay own (at old t) (destination_of p) h →
    total_len p ≤ ip_mtu_of old.capabilities → WentFirst old i s p h told new

abbrev pub FirstPacketsGo : Type 0
FirstPacketsGo =
    (t : ℤ) (answer : PollResult) (old new : Host) (told : List Event) (notes : List Note) →
    Egress t answer old told notes new → SendsFirstPackets t old told new

-- the first message that the ICMP socket at an index has to send is an echo request of IPv4 (RFC 792), and it has a
-- source address
pub record HasFirstEcho (H : Host) (i : ℕ) (s : IcmpSocket) (a b : Ipv4Address) (ident seq_no : ℕ)
    (octets : List ℕ) : Type 0 where
  pub here : slice_get H.sockets.places i ≡ Some (Some (Icmp s))
  pub message : List ℕ
  pub others : List (IpAddress × List ℕ)
  pub first : s.tx.packets ≡ (Ipv4 b, message) ∷ others
  pub is_message : is_echo 8 0 message ≡ true
  pub values : icmpv4_in message ≡ (EchoRequest ident seq_no, octets)
  pub source : source_of (source_for H.ip_addrs) None (Ipv4 b) ≡ Some (Ipv4 a)

-- so it is sent
abbrev pub SendsFirstEchoes : ℤ → Host → List Event → Host → Type 0
SendsFirstEchoes t old told new =
    (own : HardwareAddress) (i : ℕ) (s : IcmpSocket) (a b : Ipv4Address) (ident seq_no : ℕ) (octets : List ℕ)
    (h : HardwareAddress) →
    all_granted told ≡ true → old.hardware_addr ≡ own →
    HasFirstEcho (at old t) i s a b ident seq_no octets → MayBeAsked (at old t) i →
    is_unicast_v4 old.ip_addrs b ≡ true → HasWay own (at old t) (Ipv4 b) h →
    28 + length octets ≤ ip_mtu_of old.capabilities →
    WentFirst old i (Icmp s) (packet.Ipv4 (record {
      src_addr = a;
      dst_addr = b;
      hop_limit = s.hop_limit;
      payload = Icmpv4 (EchoRequest ident seq_no) octets;
    })) h told new

abbrev pub FirstEchoesGo : Type 0
FirstEchoesGo =
    (t : ℤ) (answer : PollResult) (old new : Host) (told : List Event) (notes : List Note) →
    Egress t answer old told notes new → SendsFirstEchoes t old told new

-- Discovery

-- the next hop to an address is unknown, discovery is not silent, and there is an address of the host to ask from
pub record IsToBeAskedFor (H : Host) (a hop : IpAddress) : Type 0 where
  pub next : IsNextHop H a (Some hop)
  pub unknown : answer_of H.neighbors hop H.moment ≡ NotFound
  pub asker : is_some (source_for H.ip_addrs hop) ≡ true

-- a request for a hardware address was sent at t, and is noted; after it the silence lasts a second
pub record WasAsked (t : ℤ) (notes : List Note) (new : Host) : Type 0 where
  pub front : List ℤ
  pub back : List ℤ
  pub noted : asks notes ≡ front ++ (t ∷ back)
  pub silence : new.neighbors.silent_until ≡ silence_from t

-- as long as a datagram waits for its next hop, each call that sends after the silence, and is granted every transmit
-- token, requests the hardware address of some next hop
abbrev pub SendsRequests : ℤ → Host → List Event → List Note → Host → Type 0
SendsRequests t old told notes new =
    (own : EthernetAddress) (i : ℕ) (s : UdpSocket) (p : Packet) (hop : IpAddress)
    (rest : List (IpEndpoint × List ℕ)) →
    all_granted told ≡ true → old.hardware_addr ≡ hardware.Ethernet own →
    HasFirst (at old t) i s p rest → MayBeAsked (at old t) i → is_unicast old.ip_addrs (destination_of p) ≡ true →
    IsToBeAskedFor (at old t) (destination_of p) hop →
    WasAsked t notes new

abbrev pub RequestsGo : Type 0
RequestsGo =
    (t : ℤ) (answer : PollResult) (old new : Host) (told : List Event) (notes : List Note) →
    Egress t answer old told notes new → SendsRequests t old told notes new

-- IPv6

-- the frame carries an IPv6 packet with this header and this payload, from a unicast address
pub record HasPacketV6 (own : HardwareAddress) (H : Host) (frame : List ℕ)
    (r : Ipv6Repr) (payload : List ℕ) : Type 0 where
  pub taken : IsAccepted own protocol.Ipv6 frame
  pub is_packet : IsIpv6 (packet_in own frame)
  pub values : ipv6_in (packet_in own frame) ≡ (r, payload)
  pub sender : ipv6.is_unicast r.src_addr ≡ true

-- the protocol of what an IPv6 packet carries, and its octets: the packet's payload; or what follows the hop-by-hop
-- options that it begins with, if each of them is known or to be skipped (RFC 8200 4.2, 4.3)
pub data IsCarried (r : Ipv6Repr) (octets : List ℕ) (p : IpProtocol) (payload : List ℕ) : Type 0 where
  AfterHeader : r.next_header ≡ p → octets ≡ payload → IsCarried r octets p payload
  AfterOptions : number_of r.next_header ≡ 0 → IsHopByHop octets →
      first_failure (hop_by_hop_in octets).0.options.items ≡ Skip →
      (hop_by_hop_in octets).0.next_header ≡ p → (hop_by_hop_in octets).1 ≡ payload →
      IsCarried r octets p payload

-- the frame carries, in an IPv6 packet with this header, a payload of this protocol
pub record HasPayloadV6 (own : HardwareAddress) (H : Host) (frame : List ℕ)
    (r : Ipv6Repr) (p : IpProtocol) (payload : List ℕ) : Type 0 where
  pub octets : List ℕ
  pub packet : HasPacketV6 own H frame r octets
  pub carried : IsCarried r octets p payload

-- an echo request with this identifier, sequence number and data (RFC 4443 4.1), to a unicast
-- address assigned to the host
pub record PingsV6 (own : HardwareAddress) (H : Host) (frame : List ℕ) (r : Ipv6Repr)
    (ident seq_no : ℕ) (octets : List ℕ) : Type 0 where
  pub payload : List ℕ
  pub in_packet : HasPayloadV6 own H frame r ip_protocol.Icmpv6 payload
  pub receiver : ipv6.is_unicast r.dst_addr ≡ true
  pub given : is_assigned H.ip_addrs (Ipv6 r.dst_addr) ≡ true
  pub is_message : IsMessage H r payload
  pub values : icmpv6_in payload ≡ (icmpv6.EchoRequest ident seq_no, octets)

abbrev pub AnswersPingsV6 : ℤ → Host → List Event → Host → Type 0
AnswersPingsV6 t old told new =
    (own : HardwareAddress) (frame : List ℕ) (r : Ipv6Repr) (ident seq_no : ℕ) (octets : List ℕ)
    (h : HardwareAddress) →
    Takes own t frame old told new → PingsV6 own old frame r ident seq_no octets →
    HasWay own (at old t) (Ipv6 r.src_addr) h →
    48 + length octets ≤ ip_mtu_of old.capabilities →
    sent_frames told ≡ ip_frame old h (packet.Ipv6 (record {
      src_addr = r.dst_addr;
      dst_addr = r.src_addr;
      hop_limit = 64;
      payload = Icmpv6 (icmpv6.EchoReply ident seq_no) octets;
    })) ∷ []

abbrev pub PingsV6AreAnswered : Type 0
PingsV6AreAnswered = (t : ℤ) (old new : Host) (told : List Event) → AnswersPingsV6 t old told new

-- the frame carries a datagram (RFC 768, RFC 8200 8.1) with these ports and this payload, to an address assigned to the
-- host
pub record HasDatagramV6 (own : HardwareAddress) (H : Host) (frame : List ℕ) (r : Ipv6Repr)
    (ports : UdpRepr) (octets : List ℕ) : Type 0 where
  pub payload : List ℕ
  pub in_packet : HasPayloadV6 own H frame r ip_protocol.Udp payload
  pub given : is_assigned H.ip_addrs (Ipv6 r.dst_addr) ≡ true
  pub is_datagram : IsDatagram H (repr.Ipv6 r) payload
  pub values : udp_in payload ≡ (ports, octets)

-- it is queued as one over IPv4 is
abbrev pub QueuesDatagramsV6 : ℤ → Host → List Event → Host → Type 0
QueuesDatagramsV6 t old told new =
    (own : HardwareAddress) (frame : List ℕ) (r : Ipv6Repr) (ports : UdpRepr) (octets : List ℕ) (i : ℕ)
    (s : UdpSocket) →
    Takes own t frame old told new → HasDatagramV6 own old frame r ports octets →
    IsAcceptedBy old (Ipv6 r.dst_addr) ports octets i s →
    IsQueued (Ipv6 r.src_addr) ports octets i s old new × (sent_frames told ≡ [])

abbrev pub DatagramsV6AreQueued : Type 0
DatagramsV6AreQueued = (t : ℤ) (old new : Host) (told : List Event) → QueuesDatagramsV6 t old told new

-- if no socket listens at its port, and no raw socket accepts the packet, the call sends the port unreachable error and
-- nothing else. The error quotes the packet's header and the first octets of its payload (RFC 4443 3.1). What it quotes
-- behind options, and that each such datagram brings one, is kept, against RFC 4443 2.4 (c) and (f)
abbrev pub AnswersClosedPortsV6 : ℤ → Host → List Event → Host → Type 0
AnswersClosedPortsV6 t old told new =
    (own : HardwareAddress) (frame : List ℕ) (r : Ipv6Repr) (ports : UdpRepr) (octets : List ℕ)
    (h : HardwareAddress) →
    Takes own t frame old told new → IsToItself own frame → (d : HasDatagramV6 own old frame r ports octets) →
    ipv6.is_unicast r.dst_addr ≡ true →
    ((k : ℕ) (other : UdpSocket) → slice_get old.sockets.places k ≡ Some (Some (Udp other)) →
    other.endpoint.port ≢ ports.dst_port) →
    raw.is_taken (repr.Ipv6 r) old ≡ false → HasWay own (at old t) (Ipv6 r.src_addr) h →
    1280 ≤ ip_mtu_of old.capabilities →
    sent_frames told ≡ ip_frame old h (packet.Ipv6 (record {
      src_addr = r.dst_addr;
      dst_addr = r.src_addr;
      hop_limit = 64;
      payload = Icmpv6 (icmpv6.DstUnreachable PortUnreachableV6 r) (take 1192 d.payload);
    })) ∷ []

abbrev pub ClosedPortsV6AreAnswered : Type 0
ClosedPortsV6AreAnswered = (t : ℤ) (old new : Host) (told : List Event) → AnswersClosedPortsV6 t old told new

-- a neighbour in a network of the host solicits an address assigned to it, and gives its own hardware address. The
-- destination is a solicited-node group of the host or an address assigned to it other than ::1 (RFC 4861 7.2.2)
pub record Solicits (own : EthernetAddress) (H : Host) (frame : List ℕ) (r : Ipv6Repr) (target : Ipv6Address)
    (h : EthernetAddress) : Type 0 where
  pub payload : List ℕ
  pub in_packet : HasPayloadV6 (hardware.Ethernet own) H frame r ip_protocol.Icmpv6 payload
  pub is_message : IsMessage H r payload
  pub values : (icmpv6_in payload).0 ≡ icmpv6.Ndisc (NeighborSolicit target (Some h))
  pub near : in_same_network H.ip_addrs (Ipv6 r.src_addr) ≡ true
  pub by_neighbor : r.hop_limit ≡ 255
  pub hardware : ethernet.is_unicast h ≡ true
  pub target_is_one : ipv6.is_unicast target ≡ true
  pub for_host : (has_solicited_node H.ip_addrs r.dst_addr
      || (is_assigned H.ip_addrs (Ipv6 r.dst_addr) && not (ipv6.is_loopback r.dst_addr))) ≡ true
  pub target_is_own : is_assigned H.ip_addrs (Ipv6 target) ≡ true

-- it is answered by an advertisement, and its sender is known from then on. The advertisement's flag Override is off: kept,
-- against RFC 4861 7.2.4
abbrev pub AnswersSolicitations : ℤ → Host → List Event → Host → Type 0
AnswersSolicitations t old told new =
    (own : EthernetAddress) (frame : List ℕ) (r : Ipv6Repr) (target : Ipv6Address) (h : EthernetAddress) →
    Takes (hardware.Ethernet own) t frame old told new → Solicits own old frame r target h →
    72 ≤ ip_mtu_of old.capabilities →
    (sent_frames told ≡ ip_frame old (hardware.Ethernet h) (packet.Ipv6 (record {
      src_addr = target;
      dst_addr = r.src_addr;
      hop_limit = 255;
      payload = Icmpv6 (icmpv6.Ndisc (NeighborAdvert solicited_flag target (Some own))) [];
    })) ∷ [])
    × (answer_of new.neighbors (Ipv6 r.src_addr) t ≡ Found (hardware.Ethernet h))

abbrev pub SolicitationsAreAnswered : Type 0
SolicitationsAreAnswered = (t : ℤ) (old new : Host) (told : List Event) → AnswersSolicitations t old told new

-- a neighbour advertises its own address to an address assigned to the host, and gives its hardware address, with the
-- flag Override, as an answer to a solicitation has it (RFC 4861 4.4, 7.2.4)
pub record AdvertisesItself (own : EthernetAddress) (H : Host) (frame : List ℕ) (r : Ipv6Repr) (flags : NdiscNeighborFlags)
    (target : Ipv6Address) (h : EthernetAddress) : Type 0 where
  pub payload : List ℕ
  pub in_packet : HasPayloadV6 (hardware.Ethernet own) H frame r ip_protocol.Icmpv6 payload
  pub is_message : IsMessage H r payload
  pub values : (icmpv6_in payload).0 ≡ icmpv6.Ndisc (NeighborAdvert flags target (Some h))
  pub override : bit_and flags.0 0x20 ≡ 0x20
  pub by_neighbor : r.hop_limit ≡ 255
  pub itself : r.src_addr ≡ target
  pub hardware : ethernet.is_unicast h ≡ true
  pub target_is_one : ipv6.is_unicast target ≡ true
  pub for_host : is_assigned H.ip_addrs (Ipv6 r.dst_addr) ≡ true

-- it is a known neighbour after the call that receives it, and nothing is sent: so who was asked for is known once it
-- answers (RFC 4861 7.2.5). That one is known, too, whom nobody asked for, is kept, against RFC 4861 7.2.5
abbrev pub LearnsAdvertisers : ℤ → Host → List Event → Host → Type 0
LearnsAdvertisers t old told new =
    (own : EthernetAddress) (frame : List ℕ) (r : Ipv6Repr) (flags : NdiscNeighborFlags) (target : Ipv6Address)
    (h : EthernetAddress) → Takes (hardware.Ethernet own) t frame old told new →
    AdvertisesItself own old frame r flags target h →
    (sent_frames told ≡ []) × (answer_of new.neighbors (Ipv6 target) t ≡ Found (hardware.Ethernet h))

abbrev pub AdvertisersAreLearnt : Type 0
AdvertisersAreLearnt = (t : ℤ) (old new : Host) (told : List Event) → LearnsAdvertisers t old told new

-- Nothing stays due

-- after a moment, if there is an instant
abbrev pub IsLater : ℤ → Option ℤ → Type 0
IsLater t None = Unit {0}
IsLater t (Some x) = t <ℤ x

-- the socket at an index has one packet less to send than the one that was there before
pub record HasOneLess (i : ℕ) (old new : Host) : Type 0 where
  pub before : Socket
  pub after : Socket
  pub was : slice_get old.sockets.places i ≡ Some (Some before)
  pub is : slice_get new.sockets.places i ≡ Some (Some after)
  pub less : waiting_in after + 1 ≡ waiting_in before

-- after an IGMP report the next group is to be reported, or nothing more
pub data IsFurther : (old new : IgmpReportState) → Type 0 where
  NextGroup : (version : IgmpVersion) (then_at next_at : ℤ) (interval place : ℕ) →
      IsFurther (igmp.ToGeneralQuery version then_at interval place)
      (igmp.ToGeneralQuery version next_at interval (place + 1))
  NoMore : {old : IgmpReportState} → IsFurther old igmp.Inactive

-- what was due at a host's moment is done after a call that sends: no report of a join or a leave, no solicitation and
-- no MLD report is due any more; an IGMP report that was due was sent, and if another one is due that is the next; and
-- a socket that is still due has one packet less to send
pub record IsDone (H new : Host) : Type 0 where
  pub joins : group_poll_at Joining new ≡ None
  pub leaves_reported : group_poll_at Leaving new ≡ None
  pub solicitation : IsLater H.moment (rs_poll_at new)
  pub mld : IsLater H.moment (mld_timeout_of new.mld_report)
  pub igmp : (x : ℤ) → igmp_poll_at H ≡ Some x → x ≤ℤ H.moment → IsFurther H.igmp_report new.igmp_report
  pub sockets : (i : ℕ) (x : ℤ) → SocketDue new i x → x ≤ℤ H.moment → HasOneLess i H new

-- so it is, if every transmit token is granted; each index of the host's socket set has a wait, as in every set
abbrev pub DoesWhatIsDue : ℤ → Host → List Event → Host → Type 0
DoesWhatIsDue t old told new =
    all_granted told ≡ true → length old.sockets.waits ≡ length old.sockets.places → IsDone (at old t) new

abbrev pub DueIsDone : Type 0
DueIsDone =
    (t : ℤ) (answer : PollResult) (old new : Host) (told : List Event) (notes : List Note) →
    Egress t answer old told notes new → DoesWhatIsDue t old told new

-- the first pending fragment is the first frame that is sent

abbrev pub SendsPieces : Host → List Event → Type 0
SendsPieces old told =
    (piece : Piece) (rest : List Piece) → all_granted told ≡ true → old.left ≡ piece ∷ rest →
    (others : List (List ℕ)) × (sent_frames told ≡ piece_frame old piece ∷ others)

abbrev pub PiecesGo : Type 0
PiecesGo =
    (t : ℤ) (answer : PollResult) (old new : Host) (told : List Event) (notes : List Note) →
    Egress t answer old told notes new → SendsPieces old told

-- after a poll without frames received, addresses and routes are in sync with what was learnt from routers:
-- no sync is due any more
abbrev pub PollsSyncSlaac : Type 0
PollsSyncSlaac =
    (t : ℤ) (budget : ℕ) (answer : PollResult) (old new : Host) (told : List Event) (notes : List Note) →
    Polls t budget answer old told notes new → handed_frames told ≡ [] → sync_poll_at (at new t) ≡ None

-- the last call of a poll that sends
pub record EndsIn (t : ℤ) (told : List Event) (new : Host) : Type 0 where
  pub mid : Host
  pub answer : PollResult
  pub front : List Event
  pub told_last : List Event
  pub notes_last : List Note
  pub call : Egress t answer mid told_last notes_last new
  pub behind : told ≡ front ++ told_last

-- each poll with a budget ends in a call that sends, for which the laws above hold
abbrev pub PollsEndInCalls : Type 0
PollsEndInCalls =
    (t : ℤ) (budget : ℕ) (answer : PollResult) (old new : Host) (told : List Event) (notes : List Note) →
    Polls t budget answer old told notes new → 1 ≤ budget → EndsIn t told new

-- what may still be due at a moment after a call that sends: a sync of addresses and routes, which a poll does; a
-- pending fragment; the next IGMP report, whose moment has come; and a socket that has one packet less to send
pub data IsStillDue (H new : Host) : Type 0 where
  StillLine : sync_poll_at new ≡ Some (pos 0) → IsStillDue H new
  StillPiece : (piece : Piece) (rest : List Piece) → new.left ≡ piece ∷ rest → IsStillDue H new
  StillReport : (x : ℤ) → igmp_poll_at new ≡ Some x → x ≤ℤ H.moment → IsStillDue H new
  StillSocket : (i : ℕ) → HasOneLess i H new → IsStillDue H new

-- so whatever `poll_at` names after it, at a moment that has passed, is one of these; and if there is none
-- of them, nothing is due
abbrev pub LittleStaysDue : Type 0
LittleStaysDue =
    (t : ℤ) (answer : PollResult) (old new : Host) (told : List Event) (notes : List Note) (x : ℤ) →
    Egress t answer old told notes new → all_granted told ≡ true →
    length old.sockets.waits ≡ length old.sockets.places → Due (at new t) x → x ≤ℤ t → IsStillDue (at old t) (at new t)

-- Frames from other hosts

-- the frame of a request to a host, or broadcast, whatever its padding
abbrev pub request_frame : EthernetAddress → EthernetAddress → ArpRepr → List ℕ → List ℕ
request_frame source destination r padding =
    header_text (record { src_addr = source; dst_addr = destination; ethertype = protocol.Arp }) ++ (text r ++ padding)

-- such a frame is read as that request, so its octets are answered by those of the answer
abbrev pub RequestFramesAreRead : Type 0
RequestFramesAreRead =
    (own source destination : EthernetAddress) (addrs : List IpCidr) (r : ArpRepr) (padding : List ℕ) →
    length source.0 ≡ 6 → length destination.0 ≡ 6 → is_for own destination ≡ true →
    IsPacket r → r.operation ≡ operation.Request →
    is_assigned addrs (Ipv4 r.target_protocol_addr) ≡ true → ipv4.is_unicast r.source_protocol_addr ≡ true →
    ethernet.is_unicast r.source_hardware_addr ≡ true →
    in_same_network addrs (Ipv4 r.source_protocol_addr) ≡ true →
    AsksByArp own addrs (request_frame source destination r padding) r
