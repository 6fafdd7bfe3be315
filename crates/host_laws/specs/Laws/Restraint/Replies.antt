-- Which replies a received frame may bring: a host tells its hardware address for an own address, and an echo reply, an
-- error or a reset has a cause in the packet that brought it (RFC 826, RFC 4861 7.2.4, RFC 1122 3.2.2, RFC 4443 2.4, RFC
-- 9293 3.5.2). Nothing else is a reply. Where the machine sends more than an RFC allows, as errors of ICMPv6 for packets to groups, nothing is said.
use Rattle.std.specs.Prelude.{◌≡◌, ◌≢◌, ◌⊎◌, ℕ, ◌/◌, ◌%◌, ◌^◌, ◌≤◌, ℤ, true, false}
use Rattle.std.specs.Prelude.{List, [], length, take, drop, slice_get, slice_index, Option, Some, None}
use Rattle.std.specs.List.{AllByRecursion}
use Rattle.ip_wire.specs.Octets.{u16_at}
use Rattle.net_base.specs.Device.{Event}
use Rattle.ip_address.specs.Protocol.{number_of}
use Rattle.ip_address.specs.declared.cidr.IpCidr.{IpCidr}
use Rattle.ip_address.specs.declared.ethernet_address.EthernetAddress.{EthernetAddress}
use Rattle.ip_address.specs.declared.hardware.HardwareAddress.TheVariants as hardware
use Rattle.ip_address.specs.declared.ip.IpAddress.TheVariants as address
use Rattle.ip_address.specs.declared.ipv6.Ipv6Address.{Ipv6Address}
use Rattle.ip_address.specs.declared.protocol.IpProtocol.{IpProtocol}
use Rattle.ip_address.specs.declared.protocol.IpProtocol.TheVariants as protocol
use Rattle.ip_address.specs.declared.protocol.IpVersion.{IpVersion}
use Rattle.ip_address.specs.declared.protocol.IpVersion.TheVariants as version
use Rattle.ip_wire.specs.declared.arp.ArpOperation.TheVariants as operation
use Rattle.ip_wire.specs.declared.arp.ArpRepr.{ArpRepr}
use Rattle.ip_wire.specs.declared.ethernet.EthernetProtocol.TheVariants as ethertype
use Rattle.ip_wire.specs.declared.ipv4_packet.Ipv4Repr.{Ipv4Repr}
use Rattle.ip_wire.specs.declared.tcp.TcpRepr.{TcpRepr}
use Rattle.ip_wire.specs.Arp.{IsArp, arp_in}
use Rattle.ip_wire.specs.Ethernet.{header_in}
use Rattle.ip_wire.specs.Ipv4Packet.{ipv4_in, is_fragment}
use Rattle.ip_wire.specs.HopByHop.{hop_by_hop_in, first_failure}
use Rattle.ip_wire.specs.declared.hop_by_hop.Ipv6OptionFailureType.TheVariants.{Skip}
use Rattle.ip_wire.specs.Ipv6Packet.{ipv6_in}
use Rattle.control_wire.specs.declared.icmpv4.Icmpv4DstUnreachable.{Icmpv4DstUnreachable}
use Rattle.control_wire.specs.declared.icmpv4.Icmpv4Repr.{Icmpv4Repr}
use Rattle.control_wire.specs.declared.icmpv4.Icmpv4Repr.TheVariants.{EchoReply, DstUnreachable}
use Rattle.control_wire.specs.Icmpv4 as icmpv4
use Rattle.control_wire.specs.Icmpv6 as icmpv6
use Rattle.control_wire.specs.declared.icmpv6.Icmpv6Repr.{Icmpv6Repr}
use Rattle.control_wire.specs.declared.icmpv6.Icmpv6Repr.TheVariants as v6
use Rattle.control_wire.specs.declared.ndisc.NdiscNeighborFlags.{NdiscNeighborFlags}
use Rattle.control_wire.specs.declared.ndisc.NdiscRepr.{NdiscRepr}
use Rattle.control_wire.specs.declared.ndisc.NdiscRepr.TheVariants.{NeighborAdvert}
use Rattle.sockets.specs.declared.socket.SocketOf.TheVariants.{Raw, Icmp, Udp, Tcp}
use Rattle.sockets.specs.Tcp.{TcpSocket}
use Rattle.host_machine.specs.Context.Note.{Note}
use Rattle.host_machine.specs.Context.Host.{Host, Storage}
use Rattle.host_machine.specs.Receive.Reply.{Reply, Arp, Ip}
use Rattle.host_machine.specs.Packet.Packet.{IpPayload, Packet, PacketV4, PacketV6}
use Rattle.host_machine.specs.Packet.Packet as packet
use Rattle.host_laws.specs.Laws.Restraint.Foreign.{IsNoBroadcastOf}
use Rattle.host_laws.specs.Laws.Restraint.Neighbors.{IsOwn}
use Rattle.host_laws.specs.Laws.Restraint.Readings.{CarriesV4, CarriesV6, Receives}
use Rattle.host_laws.specs.Laws.Restraint.ResetNumbers.{IsResetFor}

-- Hardware addresses

-- an ARP reply: the frame asked for an address of the host, and its sender is told the host's hardware address for it
pub record AnswersByArp (own : EthernetAddress) (H : Host) (frame : List ℕ) (r : ArpRepr) : Type 0 where
  pub type : (header_in frame).ethertype ≡ ethertype.Arp
  pub is_packet : IsArp (drop 14 frame)
  pub asked : (arp_in (drop 14 frame)).operation ≡ operation.Request
  pub reply : r.operation ≡ operation.Reply
  pub itself : r.source_hardware_addr ≡ own
  pub own_address : IsOwn H (address.Ipv4 r.source_protocol_addr)
  pub asked_for : r.source_protocol_addr ≡ (arp_in (drop 14 frame)).target_protocol_addr
  pub sender : r.target_hardware_addr ≡ (arp_in (drop 14 frame)).source_hardware_addr
  pub sender_address : r.target_protocol_addr ≡ (arp_in (drop 14 frame)).source_protocol_addr

-- each ARP packet in reply to a frame is one
abbrev pub TellsItselfByArp : List ℕ → Host → Option Reply → Type 0
TellsItselfByArp frame old reply = (own : EthernetAddress) (r : ArpRepr) →
    old.hardware_addr ≡ hardware.Ethernet own → reply ≡ Some (Arp r) → AnswersByArp own old frame r

abbrev pub ArpRepliesTellItself : Type 0
ArpRepliesTellItself =
    (t : ℤ) (frame : List ℕ) (old new : Host) (told : List Event) (notes : List Note) →
    (w : Receives t frame old told notes new) → TellsItselfByArp frame old w.call.response.reply

-- an advertisement from an address of the host, with the host's hardware address for it, to the sender of a packet that
-- no router forwarded
pub record AdvertisesItself (own : EthernetAddress) (H : Host) (frame : List ℕ) (q : PacketV6)
    (message : NdiscRepr) : Type 0 where
  pub packet : List ℕ
  pub carried : CarriesV6 H.hardware_addr frame packet
  pub near : slice_index packet 7 ≡ 255
  pub to_sender : q.dst_addr ≡ (ipv6_in packet).0.src_addr
  pub flags : NdiscNeighborFlags
  pub target : Ipv6Address
  pub message_is : message ≡ NeighborAdvert flags target (Some own)
  pub own_address : IsOwn H (address.Ipv6 target)
  pub from_it : q.src_addr ≡ target
  pub hop_limit : q.hop_limit ≡ 255

-- each message of neighbour discovery in reply to a frame is one
abbrev pub AdvertisesOnlyItself : List ℕ → Host → Option Reply → Type 0
AdvertisesOnlyItself frame old reply =
    (own : EthernetAddress) (q : PacketV6) (message : NdiscRepr) (octets : List ℕ) →
    old.hardware_addr ≡ hardware.Ethernet own → reply ≡ Some (Ip (packet.Ipv6 q)) →
    q.payload ≡ packet.Icmpv6 (v6.Ndisc message) octets → AdvertisesItself own old frame q message

abbrev pub AdvertisementsTellItself : Type 0
AdvertisementsTellItself =
    (t : ℤ) (frame : List ℕ) (old new : Host) (told : List Event) (notes : List Note) →
    (w : Receives t frame old told notes new) → AdvertisesOnlyItself frame old w.call.response.reply

-- Errors

-- an IPv4 address of one host, as far as a host with these addresses can know
pub record IsOneHostV4 (own : List IpCidr) (a : ℕ) : Type 0 where
  pub not_nobody : a ≢ 0
  pub not_all : a ≢ 0xffff_ffff
  pub no_group : a / 2 ^ 28 ≢ 14
  pub no_broadcast : AllByRecursion (IsNoBroadcastOf a) own

-- the header and the payload of the datagram that an IPv4 packet brought: they are its own; or it was the last fragment
-- missing, and they are those of the whole
pub data BringsV4 (packet : List ℕ) (r : Ipv4Repr) (payload : List ℕ) : Type 0 where
  Whole : is_fragment (ipv4_in packet).1 ≡ false → r ≡ (ipv4_in packet).0 → payload ≡ (ipv4_in packet).2 →
      BringsV4 packet r payload
  Reassembled : is_fragment (ipv4_in packet).1 ≡ true →
      r ≡ record (ipv4_in packet).0 { payload_len = length payload } → BringsV4 packet r payload

-- a socket isn't a raw one for packets of this version and protocol
abbrev pub IsNoRawFor : IpVersion → IpProtocol → Storage → Type 0
IsNoRawFor v p None = Unit {0}
IsNoRawFor v p (Some (Raw s)) = s.version ≡ v → number_of s.protocol ≢ number_of p
IsNoRawFor v p (Some (Icmp s)) = Unit {0}
IsNoRawFor v p (Some (Udp s)) = Unit {0}
IsNoRawFor v p (Some (Tcp s)) = Unit {0}

-- an error is sent to the sender of a packet, and from the packet's destination; both are addresses of one host. The
-- packet had no message of ICMP, and no raw socket took it. The error quotes its header and the first octets after it
pub record HasCauseV4 (H : Host) (frame : List ℕ) (q : PacketV4) (message : Icmpv4Repr)
    (octets : List ℕ) : Type 0 where
  pub packet : List ℕ
  pub header : Ipv4Repr
  pub payload : List ℕ
  pub carried : CarriesV4 H.hardware_addr frame packet
  pub brings : BringsV4 packet header payload
  pub no_message : header.next_header ≢ protocol.Icmp
  pub sender : IsOneHostV4 H.ip_addrs header.src_addr.bits
  pub receiver : IsOneHostV4 H.ip_addrs header.dst_addr.bits
  pub untaken : AllByRecursion (IsNoRawFor version.Ipv4 header.next_header) H.sockets.places
  pub to_sender : q.dst_addr ≡ header.src_addr
  pub from_receiver : q.src_addr ≡ header.dst_addr
  pub reason : Icmpv4DstUnreachable
  pub quotes : message ≡ DstUnreachable reason header
  pub quotes_payload : octets ≡ take 528 payload

-- each message of ICMP in reply to a frame, but an echo reply, is such an error
abbrev pub SendsErrorsWithCause : List ℕ → Host → Option Reply → Type 0
SendsErrorsWithCause frame old reply =
    (q : PacketV4) (message : Icmpv4Repr) (octets : List ℕ) →
    reply ≡ Some (Ip (packet.Ipv4 q)) → q.payload ≡ packet.Icmpv4 message octets →
    icmpv4.type_of message ≢ 0 → HasCauseV4 old frame q message octets

abbrev pub ErrorsHaveCause : Type 0
ErrorsHaveCause =
    (t : ℤ) (frame : List ℕ) (old new : Host) (told : List Event) (notes : List Note) →
    (w : Receives t frame old told notes new) → SendsErrorsWithCause frame old w.call.response.reply

-- an echo reply is sent to the sender of an echo request that the frame brought, and has its identifier, its sequence
-- number and its data (RFC 792, RFC 1122 3.2.2.6)
pub record AnswersEchoV4 (H : Host) (frame : List ℕ) (q : PacketV4) (message : Icmpv4Repr)
    (octets : List ℕ) : Type 0 where
  pub packet : List ℕ
  pub header : Ipv4Repr
  pub request : List ℕ
  pub carried : CarriesV4 H.hardware_addr frame packet
  pub brings : BringsV4 packet header request
  pub of_icmp : header.next_header ≡ protocol.Icmp
  pub type : slice_index request 0 ≡ 8
  pub to_sender : q.dst_addr ≡ header.src_addr
  pub echoes : message ≡ EchoReply (u16_at request 4) (u16_at request 6)
  pub data_is : octets ≡ drop 8 request

-- each echo reply to a frame is one
abbrev pub SendsEchoesWithCause : List ℕ → Host → Option Reply → Type 0
SendsEchoesWithCause frame old reply =
    (q : PacketV4) (message : Icmpv4Repr) (octets : List ℕ) →
    reply ≡ Some (Ip (packet.Ipv4 q)) → q.payload ≡ packet.Icmpv4 message octets →
    icmpv4.type_of message ≡ 0 → AnswersEchoV4 old frame q message octets

abbrev pub EchoesHaveCause : Type 0
EchoesHaveCause =
    (t : ℤ) (frame : List ℕ) (old new : Host) (told : List Event) (notes : List Note) →
    (w : Receives t frame old told notes new) → SendsEchoesWithCause frame old w.call.response.reply

-- the protocol of the payload of an IPv6 packet, and the payload: after the header, or after hop-by-hop options
pub data BringsV6 (packet : List ℕ) (p : IpProtocol) (payload : List ℕ) : Type 0 where
  AfterHeader : p ≡ (ipv6_in packet).0.next_header → payload ≡ (ipv6_in packet).1 → BringsV6 packet p payload
  AfterOptions : p ≡ (hop_by_hop_in (ipv6_in packet).1).0.next_header →
      payload ≡ (hop_by_hop_in (ipv6_in packet).1).1 → BringsV6 packet p payload

-- why an error was sent: for a payload that is no message of ICMPv6, of a packet that no raw socket took; or for an
-- option that isn't to be skipped, which the error quotes with the octets after it
pub data HasReasonV6 (H : Host) (packet : List ℕ) (message : Icmpv6Repr) (octets : List ℕ) : Type 0 where
  OfPayload : (p : IpProtocol) (payload : List ℕ) → BringsV6 packet p payload → p ≢ protocol.Icmpv6 →
      AllByRecursion (IsNoRawFor version.Ipv6 (ipv6_in packet).0.next_header) H.sockets.places →
      octets ≡ take 1192 payload → HasReasonV6 H packet message octets
  OfOption : first_failure (hop_by_hop_in (ipv6_in packet).1).0.options.items ≢ Skip →
      octets ≡ take 1192 (ipv6_in packet).1 → HasReasonV6 H packet message octets

-- an error is sent to the sender of a packet, one host's address
pub record HasCauseV6 (H : Host) (frame : List ℕ) (q : PacketV6) (message : Icmpv6Repr)
    (octets : List ℕ) : Type 0 where
  pub packet : List ℕ
  pub carried : CarriesV6 H.hardware_addr frame packet
  pub not_nobody : (ipv6_in packet).0.src_addr.bits ≢ 0
  pub no_group : (ipv6_in packet).0.src_addr.bits / 2 ^ 120 ≢ 0xff
  pub to_sender : q.dst_addr ≡ (ipv6_in packet).0.src_addr
  pub reason : HasReasonV6 H packet message octets

-- each error of ICMPv6, types 1 to 4, in reply to a frame is one
abbrev pub SendsErrorsV6WithCause : List ℕ → Host → Option Reply → Type 0
SendsErrorsV6WithCause frame old reply =
    (q : PacketV6) (message : Icmpv6Repr) (octets : List ℕ) →
    reply ≡ Some (Ip (packet.Ipv6 q)) → q.payload ≡ packet.Icmpv6 message octets →
    icmpv6.type_of message ≤ 4 → HasCauseV6 old frame q message octets

abbrev pub ErrorsV6HaveCause : Type 0
ErrorsV6HaveCause =
    (t : ℤ) (frame : List ℕ) (old new : Host) (told : List Event) (notes : List Note) →
    (w : Receives t frame old told notes new) → SendsErrorsV6WithCause frame old w.call.response.reply

-- the same over IPv6 (RFC 4443 4.2)
pub record AnswersEchoV6 (H : Host) (frame : List ℕ) (q : PacketV6) (message : Icmpv6Repr)
    (octets : List ℕ) : Type 0 where
  pub packet : List ℕ
  pub request : List ℕ
  pub carried : CarriesV6 H.hardware_addr frame packet
  pub brings : BringsV6 packet protocol.Icmpv6 request
  pub type : slice_index request 0 ≡ 128
  pub to_sender : q.dst_addr ≡ (ipv6_in packet).0.src_addr
  pub echoes : message ≡ v6.EchoReply (u16_at request 4) (u16_at request 6)
  pub data_is : octets ≡ drop 8 request

abbrev pub SendsEchoesV6WithCause : List ℕ → Host → Option Reply → Type 0
SendsEchoesV6WithCause frame old reply =
    (q : PacketV6) (message : Icmpv6Repr) (octets : List ℕ) →
    reply ≡ Some (Ip (packet.Ipv6 q)) → q.payload ≡ packet.Icmpv6 message octets →
    icmpv6.type_of message ≡ 129 → AnswersEchoV6 old frame q message octets

abbrev pub EchoesV6HaveCause : Type 0
EchoesV6HaveCause =
    (t : ℤ) (frame : List ℕ) (old new : Host) (told : List Event) (notes : List Note) →
    (w : Receives t frame old told notes new) → SendsEchoesV6WithCause frame old w.call.response.reply

-- Kinds

-- what a reply may carry: an echo reply or an error of ICMP; the same of ICMPv6, or an advertisement of an address; or a
-- segment. So no frame is answered by a report of a group, by a datagram, by a request or by a raw packet
abbrev pub IsOfReplyKind : IpPayload → Type 0
IsOfReplyKind (packet.Icmpv4 message octets) =
    (icmpv4.type_of message ≡ 0) ⊎ (icmpv4.type_of message ≡ 3)
IsOfReplyKind (packet.Icmpv6 message octets) =
    (icmpv6.type_of message ≤ 4) ⊎ (icmpv6.type_of message ≡ 129) ⊎ (icmpv6.type_of message ≡ 136)
IsOfReplyKind (packet.Tcp header octets) = Unit {0}
IsOfReplyKind (packet.Udp header octets) = ⊥
IsOfReplyKind (packet.Raw number octets) = ⊥
IsOfReplyKind (packet.Igmp message) = ⊥
IsOfReplyKind (packet.Mld count records) = ⊥

-- each packet in reply to a frame carries one of these
abbrev pub SendsReplyKinds : Option Reply → Type 0
SendsReplyKinds reply = (q : Packet) → reply ≡ Some (Ip q) → IsOfReplyKind (packet.payload_of q)

abbrev pub RepliesAreOfKinds : Type 0
RepliesAreOfKinds =
    (t : ℤ) (frame : List ℕ) (old new : Host) (told : List Event) (notes : List Note) →
    (w : Receives t frame old told notes new) → SendsReplyKinds w.call.response.reply

-- Resets

-- the frame brought this segment, in a packet of this version; between these two addresses, as numbers
pub data BringsSegment (H : Host) (frame segment : List ℕ) : IpVersion → IpProtocol → ℕ → ℕ → Type 0 where
  OverIpv4 : (packet : List ℕ) (r : Ipv4Repr) → CarriesV4 H.hardware_addr frame packet → BringsV4 packet r segment →
      r.next_header ≡ protocol.Tcp →
      BringsSegment H frame segment version.Ipv4 r.next_header r.src_addr.bits r.dst_addr.bits
  OverIpv6 : (packet : List ℕ) → CarriesV6 H.hardware_addr frame packet → BringsV6 packet protocol.Tcp segment →
      BringsSegment H frame segment version.Ipv6 (ipv6_in packet).0.next_header
      (ipv6_in packet).0.src_addr.bits (ipv6_in packet).0.dst_addr.bits

-- a TCP socket of the host was aborted
abbrev pub HasAborted : Host → Type 0
HasAborted H = (i : ℕ) × (s : TcpSocket)
    × (slice_get H.sockets.places i ≡ Some (Some (Tcp s))) × (s.is_aborted ≡ true)

-- a packet goes to the sender of another one, and comes from where that went
abbrev pub GoesBack : IpVersion → ℕ → ℕ → Packet → Type 0
GoesBack version.Ipv4 sender receiver (packet.Ipv4 q) = (q.dst_addr.bits ≡ sender) × (q.src_addr.bits ≡ receiver)
GoesBack version.Ipv6 sender receiver (packet.Ipv6 q) = (q.dst_addr.bits ≡ sender) × (q.src_addr.bits ≡ receiver)
GoesBack version.Ipv4 sender receiver (packet.Ipv6 q) = ⊥
GoesBack version.Ipv6 sender receiver (packet.Ipv4 q) = ⊥

-- a segment is sent for one that is no reset, between specified addresses: its reset, back to its sender and without
-- data. No raw socket took the packet, unless an aborted TCP socket answers. Where the segment was sent to a broadcast
-- or a group, the reset comes from that address: kept, against RFC 1122 4.2.3.10
pub record HasSegmentCause (H : Host) (frame : List ℕ) (q : Packet) (header : TcpRepr)
    (octets : List ℕ) : Type 0 where
  pub segment : List ℕ
  pub of_version : IpVersion
  pub next : IpProtocol
  pub sender : ℕ
  pub receiver : ℕ
  pub brings : BringsSegment H frame segment of_version next sender receiver
  pub no_reset : slice_index segment 13 / 4 % 2 ≡ 0
  pub from_someone : sender ≢ 0
  pub to_someone : receiver ≢ 0
  pub untaken : AllByRecursion (IsNoRawFor of_version next) H.sockets.places ⊎ HasAborted H
  pub goes_back : GoesBack of_version sender receiver q
  pub header_is : IsResetFor segment header
  pub without_data : octets ≡ []

-- each segment in reply to a frame, so each reset, is one
abbrev pub SendsResetsWithCause : List ℕ → Host → Option Reply → Type 0
SendsResetsWithCause frame old reply = (q : Packet) (header : TcpRepr) (octets : List ℕ) →
    reply ≡ Some (Ip q) → packet.payload_of q ≡ packet.Tcp header octets → HasSegmentCause old frame q header octets

abbrev pub ResetsHaveCause : Type 0
ResetsHaveCause =
    (t : ℤ) (frame : List ℕ) (old new : Host) (told : List Event) (notes : List Note) →
    (w : Receives t frame old told notes new) → SendsResetsWithCause frame old w.call.response.reply
