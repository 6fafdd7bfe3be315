-- A host that leaves TCP to raw sockets replies with no segment.
use Rattle.std.proofs.Common.{◌≡◌, ℕ, zero, suc, ◌≤◌, ◌⊎◌, inl, inr, Bool, true, false, List, [], ◌∷◌, refl, sym, ◌∙◌, ap, subst, drop, length}
use Rattle.std.proofs.Common.{Option, Some, None, slice_get, option_map, option_and_then, if◌then◌else◌}
use Rattle.std.specs.Prelude.{ℤ, ◌||◌, ◌==◌}
use Rattle.std.specs.List.{AllByRecursion, list_any}
use Rattle.std.proofs.lemmas.Bool.Decides.{Decides-eqb}
use Rattle.net_base.specs.Checksum.{is_tx}
use Rattle.net_base.specs.Device.{Reception, Frame, Nothing, Withheld, Received, handed_frames}
use Rattle.ip_address.specs.declared.cidr.IpCidr.{IpCidr}
use Rattle.ip_address.specs.declared.ethernet_address.EthernetAddress.{EthernetAddress}
use Rattle.ip_address.specs.declared.hardware.HardwareAddress.{HardwareAddress}
use Rattle.ip_address.specs.declared.hardware.HardwareAddress.TheVariants as hardware
use Rattle.ip_address.specs.declared.ipv4.Ipv4Address.{Ipv4Address}
use Rattle.ip_address.specs.declared.ipv6.Ipv6Address.{Ipv6Address}
use Rattle.ip_address.specs.declared.protocol.IpProtocol.{IpProtocol}
use Rattle.ip_address.specs.declared.protocol.IpProtocol.TheVariants as protocol
use Rattle.ip_address.specs.declared.protocol.IpVersion.{IpVersion}
use Rattle.ip_address.specs.declared.protocol.IpVersion.TheVariants as version
use Rattle.ip_address.specs.Ipv6.{is_multicast}
use Rattle.ip_address.specs.Protocol.{number_of}
use Rattle.ip_wire.specs.declared.arp.ArpOperation.{ArpOperation}
use Rattle.ip_wire.specs.declared.arp.ArpOperation.TheVariants as operation
use Rattle.ip_wire.specs.declared.arp.ArpRepr.{ArpRepr}
use Rattle.ip_wire.specs.Arp.{arp_in}
use Rattle.ip_wire.specs.declared.ethernet.EthernetProtocol.{EthernetProtocol}
use Rattle.ip_wire.specs.declared.ethernet.EthernetProtocol.TheVariants as ethertype
use Rattle.ip_wire.specs.Ethernet.{header_in}
use Rattle.ip_wire.specs.declared.ip_packet.IpRepr.{IpRepr}
use Rattle.ip_wire.specs.declared.ip_packet.IpRepr.TheVariants as repr
use Rattle.ip_wire.specs.declared.ipv4_packet.Ipv4Repr.{Ipv4Repr}
use Rattle.ip_wire.specs.declared.ipv4_packet.Ipv4Fragment.{Ipv4Fragment}
use Rattle.ip_wire.specs.IpPacket.{next_header, version_of}
use Rattle.ip_wire.specs.Tcp.{tcp_in}
use Rattle.ip_wire.specs.declared.hop_by_hop.Ipv6OptionFailureType.{Ipv6OptionFailureType}
use Rattle.ip_wire.specs.declared.hop_by_hop.Ipv6OptionFailureType.TheVariants.{Skip, Discard, DiscardSendAll, DiscardSendUnicast}
use Rattle.ip_wire.specs.declared.ipv6_packet.Ipv6Repr.{Ipv6Repr}
use Rattle.ip_wire.specs.HopByHop.{hop_by_hop_in}
use Rattle.ip_wire.specs.Ipv6Packet.{ipv6_in}
use Rattle.control_wire.specs.declared.icmpv6.Icmpv6ParamProblem.TheVariants.{UnrecognizedOption}
use Rattle.control_wire.specs.declared.icmpv6.Icmpv6Repr.{Icmpv6Repr}
use Rattle.control_wire.specs.declared.icmpv6.Icmpv6Repr.TheVariants as icmpv6_message
use Rattle.control_wire.specs.declared.ndisc.NdiscRepr.{NdiscRepr}
use Rattle.control_wire.specs.Icmpv6.{icmpv6_in}
use Rattle.control_wire.specs.declared.mld.MldRepr.{MldRepr}
use Rattle.control_wire.specs.declared.mld.MldRepr.TheVariants.{Query, Report}
use Rattle.control_wire.specs.declared.icmpv4.Icmpv4DstUnreachable.{Icmpv4DstUnreachable}
use Rattle.control_wire.specs.declared.icmpv4.Icmpv4DstUnreachable.TheVariants.{PortUnreachable}
use Rattle.control_wire.specs.declared.icmpv4.Icmpv4Repr.{Icmpv4Repr}
use Rattle.control_wire.specs.declared.icmpv4.Icmpv4Repr.TheVariants.{EchoRequest, EchoReply, DstUnreachable, TimeExceeded}
use Rattle.control_wire.specs.Icmpv4.{icmpv4_in}
use Rattle.sockets.specs.Raw.{RawSocket}
use Rattle.sockets.specs.Raw as raw_socket
use Rattle.sockets.specs.Kinds.{down_raw}
use Rattle.sockets.specs.declared.socket.SocketOf.TheVariants.{Raw, Icmp, Udp, Tcp}
use Rattle.host_machine.specs.Context.Note.{Note}
use Rattle.host_machine.specs.Context.Host.{Host, SocketSet, Storage}
use Rattle.host_machine.specs.Receive.Reply.{Reply, Arp, Ip, IsDropped}
use Rattle.host_machine.specs.Discovery.Renewal.{sender_renewed}
use Rattle.host_machine.specs.Sockets.Raw as raw
use Rattle.host_machine.specs.Discovery.Arp.{ProcessesArp}
use Rattle.host_machine.specs.Discovery.Arp as arp
use Rattle.host_machine.specs.Icmp.Icmpv4.{ProcessesIcmpv4, answer_to, message_back, reply_source, quotation_of, unreachable}
use Rattle.host_machine.specs.Icmp.Icmpv4 as icmpv4
use Rattle.host_machine.specs.Icmp.Icmpv6.{ProcessesIcmpv6, ProcessesMessage}
use Rattle.host_machine.specs.Icmp.Icmpv6 as icmpv6
use Rattle.host_machine.specs.Discovery.Ndisc.{ProcessesNdisc, ProcessesNdiscMessage, advertisement_of, answer_by, is_target}
use Rattle.host_machine.specs.Discovery.Ndisc as ndisc
use Rattle.host_machine.specs.Icmp.Unreachable.{port_unreachable}
use Rattle.host_machine.specs.Receive.Ethernet.{ProcessesEthertype, ProcessesFrame, is_for}
use Rattle.host_machine.specs.Receive.Ethernet as ethernet
use Rattle.host_machine.specs.Receive.Ipv4 as ipv4
use Rattle.host_machine.specs.Receive.Ipv6 as ipv6
use Rattle.host_machine.specs.Icmp.HopByHop as hop_by_hop_rules
use Rattle.host_machine.specs.Sockets.Tcp.{ProcessesTcp}
use Rattle.host_machine.specs.Sockets.Tcp as tcp
use Rattle.host_machine.specs.Sockets.Udp.{ProcessesUdp}
use Rattle.host_machine.specs.Sockets.Udp as udp
use Rattle.host_machine.specs.Packet.Packet.{IpPayload, payload_of}
use Rattle.host_machine.specs.Packet.Packet as packet
use Rattle.host_machine.specs.Multicast.Igmp as igmp
use Rattle.host_machine.specs.Multicast.Mld as mld_rules
use Rattle.host_machine.specs.Interface.Ingress.{Takes}
use Rattle.host_laws.specs.Deliveries.{CarriesIpv6}
use Rattle.host_laws.specs.Deliveries as spec
use Rattle.host_laws.specs.RawArrivals.{with_arrivals}
use Rattle.host_laws.specs.RawPackets.{HasRaw, HasNoSegmentAfterOptions, LeavesSegments, TakesSegments}
use Rattle.host_laws.proofs.Places.{kind_in}
use Rattle.host_laws.proofs.RawHandover.{Speaker, ByRaw, ByTcp, changed, no_tcp, raw_heard, sender_same, speaker, speaker_at}

-- a payload that is a segment, and a reply that is none
abbrev pub is_segment : IpPayload → Bool
is_segment (packet.Icmpv4 message octets) = false
is_segment (packet.Icmpv6 message octets) = false
is_segment (packet.Udp header octets) = false
is_segment (packet.Tcp header octets) = true
is_segment (packet.Raw number octets) = false
is_segment (packet.Igmp message) = false
is_segment (packet.Mld count records) = false

abbrev pub IsNoSegment : Option Reply → Type 0
IsNoSegment None = Unit {0}
IsNoSegment (Some (Arp r)) = Unit {0}
IsNoSegment (Some (Ip p)) = is_segment (payload_of p) ≡ false

none_is : {reply : Option Reply} → reply ≡ None → IsNoSegment reply
none_is e = rw e tt

some_is : {reply : Option Reply} (o : Option Reply) → reply ≡ o → IsNoSegment o → IsNoSegment reply
some_is o e i = rw e i

drop_is : {H new : Host} {reply : Option Reply} {notes : List Note} → IsDropped H reply notes new → IsNoSegment reply
drop_is d = none_is d.silent

-- errors and messages of ICMP
icmpv4_back : (r : Ipv4Repr) (m : Icmpv4Repr) (octets : List ℕ) (o : Option Ipv4Address) → IsNoSegment (option_map (message_back r m octets) o)
icmpv4_back r m octets None = tt
icmpv4_back r m octets (Some a) = refl

refusal : (handled_by_raw_socket : Bool) (own : List IpCidr) (reason : Icmpv4DstUnreachable) (r : Ipv4Repr) (payload : List ℕ) →
    IsNoSegment (unreachable handled_by_raw_socket own reason r payload)
refusal true own reason r payload = tt
refusal false own reason r payload = icmpv4_back r (DstUnreachable reason r) (quotation_of payload) (reply_source own r (DstUnreachable reason r))

port_refusal : (handled_by_raw_socket : Bool) (own : List IpCidr) (r : IpRepr) (payload : List ℕ) →
    IsNoSegment (port_unreachable handled_by_raw_socket own r payload)
port_refusal handled_by_raw_socket own (repr.Ipv4 r) payload = refusal handled_by_raw_socket own PortUnreachable r payload
port_refusal true own (repr.Ipv6 r) payload = tt
port_refusal false own (repr.Ipv6 r) payload = refl

unrecognized : (handled_by_raw_socket : Bool) (own : List IpCidr) (r : Ipv6Repr) (payload : List ℕ) →
    IsNoSegment (ipv6.unrecognized_next_header handled_by_raw_socket own r payload)
unrecognized true own r payload = tt
unrecognized false own r payload = refl

option_refusal : (failure : Ipv6OptionFailureType) (own : List IpCidr) (r : Ipv6Repr) (payload : List ℕ) →
    IsNoSegment (hop_by_hop_rules.unknown_option failure own r payload)
option_refusal Skip own r payload = tt
option_refusal Discard own r payload = tt
option_refusal DiscardSendAll own r payload = refl
option_refusal DiscardSendUnicast own r payload = by (is_multicast r.dst_addr) where
  by : (b : Bool) → IsNoSegment (if b then None else Some (icmpv6.problem own UnrecognizedOption r payload))
  by true = tt
  by false = refl

udp_is : {b : Bool} {r : IpRepr} {H new : Host} {octets : List ℕ} {reply : Option Reply} {notes : List Note} →
    ProcessesUdp b r H octets reply notes new → IsNoSegment reply
udp_is (udp.Malformed m d) = drop_is d
udp_is (udp.Delivered places u f e n s) = none_is e
udp_is {b} {r} {H} {new} {octets} (udp.NotAccepted u none e n s) = some_is _ e (port_refusal b H.ip_addrs r octets)

answered : (own : List IpCidr) (r : Ipv4Repr) (m : Icmpv4Repr) (octets : List ℕ) → IsNoSegment (answer_to own r m octets)
answered own r (EchoRequest ident seq_no) octets = icmpv4_back r (EchoReply ident seq_no) octets (reply_source own r (EchoReply ident seq_no))
answered own r (EchoReply ident seq_no) octets = tt
answered own r (DstUnreachable reason header) octets = tt
answered own r (TimeExceeded code header) octets = tt

icmpv4_is : {r : Ipv4Repr} {H new : Host} {octets : List ℕ} {reply : Option Reply} {notes : List Note} →
    ProcessesIcmpv4 r H octets reply notes new → IsNoSegment reply
icmpv4_is (icmpv4.Malformed m d) = drop_is d
icmpv4_is {r} {H} {new} {octets} (icmpv4.Taken i e n s) = some_is _ e (answered H.ip_addrs r (icmpv4_in octets).0 (icmpv4_in octets).1)

igmp_is : {r : Ipv4Repr} {H new : Host} {octets : List ℕ} {reply : Option Reply} {notes : List Note} →
    igmp.ProcessesIgmp r H octets reply notes new → IsNoSegment reply
igmp_is (igmp.Malformed m d) = drop_is d
igmp_is (igmp.Taken i e n s) = none_is e

solicited : (own : EthernetAddress) (H : Host) (r : Ipv6Repr) (target : Ipv6Address) → IsNoSegment (answer_by own H r target)
solicited own H r target = by (is_target H r target) where
  by : (b : Bool) → IsNoSegment (if b then Some (Ip (advertisement_of own r target)) else None)
  by true = refl
  by false = tt

neighbor_is : {own : EthernetAddress} {r : Ipv6Repr} {message : NdiscRepr} {H new : Host} {reply : Option Reply} {notes : List Note} →
    ProcessesNdiscMessage own r H reply notes new message → IsNoSegment reply
neighbor_is (ndisc.Advertised flags target lladdr l e n) = none_is e
neighbor_is (ndisc.NoUnicast target lladdr nobody d) = drop_is d
neighbor_is {own} {r} {message} {H} (ndisc.Solicited target lladdr specified l e n) = some_is _ e (solicited own H r target)

ndisc_is : {r : Ipv6Repr} {message : NdiscRepr} {H new : Host} {reply : Option Reply} {notes : List Note} →
    ProcessesNdisc r message H reply notes new → IsNoSegment reply
ndisc_is (ndisc.FromAfar far d) = drop_is d
ndisc_is (ndisc.WithoutAddresses without d) = drop_is d
ndisc_is (ndisc.FromNeighbor own near mine h) = neighbor_is h

mld_is : (r : Ipv6Repr) (m : MldRepr) (H : Host) (reply : Option Reply) (notes : List Note) (new : Host) →
    mld_rules.ProcessesMld r m H reply notes new → IsNoSegment reply
mld_is r (Query code group) H reply notes new t = none_is t.0
mld_is r (Report count) H reply notes new t = drop_is t

message_is : (r : Ipv6Repr) (m : Icmpv6Repr) (octets : List ℕ) (H : Host) (reply : Option Reply) (notes : List Note) (new : Host) →
    ProcessesMessage r m octets H reply notes new → IsNoSegment reply
message_is r (icmpv6_message.EchoRequest ident seq_no) octets H reply notes new t = some_is _ t.0 refl
message_is r (icmpv6_message.Ndisc message) octets H reply notes new t = ndisc_is t
message_is r (icmpv6_message.Router message) octets H reply notes new t = none_is t.0
message_is r (icmpv6_message.Mld message) octets H reply notes new t = mld_is r message H reply notes new t
message_is r (icmpv6_message.EchoReply ident seq_no) octets H reply notes new t = drop_is t
message_is r (icmpv6_message.DstUnreachable reason header) octets H reply notes new t = drop_is t
message_is r (icmpv6_message.PktTooBig mtu header) octets H reply notes new t = drop_is t
message_is r (icmpv6_message.TimeExceeded code header) octets H reply notes new t = drop_is t
message_is r (icmpv6_message.ParamProblem reason pointer header) octets H reply notes new t = drop_is t

icmpv6_is : {r : Ipv6Repr} {H new : Host} {octets : List ℕ} {reply : Option Reply} {notes : List Note} →
    ProcessesIcmpv6 r H octets reply notes new → IsNoSegment reply
icmpv6_is (icmpv6.Malformed m d) = drop_is d
icmpv6_is {r} {H} {new} {octets} {reply} {notes} (icmpv6.Taken i t) =
    message_is r (icmpv6_in octets).0 (icmpv6_in octets).1 (icmpv6.host_after_delivery r octets H) reply notes new t

-- no TCP socket is at any index
abbrev pub HasNoTcp : SocketSet → Type 0
HasNoTcp sockets = (i : ℕ) → speaker_at sockets i ≡ Some ByTcp → ⊥

no_tcp_before : (f : Speaker → Speaker) → ((v : Speaker) → f v ≡ ByTcp → v ≡ ByTcp) → (o : Option Speaker) → option_map f o ≡ Some ByTcp → o ≡ Some ByTcp
no_tcp_before f back None e = absurd cc
no_tcp_before f back (Some v) e = let is : f v ≡ ByTcp = cc in ap Some (back v is)

pub unheard : (f : RawSocket → RawSocket) (v : Speaker) → changed f v ≡ ByTcp → v ≡ ByTcp
unheard f (ByRaw s) e = absurd cc
unheard f ByTcp e = refl

pub no_tcp_after : (old new : SocketSet) (f : ℕ → RawSocket → RawSocket) →
    ((i : ℕ) → speaker_at new i ≡ option_map (changed (f i)) (speaker_at old i)) → HasNoTcp old → HasNoTcp new
no_tcp_after old new f e none i there = none i (no_tcp_before (changed (f i)) (unheard (f i)) (speaker_at old i) (sym (e i) ∙ there))

-- TCP itself
is_tcp : (r : IpRepr) (octets : List ℕ) (place : Storage) → tcp.accepts r (tcp_in octets).0 place ≡ true → kind_in speaker place ≡ Some ByTcp
is_tcp r octets None a = absurd cc
is_tcp r octets (Some (Raw s)) a = absurd cc
is_tcp r octets (Some (Icmp s)) a = absurd cc
is_tcp r octets (Some (Udp s)) a = absurd cc
is_tcp r octets (Some (Tcp s)) a = refl

tcp_is : {b : Bool} {r : IpRepr} {H new : Host} {octets : List ℕ} {reply : Option Reply} {notes : List Note} →
    b ≡ true → HasNoTcp H.sockets → ProcessesTcp b r H octets reply notes new → IsNoSegment reply
tcp_is handled none (tcp.BetweenUnspecified u d) = drop_is d
tcp_is handled none (tcp.Malformed u m d) = drop_is d
tcp_is {b} {r} {H} {new} {octets} handled none (tcp.Delivered index place u t f e n s) =
    absurd (none index (ap (λ o. option_and_then speaker (option_and_then (λ (p : Storage). p) o)) f.is_there ∙ is_tcp r octets place f.accepts))
tcp_is {b} {r} {H} {new} {octets} handled none (tcp.NotAccepted u t nobody e n s) =
    none_is (e ∙ ap (λ c. option_map (tcp.segment_back r) (tcp.reset_for c (tcp_in octets).0 (tcp_in octets).1)) handled)

-- a raw socket takes the packet
raw_there : (o : Option Storage) (s : RawSocket) → option_and_then down_raw (option_and_then (λ (p : Storage). p) o) ≡ Some s → o ≡ Some (Some (Raw s))
raw_there None s e = absurd cc
raw_there (Some None) s e = absurd cc
raw_there (Some (Some (Raw t))) s e = let is : t ≡ s = cc in ap (λ x. Some (Some (Raw x))) is
raw_there (Some (Some (Icmp t))) s e = absurd cc
raw_there (Some (Some (Udp t))) s e = absurd cc
raw_there (Some (Some (Tcp t))) s e = absurd cc

some_test : (test : Storage → Bool) (places : List Storage) (i : ℕ) (p : Storage) → slice_get places i ≡ Some p → test p ≡ true →
    list_any test places ≡ true
some_test test [] i p there met = absurd cc
some_test test (q ∷ qs) zero p there met = let is : q ≡ p = cc in rw (is, met) refl
some_test test (q ∷ qs) (suc i) p there met = by (test q) (some_test test qs i p there met) where
  by : (b : Bool) → list_any test qs ≡ true → (b || list_any test qs) ≡ true
  by true e = refl
  by false e = e

same_version : (v w : IpVersion) → v ≡ w → raw_socket.is_same_version v w ≡ true
same_version version.Ipv4 version.Ipv4 e = refl
same_version version.Ipv4 version.Ipv6 e = absurd cc
same_version version.Ipv6 version.Ipv4 e = absurd cc
same_version version.Ipv6 version.Ipv6 e = refl

pub taken : {v : IpVersion} {n : ℕ} (r : IpRepr) (H : Host) → HasRaw v n H.sockets → version_of r ≡ v → number_of (next_header r) ≡ n →
    raw.is_taken r H ≡ true
taken r H h v n =
    let one = same_version h.socket.version (version_of r) (h.version_is ∙ sym v) in
    let two : (number_of h.socket.protocol == number_of (next_header r)) ≡ true =
    (Decides-eqb (number_of h.socket.protocol) (number_of (next_header r))).1 (h.protocol_is ∙ sym n) in
    some_test (raw.takes r) H.sockets.places h.index (Some (Raw h.socket))
    (raw_there (slice_get H.sockets.places h.index) h.socket h.there) (rw (one, two) refl)

-- by protocol
protocol_v4 : (p : IpProtocol) (b : Bool) (r : Ipv4Repr) (H : Host) (octets : List ℕ) (reply : Option Reply) (notes : List Note) (new : Host) →
    (p ≡ protocol.Tcp → b ≡ true) → HasNoTcp H.sockets → ipv4.ProcessesProtocol p b r H octets reply notes new → IsNoSegment reply
protocol_v4 protocol.Icmp b r H octets reply notes new handled none t = icmpv4_is t
protocol_v4 protocol.Udp b r H octets reply notes new handled none t = udp_is t
protocol_v4 protocol.Tcp b r H octets reply notes new handled none t = tcp_is (handled refl) none t
protocol_v4 protocol.Igmp b r H octets reply notes new handled none t = igmp_is t
protocol_v4 protocol.HopByHop b r H octets reply notes new handled none t = some_is _ t.replied (refusal b H.ip_addrs _ r octets)
protocol_v4 protocol.Icmpv6 b r H octets reply notes new handled none t = some_is _ t.replied (refusal b H.ip_addrs _ r octets)
protocol_v4 (protocol.Unknown n) b r H octets reply notes new handled none t = some_is _ t.replied (refusal b H.ip_addrs _ r octets)

protocol_v6 : (p : IpProtocol) (b : Bool) (r : Ipv6Repr) (H : Host) (octets : List ℕ) (reply : Option Reply) (notes : List Note) (new : Host) →
    (p ≡ protocol.Tcp → b ≡ true) → HasNoTcp H.sockets → ipv6.ProcessesProtocol p b r H octets reply notes new → IsNoSegment reply
protocol_v6 protocol.Icmpv6 b r H octets reply notes new handled none t = icmpv6_is t
protocol_v6 protocol.Udp b r H octets reply notes new handled none t = udp_is t
protocol_v6 protocol.Tcp b r H octets reply notes new handled none t = tcp_is (handled refl) none t
protocol_v6 protocol.Icmp b r H octets reply notes new handled none t = some_is _ t.replied (unrecognized b H.ip_addrs r octets)
protocol_v6 protocol.Igmp b r H octets reply notes new handled none t = some_is _ t.replied (unrecognized b H.ip_addrs r octets)
protocol_v6 protocol.HopByHop b r H octets reply notes new handled none t = some_is _ t.replied (unrecognized b H.ip_addrs r octets)
protocol_v6 (protocol.Unknown n) b r H octets reply notes new handled none t = some_is _ t.replied (unrecognized b H.ip_addrs r octets)

-- after raw sockets heard a packet, and its sender was renewed
prepared : (source : HardwareAddress) (r : IpRepr) (payload : List ℕ) (H : Host) → HasNoTcp H.sockets →
    HasNoTcp (sender_renewed source r (raw.host_after_raw_delivery r payload H)).sockets
prepared source r payload H none =
    let h = raw_heard r payload false H in
    let s = sender_same source r (raw.host_after_raw_delivery r payload H) in
    no_tcp_after H.sockets (sender_renewed source r (raw.host_after_raw_delivery r payload H)).sockets
    (λ i. with_arrivals (is_tx H.capabilities.checksum.ipv4) (record { header = r; payload = payload; is_reassembled = false } ∷ []))
    (λ i. s.speakers i ∙ h.speakers i) none

datagram_is : {source : HardwareAddress} {r : Ipv4Repr} {H new : Host} {payload : List ℕ} {reply : Option Reply} {notes : List Note} →
    HasNoTcp H.sockets → HasRaw version.Ipv4 6 H.sockets → ipv4.ProcessesDatagram source r H payload reply notes new → IsNoSegment reply
datagram_is none raw (ipv4.NotForUs u d) = drop_is d
datagram_is {source} {r} {H} {new} {payload} {reply} {notes} none raw (ipv4.Accepted u t) =
    protocol_v4 r.next_header _ r _ payload reply notes new (λ e. taken (repr.Ipv4 r) H raw refl (ap number_of e))
    (prepared source (repr.Ipv4 r) payload H none) t

datagram_v6_is : {source : HardwareAddress} {r : Ipv6Repr} {p : IpProtocol} {H new : Host} {payload : List ℕ} {reply : Option Reply}
    {notes : List Note} → HasNoTcp H.sockets → (p ≡ protocol.Tcp → raw.is_taken (repr.Ipv6 r) H ≡ true) →
    ipv6.ProcessesDatagramV6 source r p H payload reply notes new → IsNoSegment reply
datagram_v6_is none handled (ipv6.NotForUs u d) = drop_is d
datagram_v6_is {source} {r} {p} {H} {new} {payload} {reply} {notes} none handled (ipv6.Accepted u t) =
    protocol_v6 p _ r _ payload reply notes new handled (prepared source (repr.Ipv6 r) payload H none) t

-- of a host that leaves segments to raw sockets
pub record Leaves (H : Host) (frame : List ℕ) : Type 0 where
  pub no_socket : HasNoTcp H.sockets
  pub over_ipv4 : HasRaw version.Ipv4 6 H.sockets
  pub over_ipv6 : HasRaw version.Ipv6 6 H.sockets
  pub after_options : HasRaw version.Ipv6 0 H.sockets ⊎ HasNoSegmentAfterOptions H.hardware_addr frame

packet_is : {source : HardwareAddress} {r : Ipv4Repr} {f : Ipv4Fragment} {H new : Host} {payload : List ℕ} {reply : Option Reply} {notes : List Note} →
    HasNoTcp H.sockets → HasRaw version.Ipv4 6 H.sockets → ipv4.ProcessesPacket source r f H payload reply notes new → IsNoSegment reply
packet_is none raw (ipv4.FromNoHost s d) = drop_is d
packet_is none raw (ipv4.Part s g t e) = none_is e
packet_is none raw (ipv4.Completed octets mid first rest s g t w n) =
    let same = sym (ap (λ (K : Host). K.sockets) t.changed) in
    datagram_is (subst HasNoTcp same none) (subst (HasRaw version.Ipv4 6) same raw) w
packet_is none raw (ipv4.Whole s g t) = datagram_is none raw t

ipv4_is : {source : HardwareAddress} {H new : Host} {octets : List ℕ} {reply : Option Reply} {notes : List Note} →
    HasNoTcp H.sockets → HasRaw version.Ipv4 6 H.sockets → ipv4.ProcessesIpv4 source H octets reply notes new → IsNoSegment reply
ipv4_is none raw (ipv4.Malformed m d) = drop_is d
ipv4_is none raw (ipv4.Read i t) = packet_is none raw t

ipv6_is : {source : HardwareAddress} {frame packet : List ℕ} {H new : Host} {reply : Option Reply} {notes : List Note} →
    CarriesIpv6 H.hardware_addr frame packet → Leaves H frame → ipv6.ProcessesIpv6 source H packet reply notes new → IsNoSegment reply
ipv6_is c l (ipv6.Malformed m d) = drop_is d
ipv6_is c l (ipv6.Read i (ipv6.FromNoHost u d)) = drop_is d
ipv6_is c l (ipv6.Read i (ipv6.WithOptions u z (ipv6.MalformedOptions m d))) = drop_is d
ipv6_is {frame = frame} {packet = packet} {H = H} c l (ipv6.Read i (ipv6.WithOptions u z (ipv6.Skipped o s t))) =
    datagram_v6_is l.no_socket (λ e. by e l.after_options) t where
      by : (hop_by_hop_in (ipv6_in packet).1).0.next_header ≡ protocol.Tcp →
          HasRaw version.Ipv6 0 H.sockets ⊎ HasNoSegmentAfterOptions H.hardware_addr frame → raw.is_taken (repr.Ipv6 (ipv6_in packet).0) H ≡ true
      by e (inl raw) = taken (repr.Ipv6 (ipv6_in packet).0) H raw refl z
      by e (inr none) = absurd (none packet c z e)
ipv6_is {packet = packet} {H = H} c l (ipv6.Read i (ipv6.WithOptions u z (ipv6.Discarded failure o f s r n e))) =
    some_is _ r (option_refusal failure H.ip_addrs (ipv6_in packet).0 (ipv6_in packet).1)
ipv6_is {packet = packet} {H = H} c l (ipv6.Read i (ipv6.Bare u z t)) =
    datagram_v6_is l.no_socket (λ e. taken (repr.Ipv6 (ipv6_in packet).0) H l.over_ipv6 refl (ap number_of e)) t

-- by frame
answer_is : (o : ArpOperation) (own : EthernetAddress) (r : ArpRepr) → IsNoSegment (arp.answer_by o own r)
answer_is operation.Request own r = tt
answer_is operation.Reply own r = tt

arp_is : {own : EthernetAddress} {H new : Host} {payload : List ℕ} {reply : Option Reply} {notes : List Note} →
    ProcessesArp own H payload reply notes new → IsNoSegment reply
arp_is (arp.Malformed m d) = drop_is d
arp_is (arp.NotForUs a l d) = drop_is d
arp_is {own} {H} {new} {payload} (arp.Learnt a l learns r n) = some_is _ r (answer_is (arp_in payload).operation own (arp_in payload))

payload_is : (own source : EthernetAddress) (H : Host) (p : EthernetProtocol) (frame : List ℕ) (reply : Option Reply) (notes : List Note)
    (new : Host) → H.hardware_addr ≡ hardware.Ethernet own → 14 ≤ length frame →
    is_for own (header_in frame).dst_addr ≡ true → (header_in frame).ethertype ≡ p → Leaves H frame →
    ProcessesEthertype own source H p (drop 14 frame) reply notes new → IsNoSegment reply
payload_is own source H ethertype.Arp frame reply notes new mine l f is leaves t = arp_is t
payload_is own source H ethertype.Ipv4 frame reply notes new mine l f is leaves t = ipv4_is leaves.no_socket leaves.over_ipv4 t
payload_is own source H ethertype.Ipv6 frame reply notes new mine l f is leaves t = ipv6_is (spec.OverEthernet own mine l f is refl) leaves t
payload_is own source H (ethertype.Unknown n) frame reply notes new mine l f is leaves t = drop_is t

frame_is : (h : HardwareAddress) (H : Host) (frame : List ℕ) (reply : Option Reply) (notes : List Note) (new : Host) →
    H.hardware_addr ≡ h → Leaves H frame → ProcessesFrame h H frame reply notes new → IsNoSegment reply
frame_is (hardware.Ethernet own) H frame reply notes new mine leaves (ethernet.Malformed m d) = drop_is d
frame_is (hardware.Ethernet own) H frame reply notes new mine leaves (ethernet.NotForUs l f d) = drop_is d
frame_is (hardware.Ethernet own) H frame reply notes new mine leaves (ethernet.Accepted l f t) =
    payload_is own _ H (header_in frame).ethertype frame reply notes new mine l f refl leaves t
frame_is hardware.Ip H frame reply notes new mine leaves (ethernet.Ipv4 v t) = ipv4_is leaves.no_socket leaves.over_ipv4 t
frame_is hardware.Ip H frame reply notes new mine leaves (ethernet.Ipv6 v t) = ipv6_is (spec.AsItStands mine v refl) leaves t
frame_is hardware.Ip H frame reply notes new mine leaves (ethernet.OtherVersion v w d) = drop_is d

one_frame : {H : Host} {frame : List ℕ} → LeavesSegments H (frame ∷ []) → Leaves H frame
one_frame {H} {frame} l = by l.taken where
  options : HasRaw version.Ipv6 0 H.sockets ⊎ AllByRecursion (HasNoSegmentAfterOptions H.hardware_addr) (frame ∷ []) →
      HasRaw version.Ipv6 0 H.sockets ⊎ HasNoSegmentAfterOptions H.hardware_addr frame
  options (inl raw) = inl raw
  options (inr all) = inr all.0

  by : (frame ∷ [] ≡ []) ⊎ TakesSegments H (frame ∷ []) → Leaves H frame
  by (inl none) = absurd cc
  by (inr t) = record {
    no_socket = λ i there. no_tcp H.sockets i (l.no_socket i) there;
    over_ipv4 = t.over_ipv4;
    over_ipv6 = t.over_ipv6;
    after_options = options t.after_options;
  }

pub takes_no_segment : (H : Host) (r : Reception) (reply : Option Reply) (notes : List Note) (new : Host) (t : ℤ) →
    LeavesSegments H (handed_frames (Received t r ∷ [])) → Takes H r reply notes new → IsNoSegment reply
takes_no_segment H Nothing reply notes new t l x = drop_is x
takes_no_segment H Withheld reply notes new t l x = drop_is x
takes_no_segment H (Frame []) reply notes new t l x = drop_is x
takes_no_segment H (Frame (octet ∷ octets)) reply notes new t l x =
    frame_is H.hardware_addr H (octet ∷ octets) reply notes new refl (one_frame l) x
