-- What is done with a frame leaves raw sockets as they were, or hands one packet to those that accept it. It makes and removes no TCP socket.
use Rattle.std.proofs.Common.{◌≡◌, ℕ, Bool, true, false, List, [], ◌∷◌, refl, ◌∙◌, ap}
use Rattle.std.proofs.Common.{Option, Some, None, slice_get, if◌then◌else◌, option_and_then, option_map}
use Rattle.std.specs.Prelude.{pos, ◌+ℤ◌}
use Rattle.net_base.specs.Checksum.{is_tx}
use Rattle.ip_address.specs.declared.ethernet_address.EthernetAddress.{EthernetAddress}
use Rattle.ip_address.specs.declared.hardware.HardwareAddress.{HardwareAddress}
use Rattle.ip_address.specs.declared.ip.IpAddress.{IpAddress}
use Rattle.ip_address.specs.declared.ipv4.Ipv4Address.{Ipv4Address}
use Rattle.ip_address.specs.declared.ipv6.Ipv6Address.{Ipv6Address}
use Rattle.ip_address.specs.declared.protocol.IpProtocol.{IpProtocol}
use Rattle.ip_address.specs.declared.protocol.IpProtocol.TheVariants as protocol
use Rattle.ip_wire.specs.declared.ip_packet.IpRepr.{IpRepr}
use Rattle.ip_wire.specs.declared.ip_packet.IpRepr.TheVariants as repr
use Rattle.ip_wire.specs.declared.ipv4_packet.Ipv4Repr.{Ipv4Repr}
use Rattle.ip_wire.specs.declared.tcp.TcpRepr.{TcpRepr}
use Rattle.ip_wire.specs.declared.udp.UdpRepr.{UdpRepr}
use Rattle.ip_wire.specs.IpPacket.{src_addr, dst_addr, next_header, version_of}
use Rattle.ip_wire.specs.Tcp.{tcp_in}
use Rattle.ip_wire.specs.Udp.{udp_in}
use Rattle.ip_wire.specs.declared.ipv6_packet.Ipv6Repr.{Ipv6Repr}
use Rattle.control_wire.specs.declared.icmpv6.Icmpv6Repr.{Icmpv6Repr}
use Rattle.control_wire.specs.declared.icmpv6.Icmpv6Repr.TheVariants as icmpv6_message
use Rattle.control_wire.specs.declared.ndisc.NdiscRepr.{NdiscRepr}
use Rattle.control_wire.specs.Icmpv6.{icmpv6_in}
use Rattle.control_wire.specs.declared.igmp.IgmpRepr.{IgmpRepr}
use Rattle.control_wire.specs.declared.igmp.IgmpRepr.TheVariants.{MembershipQuery, MembershipReport, LeaveGroup}
use Rattle.control_wire.specs.Igmp.{igmp_in}
use Rattle.control_wire.specs.declared.mld.MldRepr.{MldRepr}
use Rattle.control_wire.specs.declared.mld.MldRepr.TheVariants.{Query, Report}
use Rattle.control_wire.specs.declared.icmp.IcmpRepr.{IcmpRepr}
use Rattle.iface_tables.specs.Neighbor.{after_renewal, expiry_from}
use Rattle.sockets.specs.Raw.{RawSocket, accepts, socket_after_delivery}
use Rattle.sockets.specs.declared.socket.SocketOf.TheVariants.{Raw, Icmp, Udp, Tcp}
use Rattle.sockets.specs.Kinds.{down_raw, down_tcp}
use Rattle.host_machine.specs.Context.Note.{Note}
use Rattle.host_machine.specs.Context.Host.{Host, Socket, SocketSet, Storage, with_neighbors}
use Rattle.host_machine.specs.Context.Addresses.{is_for_host, is_unicast}
use Rattle.host_machine.specs.Sockets.Delivery.{to_this}
use Rattle.host_machine.specs.Receive.Reply.{Reply}
use Rattle.host_machine.specs.Discovery.Renewal.{sender_renewed}
use Rattle.host_machine.specs.Sockets.Raw as raw
use Rattle.host_machine.specs.Icmp.Delivery as icmp
use Rattle.host_machine.specs.Icmp.Icmpv4.{ProcessesIcmpv4}
use Rattle.host_machine.specs.Icmp.Icmpv4 as icmpv4
use Rattle.host_machine.specs.Icmp.Icmpv6.{ProcessesIcmpv6, ProcessesMessage}
use Rattle.host_machine.specs.Icmp.Icmpv6 as icmpv6
use Rattle.host_machine.specs.Discovery.Ndisc.{ProcessesNdisc, ProcessesNdiscMessage, Learns}
use Rattle.host_machine.specs.Discovery.Ndisc as ndisc
use Rattle.host_machine.specs.Multicast.Igmp as igmp_rules
use Rattle.host_machine.specs.Multicast.Mld as mld_rules
use Rattle.host_machine.specs.Receive.Ipv4 as ipv4
use Rattle.host_machine.specs.Receive.Ipv6 as ipv6
use Rattle.host_machine.specs.Sockets.Tcp.{ProcessesTcp}
use Rattle.host_machine.specs.Sockets.Tcp as tcp
use Rattle.host_machine.specs.Sockets.Udp.{ProcessesUdp}
use Rattle.host_machine.specs.Sockets.Udp as udp
use Rattle.host_laws.specs.RawArrivals.{RawArrival, raw_at, with_arrivals}
use Rattle.host_laws.specs.RawPackets.{tcp_at}
use Rattle.host_laws.proofs.DatagramHandover.{seen}
use Rattle.host_laws.proofs.Places.{kind_in, kind_of, each_changed, each_stays, one_stays}

-- what is followed of a socket: a raw one, and that there is one for TCP
pub data Speaker : Type 0 where
  ByRaw : (socket : RawSocket) → Speaker
  ByTcp : Speaker

abbrev pub speaker : Socket → Option Speaker
speaker (Raw s) = Some (ByRaw s)
speaker (Icmp s) = None
speaker (Udp s) = None
speaker (Tcp s) = Some ByTcp

abbrev pub speaker_at : SocketSet → ℕ → Option Speaker
speaker_at sockets i = kind_of speaker sockets.places i

-- with its raw socket changed
abbrev pub changed : (RawSocket → RawSocket) → Speaker → Speaker
changed f (ByRaw s) = ByRaw (f s)
changed f ByTcp = ByTcp

-- the raw socket, and the TCP socket, by it
abbrev pub raw_of : Speaker → Option RawSocket
raw_of (ByRaw s) = Some s
raw_of ByTcp = None

by_speaker : (o : Option Socket) → option_and_then down_raw o ≡ option_and_then raw_of (option_and_then speaker o)
by_speaker None = refl
by_speaker (Some (Raw s)) = refl
by_speaker (Some (Icmp s)) = refl
by_speaker (Some (Udp s)) = refl
by_speaker (Some (Tcp s)) = refl

pub raw_is : (sockets : SocketSet) (i : ℕ) → raw_at sockets i ≡ option_and_then raw_of (speaker_at sockets i)
raw_is sockets i = by_speaker (option_and_then (λ (place : Storage). place) (slice_get sockets.places i))

tcp_by : (o : Option Socket) → option_and_then speaker o ≡ Some ByTcp → option_and_then down_tcp o ≡ None → ⊥
tcp_by None e n = absurd cc
tcp_by (Some (Raw s)) e n = absurd cc
tcp_by (Some (Icmp s)) e n = absurd cc
tcp_by (Some (Udp s)) e n = absurd cc
tcp_by (Some (Tcp s)) e n = absurd cc

pub no_tcp : (sockets : SocketSet) (i : ℕ) → tcp_at sockets i ≡ None → speaker_at sockets i ≡ Some ByTcp → ⊥
no_tcp sockets i n e = tcp_by (option_and_then (λ (place : Storage). place) (slice_get sockets.places i)) e n

-- packets were heard
pub record Heard (summed : Bool) (cs : List RawArrival) (H new : Host) : Type 0 where
  pub seen_is : seen new ≡ seen H
  pub speakers : (i : ℕ) → speaker_at new.sockets i ≡ option_map (changed (with_arrivals summed cs)) (speaker_at H.sockets i)

-- nothing was
pub record Same (old new : Host) : Type 0 where
  pub seen_is : seen new ≡ seen old
  pub speakers : (i : ℕ) → speaker_at new.sockets i ≡ speaker_at old.sockets i

pub same : {old new : Host} → new ≡ old → Same old new
same e = record { seen_is = ap seen e; speakers = λ i. ap (λ (K : Host). speaker_at K.sockets i) e }

pub same_by : {old mid new : Host} → new ≡ mid → Same old mid → Same old new
same_by e s = record { seen_is = ap seen e ∙ s.seen_is; speakers = λ i. ap (λ (K : Host). speaker_at K.sockets i) e ∙ s.speakers i }

pub same_then : {a b c : Host} → Same a b → Same b c → Same a c
same_then s t = record { seen_is = t.seen_is ∙ s.seen_is; speakers = λ i. t.speakers i ∙ s.speakers i }

pub unread : {old new : Host} → seen new ≡ seen old → new.sockets ≡ old.sockets → Same old new
unread e s = record { seen_is = e; speakers = λ i. ap (λ t. speaker_at t i) s }

pub unchanged : (o : Option Speaker) → o ≡ option_map (changed (λ s. s)) o
unchanged None = refl
unchanged (Some (ByRaw s)) = refl
unchanged (Some ByTcp) = refl

pub heard_none : {old new : Host} (summed : Bool) → Same old new → Heard summed [] old new
heard_none {old} summed s = record { seen_is = s.seen_is; speakers = λ i. s.speakers i ∙ unchanged (speaker_at old.sockets i) }

pub heard_then : {a b c : Host} {summed : Bool} {cs : List RawArrival} → Heard summed cs a b → Same b c → Heard summed cs a c
heard_then h s = record { seen_is = s.seen_is ∙ h.seen_is; speakers = λ i. s.speakers i ∙ h.speakers i }

pub same_heard : {a b c : Host} {summed : Bool} {cs : List RawArrival} → Same a b → Heard summed cs b c → Heard summed cs a c
same_heard {summed = summed} {cs = cs} s h = record {
  seen_is = h.seen_is ∙ s.seen_is;
  speakers = λ i. h.speakers i ∙ ap (option_map (changed (with_arrivals summed cs))) (s.speakers i);
}

-- what a raw socket gets
raw_changes : (summed : Bool) (r : IpRepr) (payload : List ℕ) (b : Bool) (p : Storage) →
    kind_in speaker (to_this (raw.takes r) (raw.storage_after_delivery summed r payload) p)
    ≡ option_map (changed (with_arrivals summed (record { header = r; payload = payload; is_reassembled = b } ∷ []))) (kind_in speaker p)
raw_changes summed r payload b None = refl
raw_changes summed r payload b (Some (Raw s)) = by (accepts s (version_of r) (next_header r)) where
  by : (c : Bool) → kind_in speaker (if c then Some (Raw (socket_after_delivery summed r payload s)) else Some (Raw s))
      ≡ Some (ByRaw (if c then socket_after_delivery summed r payload s else s))
  by true = refl
  by false = refl
raw_changes summed r payload b (Some (Icmp s)) = refl
raw_changes summed r payload b (Some (Udp s)) = refl
raw_changes summed r payload b (Some (Tcp s)) = refl

pub raw_heard : (r : IpRepr) (payload : List ℕ) (b : Bool) (H : Host) →
    Heard (is_tx H.capabilities.checksum.ipv4) (record { header = r; payload = payload; is_reassembled = b } ∷ []) H
    (raw.host_after_raw_delivery r payload H)
raw_heard r payload b H = record {
  seen_is = refl;
  speakers = λ i. each_changed speaker
      (option_map (changed (with_arrivals (is_tx H.capabilities.checksum.ipv4) (record { header = r; payload = payload; is_reassembled = b } ∷ []))))
      refl _ (raw_changes (is_tx H.capabilities.checksum.ipv4) r payload b) H.sockets.places i;
}

-- what a socket of another kind gets
icmp_same : (remote : IpAddress) (octets : List ℕ) (p : Storage) →
    kind_in speaker (icmp.storage_after_delivery remote octets p) ≡ kind_in speaker p
icmp_same remote octets None = refl
icmp_same remote octets (Some (Raw s)) = refl
icmp_same remote octets (Some (Icmp s)) = refl
icmp_same remote octets (Some (Udp s)) = refl
icmp_same remote octets (Some (Tcp s)) = refl

udp_same : (r : IpRepr) (ports : UdpRepr) (payload : List ℕ) (p : Storage) →
    kind_in speaker (udp.storage_after_delivery r ports payload p) ≡ kind_in speaker p
udp_same r ports payload None = refl
udp_same r ports payload (Some (Raw s)) = refl
udp_same r ports payload (Some (Icmp s)) = refl
udp_same r ports payload (Some (Udp s)) = refl
udp_same r ports payload (Some (Tcp s)) = refl

tcp_same : (r : IpRepr) (t : TcpRepr) (payload : List ℕ) (p : Storage) →
    kind_in speaker (tcp.storage_after_delivery r t payload p) ≡ kind_in speaker p
tcp_same r t payload None = refl
tcp_same r t payload (Some (Raw s)) = refl
tcp_same r t payload (Some (Icmp s)) = refl
tcp_same r t payload (Some (Udp s)) = refl
tcp_same r t payload (Some (Tcp s)) = refl

icmp_heard : (message : IcmpRepr) (contents : List ℕ) (remote : IpAddress) (octets : List ℕ) (H : Host) →
    Same H (icmp.host_after_delivery message contents remote octets H)
icmp_heard message contents remote octets H = record {
  seen_is = refl;
  speakers = λ i. each_stays speaker (icmp.accepts message contents) _ (icmp_same remote octets) H.sockets.places i;
}

pub sender_same : (source : HardwareAddress) (r : IpRepr) (H : Host) → Same H (sender_renewed source r H)
sender_same source r H = by (is_unicast H.ip_addrs (dst_addr r)) where
  by : (b : Bool) → Same H (if b then with_neighbors H (after_renewal H.neighbors (src_addr r) source (expiry_from H.moment)) else H)
  by true = unread refl refl
  by false = same refl

-- the protocols
tcp_taken : {handled_by_raw_socket : Bool} {r : IpRepr} {H new : Host} {octets : List ℕ} {reply : Option Reply} {notes : List Note} →
    ProcessesTcp handled_by_raw_socket r H octets reply notes new → Same H new
tcp_taken (tcp.BetweenUnspecified b d) = same d.unchanged
tcp_taken (tcp.Malformed b m d) = same d.unchanged
tcp_taken {handled_by_raw_socket} {r} {H} {new} {octets} (tcp.Delivered index place b t f e n s) = same_by s (record {
  seen_is = refl;
  speakers = λ i. one_stays speaker H.sockets.places index place
      (tcp.storage_after_delivery r (tcp_in octets).0 (tcp_in octets).1 place) f.is_there (tcp_same r (tcp_in octets).0 (tcp_in octets).1 place) i;
})
tcp_taken (tcp.NotAccepted b t none e n s) = same s

udp_taken : {handled_by_raw_socket : Bool} {r : IpRepr} {H new : Host} {octets : List ℕ} {reply : Option Reply} {notes : List Note} →
    ProcessesUdp handled_by_raw_socket r H octets reply notes new → Same H new
udp_taken (udp.Malformed m d) = same d.unchanged
udp_taken {handled_by_raw_socket} {r} {H} {new} {octets} (udp.Delivered places u f o n e) = same_by e (record {
  seen_is = refl;
  speakers = λ i. ap (λ ps. kind_of speaker ps i) f.changed ∙ one_stays speaker H.sockets.places f.index f.place
      (udp.storage_after_delivery r (udp_in octets).0 (udp_in octets).1 f.place) f.first.is_there
      (udp_same r (udp_in octets).0 (udp_in octets).1 f.place) i;
})
udp_taken (udp.NotAccepted u none o n e) = same e

icmpv4_taken : {r : Ipv4Repr} {H new : Host} {octets : List ℕ} {reply : Option Reply} {notes : List Note} →
    ProcessesIcmpv4 r H octets reply notes new → Same H new
icmpv4_taken (icmpv4.Malformed m d) = same d.unchanged
icmpv4_taken {r} {H} {new} {octets} (icmpv4.Taken i e n s) = same_by s (icmp_heard _ _ _ octets H)

asked_same : (H : Host) (dst : Ipv4Address) (m : IgmpRepr) → Same H (igmp_rules.host_after_igmp H dst m)
asked_same H dst (MembershipQuery code group) = unread refl refl
asked_same H dst (MembershipReport group version) = same refl
asked_same H dst (LeaveGroup group) = same refl

igmp_taken : {r : Ipv4Repr} {H new : Host} {octets : List ℕ} {reply : Option Reply} {notes : List Note} →
    igmp_rules.ProcessesIgmp r H octets reply notes new → Same H new
igmp_taken (igmp_rules.Malformed m d) = same d.unchanged
igmp_taken {r} {H} {new} {octets} (igmp_rules.Taken i e n s) = same_by s (asked_same H r.dst_addr (igmp_in octets))

mld_same : (H : Host) (r : Ipv6Repr) (code : ℕ) (group : Ipv6Address) → Same H (mld_rules.host_after_mld_query H r code group)
mld_same H r code group = by (mld_rules.is_near r) where
  by : (b : Bool) → Same H (if b then record H {
    mld_report = mld_rules.mld_report_for H r.dst_addr (H.moment +ℤ pos (mld_rules.delay code H.random)) group;
    random = mld_rules.random_after_draw code H.random;
  } else H)
  by true = unread refl refl
  by false = same refl

mld_taken : (r : Ipv6Repr) (m : MldRepr) (H : Host) (reply : Option Reply) (notes : List Note) (new : Host) →
    mld_rules.ProcessesMld r m H reply notes new → Same H new
mld_taken r (Query code group) H reply notes new t = same_by t.2 (mld_same H r code group)
mld_taken r (Report count) H reply notes new t = same t.unchanged

learns_same : (o : Option EthernetAddress) (a : Ipv6Address) (H new : Host) → Learns o a H new → Same H new
learns_same None a H new l = same l
learns_same (Some h) a H new l = same_by l.same (unread refl refl)

heard_same : {own : EthernetAddress} {r : Ipv6Repr} {message : NdiscRepr} {H new : Host} {reply : Option Reply} {notes : List Note} →
    ProcessesNdiscMessage own r H reply notes new message → Same H new
heard_same {own} {r} {message} {H} {new} (ndisc.Advertised flags target lladdr l e n) = learns_same _ r.src_addr H new l
heard_same (ndisc.NoUnicast target lladdr nobody d) = same d.unchanged
heard_same {own} {r} {message} {H} {new} (ndisc.Solicited target lladdr specified l e n) = learns_same _ r.src_addr H new l

ndisc_taken : {r : Ipv6Repr} {message : NdiscRepr} {H new : Host} {reply : Option Reply} {notes : List Note} →
    ProcessesNdisc r message H reply notes new → Same H new
ndisc_taken (ndisc.FromAfar far d) = same d.unchanged
ndisc_taken (ndisc.WithoutAddresses without d) = same d.unchanged
ndisc_taken (ndisc.FromNeighbor own near mine h) = heard_same h

message_taken : (r : Ipv6Repr) (m : Icmpv6Repr) (octets : List ℕ) (H : Host) (reply : Option Reply) (notes : List Note) (new : Host) →
    ProcessesMessage r m octets H reply notes new → Same H new
message_taken r (icmpv6_message.EchoRequest ident seq_no) octets H reply notes new t = same t.2
message_taken r (icmpv6_message.Ndisc message) octets H reply notes new t = ndisc_taken t
message_taken r (icmpv6_message.Router message) octets H reply notes new t = same_by t.2 (unread refl refl)
message_taken r (icmpv6_message.Mld message) octets H reply notes new t = mld_taken r message H reply notes new t
message_taken r (icmpv6_message.EchoReply ident seq_no) octets H reply notes new t = same t.unchanged
message_taken r (icmpv6_message.DstUnreachable reason header) octets H reply notes new t = same t.unchanged
message_taken r (icmpv6_message.PktTooBig mtu header) octets H reply notes new t = same t.unchanged
message_taken r (icmpv6_message.TimeExceeded code header) octets H reply notes new t = same t.unchanged
message_taken r (icmpv6_message.ParamProblem reason pointer header) octets H reply notes new t = same t.unchanged

icmpv6_taken : {r : Ipv6Repr} {H new : Host} {octets : List ℕ} {reply : Option Reply} {notes : List Note} →
    ProcessesIcmpv6 r H octets reply notes new → Same H new
icmpv6_taken (icmpv6.Malformed m d) = same d.unchanged
icmpv6_taken {r} {H} {new} {octets} {reply} {notes} (icmpv6.Taken i t) =
    same_then (icmp_heard _ _ _ octets H)
    (message_taken r (icmpv6_in octets).0 (icmpv6_in octets).1 (icmpv6.host_after_delivery r octets H) reply notes new t)

protocol_v4 : (p : IpProtocol) (handled_by_raw_socket : Bool) (r : Ipv4Repr) (H : Host) (octets : List ℕ) (reply : Option Reply) (notes : List Note)
    (new : Host) → ipv4.ProcessesProtocol p handled_by_raw_socket r H octets reply notes new → Same H new
protocol_v4 protocol.Icmp handled_by_raw_socket r H octets reply notes new t = icmpv4_taken t
protocol_v4 protocol.Udp handled_by_raw_socket r H octets reply notes new t = udp_taken t
protocol_v4 protocol.Tcp handled_by_raw_socket r H octets reply notes new t = tcp_taken t
protocol_v4 protocol.Igmp handled_by_raw_socket r H octets reply notes new t = igmp_taken t
protocol_v4 protocol.HopByHop handled_by_raw_socket r H octets reply notes new t = same t.unchanged
protocol_v4 protocol.Icmpv6 handled_by_raw_socket r H octets reply notes new t = same t.unchanged
protocol_v4 (protocol.Unknown n) handled_by_raw_socket r H octets reply notes new t = same t.unchanged

protocol_v6 : (p : IpProtocol) (handled_by_raw_socket : Bool) (r : Ipv6Repr) (H : Host) (octets : List ℕ) (reply : Option Reply) (notes : List Note)
    (new : Host) → ipv6.ProcessesProtocol p handled_by_raw_socket r H octets reply notes new → Same H new
protocol_v6 protocol.Icmpv6 handled_by_raw_socket r H octets reply notes new t = icmpv6_taken t
protocol_v6 protocol.Udp handled_by_raw_socket r H octets reply notes new t = udp_taken t
protocol_v6 protocol.Tcp handled_by_raw_socket r H octets reply notes new t = tcp_taken t
protocol_v6 protocol.Icmp handled_by_raw_socket r H octets reply notes new t = same t.unchanged
protocol_v6 protocol.Igmp handled_by_raw_socket r H octets reply notes new t = same t.unchanged
protocol_v6 protocol.HopByHop handled_by_raw_socket r H octets reply notes new t = same t.unchanged
protocol_v6 (protocol.Unknown n) handled_by_raw_socket r H octets reply notes new t = same t.unchanged

-- a packet of IPv4 was heard by those that accept it
pub whole_v4 : {source : HardwareAddress} {r : Ipv4Repr} {H new : Host} {payload : List ℕ} {reply : Option Reply} {notes : List Note} (b : Bool) →
    ipv4.ProcessesDatagram source r H payload reply notes new →
    Heard (is_tx H.capabilities.checksum.ipv4) (record { header = repr.Ipv4 r; payload = payload; is_reassembled = b } ∷ []) H new
whole_v4 {source} {r} {H} {new} {payload} b (ipv4.NotForUs u d) = heard_then (raw_heard (repr.Ipv4 r) payload b H) (same d.unchanged)
whole_v4 {source} {r} {H} {new} {payload} {reply} {notes} b (ipv4.Accepted u t) =
    heard_then (raw_heard (repr.Ipv4 r) payload b H)
    (same_then (sender_same source (repr.Ipv4 r) (raw.host_after_raw_delivery (repr.Ipv4 r) payload H))
    (protocol_v4 r.next_header _ r _ payload reply notes new t))

-- and one of IPv6, if it is for the host
pub data HeardV6 (r : Ipv6Repr) (payload : List ℕ) (H new : Host) : Type 0 where
  NotHeard : Same H new → HeardV6 r payload H new
  IsHeard : is_for_host H (dst_addr (repr.Ipv6 r)) ≡ true →
      Heard (is_tx H.capabilities.checksum.ipv4) (record { header = repr.Ipv6 r; payload = payload; is_reassembled = false } ∷ []) H new →
      HeardV6 r payload H new

pub payload_v6 : {source : HardwareAddress} {r : Ipv6Repr} {p : IpProtocol} {H new : Host} {payload : List ℕ} {reply : Option Reply}
    {notes : List Note} → ipv6.ProcessesDatagramV6 source r p H payload reply notes new → HeardV6 r payload H new
payload_v6 (ipv6.NotForUs u d) = NotHeard (same d.unchanged)
payload_v6 {source} {r} {p} {H} {new} {payload} {reply} {notes} (ipv6.Accepted u t) =
    IsHeard u (heard_then (raw_heard (repr.Ipv6 r) payload false H)
    (same_then (sender_same source (repr.Ipv6 r) (raw.host_after_raw_delivery (repr.Ipv6 r) payload H))
    (protocol_v6 p _ r _ payload reply notes new t)))
