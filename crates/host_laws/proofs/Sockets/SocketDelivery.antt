-- A packet that comes for a raw socket, and a segment for a TCP socket, is in its queue.
use Rattle.std.proofs.Common.{◌≡◌, ◌⊎◌, inl, inr, ℕ, ◌==◌, Bool, true, false, List, [], ◌∷◌, ◌++◌, refl, sym, ◌∙◌, ap, subst}
use Rattle.std.proofs.Common.{Option, Some, None, arith}
use Rattle.std.proofs.lemmas.Bool.Decides.{Decides-eqb}
use Rattle.std.proofs.lemmas.Option.{slice_get-map}
use Rattle.std.specs.Prelude.{ℤ, pos, ◌+ℤ◌, map, ◌&&◌, slice_get, slice_set, if◌then◌else◌}
use Rattle.std.specs.Option.{option_map}
use Rattle.net_base.specs.Checksum.{is_rx, is_tx}
use Rattle.net_base.specs.Device.{Event}
use Rattle.ip_address.specs.Protocol.{number_of}
use Rattle.ip_address.specs.declared.hardware.HardwareAddress.{HardwareAddress}
use Rattle.ip_address.specs.declared.ethernet_address.EthernetAddress.{EthernetAddress}
use Rattle.ip_address.specs.declared.ip.IpAddress.{IpAddress}
use Rattle.ip_address.specs.declared.ip.IpAddress.TheVariants.{Ipv4, Ipv6}
use Rattle.ip_address.specs.declared.ipv6.Ipv6Address.{Ipv6Address}
use Rattle.ip_address.specs.declared.protocol.IpProtocol.{IpProtocol}
use Rattle.ip_address.specs.declared.protocol.IpVersion.{IpVersion}
use Rattle.ip_address.specs.declared.protocol.IpVersion.TheVariants as version
use Rattle.ip_address.specs.declared.protocol.IpProtocol.TheVariants as ip_protocol
use Rattle.ip_wire.specs.declared.ip_packet.IpRepr.{IpRepr}
use Rattle.ip_wire.specs.declared.ip_packet.IpRepr.TheVariants as repr
use Rattle.ip_wire.specs.declared.ipv4_packet.Ipv4Repr.{Ipv4Repr}
use Rattle.ip_wire.specs.declared.tcp.TcpRepr.{TcpRepr}
use Rattle.ip_wire.specs.IpPacket.{dst_addr, next_header, src_addr, version_of}
use Rattle.ip_wire.specs.Tcp.{IsTcp, tcp_in}
use Rattle.ip_wire.specs.Udp.{udp_in}
use Rattle.control_wire.specs.Icmpv4.{icmpv4_in}
use Rattle.control_wire.specs.declared.icmp.IcmpRepr.TheVariants.{Ipv4 as Ipv4Message, Ipv6 as Ipv6Message}
use Rattle.ip_wire.specs.declared.ipv6_packet.Ipv6Repr.{Ipv6Repr}
use Rattle.control_wire.specs.Icmpv6.{icmpv6_in}
use Rattle.control_wire.specs.declared.icmpv6.Icmpv6Repr.{Icmpv6Repr}
use Rattle.control_wire.specs.declared.icmpv6.Icmpv6Repr.TheVariants as v6
use Rattle.control_wire.specs.declared.ndisc.NdiscRepr.{NdiscRepr}
use Rattle.control_wire.specs.declared.mld.MldRepr.TheVariants.{Query, Report}
use Rattle.control_wire.specs.Igmp.{igmp_in}
use Rattle.control_wire.specs.declared.igmp.IgmpRepr.{IgmpRepr}
use Rattle.control_wire.specs.declared.igmp.IgmpRepr.TheVariants.{MembershipQuery, MembershipReport, LeaveGroup}
use Rattle.sockets.specs.declared.endpoint.IpEndpoint.{IpEndpoint}
use Rattle.sockets.specs.Source.{is_same}
use Rattle.sockets.specs.Raw.{RawSocket}
use Rattle.sockets.specs.Raw as raw_socket
use Rattle.sockets.specs.Tcp.{TcpSocket, segment_of}
use Rattle.sockets.specs.Tcp as tcp_socket
use Rattle.sockets.specs.declared.socket.SocketOf.TheVariants.{Raw, Icmp, Udp, Tcp}
use Rattle.host_machine.specs.Context.Note.{Note}
use Rattle.host_machine.specs.Context.Host.{Host, Storage, with_places, without_expired}
use Rattle.host_machine.specs.Context.Addresses.{is_for_host, may_be_source}
use Rattle.host_machine.specs.Sockets.Delivery.{IsFirst, to_this}
use Rattle.host_machine.specs.Icmp.Delivery as icmp
use Rattle.host_machine.specs.Icmp.Icmpv4.{ProcessesIcmpv4}
use Rattle.host_machine.specs.Icmp.Icmpv4 as icmpv4
use Rattle.host_machine.specs.Icmp.Icmpv6.{ProcessesIcmpv6, ProcessesMessage}
use Rattle.host_machine.specs.Icmp.Icmpv6 as icmpv6
use Rattle.host_machine.specs.Receive.Ipv6 as ip6
use Rattle.host_machine.specs.Discovery.Ndisc.{Learns, ProcessesNdisc, ProcessesNdiscMessage}
use Rattle.host_machine.specs.Discovery.Ndisc as ndisc
use Rattle.host_machine.specs.Receive.Ipv4.{ProcessesDatagram, ProcessesProtocol}
use Rattle.host_machine.specs.Receive.Ipv4 as ip
use Rattle.host_machine.specs.Sockets.Raw as raw
use Rattle.host_machine.specs.Receive.Reply.{Reply}
use Rattle.host_machine.specs.Receive.Response.{Responds}
use Rattle.host_machine.specs.Sockets.Tcp.{ProcessesTcp, IsSegment, accepts, storage_after_delivery}
use Rattle.host_machine.specs.Sockets.Tcp as tcp
use Rattle.host_machine.specs.Sockets.Udp.{ProcessesUdp}
use Rattle.host_machine.specs.Sockets.Udp as udp
use Rattle.host_machine.specs.Multicast.Igmp.{ProcessesIgmp, host_after_igmp}
use Rattle.host_machine.specs.Multicast.Mld.{delay, host_after_mld_query, is_near, mld_report_for, random_after_draw}
use Rattle.host_machine.specs.Multicast.Igmp as reports
use Rattle.host_laws.specs.Laws.Service.{AfterHeader}
use Rattle.host_laws.specs.Laws.Received.{HasSegmentLast, IsFirstFor, IsForSegments, IsRawFor, QueuesRawPackets, QueuesRawPacketsV6}
use Rattle.host_laws.specs.Laws.Received.{QueuesSegments, QueuesSegmentsV6, RawPacketsAreQueued, SegmentsAreQueued, raw_packet}
use Rattle.host_laws.proofs.Sockets.DatagramDelivery.{apart, first_is_one, first_still, same_bits, there}
use Rattle.host_laws.proofs.Receive.FrameReplies.{clash, ipv4_taken, met, one_of, packet_served, v4_of, v6_of}
use Rattle.host_laws.proofs.Receive.FrameRepliesV6.{apart as apart6, met as met6, met_apart, payload_served}
use Rattle.host_laws.proofs.Interface.GrantedEgress.{unicast_for}
use Rattle.host_laws.proofs.Receive.ReceivedFrames.{renewal}
use Rattle.host_laws.proofs.Interface.SettledFields.{response_leaves}

-- Raw sockets

-- a raw socket that is at an index stays as it is while a payload is processed
module _ (i : ℕ) (s : RawSocket) where
  abbrev Here : Host → Type 0
  Here H = slice_get H.sockets.places i ≡ Some (Some (Raw s))

  here_by : {H new : Host} → new ≡ H → Here H → Here new
  here_by e h = rw e h

  -- a place that another kind of socket has isn't its
  not_its : (H : Host) {index : ℕ} {place : Storage} (test : Storage → Bool) → test (Some (Raw s)) ≡ false → Here H →
      IsFirst test H.sockets.places index place → (i ≡ index → ⊥)
  not_its H {index} {place} test off h f same =
      let both : Some (Some (Raw s)) ≡ Some place = sym h ∙ ap (slice_get H.sockets.places) same ∙ f.is_there in
      let its : Some (Raw s) ≡ place = cc in clash (ap test its ∙ f.accepts) off

  udp_stays : {b : Bool} {r : IpRepr} {H new : Host} {octets : List ℕ} {reply : Option Reply} {notes : List Note} → Here H →
      ProcessesUdp b r H octets reply notes new → Here new
  udp_stays h (udp.Malformed m d) = here_by d.unchanged h
  udp_stays {r = r} {H = H} {octets = octets} h (udp.Delivered places u f e n same) =
      ap (λ (K : Host). slice_get K.sockets.places i) same ∙ ap (λ ps. slice_get ps i) f.changed
      ∙ apart H.sockets.places f.index i _ (not_its H (udp.accepts H.ip_addrs r (udp_in octets).0) refl h f.first) ∙ h
  udp_stays h (udp.NotAccepted u none e n same) = here_by same h

  tcp_stays : {b : Bool} {r : IpRepr} {H new : Host} {octets : List ℕ} {reply : Option Reply} {notes : List Note} → Here H →
      ProcessesTcp b r H octets reply notes new → Here new
  tcp_stays h (tcp.BetweenUnspecified b d) = here_by d.unchanged h
  tcp_stays h (tcp.Malformed b m d) = here_by d.unchanged h
  tcp_stays {r = r} {H = H} {octets = octets} h (tcp.Delivered index place b u f e n same) =
      ap (λ (K : Host). slice_get K.sockets.places i) same
      ∙ apart H.sockets.places index i _ (not_its H (accepts r (tcp_in octets).0) refl h f) ∙ h
  tcp_stays h (tcp.NotAccepted b u none e n same) = here_by same h

  icmp_stays : {r : Ipv4Repr} {H new : Host} {octets : List ℕ} {reply : Option Reply} {notes : List Note} → Here H →
      ProcessesIcmpv4 r H octets reply notes new → Here new
  icmp_stays h (icmpv4.Malformed m d) = here_by d.unchanged h
  icmp_stays {r} {H} {octets = octets} h (icmpv4.Taken u e n same) =
      let told_it : Storage → Storage =
      to_this (icmp.accepts (Ipv4Message (icmpv4_in octets).0) (icmpv4_in octets).1) (icmp.storage_after_delivery (Ipv4 r.src_addr) octets) in
      ap (λ (K : Host). slice_get K.sockets.places i) same ∙ slice_get-map told_it H.sockets.places i ∙ ap (option_map told_it) h

  igmp_stays : {r : Ipv4Repr} {H new : Host} {octets : List ℕ} {reply : Option Reply} {notes : List Note} → Here H →
      ProcessesIgmp r H octets reply notes new → Here new
  igmp_stays h (reports.Malformed m d) = here_by d.unchanged h
  igmp_stays {r} {H} {new} {octets} h (reports.Taken u e n same) = by (igmp_in octets) same where
    by : (m : IgmpRepr) → new ≡ host_after_igmp H r.dst_addr m → Here new
    by (MembershipQuery code group) q = rw q h
    by (MembershipReport group version) q = rw q h
    by (LeaveGroup group) q = rw q h

  protocol_stays : (p : IpProtocol) (b : Bool) (r : Ipv4Repr) (H : Host) (octets : List ℕ) (reply : Option Reply) (notes : List Note) (new : Host) →
      Here H → ProcessesProtocol p b r H octets reply notes new → Here new
  protocol_stays ip_protocol.Icmp b r H octets reply notes new h t = icmp_stays h t
  protocol_stays ip_protocol.Udp b r H octets reply notes new h t = udp_stays h t
  protocol_stays ip_protocol.Tcp b r H octets reply notes new h t = tcp_stays h t
  protocol_stays ip_protocol.Igmp b r H octets reply notes new h t = igmp_stays h t
  protocol_stays ip_protocol.HopByHop b r H octets reply notes new h t = here_by t.unchanged h
  protocol_stays ip_protocol.Icmpv6 b r H octets reply notes new h t = here_by t.unchanged h
  protocol_stays (ip_protocol.Unknown n) b r H octets reply notes new h t = here_by t.unchanged h

  datagram_stays : {source : HardwareAddress} {r : Ipv4Repr} {H new : Host} {payload : List ℕ} {reply : Option Reply} {notes : List Note} →
      Here (raw.host_after_raw_delivery (repr.Ipv4 r) payload H) → ProcessesDatagram source r H payload reply notes new → Here new
  datagram_stays h (ip.NotForUs n d) = here_by d.unchanged h
  datagram_stays {source} {r} {H} {new} {payload} {reply} {notes} h (ip.Accepted f t) =
      let x = renewal source (repr.Ipv4 r) (raw.host_after_raw_delivery (repr.Ipv4 r) payload H) in
      protocol_stays r.next_header _ r _ payload reply notes new (ap (λ (K : Host). slice_get K.sockets.places i) x.is ∙ h) t

  -- over IPv6
  icmpv6_heard : (r : Ipv6Repr) (octets : List ℕ) (H : Host) → Here H → Here (icmpv6.host_after_delivery r octets H)
  icmpv6_heard r octets H h =
      let told_it : Storage → Storage =
      to_this (icmp.accepts (Ipv6Message (icmpv6_in octets).0) (icmpv6_in octets).1) (icmp.storage_after_delivery (Ipv6 r.src_addr) octets) in
      slice_get-map told_it H.sockets.places i ∙ ap (option_map told_it) h

  learns_stays : (a : Ipv6Address) (o : Option EthernetAddress) (H new : Host) → Here H → Learns o a H new → Here new
  learns_stays a None H new h e = here_by e h
  learns_stays a (Some l) H new h learns = here_by learns.same h

  ndisc_stays : {own : EthernetAddress} {r : Ipv6Repr} {message : NdiscRepr} {H new : Host} {reply : Option Reply} {notes : List Note} → Here H →
      ProcessesNdiscMessage own r H reply notes new message → Here new
  ndisc_stays {r = r} {H = H} {new = new} h (ndisc.Advertised flags target lladdr learns e n) = learns_stays r.src_addr _ H new h learns
  ndisc_stays h (ndisc.NoUnicast target lladdr nobody d) = here_by d.unchanged h
  ndisc_stays {r = r} {H = H} {new = new} h (ndisc.Solicited target lladdr specified learns e n) = learns_stays r.src_addr _ H new h learns

  neighbor_stays : {r : Ipv6Repr} {message : NdiscRepr} {H new : Host} {reply : Option Reply} {notes : List Note} → Here H →
      ProcessesNdisc r message H reply notes new → Here new
  neighbor_stays h (ndisc.FromAfar far d) = here_by d.unchanged h
  neighbor_stays h (ndisc.WithoutAddresses without d) = here_by d.unchanged h
  neighbor_stays h (ndisc.FromNeighbor own near mine m) = ndisc_stays h m

  mld_stays : (r : Ipv6Repr) (code : ℕ) (group : Ipv6Address) (H new : Host) → Here H → new ≡ host_after_mld_query H r code group → Here new
  mld_stays r code group H new h e = by (is_near r) e where
    by : (b : Bool) → new ≡ (if b then record H {
      mld_report = mld_report_for H r.dst_addr (H.moment +ℤ pos (delay code H.random)) group;
      random = random_after_draw code H.random;
    } else H) → Here new
    by true q = rw q h
    by false q = rw q h

  message_stays : (m : Icmpv6Repr) (r : Ipv6Repr) (octets : List ℕ) (H : Host) (reply : Option Reply) (notes : List Note) (new : Host) → Here H →
      ProcessesMessage r m octets H reply notes new → Here new
  message_stays (v6.EchoRequest ident seq_no) r octets H reply notes new h t = here_by t.2 h
  message_stays (v6.Ndisc message) r octets H reply notes new h t = neighbor_stays h t
  message_stays (v6.Router message) r octets H reply notes new h t = rw t.2 h
  message_stays (v6.Mld (Query code group)) r octets H reply notes new h t = mld_stays r code group H new h t.2
  message_stays (v6.Mld (Report count)) r octets H reply notes new h t = here_by t.unchanged h
  message_stays (v6.EchoReply ident seq_no) r octets H reply notes new h t = here_by t.unchanged h
  message_stays (v6.DstUnreachable reason header) r octets H reply notes new h t = here_by t.unchanged h
  message_stays (v6.PktTooBig mtu header) r octets H reply notes new h t = here_by t.unchanged h
  message_stays (v6.TimeExceeded code header) r octets H reply notes new h t = here_by t.unchanged h
  message_stays (v6.ParamProblem reason pointer header) r octets H reply notes new h t = here_by t.unchanged h

  icmpv6_stays : {r : Ipv6Repr} {H new : Host} {octets : List ℕ} {reply : Option Reply} {notes : List Note} → Here H →
      ProcessesIcmpv6 r H octets reply notes new → Here new
  icmpv6_stays h (icmpv6.Malformed m d) = here_by d.unchanged h
  icmpv6_stays {r} {H} {new} {octets} {reply} {notes} h (icmpv6.Taken u t) =
      message_stays (icmpv6_in octets).0 r (icmpv6_in octets).1 (icmpv6.host_after_delivery r octets H) reply notes new (icmpv6_heard r octets H h) t

  protocol_v6_stays : (p : IpProtocol) (b : Bool) (r : Ipv6Repr) (H : Host) (octets : List ℕ) (reply : Option Reply) (notes : List Note)
      (new : Host) → Here H → ip6.ProcessesProtocol p b r H octets reply notes new → Here new
  protocol_v6_stays ip_protocol.Icmpv6 b r H octets reply notes new h t = icmpv6_stays h t
  protocol_v6_stays ip_protocol.Udp b r H octets reply notes new h t = udp_stays h t
  protocol_v6_stays ip_protocol.Tcp b r H octets reply notes new h t = tcp_stays h t
  protocol_v6_stays ip_protocol.Icmp b r H octets reply notes new h t = here_by t.unchanged h
  protocol_v6_stays ip_protocol.Igmp b r H octets reply notes new h t = here_by t.unchanged h
  protocol_v6_stays ip_protocol.HopByHop b r H octets reply notes new h t = here_by t.unchanged h
  protocol_v6_stays (ip_protocol.Unknown n) b r H octets reply notes new h t = here_by t.unchanged h

-- what a raw socket that is for a packet becomes
abbrev got : (r : IpRepr) (payload : List ℕ) (H : Host) (s : RawSocket) → RawSocket
got r payload H s = record s { rx = record s.rx { packets = s.rx.packets ++ (tt, raw_packet H r payload) ∷ [] } }

version_itself : (v : IpVersion) → raw_socket.is_same_version v v ≡ true
version_itself version.Ipv4 = refl
version_itself version.Ipv6 = refl

raw_heard : (old : Host) (t : ℤ) (r : IpRepr) (payload : List ℕ) (i : ℕ) (s : RawSocket) → IsRawFor old r payload i s →
    slice_get (raw.host_after_raw_delivery r payload (without_expired old t)).sockets.places i ≡ Some (Some (Raw (got r payload old s)))
raw_heard old t r payload i s f =
    let heard : Storage → Storage = to_this (raw.takes r) (raw.storage_after_delivery (is_tx old.capabilities.checksum.ipv4) r payload) in
    let number : (number_of s.protocol == number_of (next_header r)) ≡ true =
    (Decides-eqb (number_of s.protocol) (number_of (next_header r))).1 f.protocol in
    let accepts_it : raw_socket.accepts s (version_of r) (next_header r) ≡ true = rw (f.version, number, version_itself (version_of r)) refl in
    let hears : heard (Some (Raw s)) ≡ Some (Raw (got r payload old s)) = rw (accepts_it, f.room) refl in
    slice_get-map heard old.sockets.places i ∙ ap (option_map heard) f.here ∙ ap (λ x. Some x) hears

raw_v4_queued : (t : ℤ) (old new : Host) (told : List Event) → QueuesRawPackets t old told new
raw_v4_queued t old new told own frame r payload i s w p f =
    let k = v4_of own w p.taken p.is_packet in
    let may : may_be_source old.ip_addrs r.src_addr ≡ true = rw p.sender refl in
    let datagram = ipv4_taken r payload k.takes p.is_packet p.header p.whole p.behind may in
    let at_last : slice_get k.taken.sockets.places i ≡ Some (Some (Raw (got (repr.Ipv4 r) payload old s))) =
    datagram_stays i (got (repr.Ipv4 r) payload old s) (raw_heard old t (repr.Ipv4 r) payload i s f) datagram in
    let same : new.sockets ≡ k.taken.sockets =
    response_leaves (λ (K : Host). K.sockets) (λ H. refl) (λ H. refl) (λ H rest. refl) k.reply k.taken k.frames k.more new k.responds in
    ap (λ x. slice_get x.places i) same ∙ at_last

raw_v6_queued : (t : ℤ) (old new : Host) (told : List Event) → QueuesRawPacketsV6 t old told new
raw_v6_queued t old new told own frame r payload i s w p given bare f =
    let k = v6_of own w p.taken p.is_packet in
    let H : Host = without_expired old t in
    let source : HardwareAddress = k.source in
    let for_us : is_for_host H (Ipv6 r.dst_addr) ≡ true = rw given refl in
    let any = payload_served r.next_header k (record { octets = payload; packet = p; carried = AfterHeader refl refl }) bare for_us in
    let x = renewal source (repr.Ipv6 r) (raw.host_after_raw_delivery (repr.Ipv6 r) payload H) in
    let at_mid : slice_get (met6 source r payload H).sockets.places i ≡ Some (Some (Raw (got (repr.Ipv6 r) payload old s))) =
    ap (λ (K : Host). slice_get K.sockets.places i) x.is ∙ raw_heard old t (repr.Ipv6 r) payload i s f in
    let at_last : slice_get k.taken.sockets.places i ≡ Some (Some (Raw (got (repr.Ipv6 r) payload old s))) =
    protocol_v6_stays i (got (repr.Ipv6 r) payload old s) r.next_header (raw.is_taken (repr.Ipv6 r) H) r (met6 source r payload H) payload
    k.reply k.notes k.taken at_mid any in
    let same : new.sockets ≡ k.taken.sockets =
    response_leaves (λ (K : Host). K.sockets) (λ H. refl) (λ H. refl) (λ H rest. refl) k.reply k.taken k.frames k.more new k.responds in
    ap (λ x. slice_get x.places i) same ∙ at_last

pub raw_packets_queued : RawPacketsAreQueued
raw_packets_queued t old new told = (raw_v4_queued t old new told, raw_v6_queued t old new told)

-- TCP sockets

-- a place where raw sockets heard a packet takes the same segments
pub raw_apart : (r q : IpRepr) (segment : TcpRepr) (summed : Bool) (payload : List ℕ) (p : Storage) →
    accepts r segment (to_this (raw.takes q) (raw.storage_after_delivery summed q payload) p) ≡ accepts r segment p
raw_apart r q segment summed payload None = refl
raw_apart r q segment summed payload (Some (Raw s)) = by (raw.takes q (Some (Raw s))) where
  by : (b : Bool) → accepts r segment (if b then raw.storage_after_delivery summed q payload (Some (Raw s)) else Some (Raw s))
      ≡ accepts r segment (Some (Raw s))
  by true = refl
  by false = refl
raw_apart r q segment summed payload (Some (Icmp s)) = refl
raw_apart r q segment summed payload (Some (Udp s)) = refl
raw_apart r q segment summed payload (Some (Tcp s)) = refl

-- addresses, and endpoints
same_address : (a : IpAddress) → is_same a a ≡ true
same_address (Ipv4 a) = same_bits a.bits
same_address (Ipv6 a) = same_bits a.bits

address_is : (a b : IpAddress) → is_same a b ≡ true → a ≡ b
address_is (Ipv4 a) (Ipv4 b) e = ap (λ n. Ipv4 (record { bits = n })) ((Decides-eqb a.bits b.bits).0 e)
address_is (Ipv4 a) (Ipv6 b) e = absurd cc
address_is (Ipv6 a) (Ipv4 b) e = absurd cc
address_is (Ipv6 a) (Ipv6 b) e = ap (λ n. Ipv6 (record { bits = n })) ((Decides-eqb a.bits b.bits).0 e)

both_of : (x y : Bool) → (x && y) ≡ true → (x ≡ true) × (y ≡ true)
both_of true true e = (refl, refl)
both_of true false e = absurd cc
both_of false y e = absurd cc

-- which socket is for a segment
is_for : (s : TcpSocket) (source destination : IpEndpoint) → IsForSegments s source destination → tcp_socket.accepts s source destination ≡ true
is_for s source destination f = by f.addr f.remote where
  by : (s.local.addr ≡ None) ⊎ (s.local.addr ≡ Some destination.addr) → (s.remote ≡ None) ⊎ (s.remote ≡ Some source) →
      tcp_socket.accepts s source destination ≡ true
  by (inl a) (inl b) = rw (f.port, a, b, same_bits destination.port) refl
  by (inl a) (inr b) = rw (f.port, a, b, same_bits destination.port, same_address source.addr, same_bits source.port) refl
  by (inr a) (inl b) = rw (f.port, a, b, same_bits destination.port, same_address destination.addr) refl
  by (inr a) (inr b) =
      rw (f.port, a, b, same_bits destination.port, same_address destination.addr, same_address source.addr, same_bits source.port) refl

for_it : (s : TcpSocket) (source destination : IpEndpoint) → tcp_socket.accepts s source destination ≡ true → IsForSegments s source destination
for_it s source destination e =
    let two = both_of ((s.local.port == destination.port) && tcp_socket.is_addr_if_given s.local.addr destination.addr)
    (tcp_socket.is_end_if_given s.remote source) e in
    let one = both_of (s.local.port == destination.port) (tcp_socket.is_addr_if_given s.local.addr destination.addr) two.0 in
    record {
      port = (Decides-eqb s.local.port destination.port).0 one.0;
      addr = by_address s.local.addr one.1;
      remote = by_end s.remote two.1;
    } where
      by_address : (o : Option IpAddress) → tcp_socket.is_addr_if_given o destination.addr ≡ true → (o ≡ None) ⊎ (o ≡ Some destination.addr)
      by_address None f = inl refl
      by_address (Some a) f = inr (ap (λ x. Some x) (address_is a destination.addr f))

      by_end : (o : Option IpEndpoint) → tcp_socket.is_end_if_given o source ≡ true → (o ≡ None) ⊎ (o ≡ Some source)
      by_end None f = inl refl
      by_end (Some given) f =
          let parts = both_of (is_same given.addr source.addr) (given.port == source.port) f in
          let addr = address_is given.addr source.addr parts.0 in
          let port = (Decides-eqb given.port source.port).0 parts.1 in
          inr (rw (addr, port) refl)

-- the first socket for a segment
first_for : (H : Host) (r : IpRepr) (segment : TcpRepr) (octets : List ℕ) (i : ℕ) (s : TcpSocket) → IsFirstFor H r segment octets i s →
    IsFirst (accepts r segment) H.sockets.places i (Some (Tcp s))
first_for H r segment octets i s f = record {
  is_there = f.here;
  accepts = is_for s (tcp.source_of r segment) (tcp.destination_of r segment) f.is_for;
  none_before = λ k other less is. deaf other (λ x e g. f.first k x less (is ∙ ap (λ p. Some p) e) g);
} where
  deaf : (p : Storage) → ((x : TcpSocket) → p ≡ Some (Tcp x) → IsForSegments x (tcp.source_of r segment) (tcp.destination_of r segment) → ⊥) →
      accepts r segment p ≡ false
  deaf None other = refl
  deaf (Some (Raw x)) other = refl
  deaf (Some (Icmp x)) other = refl
  deaf (Some (Udp x)) other = refl
  deaf (Some (Tcp x)) other = by (tcp_socket.accepts x (tcp.source_of r segment) (tcp.destination_of r segment)) refl where
    by : (b : Bool) → tcp_socket.accepts x (tcp.source_of r segment) (tcp.destination_of r segment) ≡ b → b ≡ false
    by true e = absurd (other x refl (for_it x (tcp.source_of r segment) (tcp.destination_of r segment) e))
    by false e = refl

record WasDelivered (r : IpRepr) (segment : TcpRepr) (octets : List ℕ) (i : ℕ) (s : TcpSocket) (H : Host) (reply : Option Reply) (new : Host) :
    Type 0 where
  silent : reply ≡ None
  host_is : new ≡ with_places H (slice_set H.sockets.places i (storage_after_delivery r segment octets (Some (Tcp s))))

segment_delivered : {b : Bool} {r : IpRepr} {H new : Host} {payload : List ℕ} {reply : Option Reply} {notes : List Note}
    (segment : TcpRepr) (octets : List ℕ) (i : ℕ) (s : TcpSocket) → ProcessesTcp b r H payload reply notes new → tcp.is_between_unspecified r ≡ false →
    IsSegment H r payload → tcp_in payload ≡ (segment, octets) → IsFirst (accepts r segment) H.sockets.places i (Some (Tcp s)) →
    s.is_aborted ≡ false → WasDelivered r segment octets i s H reply new
segment_delivered segment octets i s (tcp.BetweenUnspecified u d) known is values first live = absurd (clash u known)
segment_delivered segment octets i s (tcp.Malformed u m d) known is values first live = absurd (m is)
segment_delivered {r = r} {H = H} {payload = payload} {reply = reply} segment octets i s (tcp.Delivered index place u j f e n same) known is values first live =
    let g : IsFirst (accepts r segment) H.sockets.places index place = subst (λ v. IsFirst (accepts r v.0) H.sockets.places index place) values f in
    let at_one : index ≡ i = first_is_one g first in
    let there_is : Some place ≡ Some (Some (Tcp s)) = sym f.is_there ∙ ap (slice_get H.sockets.places) at_one ∙ first.is_there in
    let it : place ≡ Some (Tcp s) = cc in
    record {
      silent = e ∙ ap (λ p. option_map (tcp.segment_back r) (tcp.socket_reply (tcp_in payload).0 (tcp_in payload).1 p)) it ∙ rw live refl;
      host_is = same ∙ ap (λ v. with_places H (slice_set H.sockets.places index (storage_after_delivery r v.0 v.1 place))) values
          ∙ ap (λ k. with_places H (slice_set H.sockets.places k (storage_after_delivery r segment octets place))) at_one
          ∙ ap (λ p. with_places H (slice_set H.sockets.places i (storage_after_delivery r segment octets p))) it;
    }
segment_delivered {r = r} segment octets i s (tcp.NotAccepted u j none e n same) known is values first live =
    let refused = none i (Some (Tcp s)) first.is_there in
    absurd (clash (ap (λ v. accepts r v.0 (Some (Tcp s))) values ∙ first.accepts) refused)

-- in the call that took it
segment_heard : {b : Bool} {r : IpRepr} {mid : Host} {payload : List ℕ} {reply : Option Reply} {notes : List Note} {taken : Host}
    {frames : List (List ℕ)} (more : List Note) (new old : Host) (t : ℤ) (segment : TcpRepr) (octets : List ℕ) (i : ℕ) (s : TcpSocket) →
    mid.sockets ≡ (raw.host_after_raw_delivery r payload (without_expired old t)).sockets → mid.capabilities ≡ old.capabilities →
    ProcessesTcp b r mid payload reply notes taken → Responds reply taken frames more new → tcp.is_between_unspecified r ≡ false →
    IsSegment old r payload → tcp_in payload ≡ (segment, octets) → IsFirstFor old r segment octets i s →
    HasSegmentLast r segment octets i s new × (frames ≡ [])
segment_heard {r = r} {mid} {payload} {taken = taken} {frames = frames} more new old t segment octets i s sockets capabilities message responds
    known is values f =
    let heard : Storage → Storage = to_this (raw.takes r) (raw.storage_after_delivery (is_tx old.capabilities.checksum.ipv4) r payload) in
    let first_raw : IsFirst (accepts r segment) (map heard old.sockets.places) i (Some (Tcp s)) =
    first_still (accepts r segment) heard
    (raw_apart r r segment (is_tx old.capabilities.checksum.ipv4) payload) old.sockets.places (first_for old r segment octets i s f) in
    let first : IsFirst (accepts r segment) mid.sockets.places i (Some (Tcp s)) =
    subst (λ x. IsFirst (accepts r segment) x.places i (Some (Tcp s))) (sym sockets) first_raw in
    let segment_is : IsSegment mid r payload = subst (λ c. IsTcp (is_rx c.checksum.tcp) (src_addr r) (dst_addr r) payload) (sym capabilities) is in
    let was = segment_delivered segment octets i s message known segment_is values first f.live in
    let went : Responds None taken frames more new = subst (λ x. Responds x taken frames more new) was.silent responds in
    let after : storage_after_delivery r segment octets (Some (Tcp s)) ≡ Some (Tcp (record s {
      rx = record s.rx { packets = s.rx.packets ++ (segment_of (src_addr r) segment, octets) ∷ [] };
    })) = rw (f.live, f.room) refl in (
      ap (λ (K : Host). slice_get K.sockets.places i) (went.2 ∙ was.host_is)
          ∙ there mid.sockets.places i (Some (Tcp s)) (storage_after_delivery r segment octets (Some (Tcp s))) first.is_there
          ∙ ap (λ p. Some p) after,
      went.0,
    )

segments_v4_queued : (t : ℤ) (old new : Host) (told : List Event) → QueuesSegments t old told new
segments_v4_queued t old new told own frame r segment octets i s w itself d f =
    let k = v4_of own w d.in_packet.taken d.in_packet.is_packet in
    let H : Host = without_expired old t in
    let mid : Host = met k.source r d.payload H in
    let any = packet_served k d.in_packet in
    let message : ProcessesTcp (raw.is_taken (repr.Ipv4 r) H) (repr.Ipv4 r) mid d.payload k.reply k.notes k.taken =
    subst (λ q. ProcessesProtocol q (raw.is_taken (repr.Ipv4 r) H) r mid d.payload k.reply k.notes k.taken) d.protocol_is any in
    let known : tcp.is_between_unspecified (repr.Ipv4 r) ≡ false =
    rw ((one_of old.ip_addrs r.src_addr d.in_packet.sender).specified, (one_of old.ip_addrs r.dst_addr d.in_packet.receiver).specified) refl in
    let x = segment_heard k.more new old t segment octets i s refl refl message k.responds known d.is_segment d.values f in
    (x.0, k.sends_them ∙ x.1)

segments_v6_queued : (t : ℤ) (old new : Host) (told : List Event) → QueuesSegmentsV6 t old told new
segments_v6_queued t old new told own frame r segment octets i s w d f =
    let k = v6_of own w d.in_packet.packet.taken d.in_packet.packet.is_packet in
    let H : Host = without_expired old t in
    let source : HardwareAddress = k.source in
    let mid : Host = met6 source r d.payload H in
    let same : apart6 mid old.neighbors ≡ apart6 (raw.host_after_raw_delivery (repr.Ipv6 r) d.payload H) old.neighbors =
    met_apart source r d.payload H old.neighbors in
    let for_us : is_for_host H (Ipv6 r.dst_addr) ≡ true = rw d.given refl in
    let message : ProcessesTcp (raw.is_taken (repr.Ipv6 r) H) (repr.Ipv6 r) mid d.payload k.reply k.notes k.taken =
    payload_served ip_protocol.Tcp k d.in_packet (λ bad. omega (arith, bad)) for_us in
    let known : tcp.is_between_unspecified (repr.Ipv6 r) ≡ false =
    rw ((unicast_for old.ip_addrs (Ipv6 r.src_addr) d.in_packet.packet.sender).specified, (unicast_for old.ip_addrs (Ipv6 r.dst_addr) d.receiver).specified)
    refl in
    let x = segment_heard k.more new old t segment octets i s (ap (λ (K : Host). K.sockets) same) (ap (λ (K : Host). K.capabilities) same) message
    k.responds known d.is_segment d.values f in
    (x.0, k.sends_them ∙ x.1)

pub segments_queued : SegmentsAreQueued
segments_queued t old new told = (segments_v4_queued t old new told, segments_v6_queued t old new told)
