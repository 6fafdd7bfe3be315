-- What receiving a whole packet does, over either family: what laws read of the host stays, nothing is noted, and the reply is no packet
-- of ARP.
use Rattle.std.proofs.Common.{◌≡◌, ℕ, ◌≤◌, Bool, true, false, List, [], refl, ap, Option, Some, None, arith}
use Rattle.std.specs.Prelude.{pos, ◌+ℤ◌, ◌==◌, ◌||◌, ◌&&◌, not, drop, if◌then◌else◌}
use Rattle.std.specs.Option.{option_map}
use Rattle.std.proofs.lemmas.Bool.Decides.{nat_tests}
use Rattle.ip_wire.specs.Octets.{u16_at, u32_at}
use Rattle.ip_address.specs.declared.cidr.IpCidr.{IpCidr}
use Rattle.ip_address.specs.declared.ethernet_address.EthernetAddress.{EthernetAddress}
use Rattle.ip_address.specs.declared.hardware.HardwareAddress.{HardwareAddress}
use Rattle.ip_address.specs.declared.hardware.HardwareAddress.TheVariants as hardware
use Rattle.ip_address.specs.declared.ip.IpAddress.{IpAddress}
use Rattle.ip_address.specs.declared.ip.IpAddress.TheVariants as address
use Rattle.ip_address.specs.declared.ipv4.Ipv4Address.{Ipv4Address}
use Rattle.ip_address.specs.declared.ipv6.Ipv6Address.{Ipv6Address}
use Rattle.ip_address.specs.declared.protocol.IpProtocol.{IpProtocol}
use Rattle.ip_address.specs.declared.protocol.IpProtocol.TheVariants as protocol
use Rattle.ip_address.specs.EthernetAddress as ethernet
use Rattle.ip_address.specs.Hardware.{IsOf}
use Rattle.ip_address.specs.Ipv6.{is_multicast, is_unicast}
use Rattle.ip_wire.specs.declared.ip_packet.IpRepr.{IpRepr}
use Rattle.ip_wire.specs.declared.ip_packet.IpRepr.TheVariants as repr
use Rattle.ip_wire.specs.declared.ipv4_packet.Ipv4Repr.{Ipv4Repr}
use Rattle.ip_wire.specs.declared.tcp.TcpRepr.{TcpRepr}
use Rattle.ip_wire.specs.Tcp.{tcp_in}
use Rattle.ip_wire.specs.Udp.{udp_in}
use Rattle.ip_wire.specs.declared.ipv6_packet.Ipv6Repr.{Ipv6Repr}
use Rattle.ip_wire.specs.Ipv6Packet.{quoted_in}
use Rattle.ip_wire.specs.declared.hop_by_hop.Ipv6OptionFailureType.{Ipv6OptionFailureType}
use Rattle.ip_wire.specs.declared.hop_by_hop.Ipv6OptionFailureType.TheVariants.{Skip, Discard, DiscardSendAll, DiscardSendUnicast}
use Rattle.control_wire.specs.declared.icmpv6.Icmpv6ParamProblem.TheVariants.{UnrecognizedOption}
use Rattle.control_wire.specs.declared.icmpv6.Icmpv6Repr.{Icmpv6Repr}
use Rattle.control_wire.specs.declared.icmpv6.Icmpv6Repr.TheVariants as icmp
use Rattle.control_wire.specs.declared.ndisc.NdiscRepr.{NdiscRepr}
use Rattle.control_wire.specs.declared.ndisc.NdiscNeighborFlags.{NdiscNeighborFlags}
use Rattle.control_wire.specs.Icmpv6.{IsIcmpv6, IsBody, Request, Reply as EchoReplied, Error, Neighbor, OfRouters}
use Rattle.control_wire.specs.Icmpv6.{Listener, icmpv6_in, error_of, error_in, type_in, code_in, unreachable_of, problem_of}
use Rattle.control_wire.specs.Router.{Solicitation, Advertisement, router_in}
use Rattle.control_wire.specs.Mld.{IsQuery, IsReport, mld_in}
use Rattle.control_wire.specs.Igmp.{igmp_in}
use Rattle.control_wire.specs.declared.igmp.IgmpRepr.{IgmpRepr}
use Rattle.control_wire.specs.declared.igmp.IgmpRepr.TheVariants.{MembershipQuery, MembershipReport, LeaveGroup}
use Rattle.control_wire.specs.declared.mld.MldRepr.{MldRepr}
use Rattle.control_wire.specs.declared.mld.MldRepr.TheVariants.{Query, Report}
use Rattle.host_machine.specs.Multicast.Igmp as igmp_rules
use Rattle.host_machine.specs.Multicast.Mld as mld_rules
use Rattle.control_wire.specs.Ndisc.{IsNdisc, IsLinkLayerAddr, lladdr_of, ndisc_in}
use Rattle.control_wire.proofs.NdiscSix.{are_six}
use Rattle.control_wire.specs.declared.icmpv4.Icmpv4Repr.{Icmpv4Repr}
use Rattle.control_wire.specs.declared.icmpv4.Icmpv4Repr.TheVariants.{EchoRequest, EchoReply, DstUnreachable, TimeExceeded}
use Rattle.control_wire.specs.declared.icmpv4.Icmpv4DstUnreachable.{Icmpv4DstUnreachable}
use Rattle.control_wire.specs.declared.icmpv4.Icmpv4DstUnreachable.TheVariants.{PortUnreachable}
use Rattle.iface_tables.specs.Neighbor.{answer_of, is_found}
use Rattle.host_machine.specs.Context.Note.{Note}
use Rattle.host_machine.specs.Context.Host.{Host, Storage, with_places}
use Rattle.host_machine.specs.Receive.Reply.{Reply, Arp, Ip, IsDropped}
use Rattle.host_machine.specs.Icmp.Icmpv4.{ProcessesIcmpv4, message_back, reply_source, answer_to, unreachable}
use Rattle.host_machine.specs.Icmp.Icmpv4 as icmpv4
use Rattle.host_machine.specs.Icmp.Icmpv6 as icmpv6
use Rattle.host_machine.specs.Icmp.Icmpv6.{ProcessesIcmpv6, ProcessesMessage}
use Rattle.host_machine.specs.Discovery.Ndisc as ndisc
use Rattle.host_machine.specs.Discovery.Ndisc.{ProcessesNdisc, ProcessesNdiscMessage, Learns, usable_lladdr}
use Rattle.host_machine.specs.Discovery.Ndisc.{advertised_lladdr, has_override, is_target, answer_by, advertisement_of}
use Rattle.host_machine.specs.Sockets.Raw as raw
use Rattle.host_machine.specs.Sockets.Tcp.{ProcessesTcp, segment_back}
use Rattle.host_machine.specs.Sockets.Tcp as tcp
use Rattle.host_machine.specs.Sockets.Udp.{ProcessesUdp}
use Rattle.host_machine.specs.Sockets.Udp as udp
use Rattle.host_machine.specs.Icmp.Unreachable.{port_unreachable}
use Rattle.host_machine.specs.Receive.Ipv4.{ProcessesDatagram}
use Rattle.host_machine.specs.Receive.Ipv4 as ipv4
use Rattle.host_machine.specs.Receive.Ipv6.{ProcessesIpv6, ProcessesPacket, ProcessesHopByHop, ProcessesDatagramV6, unrecognized_next_header}
use Rattle.host_machine.specs.Icmp.HopByHop.{unknown_option}
use Rattle.host_machine.specs.Receive.Ipv6 as ipv6
use Rattle.host_laws.proofs.Context.UnchangedFields.{Keeps, emptied, rest_of, kept, kept_by, kept_then, unread, heard_kept, sender_kept}
use Rattle.host_laws.proofs.Context.MediumAddresses.{filled_of, of_six}
use Rattle.host_laws.proofs.Interface.OwnMessages.{is_own}
use Rattle.host_machine.specs.Packet.Packet.{payload_of}
use Rattle.host_laws.proofs.Sockets.RawProtocols.{NoSpeaker, Attends, attends, attends_by, attends_then, raw_attends}
use Rattle.host_laws.proofs.Sockets.RawProtocols.{icmp_attends, icmp_heard, udp_delivered, tcp_delivered, sender_attends}

-- no packet of ARP, and one with a message of the host's own, which asks for no neighbour
abbrev pub IsByIp : Option Reply → Type 0
IsByIp None = Unit {0}
IsByIp (Some (Ip p)) = is_own (payload_of p) ≡ true
IsByIp (Some (Arp r)) = ⊥

pub record IsPlain (H : Host) (reply : Option Reply) (notes : List Note) (new : Host) : Type 0 where
  pub by_ip : IsByIp reply
  pub unnoted : notes ≡ []
  pub keeps : Keeps H new
  pub attends : Attends H new

-- behind what keeps the host
after : {H mid new : Host} {reply : Option Reply} {notes : List Note} →
    Keeps H mid → Attends H mid → IsPlain mid reply notes new → IsPlain H reply notes new
after k a p = record { by_ip = p.by_ip; unnoted = p.unnoted; keeps = kept_then k p.keeps; attends = attends_then a p.attends }

dropped : {H new : Host} {reply : Option Reply} {notes : List Note} → IsDropped H reply notes new → IsPlain H reply notes new
dropped d = record { by_ip = rw d.silent tt; unnoted = d.unnoted; keeps = kept d.unchanged; attends = attends d.unchanged }

-- a reply where the host stays
replied : {H new : Host} {reply : Option Reply} {notes : List Note} (o : Option Reply) →
    IsByIp o → reply ≡ o → notes ≡ [] → new ≡ H → IsPlain H reply notes new
replied o i r n e = record { by_ip = rw r i; unnoted = n; keeps = kept e; attends = attends e }

-- or where sockets got something
placed : {H new : Host} {reply : Option Reply} {notes : List Note} {places : List Storage} (o : Option Reply) →
    IsByIp o → ((spoken : ℕ → Bool) → NoSpeaker spoken H.sockets.places → NoSpeaker spoken places) → reply ≡ o → notes ≡ [] →
    new ≡ with_places H places → IsPlain H reply notes new
placed o i s r n e =
    record { by_ip = rw r i; unnoted = n; keeps = kept_by e (unread refl refl); attends = attends_by e (record { nobody = s; moment = refl }) }

-- unless a raw socket took the packet
unless : (b : Bool) (p : Reply) → IsByIp (Some p) → IsByIp (if b then None else Some p)
unless true p i = tt
unless false p i = i

icmpv4_back : (r : Ipv4Repr) (m : Icmpv4Repr) (octets : List ℕ) (o : Option Ipv4Address) → IsByIp (option_map (message_back r m octets) o)
icmpv4_back r m octets None = tt
icmpv4_back r m octets (Some a) = refl

refusal : (handled_by_raw_socket : Bool) (own : List IpCidr) (reason : Icmpv4DstUnreachable) (r : Ipv4Repr) (payload : List ℕ) →
    IsByIp (unreachable handled_by_raw_socket own reason r payload)
refusal true own reason r payload = tt
refusal false own reason r payload =
    icmpv4_back r (DstUnreachable reason r) (icmpv4.quotation_of payload) (reply_source own r (DstUnreachable reason r))

port_refusal : (handled_by_raw_socket : Bool) (own : List IpCidr) (r : IpRepr) (payload : List ℕ) →
    IsByIp (port_unreachable handled_by_raw_socket own r payload)
port_refusal handled_by_raw_socket own (repr.Ipv4 r) payload = refusal handled_by_raw_socket own PortUnreachable r payload
port_refusal true own (repr.Ipv6 r) payload = tt
port_refusal false own (repr.Ipv6 r) payload = refl

udp_plain : {handled_by_raw_socket : Bool} {r : IpRepr} {H new : Host} {octets : List ℕ} {reply : Option Reply} {notes : List Note} →
    ProcessesUdp handled_by_raw_socket r H octets reply notes new → IsPlain H reply notes new
udp_plain (udp.Malformed m d) = dropped d
udp_plain {handled_by_raw_socket} {r} {H} {new} {octets} (udp.Delivered places u f e n s) =
    placed None tt (λ spoken none.
    udp_delivered spoken (udp.accepts H.ip_addrs r (udp_in octets).0) r (udp_in octets).0 (udp_in octets).1 H.sockets.places places f none) e n s
udp_plain {handled_by_raw_socket} {r} {H} {new} {octets} (udp.NotAccepted u none e n s) =
    replied _ (port_refusal handled_by_raw_socket H.ip_addrs r octets) e n s

segment : (r : IpRepr) (o : Option TcpRepr) → IsByIp (option_map (segment_back r) o)
segment r None = tt
segment (repr.Ipv4 r) (Some t) = refl
segment (repr.Ipv6 r) (Some t) = refl

tcp_plain : {handled_by_raw_socket : Bool} {r : IpRepr} {H new : Host} {octets : List ℕ} {reply : Option Reply} {notes : List Note} →
    ProcessesTcp handled_by_raw_socket r H octets reply notes new → IsPlain H reply notes new
tcp_plain (tcp.BetweenUnspecified b d) = dropped d
tcp_plain (tcp.Malformed b m d) = dropped d
tcp_plain {handled_by_raw_socket} {r} {H} {new} {octets} (tcp.Delivered index place b t f e n s) =
    placed _ (segment r _)
    (λ spoken none. tcp_delivered spoken r (tcp_in octets).0 (tcp_in octets).1 H.sockets.places index place f.is_there none) e n s
tcp_plain {handled_by_raw_socket} {r} (tcp.NotAccepted b t none e n s) = replied _ (segment r _) e n s

-- ICMP for IPv4
answered : (own : List IpCidr) (r : Ipv4Repr) (m : Icmpv4Repr) (octets : List ℕ) → IsByIp (answer_to own r m octets)
answered own r (EchoRequest ident seq_no) octets = icmpv4_back r (EchoReply ident seq_no) octets (reply_source own r (EchoReply ident seq_no))
answered own r (EchoReply ident seq_no) octets = tt
answered own r (DstUnreachable reason header) octets = tt
answered own r (TimeExceeded code header) octets = tt

icmpv4_plain : {r : Ipv4Repr} {H new : Host} {octets : List ℕ} {reply : Option Reply} {notes : List Note} →
    ProcessesIcmpv4 r H octets reply notes new → IsPlain H reply notes new
icmpv4_plain (icmpv4.Malformed m d) = dropped d
icmpv4_plain {r} {H} {new} {octets} (icmpv4.Taken i e n s) =
    placed _ (answered H.ip_addrs r _ _) (λ spoken none. icmp_heard spoken _ _ _ octets H none) e n s

refused_v4 : {handled_by_raw_socket : Bool} {r : Ipv4Repr} {H new : Host} {octets : List ℕ} {reply : Option Reply} {notes : List Note} →
    ipv4.IsRefused handled_by_raw_socket r H octets reply notes new → IsPlain H reply notes new
refused_v4 {handled_by_raw_socket} {r} {H} {new} {octets} i =
    replied _ (refusal handled_by_raw_socket H.ip_addrs _ r octets) i.replied i.unnoted i.unchanged

asked_kept : (H : Host) (dst : Ipv4Address) (m : IgmpRepr) → Keeps H (igmp_rules.host_after_igmp H dst m)
asked_kept H dst (MembershipQuery code group) = unread refl refl
asked_kept H dst (MembershipReport group version) = unread refl refl
asked_kept H dst (LeaveGroup group) = unread refl refl

asked_attends : (H : Host) (dst : Ipv4Address) (m : IgmpRepr) → Attends H (igmp_rules.host_after_igmp H dst m)
asked_attends H dst (MembershipQuery code group) = record { nobody = λ spoken none. none; moment = refl }
asked_attends H dst (MembershipReport group version) = record { nobody = λ spoken none. none; moment = refl }
asked_attends H dst (LeaveGroup group) = record { nobody = λ spoken none. none; moment = refl }

igmp_plain : {r : Ipv4Repr} {H new : Host} {octets : List ℕ} {reply : Option Reply} {notes : List Note} →
    igmp_rules.ProcessesIgmp r H octets reply notes new → IsPlain H reply notes new
igmp_plain (igmp_rules.Malformed m d) = dropped d
igmp_plain {r} {H} {new} {octets} (igmp_rules.Taken i e n same) = record {
  by_ip = rw e tt;
  unnoted = n;
  keeps = kept_by same (asked_kept H r.dst_addr (igmp_in octets));
  attends = attends_by same (asked_attends H r.dst_addr (igmp_in octets));
}

mld_kept : (H : Host) (r : Ipv6Repr) (code : ℕ) (group : Ipv6Address) → Keeps H (mld_rules.host_after_mld_query H r code group)
mld_kept H r code group = by (mld_rules.is_near r) where
  by : (b : Bool) → Keeps H (if b then record H {
    mld_report = mld_rules.mld_report_for H r.dst_addr (H.moment +ℤ pos (mld_rules.delay code H.random)) group;
    random = mld_rules.random_after_draw code H.random;
  } else H)
  by true = unread refl refl
  by false = unread refl refl

mld_attends : (H : Host) (r : Ipv6Repr) (code : ℕ) (group : Ipv6Address) → Attends H (mld_rules.host_after_mld_query H r code group)
mld_attends H r code group = by (mld_rules.is_near r) where
  by : (b : Bool) → Attends H (if b then record H {
    mld_report = mld_rules.mld_report_for H r.dst_addr (H.moment +ℤ pos (mld_rules.delay code H.random)) group;
    random = mld_rules.random_after_draw code H.random;
  } else H)
  by true = record { nobody = λ spoken none. none; moment = refl }
  by false = attends refl

mld_plain : (r : Ipv6Repr) (m : MldRepr) (H : Host) (reply : Option Reply) (notes : List Note) (new : Host) →
    mld_rules.ProcessesMld r m H reply notes new → IsPlain H reply notes new
mld_plain r (Query code group) H reply notes new t = record {
  by_ip = rw t.0 tt;
  unnoted = t.1;
  keeps = kept_by t.2 (mld_kept H r code group);
  attends = attends_by t.2 (mld_attends H r code group);
}
mld_plain r (Report count) H reply notes new t = dropped t

protocol_v4 : (p : IpProtocol) (handled_by_raw_socket : Bool) (r : Ipv4Repr) (H : Host) (octets : List ℕ)
    (reply : Option Reply) (notes : List Note) (new : Host) →
    ipv4.ProcessesProtocol p handled_by_raw_socket r H octets reply notes new → IsPlain H reply notes new
protocol_v4 protocol.Icmp handled_by_raw_socket r H octets reply notes new t = icmpv4_plain t
protocol_v4 protocol.Udp handled_by_raw_socket r H octets reply notes new t = udp_plain t
protocol_v4 protocol.Tcp handled_by_raw_socket r H octets reply notes new t = tcp_plain t
protocol_v4 protocol.Igmp handled_by_raw_socket r H octets reply notes new t = igmp_plain t
protocol_v4 protocol.HopByHop handled_by_raw_socket r H octets reply notes new t = refused_v4 t
protocol_v4 protocol.Icmpv6 handled_by_raw_socket r H octets reply notes new t = refused_v4 t
protocol_v4 (protocol.Unknown n) handled_by_raw_socket r H octets reply notes new t = refused_v4 t

pub whole_plain : {source : HardwareAddress} {r : Ipv4Repr} {H new : Host} {payload : List ℕ} {reply : Option Reply} {notes : List Note} →
    ProcessesDatagram source r H payload reply notes new → IsPlain H reply notes new
whole_plain {source} {r} {H} {new} {payload} (ipv4.NotForUs u d) =
    after (heard_kept (repr.Ipv4 r) payload H) (raw_attends (repr.Ipv4 r) payload H) (dropped d)
whole_plain {source} {r} {H} {new} {payload} {reply} {notes} (ipv4.Accepted u t) =
    after (heard_kept (repr.Ipv4 r) payload H) (raw_attends (repr.Ipv4 r) payload H)
    (after (sender_kept source (repr.Ipv4 r) (raw.host_after_raw_delivery (repr.Ipv4 r) payload H))
    (sender_attends source (repr.Ipv4 r) (raw.host_after_raw_delivery (repr.Ipv4 r) payload H))
    (protocol_v4 r.next_header _ r _ payload reply notes new t))

-- messages of neighbours: an address of six octets is learnt, if one is
told_six : (o : Option EthernetAddress) (target : Ipv6Address) → IsLinkLayerAddr o → IsLinkLayerAddr (usable_lladdr o target)
told_six None target six = tt
told_six (Some h) target six = by (ethernet.is_unicast h && is_unicast target) where
  by : (b : Bool) → IsLinkLayerAddr (if b then Some h else None)
  by true = six
  by false = tt

advertised_six : (H : Host) (r : Ipv6Repr) (flags : NdiscNeighborFlags) (target : Ipv6Address) (o : Option EthernetAddress) →
    IsLinkLayerAddr o → IsLinkLayerAddr (advertised_lladdr H r flags target o)
advertised_six H r flags target o six = by (has_override flags || not (is_found (answer_of H.neighbors (address.Ipv6 r.src_addr) H.moment))) where
  by : (b : Bool) → IsLinkLayerAddr (if b then usable_lladdr o target else None)
  by true = told_six o target six
  by false = tt

learns_kept : (H new : Host) (own : EthernetAddress) (a : Ipv6Address) (o : Option EthernetAddress) →
    H.hardware_addr ≡ hardware.Ethernet own → IsLinkLayerAddr o → Learns o a H new → Keeps H new
learns_kept H new own a None mine six e = kept e
learns_kept H new own a (Some h) mine six learns = kept_by learns.same (record {
  same = ap (λ n. rest_of (record H { neighbors = n })) (emptied learns.filled);
  real = λ r.
      let there : IsOf H.capabilities.medium (hardware.Ethernet own) = rw mine at r.own in
      record {
        own = r.own;
        neighbors = filled_of H.capabilities.medium _ _ _ _ (of_six H.capabilities.medium own h there six) learns.filled r.neighbors;
      };
})

solicited : (own : EthernetAddress) (H : Host) (r : Ipv6Repr) (target : Ipv6Address) → IsByIp (answer_by own H r target)
solicited own H r target = by (is_target H r target) where
  by : (b : Bool) → IsByIp (if b then Some (Ip (advertisement_of own r target)) else None)
  by true = refl
  by false = tt

learns_attends : (H new : Host) (a : Ipv6Address) (o : Option EthernetAddress) → Learns o a H new → Attends H new
learns_attends H new a None e = attends e
learns_attends H new a (Some h) learns = attends_by learns.same (record { nobody = λ spoken none. none; moment = refl })

heard_plain : {own : EthernetAddress} {r : Ipv6Repr} {message : NdiscRepr} {H new : Host} {reply : Option Reply} {notes : List Note} →
    IsLinkLayerAddr (lladdr_of message) →
    H.hardware_addr ≡ hardware.Ethernet own → ProcessesNdiscMessage own r H reply notes new message → IsPlain H reply notes new
heard_plain {own} {r} {message} {H} {new} six mine (ndisc.Advertised flags target lladdr learns e n) =
    record {
      by_ip = rw e tt;
      unnoted = n;
      keeps = learns_kept H new own r.src_addr (advertised_lladdr H r flags target lladdr) mine (advertised_six H r flags target lladdr six) learns;
      attends = learns_attends H new r.src_addr (advertised_lladdr H r flags target lladdr) learns;
    }
heard_plain six mine (ndisc.NoUnicast target lladdr nobody d) = dropped d
heard_plain {own} {r} {message} {H} {new} six mine (ndisc.Solicited target lladdr specified learns e n) =
    record {
      by_ip = rw e (solicited own H r target);
      unnoted = n;
      keeps = learns_kept H new own r.src_addr (usable_lladdr lladdr target) mine (told_six lladdr target six) learns;
      attends = learns_attends H new r.src_addr (usable_lladdr lladdr target) learns;
    }

ndisc_plain : {r : Ipv6Repr} {message : NdiscRepr} {H new : Host} {reply : Option Reply} {notes : List Note} → IsLinkLayerAddr (lladdr_of message) →
    ProcessesNdisc r message H reply notes new → IsPlain H reply notes new
ndisc_plain six (ndisc.FromAfar far d) = dropped d
ndisc_plain six (ndisc.WithoutAddresses without d) = dropped d
ndisc_plain six (ndisc.FromNeighbor own near mine h) = heard_plain six mine h

-- a message to a neighbour that is read tells an address of six octets
abbrev Tells : Icmpv6Repr → Type 0
Tells (icmp.Ndisc message) = IsLinkLayerAddr (lladdr_of message)
Tells (icmp.Router message) = Unit {0}
Tells (icmp.Mld message) = Unit {0}
Tells (icmp.EchoRequest ident seq_no) = Unit {0}
Tells (icmp.EchoReply ident seq_no) = Unit {0}
Tells (icmp.DstUnreachable reason header) = Unit {0}
Tells (icmp.PktTooBig mtu header) = Unit {0}
Tells (icmp.TimeExceeded code header) = Unit {0}
Tells (icmp.ParamProblem reason pointer header) = Unit {0}

tells_error : (octets : List ℕ) → Tells (error_of octets)
tells_error octets = by (type_in octets == 1) (type_in octets == 2) (type_in octets == 3) where
  by : (a b c : Bool) → Tells (
      if a then icmp.DstUnreachable (unreachable_of (code_in octets)) (quoted_in (drop 8 octets)).0 else
      if b then icmp.PktTooBig (u32_at octets 4) (quoted_in (drop 8 octets)).0 else
      if c then icmp.TimeExceeded (code_in octets) (quoted_in (drop 8 octets)).0 else
      icmp.ParamProblem (problem_of (code_in octets)) (u32_at octets 4) (quoted_in (drop 8 octets)).0)
  by true b c = tt
  by false true c = tt
  by false false true = tt
  by false false false = tt

to_neighbor : (octets : List ℕ) → 135 ≤ type_in octets → type_in octets ≤ 136 → IsBody octets → IsNdisc octets
to_neighbor octets high low (Request t c) = absurd (omega (arith, high, t))
to_neighbor octets high low (EchoReplied t c) = absurd (omega (arith, high, t))
to_neighbor octets high low (Error e) = let most = e.most in absurd (omega (arith, high, most))
to_neighbor octets high low (Neighbor n) = n
to_neighbor octets high low (OfRouters (Solicitation s)) = let t = s.type in absurd (omega (arith, high, t))
to_neighbor octets high low (OfRouters (Advertisement a)) = let t = a.type in absurd (omega (arith, high, t))
to_neighbor octets high low (Listener (IsQuery t c l)) = absurd (omega (arith, high, t))
to_neighbor octets high low (Listener (IsReport t c l)) = absurd (omega (arith, low, t))

tells : (checked : Bool) (src dst : IpAddress) (octets : List ℕ) → IsIcmpv6 checked src dst octets → Tells (icmpv6_in octets).0
tells checked src dst octets i =
    by (type_in octets == 128) (type_in octets == 129) (type_in octets == 135) (type_in octets == 136) (type_in octets == 133) (type_in octets == 134)
    (type_in octets == 130) (type_in octets == 143) refl refl where
      by : (a b c d v w q r : Bool) → (type_in octets == 135) ≡ c → (type_in octets == 136) ≡ d → Tells (
          if a then (icmp.EchoRequest (u16_at octets 4) (u16_at octets 6), drop 8 octets) else
          if b then (icmp.EchoReply (u16_at octets 4) (u16_at octets 6), drop 8 octets) else
          if c then (icmp.Ndisc (ndisc_in octets), []) else
          if d then (icmp.Ndisc (ndisc_in octets), []) else
          if v then (icmp.Router (router_in octets), []) else
          if w then (icmp.Router (router_in octets), []) else
          if q then (icmp.Mld (mld_in octets).0, (mld_in octets).1) else
          if r then (icmp.Mld (mld_in octets).0, (mld_in octets).1) else
          error_in octets).0
      by true b c d v w q r e f = tt
      by false true c d v w q r e f = tt
      by false false true d v w q r e f = are_six octets (to_neighbor octets (grind (arith, nat_tests)) (grind (arith, nat_tests)) i.body)
      by false false false true v w q r e f = are_six octets (to_neighbor octets (grind (arith, nat_tests)) (grind (arith, nat_tests)) i.body)
      by false false false false true w q r e f = tt
      by false false false false false true q r e f = tt
      by false false false false false false true r e f = tt
      by false false false false false false false true e f = tt
      by false false false false false false false false e f = tells_error octets

-- ICMP for IPv6
message_plain : (r : Ipv6Repr) (m : Icmpv6Repr) (octets : List ℕ) (H : Host) (reply : Option Reply) (notes : List Note) (new : Host) → Tells m →
    ProcessesMessage r m octets H reply notes new → IsPlain H reply notes new
message_plain r (icmp.EchoRequest ident seq_no) octets H reply notes new six t = replied (Some _) refl t.0 t.1 t.2
message_plain r (icmp.Ndisc message) octets H reply notes new six t = ndisc_plain six t
message_plain r (icmp.Router message) octets H reply notes new six t = record {
  by_ip = rw t.0 tt;
  unnoted = t.1;
  keeps = kept_by t.2 (unread refl refl);
  attends = attends_by t.2 (record { nobody = λ spoken none. none; moment = refl });
}
message_plain r (icmp.Mld message) octets H reply notes new six t = mld_plain r message H reply notes new t
message_plain r (icmp.EchoReply ident seq_no) octets H reply notes new six t = dropped t
message_plain r (icmp.DstUnreachable reason header) octets H reply notes new six t = dropped t
message_plain r (icmp.PktTooBig mtu header) octets H reply notes new six t = dropped t
message_plain r (icmp.TimeExceeded code header) octets H reply notes new six t = dropped t
message_plain r (icmp.ParamProblem reason pointer header) octets H reply notes new six t = dropped t

icmpv6_plain : {r : Ipv6Repr} {H new : Host} {octets : List ℕ} {reply : Option Reply} {notes : List Note} →
    ProcessesIcmpv6 r H octets reply notes new → IsPlain H reply notes new
icmpv6_plain (icmpv6.Malformed m d) = dropped d
icmpv6_plain {r} {H} {new} {octets} {reply} {notes} (icmpv6.Taken i t) =
    after (unread refl refl) (icmp_attends _ _ _ octets H)
    (message_plain r (icmpv6_in octets).0 (icmpv6_in octets).1 (icmpv6.host_after_delivery r octets H) reply notes new (tells _ _ _ octets i) t)

refused_v6 : {handled_by_raw_socket : Bool} {r : Ipv6Repr} {H new : Host} {octets : List ℕ} {reply : Option Reply} {notes : List Note} →
    ipv6.IsRefused handled_by_raw_socket r H octets reply notes new → IsPlain H reply notes new
refused_v6 {handled_by_raw_socket} {r} {H} {new} {octets} i =
    replied (unrecognized_next_header handled_by_raw_socket H.ip_addrs r octets) (unless handled_by_raw_socket _ refl) i.replied i.unnoted i.unchanged

protocol_v6 : (p : IpProtocol) (handled_by_raw_socket : Bool) (r : Ipv6Repr) (H : Host) (octets : List ℕ)
    (reply : Option Reply) (notes : List Note) (new : Host) →
    ipv6.ProcessesProtocol p handled_by_raw_socket r H octets reply notes new → IsPlain H reply notes new
protocol_v6 protocol.Icmpv6 handled_by_raw_socket r H octets reply notes new t = icmpv6_plain t
protocol_v6 protocol.Udp handled_by_raw_socket r H octets reply notes new t = udp_plain t
protocol_v6 protocol.Tcp handled_by_raw_socket r H octets reply notes new t = tcp_plain t
protocol_v6 protocol.Icmp handled_by_raw_socket r H octets reply notes new t = refused_v6 t
protocol_v6 protocol.Igmp handled_by_raw_socket r H octets reply notes new t = refused_v6 t
protocol_v6 protocol.HopByHop handled_by_raw_socket r H octets reply notes new t = refused_v6 t
protocol_v6 (protocol.Unknown n) handled_by_raw_socket r H octets reply notes new t = refused_v6 t

payload_v6 : {source : HardwareAddress} {r : Ipv6Repr} {p : IpProtocol} {H new : Host} {payload : List ℕ} {reply : Option Reply} {notes : List Note} →
    ProcessesDatagramV6 source r p H payload reply notes new → IsPlain H reply notes new
payload_v6 (ipv6.NotForUs u d) = dropped d
payload_v6 {source} {r} {p} {H} {new} {payload} {reply} {notes} (ipv6.Accepted u t) =
    after (heard_kept (repr.Ipv6 r) payload H) (raw_attends (repr.Ipv6 r) payload H)
    (after (sender_kept source (repr.Ipv6 r) (raw.host_after_raw_delivery (repr.Ipv6 r) payload H))
    (sender_attends source (repr.Ipv6 r) (raw.host_after_raw_delivery (repr.Ipv6 r) payload H)) (protocol_v6 p _ r _ payload reply notes new t))

complaint_plain : (failure : Ipv6OptionFailureType) (own : List IpCidr) (r : Ipv6Repr) (payload : List ℕ) →
    IsByIp (unknown_option failure own r payload)
complaint_plain Skip own r payload = tt
complaint_plain Discard own r payload = tt
complaint_plain DiscardSendAll own r payload = refl
complaint_plain DiscardSendUnicast own r payload = unless (is_multicast r.dst_addr) (icmpv6.problem own UnrecognizedOption r payload) refl

options_v6 : {source : HardwareAddress} {r : Ipv6Repr} {H new : Host} {payload : List ℕ} {reply : Option Reply} {notes : List Note} →
    ProcessesHopByHop source r H payload reply notes new → IsPlain H reply notes new
options_v6 (ipv6.MalformedOptions m d) = dropped d
options_v6 (ipv6.Skipped o s t) = payload_v6 t
options_v6 {source} {r} {H} {new} {payload} (ipv6.Discarded failure o f s e n same) =
    replied (unknown_option failure H.ip_addrs r payload) (complaint_plain failure H.ip_addrs r payload) e n same

packet_v6 : {source : HardwareAddress} {r : Ipv6Repr} {H new : Host} {payload : List ℕ} {reply : Option Reply} {notes : List Note} →
    ProcessesPacket source r H payload reply notes new → IsPlain H reply notes new
packet_v6 (ipv6.FromNoHost s d) = dropped d
packet_v6 (ipv6.WithOptions s z t) = options_v6 t
packet_v6 (ipv6.Bare s z t) = payload_v6 t

pub ipv6_plain : {source : HardwareAddress} {H new : Host} {octets : List ℕ} {reply : Option Reply} {notes : List Note} →
    ProcessesIpv6 source H octets reply notes new → IsPlain H reply notes new
ipv6_plain (ipv6.Malformed m d) = dropped d
ipv6_plain (ipv6.Read i t) = packet_v6 t
