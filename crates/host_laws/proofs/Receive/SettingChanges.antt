-- What a frame changes of a host's settings, of what it learnt from routers, and of its pending answers to queries.
use Rattle.std.proofs.Common.{◌≡◌, ◌⊎◌, ℕ, ◌+◌, ◌*◌, ◌/◌, ◌%◌, ◌^◌, ◌≤◌, Bool, true, false, List, [], ◌∷◌, drop, refl}
use Rattle.std.proofs.Common.{sym, ◌∙◌, ap, subst}
use Rattle.std.proofs.Common.{inl, inr, Option, Some, None, arith}
use Rattle.std.specs.Prelude.{ℤ, pos, ◌+ℤ◌, ◌≤ℤ◌, ◌<◌, ◌==◌, ◌||◌, ◌&&◌, length, if◌then◌else◌}
use Rattle.std.proofs.lemmas.Bool.Decides.{Decides-eqb, nat_tests}
use Rattle.std.proofs.lemmas.Int.{ints}
use Rattle.std.proofs.Math.Nat.{div-le_self, mod-lt}
use Rattle.net_base.specs.Rand.{next}
use Rattle.net_base.specs.Device.{Event, Reception, Frame, Nothing, Withheld}
use Rattle.net_base.specs.declared.phy.DeviceCapabilities.{DeviceCapabilities}
use Rattle.ip_address.specs.Ipv6.{all_nodes, is_link_local}
use Rattle.ip_address.specs.declared.cidr.IpCidr.{IpCidr}
use Rattle.ip_address.specs.declared.ethernet_address.EthernetAddress.{EthernetAddress}
use Rattle.ip_address.specs.declared.hardware.HardwareAddress.{HardwareAddress}
use Rattle.ip_address.specs.declared.hardware.HardwareAddress.TheVariants as hardware
use Rattle.ip_address.specs.declared.ipv4.Ipv4Address.{Ipv4Address}
use Rattle.ip_address.specs.declared.ipv6.Ipv6Address.{Ipv6Address}
use Rattle.ip_address.specs.declared.protocol.IpProtocol.{IpProtocol}
use Rattle.ip_address.specs.declared.protocol.IpProtocol.TheVariants as protocol
use Rattle.ip_wire.specs.declared.ethernet.EthernetProtocol.{EthernetProtocol}
use Rattle.ip_wire.specs.declared.ethernet.EthernetProtocol.TheVariants as ethertype
use Rattle.ip_wire.specs.declared.ip_packet.IpRepr.{IpRepr}
use Rattle.ip_wire.specs.declared.ip_packet.IpRepr.TheVariants as repr
use Rattle.ip_wire.specs.declared.ipv4_packet.Ipv4Repr.{Ipv4Repr}
use Rattle.ip_wire.specs.Ethernet.{header_in}
use Rattle.ip_wire.specs.Ipv4Packet.{ipv4_in}
use Rattle.ip_wire.specs.declared.ipv6_packet.Ipv6Repr.{Ipv6Repr}
use Rattle.ip_wire.specs.Ipv6Packet.{ipv6_in}
use Rattle.control_wire.specs.Icmpv6.{icmpv6_in}
use Rattle.control_wire.specs.declared.icmpv6.Icmpv6Repr.{Icmpv6Repr}
use Rattle.control_wire.specs.declared.icmpv6.Icmpv6Repr.TheVariants as v6
use Rattle.control_wire.specs.declared.ndisc.NdiscRepr.{NdiscRepr}
use Rattle.control_wire.specs.declared.router.RouterRepr.{RouterRepr}
use Rattle.control_wire.specs.declared.router.RouterRepr.TheVariants.{RouterSolicit, RouterAdvert}
use Rattle.control_wire.specs.Igmp.{IsIgmp, igmp_in, query_version, tenths_of}
use Rattle.control_wire.specs.declared.igmp.IgmpRepr.{IgmpRepr}
use Rattle.control_wire.specs.declared.igmp.IgmpRepr.TheVariants.{MembershipQuery, MembershipReport, LeaveGroup}
use Rattle.control_wire.specs.declared.igmp.IgmpVersion.TheVariants.{Version1, Version2}
use Rattle.control_wire.specs.declared.mld.MldRepr.TheVariants.{Query, Report}
use Rattle.iface_tables.specs.Groups.{ipv4_groups}
use Rattle.iface_tables.specs.declared.groups.Group.{Group}
use Rattle.iface_tables.specs.declared.report.IgmpReportState.{IgmpReportState}
use Rattle.iface_tables.specs.declared.report.IgmpReportState.TheVariants as igmp
use Rattle.iface_tables.specs.declared.report.MldReportState.{MldReportState}
use Rattle.iface_tables.specs.declared.report.MldReportState.TheVariants as mld
use Rattle.iface_tables.specs.declared.route.Route.{Route}
use Rattle.iface_tables.specs.Slaac.{SlaacState, seconds, slaac_after_message}
use Rattle.host_machine.specs.declared.results.PollIngressSingleResult.{PollIngressSingleResult}
use Rattle.host_machine.specs.Interface.Config.{is_ethernet}
use Rattle.host_machine.specs.Context.Note.{Note}
use Rattle.host_machine.specs.Context.Host.{Host, without_expired}
use Rattle.host_machine.specs.Discovery.Arp.{ProcessesArp}
use Rattle.host_machine.specs.Discovery.Arp as arp
use Rattle.host_machine.specs.Receive.Ethernet.{ProcessesEthernet, ProcessesEthertype, ProcessesFrame}
use Rattle.host_machine.specs.Receive.Ethernet as ethernet
use Rattle.host_machine.specs.Icmp.Icmpv4.{ProcessesIcmpv4}
use Rattle.host_machine.specs.Icmp.Icmpv4 as icmpv4
use Rattle.host_machine.specs.Icmp.Icmpv6.{ProcessesIcmpv6, ProcessesMessage, IsMessage}
use Rattle.host_machine.specs.Icmp.Icmpv6 as icmpv6
use Rattle.host_machine.specs.Receive.Ipv4.{ProcessesDatagram, ProcessesIpv4, ProcessesPacket}
use Rattle.host_machine.specs.Receive.Ipv4 as ip
use Rattle.host_machine.specs.Receive.Ipv6.{ProcessesDatagramV6, ProcessesHopByHop, ProcessesIpv6}
use Rattle.host_machine.specs.Receive.Ipv6 as ipv6
use Rattle.host_machine.specs.Discovery.Ndisc.{Learns, ProcessesNdisc, ProcessesNdiscMessage}
use Rattle.host_machine.specs.Discovery.Ndisc as ndisc
use Rattle.host_machine.specs.Sockets.Raw as raw
use Rattle.host_machine.specs.Discovery.Renewal.{sender_renewed}
use Rattle.host_machine.specs.Receive.Reply.{Reply, IsDropped}
use Rattle.host_machine.specs.Sockets.Tcp.{ProcessesTcp}
use Rattle.host_machine.specs.Sockets.Tcp as tcp
use Rattle.host_machine.specs.Sockets.Udp.{ProcessesUdp}
use Rattle.host_machine.specs.Sockets.Udp as udp
use Rattle.host_machine.specs.Multicast.Igmp as igmp_rules
use Rattle.host_machine.specs.Multicast.Mld as mld_rules
use Rattle.host_machine.specs.Discovery.Router.{after_advertisement, is_valid_advertisement}
use Rattle.host_machine.specs.Interface.Ingress.{Ingress, Takes}
use Rattle.host_laws.specs.Laws.Restraint.Readings.{CarriesV4, CarriesV6, Receives}
use Rattle.host_laws.specs.Laws.Restraint.Neighbors.{HasMessage}
use Rattle.host_laws.specs.Laws.Restraint.Neighbors as neighbors
use Rattle.host_laws.specs.Laws.Restraint.Queries.{allowed, HasIgmpQuery, HasMldQuery, IgmpIsAsked}
use Rattle.host_laws.specs.Laws.Restraint.Queries.{IsMldPendingUntil, IsPendingUntil, MldIsAsked, ReportsAreAsked}
use Rattle.host_laws.specs.Laws.Restraint.Queries as queries
use Rattle.host_laws.specs.Laws.Restraint.Replies.{BringsV4}
use Rattle.host_laws.specs.Laws.Restraint.Replies as replies
use Rattle.host_laws.specs.Laws.Restraint.Settings.{FramesKeepSettings, HasAdvertisement, IsAdvertisement, MayLearn}
use Rattle.host_laws.proofs.Context.SolicitationCount.{count_in, count_of}
use Rattle.host_laws.proofs.Discovery.LearntNeighbors.{and_both, or_either}
use Rattle.host_laws.proofs.Receive.ReceivedFrames.{frame_of_call, renewal}
use Rattle.host_laws.proofs.Interface.SettledFields.{Settings, response_leaves, response_settled}

-- the settings
pub record Lists : Type 0 where
  pub capabilities : DeviceCapabilities
  pub hardware_addr : HardwareAddress
  pub moment : ℤ
  pub ip_addrs : List IpCidr
  pub routes : List Route
  pub any_ip : Bool
  pub reassembly_timeout : ℕ
  pub slaac_enabled : Bool
  pub groups : List Group

abbrev pub lists_of : Host → Lists
lists_of H = record {
  capabilities = H.capabilities;
  hardware_addr = H.hardware_addr;
  moment = H.moment;
  ip_addrs = H.ip_addrs;
  routes = H.routes;
  any_ip = H.any_ip;
  reassembly_timeout = H.reassembly_timeout;
  slaac_enabled = H.slaac_enabled;
  groups = H.groups;
}

-- the answers
pub record IsIgmpNews (H : Host) (frame : List ℕ) (report : IgmpReportState) : Type 0 where
  pub code : ℕ
  pub group : Ipv4Address
  pub end : ℤ
  pub asked : HasIgmpQuery H frame code group
  pub pending : IsPendingUntil report end
  pub after : H.moment ≤ℤ end
  pub within : end ≤ℤ (H.moment +ℤ pos (allowed code))

pub record IsMldNews (H : Host) (frame : List ℕ) (report : MldReportState) : Type 0 where
  pub code : ℕ
  pub group : Ipv6Address
  pub end : ℤ
  pub asked : HasMldQuery H frame code group
  pub pending : IsMldPendingUntil report end
  pub after : H.moment ≤ℤ end
  pub within : end ≤ℤ (H.moment +ℤ pos (code * 1000))

-- what is other after a frame
pub record Left (H : Host) (frame : List ℕ) (new : Host) : Type 0 where
  pub lists : lists_of new ≡ lists_of H
  pub learnt : (new.slaac ≡ H.slaac) ⊎ (MayLearn H × HasAdvertisement H frame)
  pub igmp_report : (new.igmp_report ≡ H.igmp_report) ⊎ IsIgmpNews H frame new.igmp_report
  pub mld_report : (new.mld_report ≡ H.mld_report) ⊎ IsMldNews H frame new.mld_report
  pub count : count_of new ≡ count_of H

-- where all of it stays
pub record Stays (H new : Host) : Type 0 where
  pub lists : lists_of new ≡ lists_of H
  pub slaac : new.slaac ≡ H.slaac
  pub igmp_report : new.igmp_report ≡ H.igmp_report
  pub mld_report : new.mld_report ≡ H.mld_report

stays_as : {H new : Host} → new ≡ H → Stays H new
stays_as e = record {
  lists = ap lists_of e;
  slaac = ap (λ (K : Host). K.slaac) e;
  igmp_report = ap (λ (K : Host). K.igmp_report) e;
  mld_report = ap (λ (K : Host). K.mld_report) e;
}

stays_by : {H mid new : Host} → new ≡ mid → Stays H mid → Stays H new
stays_by e s = record {
  lists = ap lists_of e ∙ s.lists;
  slaac = ap (λ (K : Host). K.slaac) e ∙ s.slaac;
  igmp_report = ap (λ (K : Host). K.igmp_report) e ∙ s.igmp_report;
  mld_report = ap (λ (K : Host). K.mld_report) e ∙ s.mld_report;
}

stays_then : {H mid new : Host} → Stays H mid → Stays mid new → Stays H new
stays_then a b = record {
  lists = b.lists ∙ a.lists;
  slaac = b.slaac ∙ a.slaac;
  igmp_report = b.igmp_report ∙ a.igmp_report;
  mld_report = b.mld_report ∙ a.mld_report;
}

alike : {H new : Host} → lists_of new ≡ lists_of H → new.slaac ≡ H.slaac → new.igmp_report ≡ H.igmp_report → new.mld_report ≡ H.mld_report →
    Stays H new
alike l s i m = record { lists = l; slaac = s; igmp_report = i; mld_report = m }

left_by : {H new : Host} {frame : List ℕ} → Stays H new → Left H frame new
left_by s = record {
  lists = s.lists;
  learnt = inl s.slaac;
  igmp_report = inl s.igmp_report;
  mld_report = inl s.mld_report;
  count = ap count_in s.slaac;
}

gone : {H new : Host} {frame : List ℕ} {reply : Option Reply} {notes : List Note} → IsDropped H reply notes new → Left H frame new
gone d = left_by (stays_as d.unchanged)

-- before a payload is looked at
met_stays : (source : HardwareAddress) (r : IpRepr) (payload : List ℕ) (H : Host) →
    Stays H (sender_renewed source r (raw.host_after_raw_delivery r payload H))
met_stays source r payload H =
    let i = renewal source r (raw.host_after_raw_delivery r payload H) in stays_by i.is (alike refl refl refl refl)

udp_stays : {b : Bool} {r : IpRepr} {H new : Host} {octets : List ℕ} {reply : Option Reply} {notes : List Note} →
    ProcessesUdp b r H octets reply notes new → Stays H new
udp_stays (udp.Malformed m d) = stays_as d.unchanged
udp_stays (udp.Delivered places u f e n s) = stays_by s (alike refl refl refl refl)
udp_stays (udp.NotAccepted u none e n s) = stays_as s

tcp_stays : {b : Bool} {r : IpRepr} {H new : Host} {octets : List ℕ} {reply : Option Reply} {notes : List Note} →
    ProcessesTcp b r H octets reply notes new → Stays H new
tcp_stays (tcp.BetweenUnspecified b d) = stays_as d.unchanged
tcp_stays (tcp.Malformed b m d) = stays_as d.unchanged
tcp_stays (tcp.Delivered index place b s f e n same) = stays_by same (alike refl refl refl refl)
tcp_stays (tcp.NotAccepted b s none e n same) = stays_as same

icmpv4_stays : {r : Ipv4Repr} {H new : Host} {octets : List ℕ} {reply : Option Reply} {notes : List Note} →
    ProcessesIcmpv4 r H octets reply notes new → Stays H new
icmpv4_stays (icmpv4.Malformed m d) = stays_as d.unchanged
icmpv4_stays (icmpv4.Taken i e n s) = stays_by s (alike refl refl refl refl)

-- a rule after what stays
left_then : {H mid new : Host} {frame : List ℕ} → Stays H mid → Stays mid new → Left H frame new
left_then a b = left_by (stays_then a b)

-- how long a query allows
pub interval_fits : (code count : ℕ) → igmp_rules.igmp_interval_for (query_version code) (igmp_rules.answer_time code) count ≤ allowed code
interval_fits code count = by (code == 0) where
  by : (b : Bool) → igmp_rules.igmp_interval_for (if b then Version1 else Version2) (tenths_of code * 100_000) count
      ≤ (if b then 10_000_000 else tenths_of code * 100_000)
  by true = omega arith
  by false = div-le_self (tenths_of code * 100_000) (count + 1)

pub quarter_fits : (code : ℕ) → igmp_rules.answer_time code / 4 ≤ allowed code
quarter_fits code = by (code == 0) refl where
  by : (b : Bool) → (code == 0) ≡ b → tenths_of code * 100_000 / 4 ≤ (if b then 10_000_000 else tenths_of code * 100_000)
  by true e = let none : code ≡ 0 = (Decides-eqb code 0).0 e in rw none (omega arith)
  by false e = div-le_self (tenths_of code * 100_000) 4

pub delay_fits : (code random : ℕ) → mld_rules.delay code random ≤ code * 1000
delay_fits code random = by (code == 0) refl where
  by : (b : Bool) → (code == 0) ≡ b → (if b then 0 else next random / 2 ^ 48 % code * 1000) ≤ code * 1000
  by true e = omega arith
  by false e =
      let some : 0 < code = grind (arith, nat_tests) in
      let less = mod-lt (next random / 2 ^ 48) some in
      omega (arith, less)

pub later_by : (t : ℤ) (n : ℕ) → t ≤ℤ (t +ℤ pos n)
later_by t n = omega (arith, ints)

pub no_later : (t : ℤ) (n m : ℕ) → n ≤ m → (t +ℤ pos n) ≤ℤ (t +ℤ pos m)
no_later t n m few = omega (arith, ints, few)

-- IPv4
module _ (H : Host) (frame packet : List ℕ) (carried : CarriesV4 H.hardware_addr frame packet) (r : Ipv4Repr) (payload : List ℕ)
    (brings : BringsV4 packet r payload) where
  asked_igmp : (K : Host) (code : ℕ) (group : Ipv4Address) → K.moment ≡ H.moment → r.next_header ≡ protocol.Igmp → IsIgmp payload →
      igmp_in payload ≡ MembershipQuery code group →
      (igmp_rules.igmp_report_for K r.dst_addr code group ≡ K.igmp_report) ⊎ IsIgmpNews H frame (igmp_rules.igmp_report_for K r.dst_addr code group)
  asked_igmp K code group now of_igmp i values =
      by (igmp_rules.is_igmp_general K r.dst_addr group) (igmp_rules.is_igmp_specific K r.dst_addr group) where
        interval : ℕ
        interval = igmp_rules.igmp_interval_for (query_version code) (igmp_rules.answer_time code) (length (ipv4_groups K.groups))

        news : (n : ℕ) (report : IgmpReportState) → IsPendingUntil report (K.moment +ℤ pos n) → n ≤ allowed code → IsIgmpNews H frame report
        news n report pending few = record {
          code = code;
          group = group;
          end = K.moment +ℤ pos n;
          asked = record {
            packet = packet;
            header = r;
            octets = payload;
            carried = carried;
            brings = brings;
            of_igmp = of_igmp;
            is_message = i;
            query = values;
          };
          pending = pending;
          after = rw now (later_by H.moment n);
          within = rw now (no_later H.moment n (allowed code) few);
        }

        by : (g s : Bool) → ((if g then igmp.ToGeneralQuery (query_version code)
            (K.moment +ℤ pos (igmp_rules.igmp_interval_for (query_version code) (igmp_rules.answer_time code) (length (ipv4_groups K.groups))))
            (igmp_rules.igmp_interval_for (query_version code) (igmp_rules.answer_time code) (length (ipv4_groups K.groups))) 0 else
            if s then igmp.ToSpecificQuery (query_version code) (K.moment +ℤ pos
            (igmp_rules.answer_time code / 4)) group else K.igmp_report) ≡ K.igmp_report)
            ⊎ IsIgmpNews H frame (if g then igmp.ToGeneralQuery (query_version code)
            (K.moment +ℤ pos (igmp_rules.igmp_interval_for (query_version code) (igmp_rules.answer_time code) (length (ipv4_groups K.groups))))
            (igmp_rules.igmp_interval_for (query_version code) (igmp_rules.answer_time code) (length (ipv4_groups K.groups))) 0 else
            if s then igmp.ToSpecificQuery (query_version code) (K.moment +ℤ pos (igmp_rules.answer_time code / 4)) group else K.igmp_report)
        by true s = inr (news _ _ refl (interval_fits code (length (ipv4_groups K.groups))))
        by false true = inr (news _ _ refl (quarter_fits code))
        by false false = inl refl

  igmp_left : {K new : Host} {reply : Option Reply} {notes : List Note} → Stays H K → r.next_header ≡ protocol.Igmp →
      igmp_rules.ProcessesIgmp r K payload reply notes new → Left H frame new
  igmp_left s of_igmp (igmp_rules.Malformed m d) = left_then s (stays_as d.unchanged)
  igmp_left {K} {new} s of_igmp (igmp_rules.Taken i e n same) = by (igmp_in payload) refl same where
    by : (m : IgmpRepr) → igmp_in payload ≡ m → new ≡ igmp_rules.host_after_igmp K r.dst_addr m → Left H frame new
    by (MembershipQuery code group) values q =
        let now : K.moment ≡ H.moment = ap (λ (l : Lists). l.moment) s.lists in record {
          lists = ap lists_of q ∙ s.lists;
          learnt = inl (ap (λ (X : Host). X.slaac) q ∙ s.slaac);
          igmp_report = turned (asked_igmp K code group now of_igmp i values) (ap (λ (X : Host). X.igmp_report) q);
          mld_report = inl (ap (λ (X : Host). X.mld_report) q ∙ s.mld_report);
          count = ap count_in (ap (λ (X : Host). X.slaac) q ∙ s.slaac);
        } where
          turned : ((igmp_rules.igmp_report_for K r.dst_addr code group ≡ K.igmp_report) ⊎ IsIgmpNews H frame
              (igmp_rules.igmp_report_for K r.dst_addr code group)) →
              new.igmp_report ≡ igmp_rules.igmp_report_for K r.dst_addr code group →
              (new.igmp_report ≡ H.igmp_report) ⊎ IsIgmpNews H frame new.igmp_report
          turned (inl x) is = inl (is ∙ x ∙ s.igmp_report)
          turned (inr x) is = inr (subst (IsIgmpNews H frame) (sym is) x)
    by (MembershipReport group version) values q = left_then s (stays_as q)
    by (LeaveGroup group) values q = left_then s (stays_as q)

  protocol_left : (p : IpProtocol) (b : Bool) (K : Host) (reply : Option Reply) (notes : List Note) (new : Host) → r.next_header ≡ p →
      Stays H K → ip.ProcessesProtocol p b r K payload reply notes new → Left H frame new
  protocol_left protocol.Icmp b K reply notes new is s t = left_then s (icmpv4_stays t)
  protocol_left protocol.Udp b K reply notes new is s t = left_then s (udp_stays t)
  protocol_left protocol.Tcp b K reply notes new is s t = left_then s (tcp_stays t)
  protocol_left protocol.Igmp b K reply notes new is s t = igmp_left s is t
  protocol_left protocol.HopByHop b K reply notes new is s t = left_then s (stays_as t.unchanged)
  protocol_left protocol.Icmpv6 b K reply notes new is s t = left_then s (stays_as t.unchanged)
  protocol_left (protocol.Unknown n) b K reply notes new is s t = left_then s (stays_as t.unchanged)

  datagram_left : {source : HardwareAddress} {L new : Host} {reply : Option Reply} {notes : List Note} → Stays H L →
      ProcessesDatagram source r L payload reply notes new → Left H frame new
  datagram_left {source} {L} s (ip.NotForUs n d) = left_then s (stays_by d.unchanged (alike {H = L} refl refl refl refl))
  datagram_left {source} {L} {new} {reply} {notes} s (ip.Accepted f t) =
      protocol_left r.next_header _ _ reply notes new refl (stays_then s (met_stays source (repr.Ipv4 r) payload L)) t

packet_left : {source : HardwareAddress} {H new : Host} {reply : Option Reply} {notes : List Note} (frame packet : List ℕ) →
    CarriesV4 H.hardware_addr frame packet →
    ProcessesPacket source (ipv4_in packet).0 (ipv4_in packet).1 H (ipv4_in packet).2 reply notes new → Left H frame new
packet_left frame packet carried (ip.FromNoHost s d) = gone d
packet_left frame packet carried (ip.Part s p t e) = left_by (stays_by t.changed (alike refl refl refl refl))
packet_left {H = H} frame packet carried (ip.Completed octets mid first rest s p t w e) =
    datagram_left H frame packet carried (ip.datagram_header (ipv4_in packet).0 octets) octets (replies.Reassembled p refl)
    (stays_by t.changed (alike refl refl refl refl)) w
packet_left {H = H} frame packet carried (ip.Whole s w t) =
    datagram_left H frame packet carried (ipv4_in packet).0 (ipv4_in packet).2 (replies.Whole w refl refl) (stays_as refl) t

pub ipv4_left : {source : HardwareAddress} {H new : Host} {reply : Option Reply} {notes : List Note} (frame packet : List ℕ) →
    CarriesV4 H.hardware_addr frame packet → ProcessesIpv4 source H packet reply notes new → Left H frame new
ipv4_left frame packet carried (ip.Malformed m d) = gone d
ipv4_left frame packet carried (ip.Read i t) = packet_left frame packet carried t

-- IPv6
learns_stay : (H new : Host) (a : Ipv6Address) (o : Option EthernetAddress) → Learns o a H new → Stays H new
learns_stay H new a None e = stays_as e
learns_stay H new a (Some h) learns = stays_by learns.same (alike refl refl refl refl)

heard_stays : {own : EthernetAddress} {r : Ipv6Repr} {message : NdiscRepr} {H new : Host} {reply : Option Reply} {notes : List Note} →
    ProcessesNdiscMessage own r H reply notes new message → Stays H new
heard_stays {r = r} {H = H} {new = new} (ndisc.Advertised flags target lladdr learns e n) = learns_stay H new r.src_addr _ learns
heard_stays (ndisc.NoUnicast target lladdr nobody d) = stays_as d.unchanged
heard_stays {r = r} {H = H} {new = new} (ndisc.Solicited target lladdr specified learns e n) = learns_stay H new r.src_addr _ learns

ndisc_stays : {r : Ipv6Repr} {message : NdiscRepr} {H new : Host} {reply : Option Reply} {notes : List Note} →
    ProcessesNdisc r message H reply notes new → Stays H new
ndisc_stays (ndisc.FromAfar far d) = stays_as d.unchanged
ndisc_stays (ndisc.WithoutAddresses without d) = stays_as d.unchanged
ndisc_stays (ndisc.FromNeighbor own near mine h) = heard_stays h

-- an advertisement leaves how many solicitations may be sent, and when
counted_after : (message : RouterRepr) (K : Host) (r : Ipv6Repr) → count_in (after_advertisement message K r) ≡ count_of K
counted_after (RouterSolicit lladdr) K r = refl
counted_after (RouterAdvert hop_limit flags lifetime lladdr prefix) K r = by (is_valid_advertisement K r) where
  by : (b : Bool) → count_in (if b then slaac_after_message K.slaac r.src_addr (seconds lifetime) prefix K.moment else K.slaac) ≡ count_of K
  by true = refl
  by false = refl

own_address : (h : HardwareAddress) → is_ethernet h ≡ true → (own : EthernetAddress) × (h ≡ hardware.Ethernet own)
own_address (hardware.Ethernet own) e = (own, refl)
own_address hardware.Ip e = absurd cc

module _ (H : Host) (frame packet : List ℕ) (carried : CarriesV6 H.hardware_addr frame packet) where
  abbrev r : Ipv6Repr
  r = (ipv6_in packet).0

  module _ (octets : List ℕ) (has_message : HasMessage packet octets) (is_message : IsMessage H r octets) where
    -- a router's message
    valid_advertisement : (K : Host) (message : RouterRepr) → Stays H K → (icmpv6_in octets).0 ≡ v6.Router message →
        IsAdvertisement message → is_valid_advertisement K r ≡ true → MayLearn H × HasAdvertisement H frame
    valid_advertisement K message s values advert valid =
        let enabled = K.slaac_enabled in
        let on_ethernet = is_ethernet K.hardware_addr in
        let near = r.hop_limit == 255 in
        let local = is_link_local r.src_addr in
        let to = (r.dst_addr.bits == all_nodes.bits) || is_link_local r.dst_addr in
        let four = and_both (enabled && on_ethernet && near && local) to valid in
        let three = and_both (enabled && on_ethernet && near) local four.0 in
        let two = and_both (enabled && on_ethernet) near three.0 in
        let one = and_both enabled on_ethernet two.0 in
        let mine = own_address K.hardware_addr one.1 in (
          record {
            enabled = sym (ap (λ (l : Lists). l.slaac_enabled) s.lists) ∙ one.0;
            own = mine.0;
            on_ethernet = sym (ap (λ (l : Lists). l.hardware_addr) s.lists) ∙ mine.1;
          },
          record {
            packet = packet;
            octets = octets;
            carried = carried;
            hop_limit = (Decides-eqb r.hop_limit 255).0 two.1;
            source = (Decides-eqb (r.src_addr.bits / 2 ^ 118) 0x3fa).0 three.1;
            destination = where_to (or_either (r.dst_addr.bits == all_nodes.bits) (is_link_local r.dst_addr) four.1);
            has_message = has_message;
            is_message = is_message;
            message = message;
            values = values;
            is_advertisement = advert;
          },
        ) where
          where_to : (((r.dst_addr.bits == all_nodes.bits) ≡ true) ⊎ (is_link_local r.dst_addr ≡ true)) →
              (r.dst_addr.bits ≡ 0xff02_0000_0000_0000_0000_0000_0000_0001) ⊎ (r.dst_addr.bits / 2 ^ 118 ≡ 0x3fa)
          where_to (inl e) = inl ((Decides-eqb r.dst_addr.bits all_nodes.bits).0 e)
          where_to (inr e) = inr ((Decides-eqb (r.dst_addr.bits / 2 ^ 118) 0x3fa).0 e)

    learnt_from : (K : Host) (message : RouterRepr) → Stays H K → (icmpv6_in octets).0 ≡ v6.Router message →
        (after_advertisement message K r ≡ K.slaac) ⊎ (MayLearn H × HasAdvertisement H frame)
    learnt_from K (RouterSolicit lladdr) s values = inl refl
    learnt_from K (RouterAdvert hop_limit flags lifetime lladdr prefix) s values = by (is_valid_advertisement K r) refl where
      by : (b : Bool) → is_valid_advertisement K r ≡ b →
          (after_advertisement (RouterAdvert hop_limit flags lifetime lladdr prefix) K r ≡ K.slaac) ⊎ (MayLearn H × HasAdvertisement H frame)
      by true e = inr (valid_advertisement K (RouterAdvert hop_limit flags lifetime lladdr prefix) s values tt e)
      by false e = inl (rw e refl)

    router_left : (K new : Host) (message : RouterRepr) → Stays H K → (icmpv6_in octets).0 ≡ v6.Router message →
        new ≡ record K { slaac = after_advertisement message K r } → Left H frame new
    router_left K new message s values e = record {
      lists = ap lists_of e ∙ s.lists;
      learnt = turned (learnt_from K message s values);
      igmp_report = inl (ap (λ (X : Host). X.igmp_report) e ∙ s.igmp_report);
      mld_report = inl (ap (λ (X : Host). X.mld_report) e ∙ s.mld_report);
      count = ap count_of e ∙ counted_after message K r ∙ ap count_in s.slaac;
    } where
      turned : ((after_advertisement message K r ≡ K.slaac) ⊎ (MayLearn H × HasAdvertisement H frame)) →
          (new.slaac ≡ H.slaac) ⊎ (MayLearn H × HasAdvertisement H frame)
      turned (inl x) = inl (ap (λ (X : Host). X.slaac) e ∙ x ∙ s.slaac)
      turned (inr x) = inr x

    -- a query of MLD
    mld_news : (K : Host) (code : ℕ) (group : Ipv6Address) (report : MldReportState) → K.moment ≡ H.moment → mld_rules.is_near r ≡ true →
        (icmpv6_in octets).0 ≡ v6.Mld (Query code group) →
        IsMldPendingUntil report (K.moment +ℤ pos (mld_rules.delay code K.random)) → IsMldNews H frame report
    mld_news K code group report now near values pending =
        let parts = and_both (r.hop_limit == 1) (is_link_local r.src_addr) near in record {
          code = code;
          group = group;
          end = K.moment +ℤ pos (mld_rules.delay code K.random);
          asked = record {
            packet = packet;
            octets = octets;
            carried = carried;
            hop_limit = (Decides-eqb r.hop_limit 1).0 parts.0;
            source = (Decides-eqb (r.src_addr.bits / 2 ^ 118) 0x3fa).0 parts.1;
            has_message = has_message;
            is_message = is_message;
            query = values;
          };
          pending = pending;
          after = rw now (later_by H.moment (mld_rules.delay code K.random));
          within = rw now (no_later H.moment (mld_rules.delay code K.random) (code * 1000) (delay_fits code K.random));
        }

    asked_mld : (K : Host) (code : ℕ) (group : Ipv6Address) → K.moment ≡ H.moment → mld_rules.is_near r ≡ true →
        (icmpv6_in octets).0 ≡ v6.Mld (Query code group) →
        (mld_rules.mld_report_for K r.dst_addr (K.moment +ℤ pos (mld_rules.delay code K.random)) group ≡ K.mld_report)
        ⊎ IsMldNews H frame (mld_rules.mld_report_for K r.dst_addr (K.moment +ℤ pos (mld_rules.delay code K.random)) group)
    asked_mld K code group now near values = by (mld_rules.is_mld_general K r.dst_addr group) (mld_rules.is_mld_specific K r.dst_addr group) where
      by : (g s : Bool) → ((if g then mld.ToGeneralQuery (K.moment +ℤ pos (mld_rules.delay code K.random)) else
          if s then mld.ToSpecificQuery group (K.moment +ℤ pos (mld_rules.delay code K.random)) else K.mld_report) ≡ K.mld_report)
          ⊎ IsMldNews H frame (if g then mld.ToGeneralQuery (K.moment +ℤ pos (mld_rules.delay code K.random)) else
          if s then mld.ToSpecificQuery group (K.moment +ℤ pos (mld_rules.delay code K.random)) else K.mld_report)
      by true s = inr (mld_news K code group _ now near values refl)
      by false true = inr (mld_news K code group _ now near values refl)
      by false false = inl refl

    mld_left : (K new : Host) (code : ℕ) (group : Ipv6Address) → Stays H K → (icmpv6_in octets).0 ≡ v6.Mld (Query code group) →
        new ≡ mld_rules.host_after_mld_query K r code group → Left H frame new
    mld_left K new code group s values e = by (mld_rules.is_near r) refl e where
      by : (b : Bool) → mld_rules.is_near r ≡ b → new ≡ (if b then record K {
        mld_report = mld_rules.mld_report_for K r.dst_addr (K.moment +ℤ pos (mld_rules.delay code K.random)) group;
        random = mld_rules.random_after_draw code K.random;
      } else K) → Left H frame new
      by false near q = left_then s (stays_as q)
      by true near q = record {
        lists = ap lists_of q ∙ s.lists;
        learnt = inl (ap (λ (X : Host). X.slaac) q ∙ s.slaac);
        igmp_report = inl (ap (λ (X : Host). X.igmp_report) q ∙ s.igmp_report);
        mld_report =
            turned (asked_mld K code group (ap (λ (l : Lists). l.moment) s.lists) near values) (ap (λ (X : Host). X.mld_report) q);
        count = ap count_in (ap (λ (X : Host). X.slaac) q ∙ s.slaac);
      } where
        turned : ((mld_rules.mld_report_for K r.dst_addr (K.moment +ℤ pos (mld_rules.delay code K.random)) group ≡ K.mld_report)
            ⊎ IsMldNews H frame (mld_rules.mld_report_for K r.dst_addr (K.moment +ℤ pos (mld_rules.delay code K.random)) group)) →
            new.mld_report ≡ mld_rules.mld_report_for K r.dst_addr (K.moment +ℤ pos (mld_rules.delay code K.random)) group →
            (new.mld_report ≡ H.mld_report) ⊎ IsMldNews H frame new.mld_report
        turned (inl x) is = inl (is ∙ x ∙ s.mld_report)
        turned (inr x) is = inr (subst (IsMldNews H frame) (sym is) x)

    message_left : (m : Icmpv6Repr) (data_octets : List ℕ) (K : Host) (reply : Option Reply) (notes : List Note) (new : Host) →
        (icmpv6_in octets).0 ≡ m → Stays H K → ProcessesMessage r m data_octets K reply notes new → Left H frame new
    message_left (v6.EchoRequest ident seq_no) data_octets K reply notes new values s t = left_then s (stays_as t.2)
    message_left (v6.Ndisc message) data_octets K reply notes new values s t = left_then s (ndisc_stays t)
    message_left (v6.Router message) data_octets K reply notes new values s t = router_left K new message s values t.2
    message_left (v6.Mld (Query code group)) data_octets K reply notes new values s t = mld_left K new code group s values t.2
    message_left (v6.Mld (Report count)) data_octets K reply notes new values s t = left_then s (stays_as t.unchanged)
    message_left (v6.EchoReply ident seq_no) data_octets K reply notes new values s t = left_then s (stays_as t.unchanged)
    message_left (v6.DstUnreachable reason header) data_octets K reply notes new values s t = left_then s (stays_as t.unchanged)
    message_left (v6.PktTooBig mtu header) data_octets K reply notes new values s t = left_then s (stays_as t.unchanged)
    message_left (v6.TimeExceeded code header) data_octets K reply notes new values s t = left_then s (stays_as t.unchanged)
    message_left (v6.ParamProblem reason pointer header) data_octets K reply notes new values s t = left_then s (stays_as t.unchanged)

  icmpv6_left : {octets : List ℕ} {K new : Host} {reply : Option Reply} {notes : List Note} → HasMessage packet octets → Stays H K →
      ProcessesIcmpv6 r K octets reply notes new → Left H frame new
  icmpv6_left has_message s (icmpv6.Malformed m d) = left_then s (stays_as d.unchanged)
  icmpv6_left {octets} {K} {new} {reply} {notes} has_message s (icmpv6.Taken i t) =
      let here : IsMessage H r octets = rw (← ap (λ (l : Lists). l.capabilities) s.lists) i in
      message_left octets has_message here (icmpv6_in octets).0 (icmpv6_in octets).1 (icmpv6.host_after_delivery r octets K) reply notes new refl
      (stays_then s (alike refl refl refl refl)) t

  protocol_v6_left : (p : IpProtocol) (octets : List ℕ) (b : Bool) (K : Host) (reply : Option Reply) (notes : List Note) (new : Host) →
      (p ≡ protocol.Icmpv6 → HasMessage packet octets) → Stays H K → ipv6.ProcessesProtocol p b r K octets reply notes new → Left H frame new
  protocol_v6_left protocol.Icmpv6 octets b K reply notes new has s t = icmpv6_left (has refl) s t
  protocol_v6_left protocol.Udp octets b K reply notes new has s t = left_then s (udp_stays t)
  protocol_v6_left protocol.Tcp octets b K reply notes new has s t = left_then s (tcp_stays t)
  protocol_v6_left protocol.Icmp octets b K reply notes new has s t = left_then s (stays_as t.unchanged)
  protocol_v6_left protocol.Igmp octets b K reply notes new has s t = left_then s (stays_as t.unchanged)
  protocol_v6_left protocol.HopByHop octets b K reply notes new has s t = left_then s (stays_as t.unchanged)
  protocol_v6_left (protocol.Unknown n) octets b K reply notes new has s t = left_then s (stays_as t.unchanged)

  datagram_v6_left : {source : HardwareAddress} {new : Host} {reply : Option Reply} {notes : List Note} (p : IpProtocol) (octets : List ℕ) →
      (p ≡ protocol.Icmpv6 → HasMessage packet octets) → ProcessesDatagramV6 source r p H octets reply notes new → Left H frame new
  datagram_v6_left p octets has (ipv6.NotForUs n d) = gone d
  datagram_v6_left {source} {new} {reply} {notes} p octets has (ipv6.Accepted f t) =
      protocol_v6_left p octets _ _ reply notes new has (met_stays source (repr.Ipv6 r) octets H) t

  options_left : {source : HardwareAddress} {new : Host} {reply : Option Reply} {notes : List Note} →
      ProcessesHopByHop source r H (ipv6_in packet).1 reply notes new → Left H frame new
  options_left (ipv6.MalformedOptions m d) = gone d
  options_left (ipv6.Skipped o s t) = datagram_v6_left _ _ (λ e. neighbors.AfterOptions e refl) t
  options_left (ipv6.Discarded failure o f other e n same) = left_by (stays_as same)

  packet_v6_left : {source : HardwareAddress} {new : Host} {reply : Option Reply} {notes : List Note} →
      ipv6.ProcessesPacket source r H (ipv6_in packet).1 reply notes new → Left H frame new
  packet_v6_left (ipv6.FromNoHost s d) = gone d
  packet_v6_left (ipv6.WithOptions s z t) = options_left t
  packet_v6_left (ipv6.Bare s z t) = datagram_v6_left _ _ (λ e. neighbors.AfterHeader e refl) t

  ipv6_left : {source : HardwareAddress} {new : Host} {reply : Option Reply} {notes : List Note} →
      ProcessesIpv6 source H packet reply notes new → Left H frame new
  ipv6_left (ipv6.Malformed m d) = gone d
  ipv6_left (ipv6.Read i t) = packet_v6_left t

arp_left : {own : EthernetAddress} {H new : Host} {payload frame : List ℕ} {reply : Option Reply} {notes : List Note} →
    ProcessesArp own H payload reply notes new → Left H frame new
arp_left (arp.Malformed m d) = gone d
arp_left (arp.NotForUs a l d) = gone d
arp_left (arp.Learnt a l learns r n) = left_by (stays_by learns.same (alike refl refl refl refl))

-- a frame
payload_left : (own source : EthernetAddress) (H : Host) (type : EthernetProtocol) (frame : List ℕ) (reply : Option Reply) (notes : List Note)
    (new : Host) → H.hardware_addr ≡ hardware.Ethernet own → (header_in frame).ethertype ≡ type →
    ProcessesEthertype own source H type (drop 14 frame) reply notes new → Left H frame new
payload_left own source H ethertype.Arp frame reply notes new mine type t = arp_left t
payload_left own source H ethertype.Ipv4 frame reply notes new mine type t =
    let carried : CarriesV4 H.hardware_addr frame (drop 14 frame) = rw mine (type, refl) in ipv4_left frame (drop 14 frame) carried t
payload_left own source H ethertype.Ipv6 frame reply notes new mine type t =
    let carried : CarriesV6 H.hardware_addr frame (drop 14 frame) = rw mine (type, refl) in ipv6_left H frame (drop 14 frame) carried t
payload_left own source H (ethertype.Unknown n) frame reply notes new mine type t = gone t

ethernet_left : {own : EthernetAddress} {H new : Host} {frame : List ℕ} {reply : Option Reply} {notes : List Note} →
    H.hardware_addr ≡ hardware.Ethernet own → ProcessesEthernet own H frame reply notes new → Left H frame new
ethernet_left mine (ethernet.Malformed m d) = gone d
ethernet_left mine (ethernet.NotForUs l f d) = gone d
ethernet_left {own} {H} {new} {frame} {reply} {notes} mine (ethernet.Accepted l f t) = payload_left own _ H _ frame reply notes new mine refl t

frame_left : (h : HardwareAddress) (H : Host) (frame : List ℕ) (reply : Option Reply) (notes : List Note) (new : Host) →
    H.hardware_addr ≡ h → ProcessesFrame h H frame reply notes new → Left H frame new
frame_left (hardware.Ethernet own) H frame reply notes new mine t = ethernet_left mine t
frame_left hardware.Ip H frame reply notes new mine (ethernet.Ipv4 v t) =
    let carried : CarriesV4 H.hardware_addr frame frame = rw mine (v, refl) in ipv4_left frame frame carried t
frame_left hardware.Ip H frame reply notes new mine (ethernet.Ipv6 v t) =
    let carried : CarriesV6 H.hardware_addr frame frame = rw mine (v, refl) in ipv6_left H frame frame carried t
frame_left hardware.Ip H frame reply notes new mine (ethernet.OtherVersion v w d) = gone d

taken_left : {t : ℤ} {frame : List ℕ} {old new : Host} {told : List Event} {notes : List Note} (w : Receives t frame old told notes new) →
    Left (without_expired old t) frame w.call.response.taken
taken_left {t} {frame} {old} w = by (frame_of_call w) where
  by : (ProcessesFrame old.hardware_addr (without_expired old t) frame w.call.response.reply w.call.response.notes_taking w.call.response.taken
      ⊎ IsDropped (without_expired old t) w.call.response.reply w.call.response.notes_taking w.call.response.taken) →
      Left (without_expired old t) frame w.call.response.taken
  by (inl p) = frame_left old.hardware_addr (without_expired old t) frame _ _ _ refl p
  by (inr d) = gone d

-- slots that expired have nothing to do with it
advert_before : {old : Host} {frame : List ℕ} (t : ℤ) → HasAdvertisement (without_expired old t) frame → HasAdvertisement old frame
advert_before t a = record {
  packet = a.packet;
  octets = a.octets;
  carried = a.carried;
  hop_limit = a.hop_limit;
  source = a.source;
  destination = a.destination;
  has_message = a.has_message;
  is_message = a.is_message;
  message = a.message;
  values = a.values;
  is_advertisement = a.is_advertisement;
}

pub frames_keep : FramesKeepSettings
frames_keep t frame old new told notes w =
    let l = taken_left w in
    let c = w.call.response in
    let r = response_settled c.reply c.taken w.call.frames c.notes_responding new c.responds in
    record {
      addresses = ap (λ (s : Settings). s.ip_addrs) r ∙ ap (λ (x : Lists). x.ip_addrs) l.lists;
      routes = ap (λ (s : Settings). s.routes) r ∙ ap (λ (x : Lists). x.routes) l.lists;
      any_ip = ap (λ (s : Settings). s.any_ip) r ∙ ap (λ (x : Lists). x.any_ip) l.lists;
      hardware_address = ap (λ (s : Settings). s.hardware_addr) r ∙ ap (λ (x : Lists). x.hardware_addr) l.lists;
      reassembly_timeout = ap (λ (s : Settings). s.reassembly_timeout) r ∙ ap (λ (x : Lists). x.reassembly_timeout) l.lists;
      slaac_enabled = ap (λ (s : Settings). s.slaac_enabled) r ∙ ap (λ (x : Lists). x.slaac_enabled) l.lists;
      groups = response_leaves (λ (K : Host). K.groups) (λ H. refl) (λ H. refl) (λ H rest. refl) c.reply c.taken w.call.frames c.notes_responding new c.responds
          ∙ ap (λ (x : Lists). x.groups) l.lists;
      learnt = by l.learnt (ap (λ (s : Settings). s.prefixes) r) (ap (λ (s : Settings). s.routers) r);
    } where
      by : ((w.call.response.taken.slaac ≡ old.slaac) ⊎ (MayLearn (without_expired old t) × HasAdvertisement (without_expired old t) frame)) →
          new.slaac.prefixes ≡ w.call.response.taken.slaac.prefixes → new.slaac.routers ≡ w.call.response.taken.slaac.routers →
          ((new.slaac.prefixes ≡ old.slaac.prefixes) × (new.slaac.routers ≡ old.slaac.routers)) ⊎ (MayLearn old × HasAdvertisement old frame)
      by (inl e) p q = inl (p ∙ ap (λ (s : SlaacState). s.prefixes) e, q ∙ ap (λ (s : SlaacState). s.routers) e)
      by (inr (may, a)) p q = inr (record { enabled = may.enabled; own = may.own; on_ethernet = may.on_ethernet }, advert_before t a)

igmp_before : {old : Host} {frame : List ℕ} {code : ℕ} {group : Ipv4Address} (t : ℤ) →
    HasIgmpQuery (without_expired old t) frame code group → HasIgmpQuery old frame code group
igmp_before t a = record {
  packet = a.packet;
  header = a.header;
  octets = a.octets;
  carried = a.carried;
  brings = a.brings;
  of_igmp = a.of_igmp;
  is_message = a.is_message;
  query = a.query;
}

mld_before : {old : Host} {frame : List ℕ} {code : ℕ} {group : Ipv6Address} (t : ℤ) →
    HasMldQuery (without_expired old t) frame code group → HasMldQuery old frame code group
mld_before t a = record {
  packet = a.packet;
  octets = a.octets;
  carried = a.carried;
  hop_limit = a.hop_limit;
  source = a.source;
  has_message = a.has_message;
  is_message = a.is_message;
  query = a.query;
}

pub reports_asked : ReportsAreAsked
reports_asked t frame old new told notes w =
    let l = taken_left w in
    let c = w.call.response in
    let i = response_leaves (λ (K : Host). K.igmp_report) (λ H. refl) (λ H. refl) (λ H rest. refl)
    c.reply c.taken w.call.frames c.notes_responding new c.responds in
    let m = response_leaves (λ (K : Host). K.mld_report) (λ H. refl) (λ H. refl) (λ H rest. refl)
    c.reply c.taken w.call.frames c.notes_responding new c.responds in
    (by_igmp l.igmp_report i, by_mld l.mld_report m) where
      by_igmp : ((w.call.response.taken.igmp_report ≡ old.igmp_report) ⊎ IsIgmpNews (without_expired old t) frame w.call.response.taken.igmp_report) →
          new.igmp_report ≡ w.call.response.taken.igmp_report → IgmpIsAsked t frame old new
      by_igmp (inl e) q = queries.AsBefore (q ∙ e)
      by_igmp (inr n) q = queries.Within n.code n.group n.end (igmp_before t n.asked) (subst (λ r. IsPendingUntil r n.end)
          (sym q) n.pending) n.after n.within

      by_mld : ((w.call.response.taken.mld_report ≡ old.mld_report) ⊎ IsMldNews (without_expired old t) frame w.call.response.taken.mld_report) →
          new.mld_report ≡ w.call.response.taken.mld_report → MldIsAsked t frame old new
      by_mld (inl e) q = queries.AsBefore (q ∙ e)
      by_mld (inr n) q = queries.Within n.code n.group n.end (mld_before t n.asked) (subst (λ r. IsMldPendingUntil r n.end)
          (sym q) n.pending) n.after n.within

-- a call keeps the lists, whatever it received
pub record KeepsLists (old new : Host) : Type 0 where
  pub addresses : new.ip_addrs ≡ old.ip_addrs
  pub routes : new.routes ≡ old.routes

pub reception_lists : (H : Host) (r : Reception) (reply : Option Reply) (notes : List Note) (new : Host) →
    Takes H r reply notes new → lists_of new ≡ lists_of H
reception_lists H Nothing reply notes new t = ap lists_of t.unchanged
reception_lists H Withheld reply notes new t = ap lists_of t.unchanged
reception_lists H (Frame []) reply notes new t = ap lists_of t.unchanged
reception_lists H (Frame (octet ∷ octets)) reply notes new t = (frame_left H.hardware_addr H (octet ∷ octets) reply notes new refl t).lists

pub reception_count : (H : Host) (r : Reception) (reply : Option Reply) (notes : List Note) (new : Host) →
    Takes H r reply notes new → count_of new ≡ count_of H
reception_count H Nothing reply notes new t = ap count_of t.unchanged
reception_count H Withheld reply notes new t = ap count_of t.unchanged
reception_count H (Frame []) reply notes new t = ap count_of t.unchanged
reception_count H (Frame (octet ∷ octets)) reply notes new t = (frame_left H.hardware_addr H (octet ∷ octets) reply notes new refl t).count

pub ingress_lists : {t : ℤ} {answer : PollIngressSingleResult} {old new : Host} {told : List Event} {notes : List Note} →
    Ingress t answer old told notes new → KeepsLists old new
ingress_lists {t} {answer} {old} {new} i =
    let c = i.response in
    let l = reception_lists (without_expired old t) i.reception c.reply c.notes_taking c.taken c.takes in
    let r = response_settled c.reply c.taken i.frames c.notes_responding new c.responds in
    record {
      addresses = ap (λ (s : Settings). s.ip_addrs) r ∙ ap (λ (x : Lists). x.ip_addrs) l;
      routes = ap (λ (s : Settings). s.routes) r ∙ ap (λ (x : Lists). x.routes) l;
    }
