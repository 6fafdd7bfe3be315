-- Frames of IPv6 that ask for something are answered in the call that takes them.
use Rattle.std.proofs.Common.{◌≡◌, ℕ, ◌+◌, ◌≤◌, ◌==◌, Bool, true, false, List, [], ◌∷◌, length, refl, sym, ◌∙◌, ap, subst, Option, Some, None, arith}
use Rattle.std.specs.Prelude.{ℤ, ◌&&◌, ◌||◌, not, if◌then◌else◌}
use Rattle.std.specs.Int.RustNames.{bit_and}
use Rattle.net_base.specs.Checksum.{ip_mtu_of}
use Rattle.net_base.specs.Device.{Event}
use Rattle.ip_address.specs.declared.ethernet_address.EthernetAddress.{EthernetAddress}
use Rattle.ip_address.specs.declared.hardware.HardwareAddress.{HardwareAddress}
use Rattle.ip_address.specs.declared.hardware.HardwareAddress.TheVariants as hardware
use Rattle.ip_address.specs.declared.ip.IpAddress.{IpAddress}
use Rattle.ip_address.specs.declared.ip.IpAddress.TheVariants.{Ipv6}
use Rattle.ip_address.specs.declared.ipv6.Ipv6Address.{Ipv6Address}
use Rattle.ip_address.specs.declared.protocol.IpProtocol.{IpProtocol}
use Rattle.ip_address.specs.declared.protocol.IpProtocol.TheVariants as ip_protocol
use Rattle.ip_address.specs.EthernetAddress as ethernet
use Rattle.ip_address.specs.Ipv6 as ipv6
use Rattle.ip_address.specs.Protocol.{number_of}
use Rattle.ip_wire.specs.declared.ip_packet.IpRepr.TheVariants as repr
use Rattle.ip_wire.specs.declared.ipv6_packet.Ipv6Repr.{Ipv6Repr}
use Rattle.ip_wire.specs.Ipv6Packet.{IsIpv6, ipv6_in}
use Rattle.ip_wire.specs.HopByHop.{hop_by_hop_in}
use Rattle.control_wire.specs.Icmpv6.{icmpv6_in}
use Rattle.control_wire.specs.declared.icmpv6.Icmpv6Repr.TheVariants as icmp
use Rattle.control_wire.specs.declared.ndisc.NdiscRepr.TheVariants.{NeighborAdvert, NeighborSolicit}
use Rattle.iface_tables.specs.declared.neighbor.Answer.TheVariants.{Found}
use Rattle.iface_tables.specs.Neighbor.{Neighbors, answer_of, expiry_from, is_found, after_renewal}
use Rattle.host_machine.specs.Context.Note.{Note}
use Rattle.host_machine.specs.Context.Host.{Host, at, without_expired, has_ip_addr, in_same_network, is_assigned, is_routed_here, with_neighbors}
use Rattle.host_machine.specs.Context.Addresses.{has_multicast_group, has_solicited_node, is_broadcast, is_for_host, is_loopback, is_unicast}
use Rattle.iface_tables.specs.Groups.{is_member}
use Rattle.host_machine.specs.Receive.Reply.{Reply, Ip}
use Rattle.host_machine.specs.Packet.Packet.{Packet, Icmpv6}
use Rattle.host_machine.specs.Packet.Packet as packet
use Rattle.host_machine.specs.Packet.Frame.{ip_frame}
use Rattle.host_machine.specs.Sockets.Raw as raw
use Rattle.host_machine.specs.Discovery.Renewal.{sender_renewed}
use Rattle.host_machine.specs.Icmp.Icmpv6.{IsMessage, ProcessesIcmpv6, ProcessesMessage}
use Rattle.host_machine.specs.Icmp.Icmpv6 as v6
use Rattle.host_machine.specs.Discovery.Ndisc.{ProcessesNdiscMessage, Learns, LearnsNeighbor, ProcessesNdisc, advertisement_of}
use Rattle.control_wire.specs.declared.ndisc.NdiscNeighborFlags.{NdiscNeighborFlags}
use Rattle.host_machine.specs.Discovery.Ndisc.{is_target, usable_lladdr}
use Rattle.host_machine.specs.Discovery.Ndisc.{advertised_lladdr, has_override}
use Rattle.host_machine.specs.Discovery.Ndisc as ndisc
use Rattle.host_machine.specs.Receive.Ipv6.{ProcessesIpv6, ProcessesPacket, ProcessesHopByHop, ProcessesDatagramV6, ProcessesProtocol}
use Rattle.host_machine.specs.Receive.Ipv6 as ip
use Rattle.host_machine.specs.Send.Hops.{OnLink}
use Rattle.host_machine.specs.Receive.Response.{Responds}
use Rattle.host_laws.specs.Laws.Service.{AdvertisersAreLearnt, AfterHeader, AfterOptions, HasPayloadV6, HasWay, IsCarried, IsReached, PingsV6AreAnswered, SolicitationsAreAnswered}
use Rattle.host_laws.proofs.Receive.FrameReplies.{PacketTaken, clash, goes_whole, hop_as, learnt_found, renewed_found, v6_of, way_by}
use Rattle.host_laws.proofs.Interface.GrantedEgress.{unicast_for}

-- the host before the protocol of a packet for it is looked at
abbrev pub met : HardwareAddress → Ipv6Repr → List ℕ → Host → Host
met source r payload H = sender_renewed source (repr.Ipv6 r) (raw.host_after_raw_delivery (repr.Ipv6 r) payload H)

accepted : {source : HardwareAddress} {r : Ipv6Repr} {p : IpProtocol} {H new : Host} {payload : List ℕ} {reply : Option Reply}
    {notes : List Note} → ProcessesDatagramV6 source r p H payload reply notes new → is_for_host H (Ipv6 r.dst_addr) ≡ true →
    ProcessesProtocol p (raw.is_taken (repr.Ipv6 r) H) r (met source r payload H) payload reply notes new
accepted (ip.NotForUs n d) for_us = absurd (clash for_us n)
accepted (ip.Accepted f on) for_us = on

packet_taken : {source : HardwareAddress} {H new : Host} {octets payload : List ℕ} {reply : Option Reply} {notes : List Note} (r : Ipv6Repr)
    (p : IpProtocol) → ProcessesPacket source r H octets reply notes new →
    ipv6.is_unicast r.src_addr ≡ true → IsCarried r octets p payload → (number_of p ≡ 0 → ⊥) → is_for_host H (Ipv6 r.dst_addr) ≡ true →
    ProcessesProtocol p (raw.is_taken (repr.Ipv6 r) H) r (met source r payload H) payload reply notes new
packet_taken r p (ip.FromNoHost s d) sender is bare for_us = absurd (clash sender s)
packet_taken r p (ip.WithOptions u z t) sender (AfterHeader is same) bare for_us = absurd (bare (sym (ap number_of is) ∙ z))
packet_taken {source} {H} {new} {octets} {payload} {reply} {notes} r p (ip.WithOptions u z t) sender (AfterOptions zero is skip next same) bare for_us =
    behind t where
      behind : ProcessesHopByHop source r H octets reply notes new →
          ProcessesProtocol p (raw.is_taken (repr.Ipv6 r) H) r (met source r payload H) payload reply notes new
      behind (ip.MalformedOptions m d) = absurd (m is)
      behind (ip.Discarded failure i f ne e n k) = absurd (ne (sym f ∙ skip))
      behind (ip.Skipped i f x) =
          accepted (subst (λ q. ProcessesDatagramV6 source r q H payload reply notes new) next
          (subst (λ os. ProcessesDatagramV6 source r (hop_by_hop_in octets).0.next_header H os reply notes new) same x)) for_us
packet_taken r p (ip.Bare u z t) sender (AfterOptions zero is skip next same) bare for_us = absurd (z zero)
packet_taken {source} {H} {new} {octets} {payload} {reply} {notes} r p (ip.Bare u z t) sender (AfterHeader is same) bare for_us =
    accepted (subst (λ q. ProcessesDatagramV6 source r q H payload reply notes new) is
    (subst (λ os. ProcessesDatagramV6 source r r.next_header H os reply notes new) same t)) for_us

pub ipv6_taken : {source : HardwareAddress} {H new : Host} {octets : List ℕ} {reply : Option Reply} {notes : List Note} (r : Ipv6Repr)
    (payload : List ℕ) → ProcessesIpv6 source H octets reply notes new →
    IsIpv6 octets → ipv6_in octets ≡ (r, payload) → ProcessesPacket source r H payload reply notes new
ipv6_taken r payload (ip.Malformed m d) is values = absurd (m is)
ipv6_taken {source} {H} {new} {octets} {reply} {notes} r payload (ip.Read i t) is values =
    subst (λ v. ProcessesPacket source v.0 H v.1 reply notes new) values t

-- what is done with a payload for the host, by its protocol
pub payload_served : {own : HardwareAddress} {t : ℤ} {frame : List ℕ} {old new : Host} {told : List Event} {r : Ipv6Repr}
    {payload : List ℕ} (p : IpProtocol) {all : List Note} (w : PacketTaken ProcessesIpv6 own t frame old told all new) →
    HasPayloadV6 own old frame r p payload → (number_of p ≡ 0 → ⊥) →
    is_for_host (without_expired old t) (Ipv6 r.dst_addr) ≡ true →
    ProcessesProtocol p (raw.is_taken (repr.Ipv6 r) (without_expired old t)) r
    (met w.source r payload (without_expired old t)) payload w.reply w.notes w.taken
payload_served {r = r} p w q bare for_us =
    packet_taken r p (ipv6_taken r q.octets w.takes q.packet.is_packet q.packet.values) q.packet.sender q.carried bare for_us

-- a message for it
pub message_served : {own : HardwareAddress} {t : ℤ} {frame : List ℕ} {old new : Host} {told : List Event} {r : Ipv6Repr} {payload : List ℕ}
    {all : List Note} (w : PacketTaken ProcessesIpv6 own t frame old told all new) →
    HasPayloadV6 own old frame r ip_protocol.Icmpv6 payload → is_for_host (without_expired old t) (Ipv6 r.dst_addr) ≡ true →
    ProcessesIcmpv6 r (met w.source r payload (without_expired old t)) payload w.reply w.notes w.taken
message_served w q for_us = payload_served ip_protocol.Icmpv6 w q (λ bad. omega (arith, bad)) for_us

-- a host without what is known of neighbours
abbrev pub apart : Host → Neighbors → Host
apart H n = record H { neighbors = n }

pub met_apart : (source : HardwareAddress) (r : Ipv6Repr) (payload : List ℕ) (H : Host) (n : Neighbors) →
    apart (met source r payload H) n ≡ apart (raw.host_after_raw_delivery (repr.Ipv6 r) payload H) n
met_apart source r payload H n = by (is_unicast H.ip_addrs (Ipv6 r.dst_addr)) where
  by : (b : Bool) → apart (if b then with_neighbors (raw.host_after_raw_delivery (repr.Ipv6 r) payload H)
      (after_renewal H.neighbors (Ipv6 r.src_addr) source (expiry_from H.moment)) else raw.host_after_raw_delivery (repr.Ipv6 r) payload H) n
      ≡ apart (raw.host_after_raw_delivery (repr.Ipv6 r) payload H) n
  by true = refl
  by false = refl

pub met_found : (source : HardwareAddress) (r : Ipv6Repr) (payload : List ℕ) (H : Host) (a : IpAddress) (h : HardwareAddress) →
    answer_of H.neighbors a H.moment ≡ Found h → answer_of (met source r payload H).neighbors a H.moment ≡ Found h
met_found source r payload H a h found = by (is_unicast H.ip_addrs (Ipv6 r.dst_addr)) where
  by : (b : Bool) → answer_of (if b then with_neighbors (raw.host_after_raw_delivery (repr.Ipv6 r) payload H)
      (after_renewal H.neighbors (Ipv6 r.src_addr) source (expiry_from H.moment)) else raw.host_after_raw_delivery (repr.Ipv6 r) payload H).neighbors
      a H.moment ≡ Found h
  by true = renewed_found H.neighbors (Ipv6 r.src_addr) a source h H.moment found
  by false = found

-- a message, by its values, at the host that ICMP sockets left
pub message_taken : {r : Ipv6Repr} {H new : Host} {payload : List ℕ} {reply : Option Reply} {notes : List Note} →
    ProcessesIcmpv6 r H payload reply notes new → IsMessage H r payload →
    ProcessesMessage r (icmpv6_in payload).0 (icmpv6_in payload).1 (v6.host_after_delivery r payload H) reply notes new
message_taken (v6.Malformed m d) is = absurd (m is)
message_taken (v6.Taken i t) is = t

pub pings_v6_served : PingsV6AreAnswered
pings_v6_served t old new told own frame r ident seq_no octets h w p reach fits =
    let k = v6_of own w p.in_packet.packet.taken p.in_packet.packet.is_packet in
    let H : Host = without_expired old t in
    let source : HardwareAddress = k.source in
    let mid : Host = met source r p.payload H in
    let echo : Packet =
    packet.Ipv6 (record { src_addr = r.dst_addr; dst_addr = r.src_addr; hop_limit = 64; payload = Icmpv6 (icmp.EchoReply ident seq_no) octets }) in
    let for_us : is_for_host H (Ipv6 r.dst_addr) ≡ true = rw p.given refl in
    let any = message_served k p.in_packet for_us in
    let same : apart mid old.neighbors ≡ apart (raw.host_after_raw_delivery (repr.Ipv6 r) p.payload H) old.neighbors =
    met_apart source r p.payload H old.neighbors in
    let capabilities : mid.capabilities ≡ old.capabilities = ap (λ (K : Host). K.capabilities) same in
    let addrs : mid.ip_addrs ≡ old.ip_addrs = ap (λ (K : Host). K.ip_addrs) same in
    let message = message_taken any (subst (λ (K : Host). IsMessage K r p.payload) (sym same) p.is_message) in
    let answered : ProcessesMessage r (icmp.EchoRequest ident seq_no) octets (v6.host_after_delivery r p.payload mid) k.reply k.notes k.taken =
    subst (λ v. ProcessesMessage r v.0 v.1 (v6.host_after_delivery r p.payload mid) k.reply k.notes k.taken) p.values message in
    let replies : k.reply ≡ Some (Ip echo) = answered.0 ∙ rw p.receiver refl in
    let there : Responds (Some (Ip echo)) k.taken k.frames k.more new = subst (λ x. Responds x k.taken k.frames k.more new) replies k.responds in
    let went : Responds (Some (Ip echo)) (v6.host_after_delivery r p.payload mid) k.frames k.more new =
    subst (λ K. Responds (Some (Ip echo)) K k.frames k.more new) answered.2 there in
    let one = unicast_for old.ip_addrs (Ipv6 r.src_addr) p.in_packet.packet.sender in
    let K : Host = v6.host_after_delivery r p.payload mid in
    let moment : K.moment ≡ t = ap (λ (x : Host). x.moment) same in
    let way : HasWay own K (Ipv6 r.src_addr) h = way_by {H = at old t} own (λ near. record {
      hop = near.hop;
      next = hop_as {H = at old t} {K = K} addrs (ap (λ (x : Host). x.routes) same) moment near.next;
      known = ap (λ m. answer_of K.neighbors near.hop m) moment ∙ met_found source r p.payload H near.hop h near.known;
    }) reach in
    let short : 40 + (8 + length octets) ≤ ip_mtu_of K.capabilities =
    subst (λ c. 40 + (8 + length octets) ≤ ip_mtu_of c) (sym capabilities) (omega (arith, fits)) in
    let gone =
    goes_whole {p = echo} own h went.1 (ap (λ (x : Host). x.hardware_addr) same ∙ w.on_medium) one.specified one.not_multicast way short in
    k.sends_them ∙ gone.frames_are ∙ ap (λ (x : Host). ip_frame x h echo ∷ []) same

-- Solicitations

for_us_by : (x m s j z w : Bool) → s ≡ true → (x || (m || s || j) || z || w) ≡ true
for_us_by true m s j z w e = refl
for_us_by false true s j z w e = refl
for_us_by false false true j z w e = refl
for_us_by false false false j z w e = absurd cc

first_or : (a x m b l : Bool) → a ≡ true → ((a || x) || m || b || l) ≡ true
first_or true x m b l e = refl
first_or false x m b l e = absurd cc

both_of : (x y : Bool) → (x && y) ≡ true → (x ≡ true) × (y ≡ true)
both_of true true e = (refl, refl)
both_of true false e = absurd cc
both_of false y e = absurd cc

-- what a solicitation brings about
record Advertises (own : EthernetAddress) (r : Ipv6Repr) (target : Ipv6Address) (h : EthernetAddress) (H : Host)
    (reply : Option Reply) (new : Host) : Type 0 where
  learns : LearnsNeighbor H r.src_addr h new
  replies : reply ≡ Some (Ip (advertisement_of own r target))

hears : {own : EthernetAddress} {r : Ipv6Repr} {H new : Host} {reply : Option Reply} {notes : List Note}
    (target : Ipv6Address) (h : EthernetAddress) →
    ProcessesNdiscMessage own r H reply notes new (NeighborSolicit target (Some h)) → ethernet.is_unicast h ≡ true → ipv6.is_unicast target ≡ true →
    is_target H r target ≡ true → Advertises own r target h H reply new
hears target h (ndisc.NoUnicast _ _ tells d) one two asks = absurd (let bad : false ≡ true = rw (one, two) at tells in cc)
hears {own} {r} {H} {new} target h (ndisc.Solicited _ _ tells learns rep n) one two asks =
    let told : usable_lladdr (Some h) target ≡ Some h = rw (one, two) refl in
    record {
      learns = subst (λ o. Learns o r.src_addr H new) told learns;
      replies = rep ∙ ap (λ b. if b then Some (Ip (advertisement_of own r target)) else None) asks;
    }

ndisc_hears : {own : EthernetAddress} {r : Ipv6Repr} {H new : Host} {reply : Option Reply} {notes : List Note} (target : Ipv6Address)
    (h : EthernetAddress) → ProcessesNdisc r (NeighborSolicit target (Some h)) H reply notes new →
    r.hop_limit ≡ 255 → H.hardware_addr ≡ hardware.Ethernet own → ethernet.is_unicast h ≡ true → ipv6.is_unicast target ≡ true →
    is_target H r target ≡ true → Advertises own r target h H reply new
ndisc_hears target h (ndisc.FromAfar far d) near on one two asks = absurd (let bad : (255 == 255) ≡ false = sym (ap (λ n. n == 255) near) ∙ far in cc)
ndisc_hears target h (ndisc.WithoutAddresses none d) near on one two asks = absurd cc
ndisc_hears {own} {r} {H} {new} {reply} {notes} target h (ndisc.FromNeighbor other far is m) near on one two asks =
    let both : hardware.Ethernet other ≡ hardware.Ethernet own = sym is ∙ on in
    let same : other ≡ own = cc in
    hears target h (subst (λ x. ProcessesNdiscMessage x r H reply notes new (NeighborSolicit target (Some h))) same m) one two asks

for_host_of : (H : Host) (a : Ipv6Address) →
    (has_solicited_node H.ip_addrs a || (is_assigned H.ip_addrs (Ipv6 a) && not (ipv6.is_loopback a))) ≡ true → is_for_host H (Ipv6 a) ≡ true
for_host_of H a e = by (has_solicited_node H.ip_addrs a) refl e where
  by : (b : Bool) → has_solicited_node H.ip_addrs a ≡ b →
      (b || (is_assigned H.ip_addrs (Ipv6 a) && not (ipv6.is_loopback a))) ≡ true → is_for_host H (Ipv6 a) ≡ true
  by true f g = for_us_by (has_ip_addr H (Ipv6 a)) (a.bits == ipv6.all_nodes.bits) (has_solicited_node H.ip_addrs a) (is_member H.groups (Ipv6 a))
      (is_broadcast H.ip_addrs (Ipv6 a)) (is_loopback (Ipv6 a)) f
  by false f g =
      let given : is_assigned H.ip_addrs (Ipv6 a) ≡ true = (both_of (is_assigned H.ip_addrs (Ipv6 a)) (not (ipv6.is_loopback a)) g).0 in
      first_or (is_assigned H.ip_addrs (Ipv6 a)) (H.any_ip && is_routed_here H (Ipv6 a)) (has_multicast_group H (Ipv6 a))
      (is_broadcast H.ip_addrs (Ipv6 a)) (is_loopback (Ipv6 a)) given

and_both : (x y : Bool) → x ≡ true → y ≡ true → (x && y) ≡ true
and_both x y e f = rw (e, f) refl

or_left : (x y : Bool) → x ≡ true → (x || y) ≡ true
or_left true y e = refl
or_left false y e = absurd cc

pub solicitations_served : SolicitationsAreAnswered
solicitations_served t old new told own frame r target h w s fits =
    let k = v6_of (hardware.Ethernet own) w s.in_packet.packet.taken s.in_packet.packet.is_packet in
    let H : Host = without_expired old t in
    let source : HardwareAddress = k.source in
    let mid : Host = met source r s.payload H in
    let K : Host = v6.host_after_delivery r s.payload mid in
    let advert : Packet = advertisement_of own r target in
    let any = message_served k s.in_packet (for_host_of H r.dst_addr s.for_host) in
    let same : apart mid old.neighbors ≡ apart (raw.host_after_raw_delivery (repr.Ipv6 r) s.payload H) old.neighbors =
    met_apart source r s.payload H old.neighbors in
    let message = message_taken any (subst (λ (x : Host). IsMessage x r s.payload) (sym same) s.is_message) in
    let asked : ProcessesNdisc r (NeighborSolicit target (Some h)) K k.reply k.notes k.taken =
    subst (λ m. ProcessesMessage r m (icmpv6_in s.payload).1 K k.reply k.notes k.taken) s.values message in
    let asks_it : is_target H r target ≡ true =
    and_both (has_solicited_node old.ip_addrs r.dst_addr || (is_assigned old.ip_addrs (Ipv6 r.dst_addr) && not (ipv6.is_loopback r.dst_addr)))
    (has_ip_addr H (Ipv6 target)) s.for_host
    (or_left (is_assigned old.ip_addrs (Ipv6 target)) (old.any_ip && is_routed_here H (Ipv6 target)) s.target_is_own) in
    let asks : is_target K r target ≡ true = ap (λ (x : Host). is_target x r target) same ∙ asks_it in
    let on : K.hardware_addr ≡ hardware.Ethernet own = ap (λ (x : Host). x.hardware_addr) same ∙ w.on_medium in
    let adv = ndisc_hears target h asked s.by_neighbor on s.hardware s.target_is_one asks in
    let after : Host = with_neighbors K adv.learns.neighbors in
    let there : Responds (Some (Ip advert)) k.taken k.frames k.more new =
    subst (λ x. Responds x k.taken k.frames k.more new) adv.replies k.responds in
    let went : Responds (Some (Ip advert)) after k.frames k.more new =
    subst (λ x. Responds (Some (Ip advert)) x k.frames k.more new) adv.learns.same there in
    let moment : K.moment ≡ t = ap (λ (x : Host). x.moment) same in
    let known : answer_of adv.learns.neighbors (Ipv6 r.src_addr) K.moment ≡ Found (hardware.Ethernet h) = learnt_found K.moment adv.learns.filled in
    let near : in_same_network K.ip_addrs (Ipv6 r.src_addr) ≡ true = ap (λ (x : Host). in_same_network x.ip_addrs (Ipv6 r.src_addr)) same ∙ s.near in
    let way : IsReached after (Ipv6 r.src_addr) (hardware.Ethernet h) = record { hop = Ipv6 r.src_addr; next = OnLink near refl; known = known } in
    let one = unicast_for old.ip_addrs (Ipv6 r.src_addr) s.in_packet.packet.sender in
    let short : 72 ≤ ip_mtu_of K.capabilities = ap_le (ap (λ (x : Host). ip_mtu_of x.capabilities) same) fits in
    let gone = goes_whole {p = advert} (hardware.Ethernet own) (hardware.Ethernet h) went.1 on one.specified one.not_multicast way short in
    let neighbors : new.neighbors ≡ adv.learns.neighbors = ap (λ (x : Host). x.neighbors) gone.host_is in (
      k.sends_them ∙ gone.frames_are ∙ ap (λ (x : Host). ip_frame x (hardware.Ethernet h) advert ∷ []) same,
      ap (λ n. answer_of n (Ipv6 r.src_addr) t) neighbors ∙ ap (answer_of adv.learns.neighbors (Ipv6 r.src_addr)) (sym moment) ∙ known,
    ) where
      ap_le : {m n : ℕ} → m ≡ n → 72 ≤ n → 72 ≤ m
      ap_le e l = omega (arith, e, l)

-- what an advertisement brings about
record IsTold (r : Ipv6Repr) (h : EthernetAddress) (H : Host) (reply : Option Reply) (new : Host) : Type 0 where
  learns : LearnsNeighbor H r.src_addr h new
  replies : reply ≡ None

told_by : {own : EthernetAddress} {r : Ipv6Repr} {H new : Host} {reply : Option Reply} {notes : List Note} (flags : NdiscNeighborFlags)
    (target : Ipv6Address) (h : EthernetAddress) →
    ProcessesNdiscMessage own r H reply notes new (NeighborAdvert flags target (Some h)) → bit_and flags.0 0x20 ≡ 0x20 →
    ethernet.is_unicast h ≡ true → ipv6.is_unicast target ≡ true → IsTold r h H reply new
told_by {own} {r} {H} {new} flags target h (ndisc.Advertised _ _ _ learns rep n) over one two =
    let overrides : has_override flags ≡ true = ap (λ n. n == 0x20) over in
    let usable : usable_lladdr (Some h) target ≡ Some h = rw (one, two) refl in
    let told : advertised_lladdr H r flags target (Some h) ≡ Some h =
    ap (λ b. if b || not (is_found (answer_of H.neighbors (Ipv6 r.src_addr) H.moment)) then usable_lladdr (Some h) target else None) overrides
    ∙ usable in
    record {
      learns = subst (λ o. Learns o r.src_addr H new) told learns;
      replies = rep;
    }

ndisc_told : {own : EthernetAddress} {r : Ipv6Repr} {H new : Host} {reply : Option Reply} {notes : List Note} (flags : NdiscNeighborFlags)
    (target : Ipv6Address) (h : EthernetAddress) → ProcessesNdisc r (NeighborAdvert flags target (Some h)) H reply notes new →
    r.hop_limit ≡ 255 → H.hardware_addr ≡ hardware.Ethernet own → bit_and flags.0 0x20 ≡ 0x20 →
    ethernet.is_unicast h ≡ true → ipv6.is_unicast target ≡ true → IsTold r h H reply new
ndisc_told flags target h (ndisc.FromAfar far d) near on over one two = absurd (let bad : (255 == 255) ≡ false = sym (ap (λ n. n == 255) near) ∙ far in cc)
ndisc_told flags target h (ndisc.WithoutAddresses none d) near on over one two = absurd cc
ndisc_told flags target h (ndisc.FromNeighbor other far is m) near on over one two = told_by flags target h m over one two

assigned_for_host : (H : Host) (a : Ipv6Address) → is_assigned H.ip_addrs (Ipv6 a) ≡ true → is_for_host H (Ipv6 a) ≡ true
assigned_for_host H a given = first_or (is_assigned H.ip_addrs (Ipv6 a)) (H.any_ip && is_routed_here H (Ipv6 a)) (has_multicast_group H (Ipv6 a))
    (is_broadcast H.ip_addrs (Ipv6 a)) (is_loopback (Ipv6 a)) given

pub advertisers_learnt : AdvertisersAreLearnt
advertisers_learnt t old new told own frame r flags target h w s =
    let k = v6_of (hardware.Ethernet own) w s.in_packet.packet.taken s.in_packet.packet.is_packet in
    let H : Host = without_expired old t in
    let source : HardwareAddress = k.source in
    let mid : Host = met source r s.payload H in
    let K : Host = v6.host_after_delivery r s.payload mid in
    let any = message_served k s.in_packet (assigned_for_host H r.dst_addr s.for_host) in
    let same : apart mid old.neighbors ≡ apart (raw.host_after_raw_delivery (repr.Ipv6 r) s.payload H) old.neighbors =
    met_apart source r s.payload H old.neighbors in
    let message = message_taken any (subst (λ (x : Host). IsMessage x r s.payload) (sym same) s.is_message) in
    let heard : ProcessesNdisc r (NeighborAdvert flags target (Some h)) K k.reply k.notes k.taken =
    subst (λ m. ProcessesMessage r m (icmpv6_in s.payload).1 K k.reply k.notes k.taken) s.values message in
    let on : K.hardware_addr ≡ hardware.Ethernet own = ap (λ (x : Host). x.hardware_addr) same ∙ w.on_medium in
    let adv = ndisc_told flags target h heard s.by_neighbor on s.override s.hardware s.target_is_one in
    let there : Responds None k.taken k.frames k.more new = subst (λ x. Responds x k.taken k.frames k.more new) adv.replies k.responds in
    let after : new ≡ with_neighbors K adv.learns.neighbors = there.2 ∙ adv.learns.same in
    let moment : K.moment ≡ t = ap (λ (x : Host). x.moment) same in
    let known : answer_of adv.learns.neighbors (Ipv6 r.src_addr) K.moment ≡ Found (hardware.Ethernet h) = learnt_found K.moment adv.learns.filled in (
      k.sends_them ∙ there.0,
      ap (λ (a : Ipv6Address). answer_of new.neighbors (Ipv6 a) t) (sym s.itself) ∙ (ap (λ (x : Host). answer_of x.neighbors (Ipv6 r.src_addr) t) after
          ∙ (ap (answer_of adv.learns.neighbors (Ipv6 r.src_addr)) (sym moment) ∙ known)),
    )
