-- What a reply of a call tells, and what brought it.
use Rattle.std.proofs.Common.{◌≡◌, ◌⊎◌, ℕ, ◌≤◌, List, [], refl, sym, ◌∙◌, ap, subst, inl, inr, Option, Some, None}
use Rattle.std.proofs.Common.{arith}
use Rattle.std.specs.Prelude.{ℤ}
use Rattle.net_base.specs.Device.{Event}
use Rattle.ip_address.specs.declared.ethernet_address.EthernetAddress.{EthernetAddress}
use Rattle.ip_address.specs.declared.hardware.HardwareAddress.TheVariants as hardware
use Rattle.ip_address.specs.declared.ip.IpAddress.{IpAddress}
use Rattle.ip_address.specs.declared.protocol.IpProtocol.{IpProtocol}
use Rattle.ip_address.specs.declared.protocol.IpVersion.{IpVersion}
use Rattle.ip_wire.specs.declared.arp.ArpRepr.{ArpRepr}
use Rattle.ip_wire.specs.declared.tcp.TcpRepr.{TcpRepr}
use Rattle.control_wire.specs.declared.icmpv4.Icmpv4Repr.{Icmpv4Repr}
use Rattle.control_wire.specs.declared.icmpv4.Icmpv4Repr.TheVariants.{EchoReply}
use Rattle.control_wire.specs.Icmpv4 as icmpv4
use Rattle.control_wire.specs.declared.icmpv6.Icmpv6Repr.{Icmpv6Repr}
use Rattle.control_wire.specs.declared.icmpv6.Icmpv6Repr.TheVariants as v6
use Rattle.control_wire.specs.declared.ndisc.NdiscRepr.{NdiscRepr}
use Rattle.control_wire.specs.declared.ndisc.NdiscRepr.TheVariants.{NeighborAdvert, NeighborSolicit}
use Rattle.control_wire.specs.Icmpv6 as icmpv6
use Rattle.host_machine.specs.Context.Note.{Note}
use Rattle.host_machine.specs.Context.Host.{Host, without_expired}
use Rattle.host_machine.specs.Receive.Ethernet.{ProcessesFrame}
use Rattle.host_machine.specs.Receive.Reply.{Reply, Arp, Ip, IsDropped}
use Rattle.host_machine.specs.Packet.Packet.{IpPayload, Packet, PacketV4, PacketV6, payload_of}
use Rattle.host_machine.specs.Packet.Packet as packet
use Rattle.host_laws.specs.Laws.Restraint.Neighbors.{IsOwn}
use Rattle.host_laws.specs.Laws.Restraint.Neighbors as neighbors
use Rattle.host_laws.specs.Laws.Restraint.Readings.{Receives}
use Rattle.host_laws.specs.Laws.Restraint.Replies.{AdvertisementsTellItself, AdvertisesItself, AnswersByArp, AnswersEchoV4}
use Rattle.host_laws.specs.Laws.Restraint.Replies.{AnswersEchoV6, EchoesHaveCause, EchoesV6HaveCause, IsOfReplyKind, RepliesAreOfKinds}
use Rattle.host_laws.specs.Laws.Restraint.Replies.{ArpRepliesTellItself}
use Rattle.host_laws.specs.Laws.Restraint.Replies.{BringsSegment, ErrorsHaveCause, ErrorsV6HaveCause, HasCauseV4}
use Rattle.host_laws.specs.Laws.Restraint.Replies.{HasCauseV6}
use Rattle.host_laws.specs.Laws.Restraint.Replies.{HasSegmentCause, HasReasonV6, ResetsHaveCause}
use Rattle.host_laws.specs.Laws.Restraint.Replies as law
use Rattle.host_laws.proofs.Receive.ReceivedFrames.{frame_of_call}
use Rattle.host_laws.proofs.Receive.ReplyOrigins.{Origin, Silent, ByArp, ByAdvertisement, ByEcho, ByError}
use Rattle.host_laws.proofs.Receive.ReplyOrigins.{ByEchoV6, ByErrorV6, BySegment, frame_origin}

-- the reply to a frame that a call received
pub reply_origin : {t : ℤ} {frame : List ℕ} {old new : Host} {told : List Event} {notes : List Note} (w : Receives t frame old told notes new) →
    Origin (without_expired old t) frame w.call.response.reply
reply_origin {t} {frame} {old} {new} {told} {notes} w = by (frame_of_call w) where
  by : (ProcessesFrame old.hardware_addr (without_expired old t) frame w.call.response.reply w.call.response.notes_taking w.call.response.taken
      ⊎ IsDropped (without_expired old t) w.call.response.reply w.call.response.notes_taking w.call.response.taken) →
      Origin (without_expired old t) frame w.call.response.reply
  by (inl p) = frame_origin old.hardware_addr (without_expired old t) frame _ _ _ refl p
  by (inr d) = Silent d.silent

-- slots that expired have nothing to do with it
pub own_before : {old : Host} {a : IpAddress} (t : ℤ) → IsOwn (without_expired old t) a → IsOwn old a
own_before t (neighbors.Assigned i) = neighbors.Assigned i
own_before t (neighbors.Routed i r on here prefix gateway) = neighbors.Routed i r on here prefix gateway

arp_before : {own : EthernetAddress} {old : Host} {frame : List ℕ} {r : ArpRepr} (t : ℤ) →
    AnswersByArp own (without_expired old t) frame r → AnswersByArp own old frame r
arp_before t a = record {
  type = a.type;
  is_packet = a.is_packet;
  asked = a.asked;
  reply = a.reply;
  itself = a.itself;
  own_address = own_before t a.own_address;
  asked_for = a.asked_for;
  sender = a.sender;
  sender_address = a.sender_address;
}

advert_before : {own : EthernetAddress} {old : Host} {frame : List ℕ} {q : PacketV6} {message : NdiscRepr} (t : ℤ) →
    AdvertisesItself own (without_expired old t) frame q message → AdvertisesItself own old frame q message
advert_before t a = record {
  packet = a.packet;
  carried = a.carried;
  near = a.near;
  to_sender = a.to_sender;
  flags = a.flags;
  target = a.target;
  message_is = a.message_is;
  own_address = own_before t a.own_address;
  from_it = a.from_it;
  hop_limit = a.hop_limit;
}

cause_before : {old : Host} {frame : List ℕ} {q : PacketV4} {m : Icmpv4Repr} {octets : List ℕ} (t : ℤ) →
    HasCauseV4 (without_expired old t) frame q m octets → HasCauseV4 old frame q m octets
cause_before t c = record {
  packet = c.packet;
  header = c.header;
  payload = c.payload;
  carried = c.carried;
  brings = c.brings;
  no_message = c.no_message;
  sender = c.sender;
  receiver = c.receiver;
  untaken = c.untaken;
  to_sender = c.to_sender;
  from_receiver = c.from_receiver;
  reason = c.reason;
  quotes = c.quotes;
  quotes_payload = c.quotes_payload;
}

reason_before : {old : Host} {p : List ℕ} {m : Icmpv6Repr} {octets : List ℕ} (t : ℤ) →
    HasReasonV6 (without_expired old t) p m octets → HasReasonV6 old p m octets
reason_before t (law.OfPayload p payload brings other untaken quotes) = law.OfPayload p payload brings other untaken quotes
reason_before t (law.OfOption other quotes) = law.OfOption other quotes

cause_v6_before : {old : Host} {frame : List ℕ} {q : PacketV6} {m : Icmpv6Repr} {octets : List ℕ} (t : ℤ) →
    HasCauseV6 (without_expired old t) frame q m octets → HasCauseV6 old frame q m octets
cause_v6_before t c = record {
  packet = c.packet;
  carried = c.carried;
  not_nobody = c.not_nobody;
  no_group = c.no_group;
  to_sender = c.to_sender;
  reason = reason_before t c.reason;
}

echo_before : {old : Host} {frame : List ℕ} {q : PacketV4} {m : Icmpv4Repr} {octets : List ℕ} (t : ℤ) →
    AnswersEchoV4 (without_expired old t) frame q m octets → AnswersEchoV4 old frame q m octets
echo_before t c = record {
  packet = c.packet;
  header = c.header;
  request = c.request;
  carried = c.carried;
  brings = c.brings;
  of_icmp = c.of_icmp;
  type = c.type;
  to_sender = c.to_sender;
  echoes = c.echoes;
  data_is = c.data_is;
}

echo_v6_before : {old : Host} {frame : List ℕ} {q : PacketV6} {m : Icmpv6Repr} {octets : List ℕ} (t : ℤ) →
    AnswersEchoV6 (without_expired old t) frame q m octets → AnswersEchoV6 old frame q m octets
echo_v6_before t c = record {
  packet = c.packet;
  request = c.request;
  carried = c.carried;
  brings = c.brings;
  type = c.type;
  to_sender = c.to_sender;
  echoes = c.echoes;
  data_is = c.data_is;
}

segment_before : {old : Host} {frame segment : List ℕ} {v : IpVersion} {p : IpProtocol} {a b : ℕ} (t : ℤ) →
    BringsSegment (without_expired old t) frame segment v p a b → BringsSegment old frame segment v p a b
segment_before t (law.OverIpv4 packet r carried brings is) = law.OverIpv4 packet r carried brings is
segment_before t (law.OverIpv6 packet carried brings) = law.OverIpv6 packet carried brings

reset_before : {old : Host} {frame : List ℕ} {q : Packet} {header : TcpRepr} {octets : List ℕ} (t : ℤ) →
    HasSegmentCause (without_expired old t) frame q header octets → HasSegmentCause old frame q header octets
reset_before t c = record {
  segment = c.segment;
  of_version = c.of_version;
  next = c.next;
  sender = c.sender;
  receiver = c.receiver;
  brings = segment_before t c.brings;
  no_reset = c.no_reset;
  from_someone = c.from_someone;
  to_someone = c.to_someone;
  untaken = c.untaken;
  goes_back = c.goes_back;
  header_is = c.header_is;
  without_data = c.without_data;
}

-- by the kind of the reply
same_arp : {r s : ArpRepr} {reply : Option Reply} → reply ≡ Some (Arp r) → reply ≡ Some (Arp s) → r ≡ s
same_arp {r} {s} e f = let both : Some (Arp r) ≡ Some (Arp s) = sym e ∙ f in cc

same_packet : {p q : Packet} {reply : Option Reply} → reply ≡ Some (Ip p) → reply ≡ Some (Ip q) → p ≡ q
same_packet {p} {q} e f = let both : Some (Ip p) ≡ Some (Ip q) = sym e ∙ f in cc

same_v4 : {p q : PacketV4} {reply : Option Reply} → reply ≡ Some (Ip (packet.Ipv4 p)) → reply ≡ Some (Ip (packet.Ipv4 q)) → p ≡ q
same_v4 {p} {q} e f = let both : Some (Ip (packet.Ipv4 p)) ≡ Some (Ip (packet.Ipv4 q)) = sym e ∙ f in cc

same_v6 : {p q : PacketV6} {reply : Option Reply} → reply ≡ Some (Ip (packet.Ipv6 p)) → reply ≡ Some (Ip (packet.Ipv6 q)) → p ≡ q
same_v6 {p} {q} e f = let both : Some (Ip (packet.Ipv6 p)) ≡ Some (Ip (packet.Ipv6 q)) = sym e ∙ f in cc

pub arp_told : ArpRepliesTellItself
arp_told t frame old new told notes w own r on is = by (reply_origin w) where
  by : Origin (without_expired old t) frame w.call.response.reply → AnswersByArp own old frame r
  by (Silent e) = let bad : None ≡ Some (Arp r) = sym e ∙ is in absurd cc
  by (ByArp mine s here e a) =
      let same : mine ≡ own = let both : hardware.Ethernet mine ≡ hardware.Ethernet own = sym here ∙ on in cc in
      subst (λ x. AnswersByArp own old frame x) (same_arp e is) (subst (λ x. AnswersByArp x old frame s) same (arp_before t a))
  by (ByAdvertisement mine q message here e p a) = let bad : Some (Ip (packet.Ipv6 q)) ≡ Some (Arp r) = sym e ∙ is in absurd cc
  by (ByEcho q ident seq_no octets e p s answers) = let bad : Some (Ip (packet.Ipv4 q)) ≡ Some (Arp r) = sym e ∙ is in absurd cc
  by (ByError q message octets e p c) = let bad : Some (Ip (packet.Ipv4 q)) ≡ Some (Arp r) = sym e ∙ is in absurd cc
  by (ByEchoV6 q ident seq_no octets e p s answers) = let bad : Some (Ip (packet.Ipv6 q)) ≡ Some (Arp r) = sym e ∙ is in absurd cc
  by (ByErrorV6 q message octets e p few c s) = let bad : Some (Ip (packet.Ipv6 q)) ≡ Some (Arp r) = sym e ∙ is in absurd cc
  by (BySegment q header e p c) = let bad : Some (Ip q) ≡ Some (Arp r) = sym e ∙ is in absurd cc

-- the payload of the packet is one
payload_v4 : {p q : PacketV4} {reply : Option Reply} {a b : IpPayload} →
    reply ≡ Some (Ip (packet.Ipv4 p)) → p.payload ≡ a → reply ≡ Some (Ip (packet.Ipv4 q)) → q.payload ≡ b → a ≡ b
payload_v4 e x f y = sym x ∙ (ap (λ (z : PacketV4). z.payload) (same_v4 e f) ∙ y)

payload_v6 : {p q : PacketV6} {reply : Option Reply} {a b : IpPayload} →
    reply ≡ Some (Ip (packet.Ipv6 p)) → p.payload ≡ a → reply ≡ Some (Ip (packet.Ipv6 q)) → q.payload ≡ b → a ≡ b
payload_v6 e x f y = sym x ∙ (ap (λ (z : PacketV6). z.payload) (same_v6 e f) ∙ y)

payload_any : {p q : Packet} {reply : Option Reply} {a b : IpPayload} →
    reply ≡ Some (Ip p) → payload_of p ≡ a → reply ≡ Some (Ip q) → payload_of q ≡ b → a ≡ b
payload_any e x f y = sym x ∙ (ap payload_of (same_packet e f) ∙ y)

no_error : (m : NdiscRepr) → icmpv6.type_of (v6.Ndisc m) ≤ 4 → ⊥
no_error (NeighborSolicit target lladdr) few = omega (arith, few)
no_error (NeighborAdvert flags target lladdr) few = omega (arith, few)

pub advert_told : AdvertisementsTellItself
advert_told t frame old new told notes w own q message octets on is carries = by (reply_origin w) where
  by : Origin (without_expired old t) frame w.call.response.reply → AdvertisesItself own old frame q message
  by (Silent e) = let bad : None ≡ Some (Ip (packet.Ipv6 q)) = sym e ∙ is in absurd cc
  by (ByArp mine s here e a) = let bad : Some (Arp s) ≡ Some (Ip (packet.Ipv6 q)) = sym e ∙ is in absurd cc
  by (ByAdvertisement mine p m here e c a) =
      let same : mine ≡ own = let both : hardware.Ethernet mine ≡ hardware.Ethernet own = sym here ∙ on in cc in
      let one : m ≡ message =
      let both : packet.Icmpv6 (v6.Ndisc m) [] ≡ packet.Icmpv6 (v6.Ndisc message) octets = payload_v6 e c is carries in cc in
      subst (λ x. AdvertisesItself own old frame q x) one
      (subst (λ x. AdvertisesItself own old frame x m) (same_v6 e is) (subst (λ x. AdvertisesItself x old frame p m) same (advert_before t a)))
  by (ByEcho p ident seq_no o e c s answers) = let bad : Some (Ip (packet.Ipv4 p)) ≡ Some (Ip (packet.Ipv6 q)) = sym e ∙ is in absurd cc
  by (ByError p m o e c cause) = let bad : Some (Ip (packet.Ipv4 p)) ≡ Some (Ip (packet.Ipv6 q)) = sym e ∙ is in absurd cc
  by (ByEchoV6 p ident seq_no o e c s answers) =
      let bad : packet.Icmpv6 (v6.EchoReply ident seq_no) o ≡ packet.Icmpv6 (v6.Ndisc message) octets = payload_v6 e c is carries in absurd cc
  by (ByErrorV6 p m o e c few cause s) =
      let same : m ≡ v6.Ndisc message = let both : packet.Icmpv6 m o ≡ packet.Icmpv6 (v6.Ndisc message) octets = payload_v6 e c is carries in cc in
      absurd (no_error message (subst (λ x. icmpv6.type_of x ≤ 4) same few))
  by (BySegment p header e c cause) =
      let bad : packet.Tcp header [] ≡ packet.Icmpv6 (v6.Ndisc message) octets = payload_any e c is carries in absurd cc

pub errors_caused : ErrorsHaveCause
errors_caused t frame old new told notes w q message octets is carries other = by (reply_origin w) where
  by : Origin (without_expired old t) frame w.call.response.reply → HasCauseV4 old frame q message octets
  by (Silent e) = let bad : None ≡ Some (Ip (packet.Ipv4 q)) = sym e ∙ is in absurd cc
  by (ByArp mine s here e a) = let bad : Some (Arp s) ≡ Some (Ip (packet.Ipv4 q)) = sym e ∙ is in absurd cc
  by (ByAdvertisement mine p m here e c a) = let bad : Some (Ip (packet.Ipv6 p)) ≡ Some (Ip (packet.Ipv4 q)) = sym e ∙ is in absurd cc
  by (ByEcho p ident seq_no o e c s answers) =
      let same : EchoReply ident seq_no ≡ message =
      let both : packet.Icmpv4 (EchoReply ident seq_no) o ≡ packet.Icmpv4 message octets = payload_v4 e c is carries in cc in
      absurd (other (ap icmpv4.type_of (sym same)))
  by (ByError p m o e c cause) =
      let both : packet.Icmpv4 m o ≡ packet.Icmpv4 message octets = payload_v4 e c is carries in
      let one : m ≡ message = cc in
      let two : o ≡ octets = cc in
      subst (λ x. HasCauseV4 old frame q message x) two
      (subst (λ x. HasCauseV4 old frame q x o) one (subst (λ x. HasCauseV4 old frame x m o) (same_v4 e is) (cause_before t cause)))
  by (ByEchoV6 p ident seq_no o e c s answers) = let bad : Some (Ip (packet.Ipv6 p)) ≡ Some (Ip (packet.Ipv4 q)) = sym e ∙ is in absurd cc
  by (ByErrorV6 p m o e c few cause s) = let bad : Some (Ip (packet.Ipv6 p)) ≡ Some (Ip (packet.Ipv4 q)) = sym e ∙ is in absurd cc
  by (BySegment p header e c cause) = let bad : packet.Tcp header [] ≡ packet.Icmpv4 message octets = payload_any e c is carries in absurd cc

pub errors_v6_caused : ErrorsV6HaveCause
errors_v6_caused t frame old new told notes w q message octets is carries few = by (reply_origin w) where
  by : Origin (without_expired old t) frame w.call.response.reply → HasCauseV6 old frame q message octets
  by (Silent e) = let bad : None ≡ Some (Ip (packet.Ipv6 q)) = sym e ∙ is in absurd cc
  by (ByArp mine s here e a) = let bad : Some (Arp s) ≡ Some (Ip (packet.Ipv6 q)) = sym e ∙ is in absurd cc
  by (ByAdvertisement mine p m here e c a) =
      let same : v6.Ndisc m ≡ message = let both : packet.Icmpv6 (v6.Ndisc m) [] ≡ packet.Icmpv6 message octets = payload_v6 e c is carries in cc in
      absurd (no_error m (subst (λ x. icmpv6.type_of x ≤ 4) (sym same) few))
  by (ByEcho p ident seq_no o e c s answers) = let bad : Some (Ip (packet.Ipv4 p)) ≡ Some (Ip (packet.Ipv6 q)) = sym e ∙ is in absurd cc
  by (ByError p m o e c cause) = let bad : Some (Ip (packet.Ipv4 p)) ≡ Some (Ip (packet.Ipv6 q)) = sym e ∙ is in absurd cc
  by (ByEchoV6 p ident seq_no o e c s answers) =
      let same : v6.EchoReply ident seq_no ≡ message =
      let both : packet.Icmpv6 (v6.EchoReply ident seq_no) o ≡ packet.Icmpv6 message octets = payload_v6 e c is carries in cc in
      let bad : 129 ≤ 4 = subst (λ x. icmpv6.type_of x ≤ 4) (sym same) few in absurd (omega (arith, bad))
  by (ByErrorV6 p m o e c low cause s) =
      let both : packet.Icmpv6 m o ≡ packet.Icmpv6 message octets = payload_v6 e c is carries in
      let one : m ≡ message = cc in
      let two : o ≡ octets = cc in
      subst (λ x. HasCauseV6 old frame q message x) two
      (subst (λ x. HasCauseV6 old frame q x o) one (subst (λ x. HasCauseV6 old frame x m o) (same_v6 e is) (cause_v6_before t cause)))
  by (BySegment p header e c cause) = let bad : packet.Tcp header [] ≡ packet.Icmpv6 message octets = payload_any e c is carries in absurd cc

pub echoes_caused : EchoesHaveCause
echoes_caused t frame old new told notes w q message octets is carries zero = by (reply_origin w) where
  by : Origin (without_expired old t) frame w.call.response.reply → AnswersEchoV4 old frame q message octets
  by (Silent e) = let bad : None ≡ Some (Ip (packet.Ipv4 q)) = sym e ∙ is in absurd cc
  by (ByArp mine s here e a) = let bad : Some (Arp s) ≡ Some (Ip (packet.Ipv4 q)) = sym e ∙ is in absurd cc
  by (ByAdvertisement mine p m here e c a) = let bad : Some (Ip (packet.Ipv6 p)) ≡ Some (Ip (packet.Ipv4 q)) = sym e ∙ is in absurd cc
  by (ByEcho p ident seq_no o e c s answers) =
      let both : packet.Icmpv4 (EchoReply ident seq_no) o ≡ packet.Icmpv4 message octets = payload_v4 e c is carries in
      let one : EchoReply ident seq_no ≡ message = cc in
      let two : o ≡ octets = cc in
      subst (λ x. AnswersEchoV4 old frame q message x) two
      (subst (λ x. AnswersEchoV4 old frame q x o) one
      (subst (λ x. AnswersEchoV4 old frame x (EchoReply ident seq_no) o) (same_v4 e is) (echo_before t answers)))
  by (ByError p m o e c cause) =
      let same : m ≡ message = let both : packet.Icmpv4 m o ≡ packet.Icmpv4 message octets = payload_v4 e c is carries in cc in
      let bad : 3 ≡ 0 = sym (ap icmpv4.type_of cause.quotes) ∙ ap icmpv4.type_of same ∙ zero in absurd cc
  by (ByEchoV6 p ident seq_no o e c s answers) = let bad : Some (Ip (packet.Ipv6 p)) ≡ Some (Ip (packet.Ipv4 q)) = sym e ∙ is in absurd cc
  by (ByErrorV6 p m o e c few cause s) = let bad : Some (Ip (packet.Ipv6 p)) ≡ Some (Ip (packet.Ipv4 q)) = sym e ∙ is in absurd cc
  by (BySegment p header e c cause) = let bad : packet.Tcp header [] ≡ packet.Icmpv4 message octets = payload_any e c is carries in absurd cc

-- no message of neighbour discovery is an echo reply
no_echo : (m : NdiscRepr) → icmpv6.type_of (v6.Ndisc m) ≡ 129 → ⊥
no_echo (NeighborSolicit target lladdr) e = let bad : 135 ≡ 129 = e in omega (arith, bad)
no_echo (NeighborAdvert flags target lladdr) e = let bad : 136 ≡ 129 = e in omega (arith, bad)

pub echoes_v6_caused : EchoesV6HaveCause
echoes_v6_caused t frame old new told notes w q message octets is carries reply = by (reply_origin w) where
  by : Origin (without_expired old t) frame w.call.response.reply → AnswersEchoV6 old frame q message octets
  by (Silent e) = let bad : None ≡ Some (Ip (packet.Ipv6 q)) = sym e ∙ is in absurd cc
  by (ByArp mine s here e a) = let bad : Some (Arp s) ≡ Some (Ip (packet.Ipv6 q)) = sym e ∙ is in absurd cc
  by (ByAdvertisement mine p m here e c a) =
      let same : v6.Ndisc m ≡ message = let both : packet.Icmpv6 (v6.Ndisc m) [] ≡ packet.Icmpv6 message octets = payload_v6 e c is carries in cc in
      absurd (no_echo m (ap icmpv6.type_of same ∙ reply))
  by (ByEcho p ident seq_no o e c s answers) = let bad : Some (Ip (packet.Ipv4 p)) ≡ Some (Ip (packet.Ipv6 q)) = sym e ∙ is in absurd cc
  by (ByError p m o e c cause) = let bad : Some (Ip (packet.Ipv4 p)) ≡ Some (Ip (packet.Ipv6 q)) = sym e ∙ is in absurd cc
  by (ByEchoV6 p ident seq_no o e c s answers) =
      let both : packet.Icmpv6 (v6.EchoReply ident seq_no) o ≡ packet.Icmpv6 message octets = payload_v6 e c is carries in
      let one : v6.EchoReply ident seq_no ≡ message = cc in
      let two : o ≡ octets = cc in
      subst (λ x. AnswersEchoV6 old frame q message x) two
      (subst (λ x. AnswersEchoV6 old frame q x o) one
      (subst (λ x. AnswersEchoV6 old frame x (v6.EchoReply ident seq_no) o) (same_v6 e is) (echo_v6_before t answers)))
  by (ByErrorV6 p m o e c few cause s) =
      let same : m ≡ message = let both : packet.Icmpv6 m o ≡ packet.Icmpv6 message octets = payload_v6 e c is carries in cc in
      let bad : 129 ≤ 4 = subst (λ n. n ≤ 4) (ap icmpv6.type_of same ∙ reply) few in absurd (omega (arith, bad))
  by (BySegment p header e c cause) = let bad : packet.Tcp header [] ≡ packet.Icmpv6 message octets = payload_any e c is carries in absurd cc

pub kinds_of_replies : RepliesAreOfKinds
kinds_of_replies t frame old new told notes w q is = by (reply_origin w) where
  by : Origin (without_expired old t) frame w.call.response.reply → IsOfReplyKind (payload_of q)
  by (Silent e) = let bad : None ≡ Some (Ip q) = sym e ∙ is in absurd cc
  by (ByArp mine s here e a) = let bad : Some (Arp s) ≡ Some (Ip q) = sym e ∙ is in absurd cc
  by (ByAdvertisement mine p m here e c a) =
      subst IsOfReplyKind (sym c ∙ ap payload_of (same_packet e is)) (inr (inr (ap (λ x. icmpv6.type_of (v6.Ndisc x)) a.message_is)))
  by (ByEcho p ident seq_no o e c s answers) = subst IsOfReplyKind (sym c ∙ ap payload_of (same_packet e is)) (inl refl)
  by (ByError p m o e c cause) =
      subst IsOfReplyKind (sym c ∙ ap payload_of (same_packet e is)) (inr (ap icmpv4.type_of cause.quotes))
  by (ByEchoV6 p ident seq_no o e c s answers) = subst IsOfReplyKind (sym c ∙ ap payload_of (same_packet e is)) (inr (inl refl))
  by (ByErrorV6 p m o e c few cause s) = subst IsOfReplyKind (sym c ∙ ap payload_of (same_packet e is)) (inl few)
  by (BySegment p header e c cause) = subst IsOfReplyKind (sym c ∙ ap payload_of (same_packet e is)) tt

pub resets_caused : ResetsHaveCause
resets_caused t frame old new told notes w q header octets is carries = by (reply_origin w) where
  by : Origin (without_expired old t) frame w.call.response.reply → HasSegmentCause old frame q header octets
  by (Silent e) = let bad : None ≡ Some (Ip q) = sym e ∙ is in absurd cc
  by (ByArp mine s here e a) = let bad : Some (Arp s) ≡ Some (Ip q) = sym e ∙ is in absurd cc
  by (ByAdvertisement mine p m here e c a) =
      let bad : packet.Icmpv6 (v6.Ndisc m) [] ≡ packet.Tcp header octets = payload_any e c is carries in absurd cc
  by (ByEcho p ident seq_no o e c s answers) =
      let bad : packet.Icmpv4 (EchoReply ident seq_no) o ≡ packet.Tcp header octets = payload_any e c is carries in absurd cc
  by (ByError p m o e c cause) = let bad : packet.Icmpv4 m o ≡ packet.Tcp header octets = payload_any e c is carries in absurd cc
  by (ByEchoV6 p ident seq_no o e c s answers) =
      let bad : packet.Icmpv6 (v6.EchoReply ident seq_no) o ≡ packet.Tcp header octets = payload_any e c is carries in absurd cc
  by (ByErrorV6 p m o e c few cause s) = let bad : packet.Icmpv6 m o ≡ packet.Tcp header octets = payload_any e c is carries in absurd cc
  by (BySegment p x e c cause) =
      let both : packet.Tcp x [] ≡ packet.Tcp header octets = payload_any e c is carries in
      let one : x ≡ header = cc in
      let two : [] ≡ octets = cc in
      subst (λ o. HasSegmentCause old frame q header o) two
      (subst (λ h. HasSegmentCause old frame q h []) one (subst (λ z. HasSegmentCause old frame z x []) (same_packet e is) (reset_before t cause)))
