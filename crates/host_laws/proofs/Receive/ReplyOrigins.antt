-- From which rule a reply to a frame comes, with what the frame has to do with it.
use Rattle.std.proofs.Common.{◌≡◌, ◌≢◌, ◌⊎◌, ℕ, ◌≤◌, ◌/◌, ◌%◌, Bool, true, false, List, [], length, take, refl, sym}
use Rattle.std.proofs.Common.{◌∙◌, ap}
use Rattle.std.proofs.Common.{subst, inl, inr, drop, Option, Some, None, arith}
use Rattle.std.specs.Prelude.{◌==◌, ◌&&◌, slice_get, slice_index, cond, if◌then◌else◌}
use Rattle.std.specs.Option.{option_map}
use Rattle.std.proofs.lemmas.Bool.Decides.{Decides-eqb}
use Rattle.std.specs.List.{AllByRecursion, list_any}
use Rattle.net_base.specs.Checksum.{is_tx}
use Rattle.ip_address.specs.AddressSelection.Ipv6.{source_v6}
use Rattle.ip_address.specs.EthernetAddress as ethernet_address
use Rattle.ip_address.specs.Ip as ip_address
use Rattle.ip_address.specs.Ipv4 as ipv4_address
use Rattle.ip_address.specs.Ipv6 as ipv6_address
use Rattle.ip_address.specs.declared.cidr.IpCidr.{IpCidr}
use Rattle.ip_address.specs.declared.ethernet_address.EthernetAddress.{EthernetAddress}
use Rattle.ip_address.specs.declared.hardware.HardwareAddress.{HardwareAddress}
use Rattle.ip_address.specs.declared.hardware.HardwareAddress.TheVariants as hardware
use Rattle.ip_address.specs.declared.ip.IpAddress.{IpAddress}
use Rattle.ip_address.specs.declared.ip.IpAddress.TheVariants as address
use Rattle.ip_address.specs.declared.ipv4.Ipv4Address.{Ipv4Address}
use Rattle.ip_address.specs.declared.ipv6.Ipv6Address.{Ipv6Address}
use Rattle.ip_address.specs.declared.protocol.IpProtocol.{IpProtocol}
use Rattle.ip_address.specs.declared.protocol.IpProtocol.TheVariants as protocol
use Rattle.ip_address.specs.declared.protocol.IpVersion.{IpVersion}
use Rattle.ip_address.specs.declared.protocol.IpVersion.TheVariants as version
use Rattle.ip_wire.specs.declared.arp.ArpOperation.{ArpOperation}
use Rattle.ip_wire.specs.declared.arp.ArpOperation.TheVariants as operation
use Rattle.ip_wire.specs.declared.arp.ArpRepr.{ArpRepr}
use Rattle.ip_wire.specs.declared.ethernet.EthernetProtocol.{EthernetProtocol}
use Rattle.ip_wire.specs.declared.ethernet.EthernetProtocol.TheVariants as ethertype
use Rattle.ip_wire.specs.declared.ip_packet.IpRepr.{IpRepr}
use Rattle.ip_wire.specs.declared.ip_packet.IpRepr.TheVariants as repr
use Rattle.ip_wire.specs.declared.ipv4_packet.Ipv4Repr.{Ipv4Repr}
use Rattle.ip_wire.specs.declared.tcp.TcpRepr.{TcpRepr}
use Rattle.ip_wire.specs.Arp.{arp_in}
use Rattle.ip_wire.specs.Ethernet.{header_in}
use Rattle.ip_wire.specs.Ipv4Packet.{ipv4_in}
use Rattle.ip_wire.specs.IpPacket.{src_addr, dst_addr}
use Rattle.ip_wire.specs.Tcp.{IsTcp, tcp_in}
use Rattle.ip_wire.specs.declared.hop_by_hop.Ipv6OptionFailureType.{Ipv6OptionFailureType}
use Rattle.ip_wire.specs.declared.hop_by_hop.Ipv6OptionFailureType.TheVariants.{Skip, Discard, DiscardSendAll}
use Rattle.ip_wire.specs.declared.hop_by_hop.Ipv6OptionFailureType.TheVariants.{DiscardSendUnicast}
use Rattle.ip_wire.specs.declared.ipv6_packet.Ipv6Repr.{Ipv6Repr}
use Rattle.ip_wire.specs.HopByHop.{hop_by_hop_in, first_failure}
use Rattle.ip_wire.specs.Ipv6Packet.{ipv6_in}
use Rattle.control_wire.specs.declared.icmpv4.Icmpv4DstUnreachable.{Icmpv4DstUnreachable}
use Rattle.control_wire.specs.declared.icmpv4.Icmpv4Repr.{Icmpv4Repr}
use Rattle.control_wire.specs.declared.icmpv4.Icmpv4Repr.TheVariants.{EchoRequest, EchoReply, DstUnreachable}
use Rattle.control_wire.specs.declared.icmpv4.Icmpv4Repr.TheVariants.{TimeExceeded}
use Rattle.control_wire.specs.Icmpv4.{icmpv4_in}
use Rattle.ip_wire.specs.Octets.{u16_at}
use Rattle.control_wire.specs.Icmpv6.{icmpv6_in}
use Rattle.control_wire.specs.Icmpv6 as icmpv6_text
use Rattle.control_wire.specs.declared.icmpv6.Icmpv6Repr.{Icmpv6Repr}
use Rattle.control_wire.specs.declared.icmpv6.Icmpv6Repr.TheVariants as v6
use Rattle.control_wire.specs.declared.icmpv6.Icmpv6DstUnreachable.{Icmpv6DstUnreachable}
use Rattle.control_wire.specs.declared.icmpv6.Icmpv6DstUnreachable.TheVariants as unreachable_v6
use Rattle.control_wire.specs.declared.icmpv6.Icmpv6ParamProblem.{Icmpv6ParamProblem}
use Rattle.control_wire.specs.declared.icmpv6.Icmpv6ParamProblem.TheVariants as problem_v6
use Rattle.control_wire.specs.declared.ndisc.NdiscRepr.{NdiscRepr}
use Rattle.control_wire.specs.declared.router.RouterRepr.{RouterRepr}
use Rattle.control_wire.specs.declared.mld.MldRepr.{MldRepr}
use Rattle.control_wire.specs.declared.ndisc.NdiscRepr.TheVariants.{NeighborAdvert}
use Rattle.control_wire.specs.declared.mld.MldRepr.TheVariants.{Query, Report}
use Rattle.sockets.specs.declared.socket.SocketOf.TheVariants.{Raw, Icmp, Udp, Tcp}
use Rattle.sockets.specs.Tcp as tcp_socket
use Rattle.host_machine.specs.Context.Note.{Note}
use Rattle.host_machine.specs.Context.Host.{Host, Storage, has_ip_addr, in_same_network}
use Rattle.host_machine.specs.Context.Addresses.{is_broadcast_v4, is_unicast_v4, ipv4_addr}
use Rattle.host_machine.specs.Discovery.Arp.{ProcessesArp, reply_to}
use Rattle.host_machine.specs.Discovery.Arp as arp
use Rattle.host_machine.specs.Receive.Ethernet.{ProcessesEthernet, ProcessesEthertype, ProcessesFrame}
use Rattle.host_machine.specs.Receive.Ethernet as ethernet
use Rattle.host_machine.specs.Sockets.Raw as raw
use Rattle.host_machine.specs.Receive.Reply.{Reply, Arp, Ip, IsDropped}
use Rattle.host_machine.specs.Discovery.Renewal.{sender_renewed}
use Rattle.host_machine.specs.Icmp.Icmpv4.{ProcessesIcmpv4, answer_to, message_back}
use Rattle.host_machine.specs.Icmp.Icmpv4.{quotation_of, reply_source, unreachable}
use Rattle.host_machine.specs.Icmp.Icmpv4 as icmpv4
use Rattle.host_machine.specs.Icmp.Icmpv6.{ProcessesIcmpv6, ProcessesMessage}
use Rattle.host_machine.specs.Icmp.Icmpv6 as icmpv6
use Rattle.host_machine.specs.Receive.Ipv4.{ProcessesDatagram, ProcessesIpv4, ProcessesPacket}
use Rattle.host_machine.specs.Receive.Ipv4 as ip
use Rattle.host_machine.specs.Receive.Ipv6.{ProcessesDatagramV6, ProcessesHopByHop, ProcessesIpv6, unrecognized_next_header}
use Rattle.host_machine.specs.Icmp.HopByHop.{unknown_option}
use Rattle.host_machine.specs.Receive.Ipv6 as ipv6
use Rattle.host_machine.specs.Discovery.Ndisc.{ProcessesNdisc, ProcessesNdiscMessage, advertisement_of, answer_by}
use Rattle.host_machine.specs.Discovery.Ndisc.{is_target, solicited_flag}
use Rattle.host_machine.specs.Discovery.Ndisc as ndisc
use Rattle.host_machine.specs.Sockets.Tcp.{ProcessesTcp, segment_back, socket_reply}
use Rattle.host_machine.specs.Sockets.Tcp.{reset_for}
use Rattle.host_machine.specs.Sockets.Tcp as tcp
use Rattle.host_machine.specs.Sockets.Udp.{ProcessesUdp}
use Rattle.host_machine.specs.Sockets.Udp as udp
use Rattle.host_machine.specs.Packet.Packet.{Packet, PacketV4, PacketV6, payload_of}
use Rattle.host_machine.specs.Packet.Packet as packet
use Rattle.host_machine.specs.Multicast.Igmp as reports
use Rattle.host_laws.specs.Laws.Restraint.Readings.{AreSameButRaw, CarriesV4, CarriesV6}
use Rattle.host_laws.specs.Laws.Restraint.Chosen.{IsChosenFor, Given}
use Rattle.host_laws.specs.Laws.Restraint.Neighbors.{IsAssigned, IsOwn}
use Rattle.host_laws.specs.Laws.Restraint.Sources.{IsReceiver, IsReplyFrom, FromChosen, FromReceiver, OverIpv4, OverIpv6}
use Rattle.host_laws.specs.Laws.Restraint.Replies.{AdvertisesItself, AnswersByArp, AnswersEchoV4, AnswersEchoV6}
use Rattle.host_laws.specs.Laws.Restraint.Replies.{BringsSegment, BringsV4, BringsV6}
use Rattle.host_laws.specs.Laws.Restraint.Replies.{GoesBack, HasAborted, HasCauseV4}
use Rattle.host_laws.specs.Laws.Restraint.Replies.{HasCauseV6, HasReasonV6, HasSegmentCause, IsNoRawFor}
use Rattle.host_laws.specs.Laws.Restraint.Replies as law
use Rattle.host_laws.specs.Laws.Restraint.ResetNumbers.{IsResetFor}
use Rattle.host_laws.proofs.Discovery.LearntNeighbors.{IsOneHostV6, and_both, one_host_v6, own_of}
use Rattle.host_laws.proofs.Receive.ReceivedFrames.{raw_only, renewal}
use Rattle.host_laws.proofs.Receive.ReplyCauses.{answered, both_false, no_raw, no_reset_flag, one_host_v4}
use Rattle.host_laws.proofs.Receive.ReplyCauses.{tcp_there}
use Rattle.host_laws.proofs.Sockets.ResetNumbers.{answer_for}
use Rattle.host_laws.proofs.Context.ChosenSources.{chosen_v6, first_assigned}

-- the kinds of replies
pub data Origin (H : Host) (frame : List ℕ) (reply : Option Reply) : Type 0 where
  Silent : reply ≡ None → Origin H frame reply
  ByArp : (own : EthernetAddress) (r : ArpRepr) → H.hardware_addr ≡ hardware.Ethernet own → reply ≡ Some (Arp r) →
      AnswersByArp own H frame r → Origin H frame reply
  ByAdvertisement : (own : EthernetAddress) (q : PacketV6) (message : NdiscRepr) → H.hardware_addr ≡ hardware.Ethernet own →
      reply ≡ Some (Ip (packet.Ipv6 q)) → q.payload ≡ packet.Icmpv6 (v6.Ndisc message) [] → AdvertisesItself own H frame q message →
      Origin H frame reply
  ByEcho : (q : PacketV4) (ident seq_no : ℕ) (octets : List ℕ) →
      reply ≡ Some (Ip (packet.Ipv4 q)) → q.payload ≡ packet.Icmpv4 (EchoReply ident seq_no) octets →
      IsReplyFrom H frame (packet.Ipv4 q) → AnswersEchoV4 H frame q (EchoReply ident seq_no) octets → Origin H frame reply
  ByError : (q : PacketV4) (message : Icmpv4Repr) (octets : List ℕ) → reply ≡ Some (Ip (packet.Ipv4 q)) →
      q.payload ≡ packet.Icmpv4 message octets → HasCauseV4 H frame q message octets → Origin H frame reply
  ByEchoV6 : (q : PacketV6) (ident seq_no : ℕ) (octets : List ℕ) →
      reply ≡ Some (Ip (packet.Ipv6 q)) → q.payload ≡ packet.Icmpv6 (v6.EchoReply ident seq_no) octets →
      IsReplyFrom H frame (packet.Ipv6 q) → AnswersEchoV6 H frame q (v6.EchoReply ident seq_no) octets → Origin H frame reply
  ByErrorV6 : (q : PacketV6) (message : Icmpv6Repr) (octets : List ℕ) → reply ≡ Some (Ip (packet.Ipv6 q)) →
      q.payload ≡ packet.Icmpv6 message octets → icmpv6_text.type_of message ≤ 4 → HasCauseV6 H frame q message octets →
      IsReplyFrom H frame (packet.Ipv6 q) → Origin H frame reply
  BySegment : (q : Packet) (header : TcpRepr) → reply ≡ Some (Ip q) → payload_of q ≡ packet.Tcp header [] →
      HasSegmentCause H frame q header [] → Origin H frame reply

-- a message of another kind isn't read as an echo request
abbrev other : Bool → Bool → Icmpv4DstUnreachable → Ipv4Repr → ℕ → ℕ → ℕ → List ℕ → List ℕ → Icmpv4Repr × List ℕ
other reply unreachable reason header a b c xs ys =
    if reply then (EchoReply a b, xs) else if unreachable then (DstUnreachable reason header, ys) else (TimeExceeded c header, ys)

other_message : (reply unreachable : Bool) (reason : Icmpv4DstUnreachable) (header : Ipv4Repr) (a b c ident seq_no : ℕ) (xs ys : List ℕ) →
    (other reply unreachable reason header a b c xs ys).0 ≡ EchoRequest ident seq_no → ⊥
other_message true unreachable reason header a b c ident seq_no xs ys e = absurd cc
other_message false true reason header a b c ident seq_no xs ys e = absurd cc
other_message false false reason header a b c ident seq_no xs ys e = absurd cc

-- the octets of a message that is read as one
echo_octets : (octets : List ℕ) (ident seq_no : ℕ) → (icmpv4_in octets).0 ≡ EchoRequest ident seq_no →
    (slice_index octets 0 ≡ 8) × (EchoReply ident seq_no ≡ EchoReply (u16_at octets 4) (u16_at octets 6)) × ((icmpv4_in octets).1 ≡ drop 8 octets)
echo_octets octets ident seq_no is = by (slice_index octets 0 == 8) refl where
  by : (b : Bool) → (slice_index octets 0 == 8) ≡ b →
      (slice_index octets 0 ≡ 8) × (EchoReply ident seq_no ≡ EchoReply (u16_at octets 4) (u16_at octets 6)) × ((icmpv4_in octets).1 ≡ drop 8 octets)
  by true e =
      let type : slice_index octets 0 ≡ 8 = (Decides-eqb (slice_index octets 0) 8).0 e in
      let same : EchoRequest (u16_at octets 4) (u16_at octets 6) ≡ EchoRequest ident seq_no = rw type at is in (type, cc, rw type refl)
  by false e = absurd (other_message (slice_index octets 0 == 0) (slice_index octets 0 == 3) _ _ _ _ _ ident seq_no _ _ (rw e at is))

-- the same of ICMPv6
no_error_request : (b1 b2 b3 : Bool) (u : Icmpv6DstUnreachable) (p : Icmpv6ParamProblem) (header : Ipv6Repr) (a b ident seq_no : ℕ) →
    (if b1 then v6.DstUnreachable u header else if b2 then v6.PktTooBig a header else if b3 then v6.TimeExceeded b header else
    v6.ParamProblem p a header) ≡ v6.EchoRequest ident seq_no → ⊥
no_error_request true b2 b3 u p header a b ident seq_no e = absurd cc
no_error_request false true b3 u p header a b ident seq_no e = absurd cc
no_error_request false false true u p header a b ident seq_no e = absurd cc
no_error_request false false false u p header a b ident seq_no e = absurd cc

abbrev other_v6 : Bool → Bool → Bool → Bool → Bool → Bool → Bool → NdiscRepr → RouterRepr → MldRepr → Icmpv6Repr → ℕ → ℕ →
    List ℕ → List ℕ → List ℕ → Icmpv6Repr × List ℕ
other_v6 b1 b2 b3 b4 b5 b6 b7 n r m x a b xs ys zs =
    if b1 then (v6.EchoReply a b, xs) else if b2 then (v6.Ndisc n, []) else if b3 then (v6.Ndisc n, []) else
    if b4 then (v6.Router r, []) else if b5 then (v6.Router r, []) else if b6 then (v6.Mld m, ys) else if b7 then (v6.Mld m, ys) else (x, zs)

other_message_v6 : (b1 b2 b3 b4 b5 b6 b7 : Bool) (n : NdiscRepr) (r : RouterRepr) (m : MldRepr) (x : Icmpv6Repr) (a b ident seq_no : ℕ)
    (xs ys zs : List ℕ) → (x ≡ v6.EchoRequest ident seq_no → ⊥) →
    (other_v6 b1 b2 b3 b4 b5 b6 b7 n r m x a b xs ys zs).0 ≡ v6.EchoRequest ident seq_no → ⊥
other_message_v6 true b2 b3 b4 b5 b6 b7 n r m x a b ident seq_no xs ys zs unlike e = absurd cc
other_message_v6 false true b3 b4 b5 b6 b7 n r m x a b ident seq_no xs ys zs unlike e = absurd cc
other_message_v6 false false true b4 b5 b6 b7 n r m x a b ident seq_no xs ys zs unlike e = absurd cc
other_message_v6 false false false true b5 b6 b7 n r m x a b ident seq_no xs ys zs unlike e = absurd cc
other_message_v6 false false false false true b6 b7 n r m x a b ident seq_no xs ys zs unlike e = absurd cc
other_message_v6 false false false false false true b7 n r m x a b ident seq_no xs ys zs unlike e = absurd cc
other_message_v6 false false false false false false true n r m x a b ident seq_no xs ys zs unlike e = absurd cc
other_message_v6 false false false false false false false n r m x a b ident seq_no xs ys zs unlike e = unlike e

echo_octets_v6 : (octets : List ℕ) (ident seq_no : ℕ) → (icmpv6_in octets).0 ≡ v6.EchoRequest ident seq_no →
    (slice_index octets 0 ≡ 128) × (v6.EchoReply ident seq_no ≡ v6.EchoReply (u16_at octets 4) (u16_at octets 6))
    × ((icmpv6_in octets).1 ≡ drop 8 octets)
echo_octets_v6 octets ident seq_no is = by (slice_index octets 0 == 128) refl where
  by : (b : Bool) → (slice_index octets 0 == 128) ≡ b →
      (slice_index octets 0 ≡ 128) × (v6.EchoReply ident seq_no ≡ v6.EchoReply (u16_at octets 4) (u16_at octets 6))
      × ((icmpv6_in octets).1 ≡ drop 8 octets)
  by true e =
      let type : slice_index octets 0 ≡ 128 = (Decides-eqb (slice_index octets 0) 128).0 e in
      let same : v6.EchoRequest (u16_at octets 4) (u16_at octets 6) ≡ v6.EchoRequest ident seq_no = rw type at is in (type, cc, rw type refl)
  by false e = absurd (other_message_v6 (slice_index octets 0 == 129) (slice_index octets 0 == 135) (slice_index octets 0 == 136)
      (slice_index octets 0 == 133) (slice_index octets 0 == 134) (slice_index octets 0 == 130) (slice_index octets 0 == 143)
      _ _ _ _ _ _ ident seq_no _ _ _
      (no_error_request (slice_index octets 0 == 1) (slice_index octets 0 == 2) (slice_index octets 0 == 3) _ _ _ _ _ ident seq_no) (rw e at is))

pub silent : {H K new : Host} {frame : List ℕ} {reply : Option Reply} {notes : List Note} → IsDropped K reply notes new → Origin H frame reply
silent d = Silent d.silent

-- the segments of either family
module _ (H : Host) (frame segment : List ℕ) (v : IpVersion) (next : IpProtocol) (r : IpRepr) (sender receiver : ℕ)
    (brings : BringsSegment H frame segment v next sender receiver) (from_someone : sender ≢ 0) (to_someone : receiver ≢ 0)
    (back : (t : TcpRepr) → GoesBack v sender receiver (packet.sent_back r (packet.Tcp t []))) where
  sent_back_is : (t : TcpRepr) → payload_of (packet.sent_back r (packet.Tcp t [])) ≡ packet.Tcp t []
  sent_back_is t = by r where
    by : (r : IpRepr) → payload_of (packet.sent_back r (packet.Tcp t [])) ≡ packet.Tcp t []
    by (repr.Ipv4 r) = refl
    by (repr.Ipv6 r) = refl

  segment_origin : {reply : Option Reply} (o : Option TcpRepr) → reply ≡ option_map (segment_back r) o →
      ((x : TcpRepr) → o ≡ Some x → HasSegmentCause H frame (packet.sent_back r (packet.Tcp x [])) x []) → Origin H frame reply
  segment_origin None e cause = Silent e
  segment_origin (Some t) e cause = BySegment (packet.sent_back r (packet.Tcp t [])) t e (sent_back_is t) (cause t refl)

  caused : (x : TcpRepr) → (slice_index segment 13 / 4 % 2 ≡ 0) × IsResetFor segment x →
      AllByRecursion (IsNoRawFor v next) H.sockets.places ⊎ HasAborted H → HasSegmentCause H frame (packet.sent_back r (packet.Tcp x [])) x []
  caused x flag untaken = record {
    segment = segment;
    of_version = v;
    next = next;
    sender = sender;
    receiver = receiver;
    brings = brings;
    no_reset = flag.0;
    from_someone = from_someone;
    to_someone = to_someone;
    untaken = untaken;
    goes_back = back x;
    header_is = flag.1;
    without_data = refl;
  }

  -- one that no socket accepts
  reset_origin : {reply : Option Reply} (b : Bool) → list_any (raw.accepts v next) H.sockets.places ≡ b →
      ((x : TcpRepr) → tcp_socket.answer_of (tcp_in segment).0.control
      (tcp_in segment).0 (length (tcp_in segment).1) ≡ Some x → (slice_index segment 13 / 4 % 2 ≡ 0) × IsResetFor segment x) →
      reply ≡ option_map (segment_back r) (reset_for b (tcp_in segment).0 (tcp_in segment).1) → Origin H frame reply
  reset_origin true taken flag e = Silent e
  reset_origin false taken flag e = segment_origin _ e (λ x is. caused x (flag x is) (inl (no_raw v next H.sockets.places taken)))

  -- one that an aborted socket answers
  aborted_origin : {reply : Option Reply} (qs : List Storage) (i : ℕ) (place : Storage) → AreSameButRaw H.sockets.places qs →
      slice_get qs i ≡ Some place → ((x : TcpRepr) → tcp_socket.answer_of (tcp_in segment).0.control
      (tcp_in segment).0 (length (tcp_in segment).1) ≡ Some x → (slice_index segment 13 / 4 % 2 ≡ 0) × IsResetFor segment x) →
      reply ≡ option_map (segment_back r) (socket_reply (tcp_in segment).0 (tcp_in segment).1 place) → Origin H frame reply
  aborted_origin qs i None same there flag e = Silent e
  aborted_origin qs i (Some (Raw s)) same there flag e = Silent e
  aborted_origin qs i (Some (Icmp s)) same there flag e = Silent e
  aborted_origin qs i (Some (Udp s)) same there flag e = Silent e
  aborted_origin {reply} qs i (Some (Tcp s)) same there flag e = by s.is_aborted refl e where
    by : (b : Bool) → s.is_aborted ≡ b →
        reply ≡ option_map (segment_back r) (cond b (tcp_socket.answer_of (tcp_in segment).0.control (tcp_in segment).0 (length
        (tcp_in segment).1)) None) →
        Origin H frame reply
    by true a q = segment_origin _ q (λ x is. caused x (flag x is) (inr (i, s, tcp_there H.sockets.places qs i s same there, a)))
    by false a q = Silent q

-- the flag, where the segment is well formed
flag_of : {checked : Bool} {src dst : IpAddress} {segment : List ℕ} → IsTcp checked src dst segment → (x : TcpRepr) →
    tcp_socket.answer_of (tcp_in segment).0.control (tcp_in segment).0 (length (tcp_in segment).1) ≡ Some x →
    (slice_index segment 13 / 4 % 2 ≡ 0) × IsResetFor segment x
flag_of {segment = segment} i x is = (no_reset_flag (slice_index segment 13) i.flags (answered _ _ _ x is), answer_for i x is)

unspecified_not : (a : IpAddress) → ip_address.is_unspecified a ≡ false → (ip_address.address_key a).1 ≢ 0
unspecified_not (address.Ipv4 a) e = λ z. let bad : (a.bits == 0) ≡ true = (Decides-eqb a.bits 0).1 z in cc
unspecified_not (address.Ipv6 a) e = λ z. let bad : (a.bits == 0) ≡ true = (Decides-eqb a.bits 0).1 z in cc

tcp_origin : {b : Bool} {K new : Host} {reply : Option Reply} {notes : List Note} (H : Host) (frame segment : List ℕ) (v : IpVersion)
    (next : IpProtocol) (r : IpRepr) →
    BringsSegment H frame segment v next (ip_address.address_key (src_addr r)).1 (ip_address.address_key (dst_addr r)).1 →
    ((t : TcpRepr) → GoesBack v (ip_address.address_key (src_addr r)).1 (ip_address.address_key (dst_addr r)).1
    (packet.sent_back r (packet.Tcp t []))) → list_any (raw.accepts v next) H.sockets.places ≡ b → AreSameButRaw H.sockets.places K.sockets.places →
    ProcessesTcp b r K segment reply notes new → Origin H frame reply
tcp_origin H frame segment v next r brings back taken same (tcp.BetweenUnspecified u d) = silent d
tcp_origin H frame segment v next r brings back taken same (tcp.Malformed u m d) = silent d
tcp_origin {K = K} H frame segment v next r brings back taken same (tcp.Delivered index place u s f e n x) =
    let parts = both_false (ip_address.is_unspecified (src_addr r)) (ip_address.is_unspecified (dst_addr r)) u in
    aborted_origin H frame segment v next r _ _ brings (unspecified_not (src_addr r) parts.0) (unspecified_not (dst_addr r) parts.1) back
    K.sockets.places index place same f.is_there (flag_of s) e
tcp_origin {b} H frame segment v next r brings back taken same (tcp.NotAccepted u s none e n x) =
    let parts = both_false (ip_address.is_unspecified (src_addr r)) (ip_address.is_unspecified (dst_addr r)) u in
    reset_origin H frame segment v next r _ _ brings (unspecified_not (src_addr r) parts.0) (unspecified_not (dst_addr r) parts.1) back
    b taken (flag_of s) e

-- IPv4
module _ (H : Host) (frame packet : List ℕ) (carried : CarriesV4 H.hardware_addr frame packet) (r : Ipv4Repr) (payload : List ℕ)
    (brings : BringsV4 packet r payload) where
  error_origin : {reply : Option Reply} (own : List IpCidr) (reason : Icmpv4DstUnreachable) → own ≡ H.ip_addrs →
      r.next_header ≢ protocol.Icmp → AllByRecursion (IsNoRawFor version.Ipv4 r.next_header) H.sockets.places →
      reply ≡ icmpv4.icmpv4_reply own r (DstUnreachable reason r) (quotation_of payload) → Origin H frame reply
  error_origin {reply} own reason same other untaken e =
      by (is_unicast_v4 own r.src_addr) (is_unicast_v4 own r.dst_addr) (is_broadcast_v4 own r.dst_addr) refl refl e where
        by : (s d w : Bool) → is_unicast_v4 own r.src_addr ≡ s → is_unicast_v4 own r.dst_addr ≡ d →
            reply ≡ option_map (message_back r (DstUnreachable reason r) (quotation_of payload))
            (if s then if d then Some r.dst_addr else if w then (if false then ipv4_addr own else None) else None else None) → Origin H frame reply
        by true true w x y q = ByError _ (DstUnreachable reason r) (quotation_of payload) q refl (record {
          packet = packet;
          header = r;
          payload = payload;
          carried = carried;
          brings = brings;
          no_message = other;
          sender = subst (λ o. law.IsOneHostV4 o r.src_addr.bits) same (one_host_v4 own r.src_addr x);
          receiver = subst (λ o. law.IsOneHostV4 o r.dst_addr.bits) same (one_host_v4 own r.dst_addr y);
          untaken = untaken;
          to_sender = refl;
          from_receiver = refl;
          reason = reason;
          quotes = refl;
          quotes_payload = refl;
        })
        by true false true x y q = Silent q
        by true false false x y q = Silent q
        by false d w x y q = Silent q

  refusal_origin : {reply : Option Reply} (b : Bool) (own : List IpCidr) (reason : Icmpv4DstUnreachable) → own ≡ H.ip_addrs →
      r.next_header ≢ protocol.Icmp → list_any (raw.accepts version.Ipv4 r.next_header) H.sockets.places ≡ b →
      reply ≡ unreachable b own reason r payload → Origin H frame reply
  refusal_origin true own reason same other taken e = Silent e
  refusal_origin false own reason same other taken e =
      error_origin own reason same other (no_raw version.Ipv4 r.next_header H.sockets.places taken) e

  -- the destination of the packet
  received_at : IsReceiver H frame (address.Ipv4 r.dst_addr)
  received_at = OverIpv4 packet carried (ap address.Ipv4 (by brings)) where
    by : {r : Ipv4Repr} {payload : List ℕ} → BringsV4 packet r payload → r.dst_addr ≡ (ipv4_in packet).0.dst_addr
    by (law.Whole w e p) = ap (λ (x : Ipv4Repr). x.dst_addr) e
    by (law.Reassembled f e) = ap (λ (x : Ipv4Repr). x.dst_addr) e

  -- the reply to an echo request
  echoes : r.next_header ≡ protocol.Icmp → (ident seq_no : ℕ) (octets : List ℕ) →
      (slice_index payload 0 ≡ 8) × (EchoReply ident seq_no ≡ EchoReply (u16_at payload 4) (u16_at payload 6)) × (octets ≡ drop 8 payload) →
      (q : PacketV4) → q.dst_addr ≡ r.src_addr → AnswersEchoV4 H frame q (EchoReply ident seq_no) octets
  echoes icmp ident seq_no octets is q to_sender = record {
    packet = packet;
    header = r;
    request = payload;
    carried = carried;
    brings = brings;
    of_icmp = icmp;
    type = is.0;
    to_sender = to_sender;
    echoes = is.1;
    data_is = is.2;
  }

  echo_origin : {reply : Option Reply} (own : List IpCidr) (ident seq_no : ℕ) (octets : List ℕ) → own ≡ H.ip_addrs →
      ((q : PacketV4) → q.dst_addr ≡ r.src_addr → AnswersEchoV4 H frame q (EchoReply ident seq_no) octets) →
      reply ≡ icmpv4.icmpv4_reply own r (EchoReply ident seq_no) octets → Origin H frame reply
  echo_origin {reply} own ident seq_no octets same answers e =
      by (is_unicast_v4 own r.src_addr) (is_unicast_v4 own r.dst_addr) (is_broadcast_v4 own r.dst_addr) refl e where
        by_first : (o : Option Ipv4Address) → ipv4_addr own ≡ o → reply ≡ option_map (message_back r (EchoReply ident seq_no) octets) o →
            Origin H frame reply
        by_first None f q = Silent q
        by_first (Some a) f q =
            ByEcho _ ident seq_no octets q refl (FromChosen (Given (subst (λ o. IsAssigned o (address.Ipv4 a)) same (first_assigned own a f))))
            (answers _ refl)

        by : (s d w : Bool) → is_unicast_v4 own r.dst_addr ≡ d → reply ≡ option_map (message_back r (EchoReply ident seq_no) octets)
            (if s then if d then Some r.dst_addr else if w then (if true then ipv4_addr own else None) else None else None) →
            Origin H frame reply
        by true true w y q = ByEcho _ ident seq_no octets q refl
            (FromReceiver received_at (subst (λ o. law.IsOneHostV4 o r.dst_addr.bits) same (one_host_v4 own r.dst_addr y))) (answers _ refl)
        by true false true y q = by_first (ipv4_addr own) refl q
        by true false false y q = Silent q
        by false d w y q = Silent q

  answer_origin : {reply : Option Reply} (own : List IpCidr) (m : Icmpv4Repr) → r.next_header ≡ protocol.Icmp → (icmpv4_in payload).0 ≡ m →
      own ≡ H.ip_addrs → reply ≡ answer_to own r m (icmpv4_in payload).1 → Origin H frame reply
  answer_origin own (EchoRequest ident seq_no) icmp is same e =
      echo_origin own ident seq_no (icmpv4_in payload).1 same (echoes icmp ident seq_no (icmpv4_in payload).1 (echo_octets payload ident seq_no is)) e
  answer_origin own (EchoReply ident seq_no) icmp is same e = Silent e
  answer_origin own (DstUnreachable reason header) icmp is same e = Silent e
  answer_origin own (TimeExceeded code header) icmp is same e = Silent e

  icmpv4_origin : {K new : Host} {reply : Option Reply} {notes : List Note} → r.next_header ≡ protocol.Icmp → K.ip_addrs ≡ H.ip_addrs →
      ProcessesIcmpv4 r K payload reply notes new → Origin H frame reply
  icmpv4_origin icmp same (icmpv4.Malformed m d) = silent d
  icmpv4_origin {K = K} icmp same (icmpv4.Taken i e n s) = answer_origin K.ip_addrs (icmpv4_in payload).0 icmp refl same e

  igmp_origin : {K new : Host} {reply : Option Reply} {notes : List Note} → reports.ProcessesIgmp r K payload reply notes new → Origin H frame reply
  igmp_origin (reports.Malformed m d) = silent d
  igmp_origin (reports.Taken i e n same) = Silent e

  udp_origin : {b : Bool} {K new : Host} {reply : Option Reply} {notes : List Note} → K.ip_addrs ≡ H.ip_addrs → r.next_header ≢ protocol.Icmp →
      list_any (raw.accepts version.Ipv4 r.next_header) H.sockets.places ≡ b →
      ProcessesUdp b (repr.Ipv4 r) K payload reply notes new → Origin H frame reply
  udp_origin same other taken (udp.Malformed m d) = silent d
  udp_origin same other taken (udp.Delivered places u f e n s) = Silent e
  udp_origin {b} {K} same other taken (udp.NotAccepted u none e n s) = refusal_origin b K.ip_addrs _ same other taken e

  protocol_origin : (p : IpProtocol) (b : Bool) (K : Host) (reply : Option Reply) (notes : List Note) (new : Host) → r.next_header ≡ p →
      K.ip_addrs ≡ H.ip_addrs → list_any (raw.accepts version.Ipv4 r.next_header) H.sockets.places ≡ b →
      AreSameButRaw H.sockets.places K.sockets.places → ip.ProcessesProtocol p b r K payload reply notes new → Origin H frame reply
  protocol_origin protocol.Icmp b K reply notes new is same taken raw t = icmpv4_origin is same t
  protocol_origin protocol.Udp b K reply notes new is same taken raw t = udp_origin same (λ e. absurd cc) taken t
  protocol_origin protocol.Tcp b K reply notes new is same taken raw t =
      tcp_origin H frame payload version.Ipv4 r.next_header (repr.Ipv4 r) (law.OverIpv4 packet r carried brings is) (λ t. (refl, refl)) taken raw t
  protocol_origin protocol.Igmp b K reply notes new is same taken raw t = igmp_origin t
  protocol_origin protocol.HopByHop b K reply notes new is same taken raw t =
      refusal_origin b K.ip_addrs _ same (λ e. absurd cc) taken t.replied
  protocol_origin protocol.Icmpv6 b K reply notes new is same taken raw t =
      refusal_origin b K.ip_addrs _ same (λ e. absurd cc) taken t.replied
  protocol_origin (protocol.Unknown n) b K reply notes new is same taken raw t =
      refusal_origin b K.ip_addrs _ same (λ e. absurd cc) taken t.replied

  datagram_origin : {source : HardwareAddress} {L new : Host} {reply : Option Reply} {notes : List Note} → L.ip_addrs ≡ H.ip_addrs →
      L.sockets.places ≡ H.sockets.places → ProcessesDatagram source r L payload reply notes new → Origin H frame reply
  datagram_origin addrs places (ip.NotForUs n d) = silent d
  datagram_origin {source} {L} {new} {reply} {notes} addrs places (ip.Accepted f t) =
      let i = renewal source (repr.Ipv4 r) (raw.host_after_raw_delivery (repr.Ipv4 r) payload L) in
      let K = sender_renewed source (repr.Ipv4 r) (raw.host_after_raw_delivery (repr.Ipv4 r) payload L) in
      let same = ap (λ (K : Host). K.ip_addrs) i.is ∙ addrs in
      let delivered = raw_only (is_tx L.capabilities.checksum.ipv4) (repr.Ipv4 r) payload L.sockets.places in
      let there = subst (λ qs. AreSameButRaw L.sockets.places qs) (sym (ap (λ (K : Host). K.sockets.places) i.is)) delivered in
      protocol_origin r.next_header (raw.is_taken (repr.Ipv4 r) L) K reply notes new refl same
      (ap (list_any (raw.accepts version.Ipv4 r.next_header)) (sym places)) (subst (λ ps. AreSameButRaw ps K.sockets.places) places there) t

packet_origin : {source : HardwareAddress} {H new : Host} {reply : Option Reply} {notes : List Note} (frame packet : List ℕ) →
    CarriesV4 H.hardware_addr frame packet →
    ProcessesPacket source (ipv4_in packet).0 (ipv4_in packet).1 H (ipv4_in packet).2 reply notes new → Origin H frame reply
packet_origin frame packet carried (ip.FromNoHost s d) = silent d
packet_origin frame packet carried (ip.Part s p t e) = Silent e
packet_origin {H = H} frame packet carried (ip.Completed octets mid first rest s p t w e) =
    datagram_origin H frame packet carried (ip.datagram_header (ipv4_in packet).0 octets) octets (law.Reassembled p refl)
    (ap (λ (K : Host). K.ip_addrs) t.changed) (ap (λ (K : Host). K.sockets.places) t.changed) w
packet_origin {H = H} frame packet carried (ip.Whole s w t) =
    datagram_origin H frame packet carried (ipv4_in packet).0 (ipv4_in packet).2 (law.Whole w refl refl) refl refl t

ipv4_origin : {source : HardwareAddress} {H new : Host} {reply : Option Reply} {notes : List Note} (frame packet : List ℕ) →
    CarriesV4 H.hardware_addr frame packet → ProcessesIpv4 source H packet reply notes new → Origin H frame reply
ipv4_origin frame packet carried (ip.Malformed m d) = silent d
ipv4_origin frame packet carried (ip.Read i t) = packet_origin frame packet carried t

-- ARP
arp_origin : {own : EthernetAddress} {H new : Host} {reply : Option Reply} {notes : List Note} (frame : List ℕ) →
    H.hardware_addr ≡ hardware.Ethernet own → (header_in frame).ethertype ≡ ethertype.Arp →
    ProcessesArp own H (drop 14 frame) reply notes new → Origin H frame reply
arp_origin frame mine type (arp.Malformed m d) = silent d
arp_origin frame mine type (arp.NotForUs a l d) = silent d
arp_origin {own} {H} {new} {reply} frame mine type (arp.Learnt a us learns e n) =
    let p = arp_in (drop 14 frame) in
    let target = has_ip_addr H (address.Ipv4 p.target_protocol_addr) in
    let many = ipv4_address.is_unicast p.source_protocol_addr in
    let station = ethernet_address.is_unicast p.source_hardware_addr in
    let three = and_both (target && many && station) (in_same_network H.ip_addrs (address.Ipv4 p.source_protocol_addr)) us in
    let two = and_both (target && many) station three.0 in
    let one = and_both target many two.0 in
    by p.operation refl e one.0 where
      by : (o : ArpOperation) → (arp_in (drop 14 frame)).operation ≡ o → reply ≡ arp.answer_by o own (arp_in (drop 14 frame)) →
          has_ip_addr H (address.Ipv4 (arp_in (drop 14 frame)).target_protocol_addr) ≡ true → Origin H frame reply
      by operation.Request is q own_address = ByArp own (reply_to own (arp_in (drop 14 frame))) mine q (record {
        type = type;
        is_packet = a;
        asked = is;
        reply = refl;
        itself = refl;
        own_address = own_of H (address.Ipv4 (arp_in (drop 14 frame)).target_protocol_addr) own_address;
        asked_for = refl;
        sender = refl;
        sender_address = refl;
      })
      by operation.Reply is q own_address = Silent q

-- a message from an address to another
abbrev message_between : Ipv6Address → Ipv6Address → Icmpv6Repr → List ℕ → Packet
message_between from to m octets = packet.Ipv6 (record { src_addr = from; dst_addr = to; hop_limit = 64; payload = packet.Icmpv6 m octets })

-- IPv6
module _ (H : Host) (frame packet : List ℕ) (carried : CarriesV6 H.hardware_addr frame packet) (one : IsOneHostV6 (ipv6_in packet).0.src_addr) where
  abbrev r : Ipv6Repr
  r = (ipv6_in packet).0

  -- where a message in reply comes from
  from_v6 : (own : List IpCidr) (m : Icmpv6Repr) (octets : List ℕ) → own ≡ H.ip_addrs →
      IsReplyFrom H frame (message_between (icmpv6.reply_source own r) r.src_addr m octets)
  from_v6 own m octets same = by (ipv6_address.is_unicast r.dst_addr) refl where
    by : (b : Bool) → ipv6_address.is_unicast r.dst_addr ≡ b →
        IsReplyFrom H frame (message_between (if b then r.dst_addr else source_v6 own r.src_addr) r.src_addr m octets)
    by true e = let host = one_host_v6 r.dst_addr e in FromReceiver (OverIpv6 packet carried refl) (host.not_nobody, host.no_group)
    by false e =
        FromChosen (subst (λ o. IsChosenFor o (address.Ipv6 r.src_addr) (address.Ipv6 (source_v6 own r.src_addr))) same (chosen_v6 own r.src_addr))

  error_v6_origin : {reply : Option Reply} (own : List IpCidr) (m : Icmpv6Repr) (octets : List ℕ) → own ≡ H.ip_addrs →
      icmpv6_text.type_of m ≤ 4 → HasReasonV6 H packet m octets → reply ≡ Some (icmpv6.message_back own r m octets) → Origin H frame reply
  error_v6_origin own m octets same few reason e = ByErrorV6 _ m octets e refl few (record {
    packet = packet;
    carried = carried;
    not_nobody = one.not_nobody;
    no_group = one.no_group;
    to_sender = refl;
    reason = reason;
  }) (from_v6 own m octets same)

  module _ (p : IpProtocol) (payload : List ℕ) (brings : BringsV6 packet p payload) where
    of_payload : {m : Icmpv6Repr} → p ≢ protocol.Icmpv6 → list_any (raw.accepts version.Ipv6 r.next_header) H.sockets.places ≡ false →
        HasReasonV6 H packet m (take 1192 payload)
    of_payload other taken = law.OfPayload p payload brings other (no_raw version.Ipv6 r.next_header H.sockets.places taken) refl

    port_origin : {reply : Option Reply} (b : Bool) (own : List IpCidr) → own ≡ H.ip_addrs → p ≢ protocol.Icmpv6 →
        list_any (raw.accepts version.Ipv6 r.next_header) H.sockets.places ≡ b →
        reply ≡ icmpv6.port_unreachable b own r payload → Origin H frame reply
    port_origin true own same other taken e = Silent e
    port_origin false own same other taken e =
        error_v6_origin own (v6.DstUnreachable unreachable_v6.PortUnreachable r) (icmpv6.quotation_of payload) same (omega arith)
        (of_payload other taken) e

    unrecognized_origin : {reply : Option Reply} (b : Bool) (own : List IpCidr) → own ≡ H.ip_addrs → p ≢ protocol.Icmpv6 →
        list_any (raw.accepts version.Ipv6 r.next_header) H.sockets.places ≡ b →
        reply ≡ unrecognized_next_header b own r payload → Origin H frame reply
    unrecognized_origin true own same other taken e = Silent e
    unrecognized_origin false own same other taken e =
        error_v6_origin own (v6.ParamProblem problem_v6.UnrecognizedNxtHdr 40 r) (icmpv6.quotation_of payload) same (omega arith)
        (of_payload other taken) e

    udp_v6_origin : {b : Bool} {K new : Host} {reply : Option Reply} {notes : List Note} → K.ip_addrs ≡ H.ip_addrs → p ≢ protocol.Icmpv6 →
        list_any (raw.accepts version.Ipv6 r.next_header) H.sockets.places ≡ b →
        ProcessesUdp b (repr.Ipv6 r) K payload reply notes new → Origin H frame reply
    udp_v6_origin same other taken (udp.Malformed m d) = silent d
    udp_v6_origin same other taken (udp.Delivered places u f e n s) = Silent e
    udp_v6_origin {b} {K} same other taken (udp.NotAccepted u none e n s) = port_origin b K.ip_addrs same other taken e

  -- what messages of neighbour discovery bring
  advertised_origin : (K : Host) {reply : Option Reply} (own : EthernetAddress) (target : Ipv6Address) → H.hardware_addr ≡ hardware.Ethernet own →
      r.hop_limit ≡ 255 → ((a : IpAddress) → has_ip_addr K a ≡ true → IsOwn H a) → reply ≡ answer_by own K r target → Origin H frame reply
  advertised_origin K {reply} own target mine near owned e = by (is_target K r target) refl e where
    by : (b : Bool) → is_target K r target ≡ b → reply ≡ (if b then Some (Ip (advertisement_of own r target)) else None) → Origin H frame reply
    by false x q = Silent q
    by true x q = ByAdvertisement own _ (NeighborAdvert solicited_flag target (Some own)) mine q refl (record {
      packet = packet;
      carried = carried;
      near = near;
      to_sender = refl;
      flags = solicited_flag;
      target = target;
      message_is = refl;
      own_address = owned (address.Ipv6 target) (last_true _ (has_ip_addr K (address.Ipv6 target)) x);
      from_it = refl;
      hop_limit = refl;
    }) where
      last_true : (x y : Bool) → (x && y) ≡ true → y ≡ true
      last_true true y e = e
      last_true false y e = absurd cc

  heard_origin : {own : EthernetAddress} {message : NdiscRepr} {K new : Host} {reply : Option Reply} {notes : List Note} →
      H.hardware_addr ≡ hardware.Ethernet own → r.hop_limit ≡ 255 → ((a : IpAddress) → has_ip_addr K a ≡ true → IsOwn H a) →
      ProcessesNdiscMessage own r K reply notes new message → Origin H frame reply
  heard_origin mine near owned (ndisc.Advertised flags target lladdr learns e n) = Silent e
  heard_origin mine near owned (ndisc.NoUnicast target lladdr nobody d) = silent d
  heard_origin {own} {message} {K} mine near owned (ndisc.Solicited target lladdr specified learns e n) =
      advertised_origin K own target mine near owned e

  ndisc_origin : {message : NdiscRepr} {K new : Host} {reply : Option Reply} {notes : List Note} → K.hardware_addr ≡ H.hardware_addr →
      ((a : IpAddress) → has_ip_addr K a ≡ true → IsOwn H a) → ProcessesNdisc r message K reply notes new → Origin H frame reply
  ndisc_origin same owned (ndisc.FromAfar far d) = silent d
  ndisc_origin same owned (ndisc.WithoutAddresses without d) = silent d
  ndisc_origin {message} {K} same owned (ndisc.FromNeighbor own near mine h) = heard_origin {K = K} (sym same ∙ mine)
      ((Decides-eqb r.hop_limit 255).0 near) owned h

  message_origin : (payload : List ℕ) → BringsV6 packet protocol.Icmpv6 payload → (m : Icmpv6Repr) (octets : List ℕ) →
      (icmpv6_in payload).0 ≡ m → (icmpv6_in payload).1 ≡ octets → (K : Host) (reply : Option Reply) (notes : List Note) (new : Host) →
      K.hardware_addr ≡ H.hardware_addr → K.ip_addrs ≡ H.ip_addrs → ((a : IpAddress) → has_ip_addr K a ≡ true → IsOwn H a) →
      ProcessesMessage r m octets K reply notes new → Origin H frame reply
  message_origin payload brings (v6.EchoRequest ident seq_no) octets is behind K reply notes new same addrs owned t =
      let read = echo_octets_v6 payload ident seq_no is in
      ByEchoV6 _ ident seq_no octets t.0 refl (from_v6 K.ip_addrs (v6.EchoReply ident seq_no) octets addrs) (record {
        packet = packet;
        request = payload;
        carried = carried;
        brings = brings;
        type = read.0;
        to_sender = refl;
        echoes = read.1;
        data_is = sym behind ∙ read.2;
      })
  message_origin payload brings (v6.Ndisc message) octets is behind K reply notes new same addrs owned t = ndisc_origin {K = K} same owned t
  message_origin payload brings (v6.Router message) octets is behind K reply notes new same addrs owned t = Silent t.0
  message_origin payload brings (v6.Mld (Query code group)) octets is behind K reply notes new same addrs owned t = Silent t.0
  message_origin payload brings (v6.Mld (Report count)) octets is behind K reply notes new same addrs owned t = silent t
  message_origin payload brings (v6.EchoReply ident seq_no) octets is behind K reply notes new same addrs owned t = silent t
  message_origin payload brings (v6.DstUnreachable reason header) octets is behind K reply notes new same addrs owned t = silent t
  message_origin payload brings (v6.PktTooBig mtu header) octets is behind K reply notes new same addrs owned t = silent t
  message_origin payload brings (v6.TimeExceeded code header) octets is behind K reply notes new same addrs owned t = silent t
  message_origin payload brings (v6.ParamProblem reason pointer header) octets is behind K reply notes new same addrs owned t = silent t

  icmpv6_origin : {payload : List ℕ} {K new : Host} {reply : Option Reply} {notes : List Note} → BringsV6 packet protocol.Icmpv6 payload →
      K.hardware_addr ≡ H.hardware_addr → K.ip_addrs ≡ H.ip_addrs → ((a : IpAddress) → has_ip_addr K a ≡ true → IsOwn H a) → ProcessesIcmpv6 r K payload reply notes new → Origin H frame reply
  icmpv6_origin brings same addrs owned (icmpv6.Malformed m d) = silent d
  icmpv6_origin {payload} {K} {new} {reply} {notes} brings same addrs owned (icmpv6.Taken i t) =
      message_origin payload brings (icmpv6_in payload).0 (icmpv6_in payload).1 refl refl (icmpv6.host_after_delivery r payload K) reply notes new same addrs owned t

  protocol_v6_origin : (p : IpProtocol) (payload : List ℕ) (b : Bool) (K : Host) (reply : Option Reply) (notes : List Note) (new : Host) →
      BringsV6 packet p payload → K.hardware_addr ≡ H.hardware_addr → K.ip_addrs ≡ H.ip_addrs →
      ((a : IpAddress) → has_ip_addr K a ≡ true → IsOwn H a) →
      list_any (raw.accepts version.Ipv6 r.next_header) H.sockets.places ≡ b → AreSameButRaw H.sockets.places K.sockets.places →
      ipv6.ProcessesProtocol p b r K payload reply notes new → Origin H frame reply
  protocol_v6_origin protocol.Icmpv6 payload b K reply notes new brings same addrs owned taken raw t = icmpv6_origin {K = K} brings same addrs owned t
  protocol_v6_origin protocol.Udp payload b K reply notes new brings same addrs owned taken raw t =
      udp_v6_origin protocol.Udp payload brings addrs (λ e. absurd cc) taken t
  protocol_v6_origin protocol.Tcp payload b K reply notes new brings same addrs owned taken raw t =
      tcp_origin H frame payload version.Ipv6 r.next_header (repr.Ipv6 r) (law.OverIpv6 packet carried brings) (λ t. (refl, refl)) taken raw t
  protocol_v6_origin protocol.Icmp payload b K reply notes new brings same addrs owned taken raw t =
      unrecognized_origin protocol.Icmp payload brings b K.ip_addrs addrs (λ e. absurd cc) taken t.replied
  protocol_v6_origin protocol.Igmp payload b K reply notes new brings same addrs owned taken raw t =
      unrecognized_origin protocol.Igmp payload brings b K.ip_addrs addrs (λ e. absurd cc) taken t.replied
  protocol_v6_origin protocol.HopByHop payload b K reply notes new brings same addrs owned taken raw t =
      unrecognized_origin protocol.HopByHop payload brings b K.ip_addrs addrs (λ e. absurd cc) taken t.replied
  protocol_v6_origin (protocol.Unknown n) payload b K reply notes new brings same addrs owned taken raw t =
      unrecognized_origin (protocol.Unknown n) payload brings b K.ip_addrs addrs (λ e. absurd cc) taken t.replied

  datagram_v6_origin : {source : HardwareAddress} {new : Host} {reply : Option Reply} {notes : List Note} (p : IpProtocol) (payload : List ℕ) →
      BringsV6 packet p payload → ProcessesDatagramV6 source r p H payload reply notes new → Origin H frame reply
  datagram_v6_origin p payload brings (ipv6.NotForUs n d) = silent d
  datagram_v6_origin {source} {new} {reply} {notes} p payload brings (ipv6.Accepted f t) =
      let L = raw.host_after_raw_delivery (repr.Ipv6 r) payload H in
      let i = renewal source (repr.Ipv6 r) L in
      let K = sender_renewed source (repr.Ipv6 r) L in
      let delivered = raw_only (is_tx H.capabilities.checksum.ipv4) (repr.Ipv6 r) payload H.sockets.places in
      let there = subst (λ qs. AreSameButRaw H.sockets.places qs) (sym (ap (λ (K : Host). K.sockets.places) i.is)) delivered in
      let owned : (a : IpAddress) → has_ip_addr K a ≡ true → IsOwn H a = λ a e. own_of H a (sym (ap (λ (K : Host). has_ip_addr K a) i.is) ∙ e) in
      protocol_v6_origin p payload (raw.is_taken (repr.Ipv6 r) H) K reply notes new brings (ap (λ
      (K : Host). K.hardware_addr) i.is) (ap (λ (K : Host). K.ip_addrs) i.is) owned refl there t

  complaint_origin : {reply : Option Reply} (failure : Ipv6OptionFailureType) (own : List IpCidr) → own ≡ H.ip_addrs →
      first_failure (hop_by_hop_in (ipv6_in packet).1).0.options.items ≢ Skip →
      reply ≡ unknown_option failure own r (ipv6_in packet).1 → Origin H frame reply
  complaint_origin Skip own same other e = Silent e
  complaint_origin Discard own same other e = Silent e
  complaint_origin DiscardSendAll own same other e =
      error_v6_origin own (v6.ParamProblem problem_v6.UnrecognizedOption 40 r) (icmpv6.quotation_of (ipv6_in packet).1) same (omega arith)
      (law.OfOption other refl) e
  complaint_origin {reply} DiscardSendUnicast own same other e = by (ipv6_address.is_multicast r.dst_addr) e where
    by : (b : Bool) → reply ≡ (if b then None else Some (icmpv6.problem own problem_v6.UnrecognizedOption r (ipv6_in packet).1)) →
        Origin H frame reply
    by true q = Silent q
    by false q =
        error_v6_origin own (v6.ParamProblem problem_v6.UnrecognizedOption 40 r) (icmpv6.quotation_of (ipv6_in packet).1) same (omega arith)
        (law.OfOption other refl) q

  options_origin : {source : HardwareAddress} {new : Host} {reply : Option Reply} {notes : List Note} →
      ProcessesHopByHop source r H (ipv6_in packet).1 reply notes new → Origin H frame reply
  options_origin (ipv6.MalformedOptions m d) = silent d
  options_origin (ipv6.Skipped o s t) = datagram_v6_origin _ _ (law.AfterOptions refl refl) t
  options_origin (ipv6.Discarded failure o f other e n same) = complaint_origin failure H.ip_addrs refl (λ s. other (sym f ∙ s)) e

module _ {source : HardwareAddress} {H new : Host} {reply : Option Reply} {notes : List Note} (frame packet : List ℕ)
    (carried : CarriesV6 H.hardware_addr frame packet) where
  packet_v6_origin : ipv6.ProcessesPacket source (ipv6_in packet).0 H (ipv6_in packet).1 reply notes new → Origin H frame reply
  packet_v6_origin (ipv6.FromNoHost s d) = silent d
  packet_v6_origin (ipv6.WithOptions s z t) = options_origin H frame packet carried (one_host_v6 (ipv6_in packet).0.src_addr s) t
  packet_v6_origin (ipv6.Bare s z t) =
      datagram_v6_origin H frame packet carried (one_host_v6 (ipv6_in packet).0.src_addr s) _ _ (law.AfterHeader refl refl) t

  ipv6_origin : ProcessesIpv6 source H packet reply notes new → Origin H frame reply
  ipv6_origin (ipv6.Malformed m d) = silent d
  ipv6_origin (ipv6.Read i t) = packet_v6_origin t

-- a frame
payload_origin : (own source : EthernetAddress) (H : Host) (type : EthernetProtocol) (frame : List ℕ) (reply : Option Reply) (notes : List Note)
    (new : Host) → H.hardware_addr ≡ hardware.Ethernet own → (header_in frame).ethertype ≡ type →
    ProcessesEthertype own source H type (drop 14 frame) reply notes new → Origin H frame reply
payload_origin own source H ethertype.Arp frame reply notes new mine type t = arp_origin frame mine type t
payload_origin own source H ethertype.Ipv4 frame reply notes new mine type t =
    let carried : CarriesV4 H.hardware_addr frame (drop 14 frame) = rw mine (type, refl) in ipv4_origin frame (drop 14 frame) carried t
payload_origin own source H ethertype.Ipv6 frame reply notes new mine type t =
    let carried : CarriesV6 H.hardware_addr frame (drop 14 frame) = rw mine (type, refl) in ipv6_origin frame (drop 14 frame) carried t
payload_origin own source H (ethertype.Unknown n) frame reply notes new mine type t = silent t

ethernet_origin : {own : EthernetAddress} {H new : Host} {frame : List ℕ} {reply : Option Reply} {notes : List Note} →
    H.hardware_addr ≡ hardware.Ethernet own → ProcessesEthernet own H frame reply notes new → Origin H frame reply
ethernet_origin mine (ethernet.Malformed m d) = silent d
ethernet_origin mine (ethernet.NotForUs l f d) = silent d
ethernet_origin {own} {H} {new} {frame} {reply} {notes} mine (ethernet.Accepted l f t) = payload_origin own _ H _ frame reply notes new mine refl t

pub frame_origin : (h : HardwareAddress) (H : Host) (frame : List ℕ) (reply : Option Reply) (notes : List Note) (new : Host) →
    H.hardware_addr ≡ h → ProcessesFrame h H frame reply notes new → Origin H frame reply
frame_origin (hardware.Ethernet own) H frame reply notes new mine t = ethernet_origin mine t
frame_origin hardware.Ip H frame reply notes new mine (ethernet.Ipv4 v t) =
    let carried : CarriesV4 H.hardware_addr frame frame = rw mine (v, refl) in ipv4_origin frame frame carried t
frame_origin hardware.Ip H frame reply notes new mine (ethernet.Ipv6 v t) =
    let carried : CarriesV6 H.hardware_addr frame frame = rw mine (v, refl) in ipv6_origin frame frame carried t
frame_origin hardware.Ip H frame reply notes new mine (ethernet.OtherVersion v w d) = silent d
