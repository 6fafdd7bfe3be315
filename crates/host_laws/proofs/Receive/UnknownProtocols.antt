-- A packet of an unknown protocol brings the error.
use Rattle.std.proofs.Common.{◌≡◌, ◌⊎◌, inl, inr, ℕ, ◌+◌, ◌≤◌, true, false, List, [], ◌∷◌, length, refl, sym, ◌∙◌, ap, subst, Option, Some, arith}
use Rattle.std.specs.Prelude.{ℤ, Bool, take}
use Rattle.net_base.specs.Checksum.{ip_mtu_of}
use Rattle.net_base.specs.Device.{Event}
use Rattle.ip_address.specs.declared.hardware.HardwareAddress.{HardwareAddress}
use Rattle.ip_address.specs.declared.ip.IpAddress.TheVariants.{Ipv4, Ipv6}
use Rattle.ip_address.specs.declared.protocol.IpProtocol.{IpProtocol}
use Rattle.ip_address.specs.declared.protocol.IpProtocol.TheVariants as ip_protocol
use Rattle.ip_address.specs.declared.protocol.IpVersion.TheVariants as version
use Rattle.ip_address.specs.Protocol.{number_of}
use Rattle.ip_wire.specs.declared.ip_packet.IpRepr.TheVariants as repr
use Rattle.ip_wire.specs.declared.ipv4_packet.Ipv4Repr.{Ipv4Repr}
use Rattle.ip_wire.specs.declared.ipv6_packet.Ipv6Repr.{Ipv6Repr}
use Rattle.control_wire.specs.declared.icmpv4.Icmpv4Repr.TheVariants.{DstUnreachable}
use Rattle.control_wire.specs.declared.icmpv4.Icmpv4DstUnreachable.TheVariants.{ProtoUnreachable}
use Rattle.control_wire.specs.declared.icmpv6.Icmpv6Repr.TheVariants.{ParamProblem}
use Rattle.control_wire.specs.declared.icmpv6.Icmpv6ParamProblem.TheVariants.{UnrecognizedNxtHdr, UnrecognizedOption}
use Rattle.ip_address.specs.Ipv6 as ipv6
use Rattle.ip_wire.specs.HopByHop.{hop_by_hop_in, first_failure}
use Rattle.ip_wire.specs.declared.hop_by_hop.Ipv6OptionFailureType.TheVariants.{Skip, DiscardSendAll, DiscardSendUnicast}
use Rattle.iface_tables.specs.Neighbor.{answer_of}
use Rattle.host_machine.specs.Context.Note.{Note}
use Rattle.host_machine.specs.Context.Host.{Host, at, without_expired}
use Rattle.host_machine.specs.Context.Addresses.{is_for_host}
use Rattle.host_machine.specs.Icmp.Icmpv4.{unreachable}
use Rattle.host_machine.specs.Receive.Ipv4 as ip
use Rattle.host_machine.specs.Receive.Ipv6 as ip6
use Rattle.host_machine.specs.Icmp.Icmpv6 as icmpv6_rules
use Rattle.host_machine.specs.Icmp.HopByHop.{unknown_option}
use Rattle.host_machine.specs.Receive.Ipv6.{unrecognized_next_header}
use Rattle.host_machine.specs.Sockets.Raw as raw
use Rattle.host_machine.specs.Receive.Reply.{Reply, Ip}
use Rattle.host_machine.specs.Receive.Response.{Responds}
use Rattle.host_machine.specs.Packet.Frame.{ip_frame}
use Rattle.host_machine.specs.Packet.Packet.{Packet, Icmpv4, Icmpv6}
use Rattle.host_machine.specs.Packet.Packet as packet
use Rattle.host_laws.specs.Laws.Protocols.{AnswersUnknownProtocols, AnswersUnknownProtocolsV6, IsUnknownV4, IsUnknownV6}
use Rattle.host_laws.specs.Laws.Protocols.{AsksToBeTold, UnknownOptionsAreAnswered, UnknownProtocolsAreAnswered}
use Rattle.host_laws.specs.Laws.Service.{HasWay}
use Rattle.host_laws.proofs.Sockets.ClosedTcpPorts.{untaken_by}
use Rattle.host_laws.proofs.Sockets.DatagramDelivery.{take_few}
use Rattle.host_laws.proofs.Receive.FrameReplies.{clash, goes_whole, hop_as, met, one_of, packet_served, reached_still, v4_of, v6_of, way_by}
use Rattle.host_laws.proofs.Receive.FrameRepliesV6.{apart as apart6, ipv6_taken, met as met6, met_apart, met_found, payload_served}
use Rattle.host_laws.proofs.Interface.GrantedEgress.{unicast_for}

-- what refuses it
refused : (p : IpProtocol) {b : Bool} {r : Ipv4Repr} {H new : Host} {payload : List ℕ} {reply : Option Reply} {notes : List Note} →
    IsUnknownV4 (number_of p) → ip.ProcessesProtocol p b r H payload reply notes new → ip.IsRefused b r H payload reply notes new
refused ip_protocol.Icmp unknown t = absurd (unknown.no_icmp refl)
refused ip_protocol.Igmp unknown t = absurd (unknown.no_igmp refl)
refused ip_protocol.Tcp unknown t = absurd (unknown.no_tcp refl)
refused ip_protocol.Udp unknown t = absurd (unknown.no_udp refl)
refused ip_protocol.HopByHop unknown t = t
refused ip_protocol.Icmpv6 unknown t = t
refused (ip_protocol.Unknown n) unknown t = t

refused_v6 : (p : IpProtocol) {b : Bool} {r : Ipv6Repr} {H new : Host} {payload : List ℕ} {reply : Option Reply} {notes : List Note} →
    IsUnknownV6 (number_of p) → ip6.ProcessesProtocol p b r H payload reply notes new → ip6.IsRefused b r H payload reply notes new
refused_v6 ip_protocol.Icmpv6 unknown t = absurd (unknown.no_icmpv6 refl)
refused_v6 ip_protocol.Tcp unknown t = absurd (unknown.no_tcp refl)
refused_v6 ip_protocol.Udp unknown t = absurd (unknown.no_udp refl)
refused_v6 ip_protocol.HopByHop unknown t = t
refused_v6 ip_protocol.Icmp unknown t = t
refused_v6 ip_protocol.Igmp unknown t = t
refused_v6 (ip_protocol.Unknown n) unknown t = t

told_v4 : (t : ℤ) (old new : Host) (told : List Event) → AnswersUnknownProtocols t old told new
told_v4 t old new told own frame r payload h w itself d unknown untaken reach fits =
    let k = v4_of own w d.taken d.is_packet in
    let H : Host = without_expired old t in
    let source : HardwareAddress = k.source in
    let mid : Host = met source r payload H in
    let error : Packet = packet.Ipv4 (record {
      src_addr = r.dst_addr;
      dst_addr = r.src_addr;
      hop_limit = 64;
      payload = Icmpv4 (DstUnreachable ProtoUnreachable r) (take 528 payload);
    }) in
    let not_accepted : raw.is_taken (repr.Ipv4 r) H ≡ false = untaken_by version.Ipv4 r.next_header old.sockets.places untaken in
    let was = refused r.next_header unknown (packet_served k d) in
    let replies : k.reply ≡ Some (Ip error) = was.replied ∙ ap (λ b. unreachable b old.ip_addrs ProtoUnreachable r payload) not_accepted
    ∙ rw (d.sender, d.receiver) refl in
    let one = one_of old.ip_addrs r.src_addr d.sender in
    let there_it : Responds (Some (Ip error)) k.taken k.frames k.more new = subst (λ x. Responds x k.taken k.frames k.more new) replies k.responds in
    let went : Responds (Some (Ip error)) mid k.frames k.more new =
    subst (λ K. Responds (Some (Ip error)) K k.frames k.more new) was.unchanged there_it in
    let way : HasWay own mid (Ipv4 r.src_addr) h = way_by {H = at old t} own (λ near. reached_still {H = H} source r payload
    (record { hop = near.hop; next = hop_as {H = at old t} {K = H} refl refl refl near.next; known = near.known })) reach in
    let few : length (take 528 payload) ≤ 528 = take_few 528 payload in
    let short : 20 + (28 + length (take 528 payload)) ≤ ip_mtu_of old.capabilities = omega (arith, fits, few) in
    let gone = goes_whole {p = error} own h went.1 w.on_medium one.specified one.not_multicast way short in
    k.sends_them ∙ gone.frames_are

told_v6 : (t : ℤ) (old new : Host) (told : List Event) → AnswersUnknownProtocolsV6 t old told new
told_v6 t old new told own frame r p payload h w itself d unknown untaken to_one given reach fits =
    let k = v6_of own w d.packet.taken d.packet.is_packet in
    let H : Host = without_expired old t in
    let source : HardwareAddress = k.source in
    let mid : Host = met6 source r payload H in
    let raws : Host = raw.host_after_raw_delivery (repr.Ipv6 r) payload H in
    let same : apart6 mid old.neighbors ≡ apart6 raws old.neighbors = met_apart source r payload H old.neighbors in
    let error : Packet = packet.Ipv6 (record {
      src_addr = r.dst_addr;
      dst_addr = r.src_addr;
      hop_limit = 64;
      payload = Icmpv6 (ParamProblem UnrecognizedNxtHdr 40 r) (take 1192 payload);
    }) in
    let for_us : is_for_host H (Ipv6 r.dst_addr) ≡ true = rw given refl in
    let not_accepted : raw.is_taken (repr.Ipv6 r) H ≡ false = untaken_by version.Ipv6 r.next_header old.sockets.places untaken in
    let was = refused_v6 p unknown (payload_served p k d unknown.no_options for_us) in
    let replies : k.reply ≡ Some (Ip error) = was.replied ∙ ap (λ b. unrecognized_next_header b mid.ip_addrs r payload) not_accepted
    ∙ rw to_one refl in
    let there_it : Responds (Some (Ip error)) k.taken k.frames k.more new = subst (λ x. Responds x k.taken k.frames k.more new) replies k.responds in
    let went : Responds (Some (Ip error)) mid k.frames k.more new =
    subst (λ K. Responds (Some (Ip error)) K k.frames k.more new) was.unchanged there_it in
    let one = unicast_for old.ip_addrs (Ipv6 r.src_addr) d.packet.sender in
    let addrs : mid.ip_addrs ≡ old.ip_addrs = ap (λ (K : Host). K.ip_addrs) same in
    let moment : mid.moment ≡ t = ap (λ (x : Host). x.moment) same in
    let way : HasWay own mid (Ipv6 r.src_addr) h = way_by {H = at old t} own (λ near. record {
      hop = near.hop;
      next = hop_as {H = at old t} {K = mid} addrs (ap (λ (x : Host). x.routes) same) moment near.next;
      known = ap (λ m. answer_of mid.neighbors near.hop m) moment ∙ met_found source r payload H near.hop h near.known;
    }) reach in
    let few : length (take 1192 payload) ≤ 1192 = take_few 1192 payload in
    let capabilities : mid.capabilities ≡ old.capabilities = ap (λ (K : Host). K.capabilities) same in
    let short : 40 + (48 + length (take 1192 payload)) ≤ ip_mtu_of mid.capabilities =
    subst (λ c. 40 + (48 + length (take 1192 payload)) ≤ ip_mtu_of c) (sym capabilities) (omega (arith, fits, few)) in
    let gone =
    goes_whole {p = error} own h went.1 (ap (λ (x : Host). x.hardware_addr) same ∙ w.on_medium) one.specified one.not_multicast way short in
    k.sends_them ∙ gone.frames_are ∙ ap (λ (x : Host). ip_frame x h error ∷ []) same

-- an option that asks for it
complained : {source : HardwareAddress} {r : Ipv6Repr} {H new : Host} {octets : List ℕ} {reply : Option Reply} {notes : List Note} →
    ip6.ProcessesPacket source r H octets reply notes new → ipv6.is_unicast r.src_addr ≡ true → AsksToBeTold r octets →
    (reply ≡ Some (icmpv6_rules.problem H.ip_addrs UnrecognizedOption r octets)) × (new ≡ H)
complained (ip6.FromNoHost s d) one asks = absurd (clash one s)
complained (ip6.Bare s z t) one asks = absurd (z asks.first)
complained {source} {r} {H} {new} {octets} {reply} {notes} (ip6.WithOptions s z t) one asks = by t asks.asks where
  by : ip6.ProcessesHopByHop source r H octets reply notes new →
      ((first_failure (hop_by_hop_in octets).0.options.items ≡ DiscardSendAll)
      ⊎ ((first_failure (hop_by_hop_in octets).0.options.items ≡ DiscardSendUnicast) × (ipv6.is_multicast r.dst_addr ≡ false))) →
      (reply ≡ Some (icmpv6_rules.problem H.ip_addrs UnrecognizedOption r octets)) × (new ≡ H)
  by (ip6.MalformedOptions m d) told = absurd (m asks.are_options)
  by (ip6.Skipped o s t) (inl all) = let bad : Skip ≡ DiscardSendAll = sym s ∙ all in absurd cc
  by (ip6.Skipped o s t) (inr one) = let bad : Skip ≡ DiscardSendUnicast = sym s ∙ one.0 in absurd cc
  by (ip6.Discarded failure o f other e n same) (inl all) =
      (e ∙ ap (λ x. unknown_option x H.ip_addrs r octets) (sym f ∙ all), same)
  by (ip6.Discarded failure o f other e n same) (inr one) =
      (e ∙ ap (λ x. unknown_option x H.ip_addrs r octets) (sym f ∙ one.0) ∙ rw one.1 refl, same)

pub options_told : UnknownOptionsAreAnswered
options_told t old new told own frame r octets h w itself d asks to_one given reach fits =
    let k = v6_of own w d.taken d.is_packet in
    let H : Host = without_expired old t in
    let error : Packet = packet.Ipv6 (record {
      src_addr = r.dst_addr;
      dst_addr = r.src_addr;
      hop_limit = 64;
      payload = Icmpv6 (ParamProblem UnrecognizedOption 40 r) (take 1192 octets);
    }) in
    let was = complained (ipv6_taken r octets k.takes d.is_packet d.values) d.sender asks in
    let replies : k.reply ≡ Some (Ip error) = was.0 ∙ rw to_one refl in
    let there_it : Responds (Some (Ip error)) k.taken k.frames k.more new = subst (λ x. Responds x k.taken k.frames k.more new) replies k.responds in
    let went : Responds (Some (Ip error)) H k.frames k.more new = subst (λ K. Responds (Some (Ip error)) K k.frames k.more new) was.1 there_it in
    let one = unicast_for old.ip_addrs (Ipv6 r.src_addr) d.sender in
    let way : HasWay own H (Ipv6 r.src_addr) h = way_by {H = at old t} own (λ near. record {
      hop = near.hop;
      next = hop_as {H = at old t} {K = H} refl refl refl near.next;
      known = near.known;
    }) reach in
    let few : length (take 1192 octets) ≤ 1192 = take_few 1192 octets in
    let short : 40 + (48 + length (take 1192 octets)) ≤ ip_mtu_of old.capabilities = omega (arith, fits, few) in
    let gone = goes_whole {p = error} own h went.1 w.on_medium one.specified one.not_multicast way short in
    k.sends_them ∙ gone.frames_are

pub unknown_told : UnknownProtocolsAreAnswered
unknown_told t old new told = (told_v4 t old new told, told_v6 t old new told)
