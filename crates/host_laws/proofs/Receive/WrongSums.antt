-- A packet, a message, a datagram or a segment with a wrong checksum is dropped.
use Rattle.std.proofs.Common.{◌≡◌, ◌≢◌, ◌⊎◌, ℕ, Bool, true, false, List, take, refl, sym, ◌∙◌, ap, subst, inl, inr}
use Rattle.std.proofs.Common.{Option}
use Rattle.std.specs.Prelude.{ℤ, ◌==◌}
use Rattle.std.proofs.lemmas.Bool.Decides.{nat_tests}
use Rattle.std.proofs.Common.{arith}
use Rattle.ip_wire.specs.Octets.{u16_at}
use Rattle.net_base.specs.Checksum.{is_rx, is_tx}
use Rattle.net_base.specs.Device.{Event}
use Rattle.net_base.specs.declared.phy.ChecksumCapabilities.{ChecksumCapabilities}
use Rattle.iface_tables.specs.Neighbor.{Neighbors}
use Rattle.ip_address.specs.declared.hardware.HardwareAddress.{HardwareAddress}
use Rattle.ip_address.specs.declared.ip.IpAddress.{IpAddress}
use Rattle.ip_address.specs.declared.ip.IpAddress.TheVariants.{Ipv4, Ipv6}
use Rattle.ip_address.specs.declared.protocol.IpProtocol.{IpProtocol}
use Rattle.ip_address.specs.Protocol.{number_of}
use Rattle.ip_wire.specs.declared.ip_packet.IpRepr.{IpRepr}
use Rattle.ip_wire.specs.declared.ip_packet.IpRepr.TheVariants as repr
use Rattle.ip_wire.specs.declared.ipv4_packet.Ipv4Repr.{Ipv4Repr}
use Rattle.ip_wire.specs.declared.ipv4_packet.Ipv4Fragment.{Ipv4Fragment}
use Rattle.ip_wire.specs.Ipv4Packet.{header_len, ipv4_in, is_fragment}
use Rattle.ip_wire.specs.IpPacket.{src_addr}
use Rattle.ip_wire.specs.declared.ipv6_packet.Ipv6Repr.{Ipv6Repr}
use Rattle.ip_wire.specs.Ipv6Packet.{ipv6_in}
use Rattle.ip_wire.specs.HopByHop.{hop_by_hop_in, first_failure}
use Rattle.ip_wire.specs.declared.hop_by_hop.Ipv6OptionFailureType.TheVariants.{Skip}
use Rattle.host_machine.specs.Context.Note.{Note}
use Rattle.host_machine.specs.Context.Host.{Host, Storage, with_neighbors, with_places, without_expired}
use Rattle.host_machine.specs.Sockets.Delivery.{to_each}
use Rattle.host_machine.specs.Sockets.Raw as raw
use Rattle.host_machine.specs.Discovery.Renewal.{sender_renewed}
use Rattle.host_machine.specs.Receive.Reply.{Reply, IsDropped}
use Rattle.host_machine.specs.Icmp.Icmpv4.{ProcessesIcmpv4}
use Rattle.host_machine.specs.Icmp.Icmpv4 as icmpv4
use Rattle.host_machine.specs.Icmp.Icmpv6.{ProcessesIcmpv6}
use Rattle.host_machine.specs.Icmp.Icmpv6 as icmpv6
use Rattle.host_machine.specs.Sockets.Udp.{ProcessesUdp}
use Rattle.host_machine.specs.Sockets.Udp as udp
use Rattle.host_machine.specs.Sockets.Tcp.{ProcessesTcp}
use Rattle.host_machine.specs.Sockets.Tcp as tcp
use Rattle.host_machine.specs.Receive.Ipv4.{ProcessesDatagram, ProcessesIpv4, ProcessesPacket}
use Rattle.host_machine.specs.Receive.Ipv4 as ip
use Rattle.host_machine.specs.Receive.Ipv6.{ProcessesDatagramV6, ProcessesHopByHop, ProcessesIpv6}
use Rattle.host_machine.specs.Receive.Ipv6 as ipv6
use Rattle.host_laws.specs.Laws.Restraint.Readings.{AreSameButRaw, IsRenewed}
use Rattle.host_laws.specs.Laws.Restraint.Checksums.{HasWrongPayloadV4, HasWrongPayloadV6, HasWrongSumV4}
use Rattle.host_laws.specs.Laws.Restraint.Checksums.{HasWrongSumV6, ReachesRawOnly, sum_of}
use Rattle.host_laws.specs.Laws.Restraint.Checksums.{WrongHeadersAreDropped, WrongPayloadsAreDropped}
use Rattle.host_laws.specs.Laws.Restraint.Checksums.{WrongPayloadsV6AreDropped}
use Rattle.host_laws.specs.Laws.Restraint.Checksums as law
use Rattle.host_laws.proofs.Receive.Malformed.{nothing_responded}
use Rattle.host_laws.proofs.Receive.ReceivedFrames.{WasHandled, TakenV4, TakenV6, handled, handled_v4, handled_v6}
use Rattle.host_laws.proofs.Receive.ReceivedFrames.{no_effect, raw_only, renewal, same_all}

-- the header
ipv4_unread : {source : HardwareAddress} {H new : Host} {octets : List ℕ} {reply : Option Reply} {notes : List Note} →
    ProcessesIpv4 source H octets reply notes new → is_rx H.capabilities.checksum.ipv4 ≡ true →
    sum_of (take (header_len octets) octets) ≢ 65535 → IsDropped H reply notes new
ipv4_unread (ip.Malformed m d) verified wrong = d
ipv4_unread (ip.Read i t) verified wrong = absurd (wrong (i.sum verified))

pub headers_dropped : WrongHeadersAreDropped
headers_dropped t frame old new told notes w packet c verified wrong = let h = handled w in no_effect h (by h (handled_v4 h c)) where
  by : (h : WasHandled t frame old told notes new) →
      (TakenV4 (without_expired old t) packet h.reply h.first h.taken ⊎ IsDropped (without_expired old t) h.reply h.first h.taken) →
      IsDropped (without_expired old t) h.reply h.first h.taken
  by h (inl x) = ipv4_unread x.takes verified wrong
  by h (inr d) = d

-- the payload
icmpv4_unread : {r : Ipv4Repr} {H new : Host} {octets : List ℕ} {reply : Option Reply} {notes : List Note} →
    ProcessesIcmpv4 r H octets reply notes new → is_rx H.capabilities.checksum.icmpv4 ≡ true → sum_of octets ≢ 65535 → IsDropped H reply notes new
icmpv4_unread (icmpv4.Malformed m d) verified wrong = d
icmpv4_unread (icmpv4.Taken i e n s) verified wrong = absurd (wrong (i.sum verified))

icmpv6_unread : {r : Ipv6Repr} {H new : Host} {octets : List ℕ} {reply : Option Reply} {notes : List Note} →
    ProcessesIcmpv6 r H octets reply notes new → (icmpv6.IsMessage H r octets → ⊥) → IsDropped H reply notes new
icmpv6_unread (icmpv6.Malformed m d) bad = d
icmpv6_unread (icmpv6.Taken i t) bad = absurd (bad i)

udp_unread : {b : Bool} {r : IpRepr} {H new : Host} {octets : List ℕ} {reply : Option Reply} {notes : List Note} →
    ProcessesUdp b r H octets reply notes new → (udp.IsDatagram H r octets → ⊥) → IsDropped H reply notes new
udp_unread (udp.Malformed m d) bad = d
udp_unread (udp.Delivered places u f e n s) bad = absurd (bad u)
udp_unread (udp.NotAccepted u none e n s) bad = absurd (bad u)

tcp_unread : {b : Bool} {r : IpRepr} {H new : Host} {octets : List ℕ} {reply : Option Reply} {notes : List Note} →
    ProcessesTcp b r H octets reply notes new → (tcp.IsSegment H r octets → ⊥) → IsDropped H reply notes new
tcp_unread (tcp.BetweenUnspecified b d) bad = d
tcp_unread (tcp.Malformed b m d) bad = d
tcp_unread (tcp.Delivered index place b s f e n same) bad = absurd (bad s)
tcp_unread (tcp.NotAccepted b s none e n same) bad = absurd (bad s)

protocol_unread : {p : IpProtocol} (b : Bool) (r : Ipv4Repr) (H : Host) (octets : List ℕ) (reply : Option Reply) (notes : List Note) (new : Host) →
    ip.ProcessesProtocol p b r H octets reply notes new → HasWrongSumV4 H.capabilities.checksum (Ipv4 r.src_addr) (Ipv4 r.dst_addr) octets p →
    IsDropped H reply notes new
protocol_unread b r H octets reply notes new t (law.OfIcmp v wrong) = icmpv4_unread t v wrong
protocol_unread b r H octets reply notes new t (law.OfUdp v summed wrong) =
    udp_unread t (λ i. let some : (u16_at octets 6 == 0) ≡ false = grind (arith, nat_tests) in wrong (i.sum v (rw some refl)))
protocol_unread b r H octets reply notes new t (law.OfTcp v wrong) = tcp_unread t (λ i. wrong (i.sum v))

protocol_v6_unread : {p : IpProtocol} (b : Bool) (r : Ipv6Repr) (H : Host) (octets : List ℕ) (reply : Option Reply) (notes : List Note) (new : Host) →
    ipv6.ProcessesProtocol p b r H octets reply notes new → HasWrongSumV6 H.capabilities.checksum (Ipv6 r.src_addr) (Ipv6 r.dst_addr) octets p →
    IsDropped H reply notes new
protocol_v6_unread b r H octets reply notes new t (law.OfIcmpv6 v wrong) = icmpv6_unread t (λ i. wrong (i.sum v))
protocol_v6_unread b r H octets reply notes new t (law.OfUdp v wrong) = udp_unread t (λ i. wrong (i.sum v refl))
protocol_v6_unread b r H octets reply notes new t (law.OfTcp v wrong) = tcp_unread t (λ i. wrong (i.sum v))

-- what such a packet leaves
pub record IsUnread (sender : IpAddress) (H : Host) (reply : Option Reply) (notes : List Note) (new : Host) : Type 0 where
  pub neighbors : Neighbors
  pub places : List Storage
  pub renewed : IsRenewed sender H.moment H.neighbors neighbors
  pub raw_only : AreSameButRaw H.sockets.places places
  pub dropped : IsDropped (with_places (with_neighbors H neighbors) places) reply notes new

untouched : {H new : Host} {reply : Option Reply} {notes : List Note} (sender : IpAddress) →
    IsDropped H reply notes new → IsUnread sender H reply notes new
untouched {H} sender d =
    record { neighbors = H.neighbors; places = H.sockets.places; renewed = inl refl; raw_only = same_all H.sockets.places; dropped = d }

-- before its payload is looked at
met : {H new : Host} {reply : Option Reply} {notes : List Note} (source : HardwareAddress) (r : IpRepr) (payload : List ℕ) →
    IsDropped (sender_renewed source r (raw.host_after_raw_delivery r payload H)) reply notes new → IsUnread (src_addr r) H reply notes new
met {H} {new} {reply} {notes} source r payload d =
    let i = renewal source r (raw.host_after_raw_delivery r payload H) in
    record {
      neighbors = i.neighbors;
      places = to_each (raw.takes r) (raw.storage_after_delivery (is_tx H.capabilities.checksum.ipv4) r payload) H.sockets.places;
      renewed = i.renewed;
      raw_only = raw_only (is_tx H.capabilities.checksum.ipv4) r payload H.sockets.places;
      dropped = subst (λ K. IsDropped K reply notes new) i.is d;
    }

pub datagram_unread : {source : HardwareAddress} {H new : Host} {payload : List ℕ} {reply : Option Reply} {notes : List Note} (r : Ipv4Repr) →
    ProcessesDatagram source r H payload reply notes new →
    HasWrongSumV4 H.capabilities.checksum (Ipv4 r.src_addr) (Ipv4 r.dst_addr) payload r.next_header → IsUnread (Ipv4 r.src_addr) H reply notes new
datagram_unread {source} {H} {new} {payload} {reply} {notes} r (ip.NotForUs n d) wrong =
    record {
      neighbors = H.neighbors;
      places = _;
      renewed = inl refl;
      raw_only = raw_only (is_tx H.capabilities.checksum.ipv4) (repr.Ipv4 r) payload H.sockets.places;
      dropped = d;
    }
datagram_unread {source} {H} {new} {payload} {reply} {notes} r (ip.Accepted f t) wrong =
    let K = sender_renewed source (repr.Ipv4 r) (raw.host_after_raw_delivery (repr.Ipv4 r) payload H) in
    let i = renewal source (repr.Ipv4 r) (raw.host_after_raw_delivery (repr.Ipv4 r) payload H) in
    let same : K.capabilities ≡ H.capabilities = ap (λ (X : Host). X.capabilities) i.is in
    let still : HasWrongSumV4 K.capabilities.checksum (Ipv4 r.src_addr) (Ipv4 r.dst_addr) payload r.next_header = rw same wrong in
    met source (repr.Ipv4 r) payload (protocol_unread {p = r.next_header} _ r K payload reply notes new t still)

packet_unread : {source : HardwareAddress} {H new : Host} {payload : List ℕ} {reply : Option Reply} {notes : List Note}
    (r : Ipv4Repr) (f : Ipv4Fragment) → ProcessesPacket source r f H payload reply notes new → is_fragment f ≡ false →
    HasWrongSumV4 H.capabilities.checksum (Ipv4 r.src_addr) (Ipv4 r.dst_addr) payload r.next_header → IsUnread (Ipv4 r.src_addr) H reply notes new
packet_unread r f (ip.FromNoHost s d) whole wrong = untouched (Ipv4 r.src_addr) d
packet_unread r f (ip.Part s p t e) whole wrong = absurd cc
packet_unread r f (ip.Completed octets mid first rest s p t w e) whole wrong = absurd cc
packet_unread r f (ip.Whole s w t) whole wrong = datagram_unread r t wrong

payload_unread : {source : HardwareAddress} {H new : Host} {octets : List ℕ} {reply : Option Reply} {notes : List Note} →
    ProcessesIpv4 source H octets reply notes new → HasWrongPayloadV4 H octets → IsUnread (Ipv4 (ipv4_in octets).0.src_addr) H reply notes new
payload_unread {octets = octets} (ip.Malformed m d) wrong = untouched (Ipv4 (ipv4_in octets).0.src_addr) d
payload_unread {octets = octets} (ip.Read i t) wrong = packet_unread (ipv4_in octets).0 (ipv4_in octets).1 t wrong.whole wrong.wrong

-- so the call reaches raw sockets alone
reached : {t : ℤ} {frame : List ℕ} {old new : Host} {told : List Event} {notes : List Note} {sender : IpAddress}
    (h : WasHandled t frame old told notes new) →
    IsUnread sender (without_expired old t) h.reply h.first h.taken → ReachesRawOnly t sender old told notes new
reached h u =
    let r = nothing_responded u.dropped.silent h.responds in
    record {
      silent = h.sends_them ∙ r.0;
      unnoted = h.noted ∙ rw (u.dropped.unnoted, r.1) refl;
      neighbors = u.neighbors;
      places = u.places;
      renewed = u.renewed;
      raw_only = u.raw_only;
      others = r.2 ∙ u.dropped.unchanged;
    }

pub payloads_dropped : WrongPayloadsAreDropped
payloads_dropped t frame old new told notes w packet c wrong = let h = handled w in reached h (by h (handled_v4 h c)) where
  by : (h : WasHandled t frame old told notes new) →
      (TakenV4 (without_expired old t) packet h.reply h.first h.taken ⊎ IsDropped (without_expired old t) h.reply h.first h.taken) →
      IsUnread (Ipv4 (ipv4_in packet).0.src_addr) (without_expired old t) h.reply h.first h.taken
  by h (inl x) = payload_unread x.takes (record { whole = wrong.whole; wrong = wrong.wrong })
  by h (inr d) = untouched (Ipv4 (ipv4_in packet).0.src_addr) d

-- IPv6
datagram_v6_unread : {source : HardwareAddress} {p : IpProtocol} {H new : Host} {payload : List ℕ} {reply : Option Reply} {notes : List Note}
    (r : Ipv6Repr) → ProcessesDatagramV6 source r p H payload reply notes new →
    HasWrongSumV6 H.capabilities.checksum (Ipv6 r.src_addr) (Ipv6 r.dst_addr) payload p → IsUnread (Ipv6 r.src_addr) H reply notes new
datagram_v6_unread r (ipv6.NotForUs n d) wrong = untouched (Ipv6 r.src_addr) d
datagram_v6_unread {source} {p} {H} {new} {payload} {reply} {notes} r (ipv6.Accepted f t) wrong =
    let K = sender_renewed source (repr.Ipv6 r) (raw.host_after_raw_delivery (repr.Ipv6 r) payload H) in
    let i = renewal source (repr.Ipv6 r) (raw.host_after_raw_delivery (repr.Ipv6 r) payload H) in
    let same : K.capabilities ≡ H.capabilities = ap (λ (X : Host). X.capabilities) i.is in
    let still : HasWrongSumV6 K.capabilities.checksum (Ipv6 r.src_addr) (Ipv6 r.dst_addr) payload p = rw same wrong in
    met source (repr.Ipv6 r) payload (protocol_v6_unread {p = p} _ r K payload reply notes new t still)

-- the payload of a packet after options of which none ends it, or after its header
options_unread : {source : HardwareAddress} {H new : Host} {payload : List ℕ} {reply : Option Reply} {notes : List Note} (r : Ipv6Repr) →
    ProcessesHopByHop source r H payload reply notes new → first_failure (hop_by_hop_in payload).0.options.items ≡ Skip →
    HasWrongSumV6 H.capabilities.checksum (Ipv6 r.src_addr) (Ipv6 r.dst_addr) (hop_by_hop_in payload).1 (hop_by_hop_in payload).0.next_header →
    IsUnread (Ipv6 r.src_addr) H reply notes new
options_unread r (ipv6.MalformedOptions m d) skip wrong = untouched (Ipv6 r.src_addr) d
options_unread r (ipv6.Skipped i s t) skip wrong = datagram_v6_unread r t wrong
options_unread r (ipv6.Discarded failure i s other e n same) skip wrong = absurd (other (sym s ∙ skip))

-- none of these protocols is that of options
no_options : {c : ChecksumCapabilities} {src dst : IpAddress} {octets : List ℕ} {p : IpProtocol} → HasWrongSumV6 c src dst octets p → number_of p ≢ 0
no_options (law.OfIcmpv6 v wrong) = λ e. absurd cc
no_options (law.OfUdp v wrong) = λ e. absurd cc
no_options (law.OfTcp v wrong) = λ e. absurd cc

module _ {source : HardwareAddress} {H new : Host} {octets : List ℕ} {reply : Option Reply} {notes : List Note} where
  packet_v6_unread : ipv6.ProcessesPacket source (ipv6_in octets).0 H (ipv6_in octets).1 reply notes new → HasWrongPayloadV6 H octets →
      IsUnread (Ipv6 (ipv6_in octets).0.src_addr) H reply notes new
  packet_v6_unread (ipv6.FromNoHost s d) wrong = untouched (Ipv6 (ipv6_in octets).0.src_addr) d
  packet_v6_unread (ipv6.WithOptions s z t) (law.AfterHeader wrong) = absurd (no_options wrong z)
  packet_v6_unread (ipv6.WithOptions s z t) (law.AfterOptions o skip wrong) = options_unread (ipv6_in octets).0 t skip wrong
  packet_v6_unread (ipv6.Bare s z t) (law.AfterHeader wrong) = datagram_v6_unread (ipv6_in octets).0 t wrong
  packet_v6_unread (ipv6.Bare s z t) (law.AfterOptions o skip wrong) = absurd (z (ap number_of o))

  payload_v6_unread : ProcessesIpv6 source H octets reply notes new → HasWrongPayloadV6 H octets →
      IsUnread (Ipv6 (ipv6_in octets).0.src_addr) H reply notes new
  payload_v6_unread (ipv6.Malformed m d) wrong = untouched (Ipv6 (ipv6_in octets).0.src_addr) d
  payload_v6_unread (ipv6.Read i t) wrong = packet_v6_unread t wrong

still_wrong : {old : Host} {packet : List ℕ} (t : ℤ) → HasWrongPayloadV6 old packet → HasWrongPayloadV6 (without_expired old t) packet
still_wrong t (law.AfterHeader wrong) = law.AfterHeader wrong
still_wrong t (law.AfterOptions o skip wrong) = law.AfterOptions o skip wrong

pub payloads_v6_dropped : WrongPayloadsV6AreDropped
payloads_v6_dropped t frame old new told notes w packet c wrong = let h = handled w in reached h (by h (handled_v6 h c)) where
  by : (h : WasHandled t frame old told notes new) →
      (TakenV6 (without_expired old t) packet h.reply h.first h.taken ⊎ IsDropped (without_expired old t) h.reply h.first h.taken) →
      IsUnread (Ipv6 (ipv6_in packet).0.src_addr) (without_expired old t) h.reply h.first h.taken
  by h (inl x) = payload_v6_unread x.takes (still_wrong t wrong)
  by h (inr d) = untouched (Ipv6 (ipv6_in packet).0.src_addr) d
