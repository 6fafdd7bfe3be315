-- What is done with an IPv6 packet, over plain variables.
use Rattle.std.proofs.Common.{◌≡◌, ◌≢◌, ◌⊎◌, inl, inr, ℕ, Bool, true, List, [], Option, None, refl, ap, sym, ◌∙◌}
use Rattle.ip_address.specs.declared.hardware.HardwareAddress.{HardwareAddress}
use Rattle.ip_address.specs.declared.ip.IpAddress.TheVariants.{Ipv6}
use Rattle.ip_address.specs.declared.protocol.IpProtocol.{IpProtocol}
use Rattle.ip_address.specs.declared.protocol.IpProtocol.TheVariants as protocol
use Rattle.ip_wire.specs.declared.ip_packet.IpRepr.TheVariants as repr
use Rattle.ip_wire.specs.declared.ipv6_packet.Ipv6Repr.{Ipv6Repr}
use Rattle.ip_wire.specs.Ipv6Packet.{IsIpv6, ipv6_in}
use Rattle.ip_wire.specs.declared.hop_by_hop.Ipv6HopByHopRepr.{Ipv6HopByHopRepr}
use Rattle.ip_wire.specs.declared.hop_by_hop.Ipv6OptionFailureType.{Ipv6OptionFailureType}
use Rattle.ip_wire.specs.declared.hop_by_hop.Ipv6OptionFailureType.TheVariants.{Skip}
use Rattle.ip_wire.specs.HopByHop.{IsHopByHop, hop_by_hop_in, first_failure}
use Rattle.host_machine.specs.Context.Note.{Note}
use Rattle.host_machine.specs.Context.Host.{Host}
use Rattle.host_machine.specs.Context.Addresses.{is_for_host}
use Rattle.host_machine.specs.Receive.Reply.{Reply}
use Rattle.host_machine.specs.Sockets.Raw.{host_after_raw_delivery, is_taken}
use Rattle.host_machine.specs.Discovery.Renewal.{sender_renewed}
use Rattle.host_machine.specs.Receive.Ipv6 as ipv6
use Rattle.host_machine.specs.Icmp.HopByHop as hop_by_hop_rules
use Rattle.host_machine.specs.Receive.Ipv6.{ProcessesIpv6}
use Rattle.iface_context.proofs.Processing.{dropped}
use Rattle.ip_address.specs.Ipv6.{is_unicast}
use Rattle.ip_address.specs.Protocol.{number_of}
use Rattle.iface_receive.specs.Ipv6.{BeginsAt, AtOnce, BehindOptions, EndsAtOptions}

-- octets that are no packet
pub ipv6_malformed : (source : HardwareAddress) (H : Host) (octets : List ℕ) → (IsIpv6 octets → ⊥) → ProcessesIpv6 source H octets None [] H
ipv6_malformed source H octets none = ipv6.Malformed none (dropped H)

-- a packet is read, and taken
pub ipv6_read : (source : HardwareAddress) (H K : Host) (octets payload : List ℕ) (r : Ipv6Repr) (reply : Option Reply) (notes : List Note) →
    IsIpv6 octets × ((r, payload) ≡ ipv6_in octets) → ipv6.ProcessesPacket source r H payload reply notes K →
    ProcessesIpv6 source H octets reply notes K
ipv6_read source H K octets payload r reply notes is takes =
    let same_header : r ≡ (ipv6_in octets).0 = ap (λ (p : Ipv6Repr × List ℕ). p.0) is.1 in
    let same_payload : payload ≡ (ipv6_in octets).1 = ap (λ (p : Ipv6Repr × List ℕ). p.1) is.1 in
    ipv6.Read is.0 (rw (same_header, same_payload) at takes)

-- a packet is taken by its payload, wherever that begins
pub begun : (source : HardwareAddress) (H K : Host) (r : Ipv6Repr) (octets payload : List ℕ) (p : IpProtocol)
    (reply : Option Reply) (notes : List Note) →
    is_unicast r.src_addr ≡ true → BeginsAt r octets p payload → ipv6.ProcessesDatagramV6 source r p H payload reply notes K →
    ipv6.ProcessesPacket source r H octets reply notes K
begun source H K r octets payload p reply notes from_one (AtOnce other is same) takes = ipv6.Bare from_one other (rw (is, same) at takes)
begun source H K r octets payload p reply notes from_one (BehindOptions options read skips is same) takes =
    ipv6.WithOptions from_one options (ipv6.Skipped read skips (rw (is, same) at takes))

-- options are read, and skipped
pub options_skipped : (r : Ipv6Repr) (octets rest : List ℕ) (o : Ipv6HopByHopRepr) (failure : Ipv6OptionFailureType) →
    number_of r.next_header ≡ 0 → IsHopByHop octets × ((o, rest) ≡ hop_by_hop_in octets) → failure ≡ first_failure o.options.items →
    failure ≡ Skip → BeginsAt r octets o.next_header rest
options_skipped r octets rest o failure options is fails skips =
    let same_options : o ≡ (hop_by_hop_in octets).0 = ap (λ (p : Ipv6HopByHopRepr × List ℕ). p.0) is.1 in
    let same_rest : rest ≡ (hop_by_hop_in octets).1 = ap (λ (p : Ipv6HopByHopRepr × List ℕ). p.1) is.1 in
    BehindOptions options is.0 (rw same_options at (sym fails ∙ skips)) (ap (λ (p : Ipv6HopByHopRepr). p.next_header) same_options) same_rest

-- or one ends the packet
pub options_discarded : (H : Host) (r : Ipv6Repr) (payload rest : List ℕ)
    (o : Ipv6HopByHopRepr) (failure : Ipv6OptionFailureType) → number_of r.next_header ≡ 0 →
    IsHopByHop payload × ((o, rest) ≡ hop_by_hop_in payload) → failure ≡ first_failure o.options.items → failure ≢ Skip →
    EndsAtOptions r H payload (hop_by_hop_rules.unknown_option failure H.ip_addrs r payload) [] H
options_discarded H r payload rest o failure options is fails ends =
    let same_options : o ≡ (hop_by_hop_in payload).0 = ap (λ (p : Ipv6HopByHopRepr × List ℕ). p.0) is.1 in
    record { has_options = options; ends = λ source. ipv6.Discarded failure is.0 (rw same_options at (sym fails)) ends refl refl refl }

-- or they are none
pub options_malformed : (H : Host) (r : Ipv6Repr) (payload : List ℕ) → number_of r.next_header ≡ 0 → (IsHopByHop payload → ⊥) →
    EndsAtOptions r H payload None [] H
options_malformed H r payload options none =
    record { has_options = options; ends = λ source. ipv6.MalformedOptions none (dropped H) }

-- a payload is taken by its protocol
pub taken_by_protocol_v6 : (p q : IpProtocol) (raw : Bool) (r : Ipv6Repr) (H K : Host) (octets : List ℕ)
    (reply : Option Reply) (notes : List Note) → p ≡ q →
    ipv6.ProcessesProtocol q raw r H octets reply notes K → ipv6.ProcessesProtocol p raw r H octets reply notes K
taken_by_protocol_v6 p q raw r H K octets reply notes is takes = rw is takes

pub protocol_refused_v6 : (p : IpProtocol) (raw : Bool) (r : Ipv6Repr) (H : Host) (octets : List ℕ) →
    (p ≡ protocol.Icmp) ⊎ ((p ≡ protocol.Igmp) ⊎ ((p ≡ protocol.HopByHop) ⊎ ((number : ℕ) × (p ≡ protocol.Unknown number)))) →
    ipv6.ProcessesProtocol p raw r H octets (ipv6.unrecognized_next_header raw H.ip_addrs r octets) [] H
protocol_refused_v6 p raw r H octets (inl is) = rw is (record { replied = refl; unnoted = refl; unchanged = refl })
protocol_refused_v6 p raw r H octets (inr (inl is)) = rw is (record { replied = refl; unnoted = refl; unchanged = refl })
protocol_refused_v6 p raw r H octets (inr (inr (inl is))) = rw is (record { replied = refl; unnoted = refl; unchanged = refl })
protocol_refused_v6 p raw r H octets (inr (inr (inr unknown))) = rw unknown.1 (record { replied = refl; unnoted = refl; unchanged = refl })

-- a payload for the host is heard by raw sockets, and its sender renewed
pub payload_accepted : (source : HardwareAddress) (H heard_by renewed K : Host) (r : Ipv6Repr) (p : IpProtocol) (payload : List ℕ)
    (handled_by_raw_socket : Bool) (reply : Option Reply) (notes : List Note) →
    is_for_host H (Ipv6 r.dst_addr) ≡ true → handled_by_raw_socket ≡ is_taken (repr.Ipv6 r) H →
    heard_by ≡ host_after_raw_delivery (repr.Ipv6 r) payload H → renewed ≡ sender_renewed source (repr.Ipv6 r) heard_by →
    ipv6.ProcessesProtocol p handled_by_raw_socket r renewed payload reply notes K → ipv6.ProcessesDatagramV6 source r p H payload reply notes K
payload_accepted source H heard_by renewed K r p payload handled_by_raw_socket reply notes ours taken hears renews takes =
    let mid : renewed ≡ sender_renewed source (repr.Ipv6 r) (host_after_raw_delivery (repr.Ipv6 r) payload H) = renews
    ∙ ap (sender_renewed source (repr.Ipv6 r)) hears in
    ipv6.Accepted ours (rw (mid, taken) at takes)
