-- What a host sends is read as what it is.
use Rattle.std.proofs.Common.{◌≡◌, ℕ, ◌+◌, ◌<◌, ◌^◌, Bool, true, List, [], ◌∷◌, ◌++◌, length, refl, sym, ◌∙◌, ap, subst, Some, None, arith}
use Rattle.std.proofs.lemmas.List.Elements.{All-cons, All-nil}
use Rattle.std.proofs.lemmas.List.{append-nil}
use Rattle.net_base.specs.Checksum.{is_tx}
use Rattle.net_base.specs.declared.phy.DeviceCapabilities.{DeviceCapabilities}
use Rattle.ip_address.specs.Protocol.{number_of, protocol_of}
use Rattle.ip_address.specs.declared.ip.IpAddress.{IpAddress}
use Rattle.ip_address.specs.declared.ipv6.Ipv6Address.{Ipv6Address}
use Rattle.ip_wire.specs.declared.ip_packet.IpRepr.{IpRepr}
use Rattle.ip_wire.specs.declared.ip_packet.IpRepr.TheVariants as repr
use Rattle.ip_wire.specs.IpPacket.{header_len, src_addr, dst_addr}
use Rattle.ip_wire.specs.Ipv4Packet.{IsIpv4, ipv4_in, whole}
use Rattle.ip_wire.specs.Ipv4Packet as ipv4
use Rattle.ip_wire.specs.Udp as udp
use Rattle.ip_wire.specs.Udp.{IsUdp, udp_in}
use Rattle.ip_wire.proofs.Ipv4Again as ipv4_again
use Rattle.ip_wire.proofs.TcpAgain as tcp_again
use Rattle.ip_wire.proofs.UdpAgain as udp_again
use Rattle.ip_wire.specs.HopByHop as hop_by_hop
use Rattle.ip_wire.specs.HopByHop.{hop_by_hop_in}
use Rattle.ip_wire.specs.declared.hop_by_hop.Ipv6OptionRepr.TheVariants.{PadN, RouterAlert}
use Rattle.ip_wire.specs.Ipv6Packet.{IsIpv6, ipv6_in}
use Rattle.ip_wire.specs.Ipv6Packet as ipv6
use Rattle.ip_wire.proofs.HopByHopAgain as hop_by_hop_again
use Rattle.ip_wire.proofs.Ipv6Again as ipv6_again
use Rattle.control_wire.proofs.Icmpv4Again as icmpv4_again
use Rattle.control_wire.specs.Icmpv6.{IsIcmpv6, icmpv6_in}
use Rattle.control_wire.specs.Icmpv6 as icmpv6
use Rattle.control_wire.specs.declared.icmpv6.Icmpv6Repr.{Icmpv6Repr}
use Rattle.control_wire.specs.declared.icmpv6.Icmpv6Repr.TheVariants as v6
use Rattle.control_wire.specs.declared.ndisc.NdiscRepr.TheVariants.{NeighborSolicit, NeighborAdvert}
use Rattle.control_wire.specs.declared.router.RouterRepr.TheVariants.{RouterSolicit, RouterAdvert}
use Rattle.control_wire.proofs.Icmpv6Again as icmpv6_again
use Rattle.control_wire.specs.Igmp as igmp
use Rattle.control_wire.specs.Igmp.{IsIgmp, igmp_in, is_group, group_of}
use Rattle.control_wire.specs.declared.igmp.IgmpRepr.{IgmpRepr}
use Rattle.control_wire.specs.declared.mld.MldRepr.TheVariants.{Query, Report}
use Rattle.control_wire.proofs.IgmpAgain as igmp_again
use Rattle.host_machine.specs.Packet.Frame.{mld_options, payload_text, with_limited_window}
use Rattle.host_machine.specs.Packet.Packet.{IpPayload, PacketV4, PacketV6, IsFormed, header_v4, header_v6, payload_len}
use Rattle.host_machine.specs.Packet.Packet as packet
use Rattle.host_laws.specs.Laws.WellFormed.{ComputesAll, HasValues, IsOfHost, IsReadAs, IsReadV4, IsReadV6, PacketsAreWellFormed}
use Rattle.host_laws.proofs.Packet.FrameLengths.{icmpv4_len, icmpv6_len, igmp_len, mld_len, ndisc_body, router_body, tcp_len, udp_len, v6_quoted}

-- lengths
no_lladdr : (target : Ipv6Address) → 8 + length (ipv6.address_text target ++ []) ≡ 24
unfolding ipv6.address_text
no_lladdr target = refl

message_len : (summed : Bool) (src dst : IpAddress) (m : Icmpv6Repr) (octets : List ℕ) → icmpv6.IsMessage m octets → IsOfHost m →
    length (icmpv6.text summed src dst m octets) ≡ icmpv6.header_len m + length octets
message_len summed src dst (v6.EchoRequest ident seq_no) octets is of = icmpv6_len summed src dst (v6.EchoRequest ident seq_no) octets refl refl
message_len summed src dst (v6.EchoReply ident seq_no) octets is of = icmpv6_len summed src dst (v6.EchoReply ident seq_no) octets refl refl
message_len summed src dst (v6.DstUnreachable reason header) octets is of =
    icmpv6_len summed src dst (v6.DstUnreachable reason header) octets refl (v6_quoted header)
message_len summed src dst (v6.PktTooBig mtu header) octets is of = icmpv6_len summed src dst (v6.PktTooBig mtu header) octets refl (v6_quoted header)
message_len summed src dst (v6.TimeExceeded code header) octets is of =
    icmpv6_len summed src dst (v6.TimeExceeded code header) octets refl (v6_quoted header)
message_len summed src dst (v6.ParamProblem reason pointer header) octets is of =
    icmpv6_len summed src dst (v6.ParamProblem reason pointer header) octets refl (v6_quoted header)
message_len summed src dst (v6.Ndisc (NeighborSolicit target None)) octets is of =
    icmpv6_len summed src dst (v6.Ndisc (NeighborSolicit target None)) octets refl (no_lladdr target)
message_len summed src dst (v6.Ndisc (NeighborSolicit target (Some own))) octets is of =
    icmpv6_len summed src dst (v6.Ndisc (NeighborSolicit target (Some own))) octets refl (ndisc_body 1 target own is.0.1)
message_len summed src dst (v6.Ndisc (NeighborAdvert flags target None)) octets is of =
    icmpv6_len summed src dst (v6.Ndisc (NeighborAdvert flags target None)) octets refl (no_lladdr target)
message_len summed src dst (v6.Ndisc (NeighborAdvert flags target (Some own))) octets is of =
    icmpv6_len summed src dst (v6.Ndisc (NeighborAdvert flags target (Some own))) octets refl (ndisc_body 2 target own is.0.2)
message_len summed src dst (v6.Router (RouterSolicit None)) octets is of =
    icmpv6_len summed src dst (v6.Router (RouterSolicit None)) octets refl refl
message_len summed src dst (v6.Router (RouterSolicit (Some own))) octets is of =
    icmpv6_len summed src dst (v6.Router (RouterSolicit (Some own))) octets refl (router_body own is.0)
message_len summed src dst (v6.Router (RouterAdvert hop_limit flags lifetime lladdr prefix)) octets is of = absurd of
message_len summed src dst (v6.Mld (Query code group)) octets is of = absurd of
message_len summed src dst (v6.Mld (Report count)) octets is of = icmpv6_len summed src dst (v6.Mld (Report count)) octets refl refl

text_len : (c : DeviceCapabilities) (r : IpRepr) (x : IpPayload) → HasValues c r x → length (payload_text c r x) ≡ payload_len x
text_len c r (packet.Icmpv4 m octets) has = icmpv4_len (is_tx c.checksum.icmpv4) (is_tx c.checksum.ipv4) m octets
text_len c r (packet.Icmpv6 m octets) has = message_len (is_tx c.checksum.icmpv6) (src_addr r) (dst_addr r) m octets has.0 has.1
text_len c r (packet.Udp header octets) has = udp_len (is_tx c.checksum.udp) (src_addr r) (dst_addr r) header octets
text_len c r (packet.Tcp header octets) has =
    tcp_len (is_tx c.checksum.tcp) (src_addr r) (dst_addr r) (with_limited_window c (header_len r) header) octets
text_len c r (packet.Raw number octets) has = refl
text_len c r (packet.Igmp message) has = igmp_len message
text_len c r (packet.Mld count records) has = mld_len (is_tx c.checksum.icmpv6) (src_addr r) (dst_addr r) count records

-- payloads
udp_read : (src dst : IpAddress) (summed : Bool) (h : _) (octets : List ℕ) → summed ≡ true → udp.IsHeader h → 8 + length octets < 2 ^ 16 →
    IsUdp true src dst (udp.text summed src dst h octets) × (udp_in (udp.text summed src dst h octets) ≡ (h, octets))
udp_read src dst summed h octets on is short =
    rw on (subst (λ os. IsUdp true src dst os × (udp_in os ≡ (h, octets))) (append-nil (udp.text true src dst h octets))
    (udp_again.read_again true src dst h octets [] is short))

igmp_read : (m : IgmpRepr) → is_group (group_of m) ≡ true → IsIgmp (igmp.text m) × (igmp_in (igmp.text m) ≡ m)
igmp_read m is = subst (λ os. IsIgmp os × (igmp_in os ≡ m)) (append-nil (igmp.text m)) (igmp_again.read_again m [] is)

options_are : hop_by_hop.IsHeader mld_options
unfolding hop_by_hop.option_text
options_are = record {
  protocol = refl;
  few = omega arith;
  options = All-cons hop_by_hop.IsSomeOption (RouterAlert 0) (PadN 0 ∷ []) (omega arith)
      (All-cons hop_by_hop.IsSomeOption (PadN 0) [] tt (All-nil hop_by_hop.IsSomeOption));
  padded = refl;
}

payload_read : (c : DeviceCapabilities) → ComputesAll c → (r : IpRepr) (x : IpPayload) → HasValues c r x → IsReadAs c r (payload_text c r x) x
payload_read c all r (packet.Icmpv4 m octets) has =
    icmpv4_again.read_again true (is_tx c.checksum.icmpv4) (is_tx c.checksum.ipv4) m octets has (λ on. all.icmpv4)
payload_read c all r (packet.Icmpv6 m octets) has =
    icmpv6_again.read_again true (is_tx c.checksum.icmpv6) (src_addr r) (dst_addr r) m octets has.0 (λ on. all.icmpv6)
payload_read c all r (packet.Udp header octets) has =
    udp_read (src_addr r) (dst_addr r) (is_tx c.checksum.udp) header octets all.udp has.0 has.1
payload_read c all r (packet.Tcp header octets) has =
    rw all.tcp (tcp_again.read_again true (src_addr r) (dst_addr r) (with_limited_window c (header_len r) header) octets has.0 has.1)
payload_read c all r (packet.Raw number octets) has = refl
payload_read c all r (packet.Igmp message) has = igmp_read message has
payload_read c all r (packet.Mld count records) has =
    let text : List ℕ = icmpv6.text (is_tx c.checksum.icmpv6) (src_addr r) (dst_addr r) (v6.Mld (Report count)) records in
    let options = hop_by_hop_again.read_again mld_options text options_are in
    let message = icmpv6_again.read_again true (is_tx c.checksum.icmpv6) (src_addr r) (dst_addr r) (v6.Mld (Report count)) records has (λ on. all.icmpv6) in
    let behind : (hop_by_hop_in (hop_by_hop.text mld_options ++ text)).1 ≡ text = ap (λ x. x.1) options.1 in
    (options.0, ap (λ x. x.0) options.1, subst (IsIcmpv6 true (src_addr r) (dst_addr r)) (sym behind) message.0, ap icmpv6_in behind ∙ message.1)

-- packets
protocol_again : (c : DeviceCapabilities) (r : IpRepr) (x : IpPayload) → HasValues c r x →
    protocol_of (number_of (packet.protocol_of x)) ≡ packet.protocol_of x
protocol_again c r (packet.Icmpv4 m octets) has = refl
protocol_again c r (packet.Icmpv6 m octets) has = refl
protocol_again c r (packet.Udp header octets) has = refl
protocol_again c r (packet.Tcp header octets) has = refl
protocol_again c r (packet.Raw number octets) has = has
protocol_again c r (packet.Igmp message) has = refl
protocol_again c r (packet.Mld count records) has = refl

well_v4 : (c : DeviceCapabilities) → ComputesAll c → (p : PacketV4) → IsFormed (packet.Ipv4 p) →
    HasValues c (repr.Ipv4 (header_v4 p)) p.payload → IsReadV4 c p
well_v4 c all p formed has =
    let body : List ℕ = payload_text c (repr.Ipv4 (header_v4 p)) p.payload in
    let len : length body ≡ payload_len p.payload = text_len c (repr.Ipv4 (header_v4 p)) p.payload has in
    let form : ipv4.IsHeader (header_v4 p) whole = record {
      source = formed.source;
      destination = formed.destination;
      protocol = protocol_again c (repr.Ipv4 (header_v4 p)) p.payload has;
      payload_len = formed.len;
      identification = omega arith;
      offset = omega arith;
    } in
    let again = subst (λ os. IsIpv4 true os × (ipv4_in os ≡ (header_v4 p, whole, body)))
    (append-nil (ipv4.header_text (is_tx c.checksum.ipv4) (header_v4 p) whole ++ body))
    (ipv4_again.read_again true (is_tx c.checksum.ipv4) (header_v4 p) whole body [] form len (λ on. all.ipv4)) in
    record {
      payload = body;
      is_packet = again.0;
      values = again.1;
      len = len;
      reads = payload_read c all (repr.Ipv4 (header_v4 p)) p.payload has;
    }

well_v6 : (c : DeviceCapabilities) → ComputesAll c → (p : PacketV6) → IsFormed (packet.Ipv6 p) →
    HasValues c (repr.Ipv6 (header_v6 p)) p.payload → IsReadV6 c p
well_v6 c all p formed has =
    let body : List ℕ = payload_text c (repr.Ipv6 (header_v6 p)) p.payload in
    let len : length body ≡ payload_len p.payload = text_len c (repr.Ipv6 (header_v6 p)) p.payload has in
    let form : ipv6.IsHeader (header_v6 p) = record {
      source = formed.source;
      destination = formed.destination;
      protocol = protocol_again c (repr.Ipv6 (header_v6 p)) p.payload has;
      payload_len = formed.len;
    } in
    let again = subst (λ os. IsIpv6 os × (ipv6_in os ≡ (header_v6 p, body))) (append-nil (ipv6.header_text (header_v6 p) ++ body))
    (ipv6_again.read_again (header_v6 p) body [] form len) in
    record {
      payload = body;
      is_packet = again.0;
      values = again.1;
      len = len;
      reads = payload_read c all (repr.Ipv6 (header_v6 p)) p.payload has;
    }

pub well_formed : PacketsAreWellFormed
well_formed c all = (well_v4 c all, well_v6 c all)
