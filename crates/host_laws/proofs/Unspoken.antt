-- What frames have, whatever a host sends in them but packets of raw sockets: they carry none of a protocol that is left to those, or no
-- segment after hop-by-hop options.
use Rattle.std.proofs.Common.{◌≡◌, ℕ, zero, suc, ◌-◌, ◌*◌, ◌<◌, Bool, true, false, List, [], ◌∷◌, ◌++◌, length, take, sym, ◌∙◌, ap, arith}
use Rattle.std.specs.Prelude.{◌≢◌}
use Rattle.std.specs.List.{AllByRecursion}
use Rattle.net_base.specs.Checksum.{is_tx}
use Rattle.net_base.specs.declared.phy.Medium.{Medium}
use Rattle.ip_address.specs.declared.hardware.HardwareAddress.{HardwareAddress}
use Rattle.ip_address.specs.declared.protocol.IpProtocol.TheVariants as kind
use Rattle.ip_address.specs.declared.ipv6.Ipv6Address.{Ipv6Address}
use Rattle.ip_address.specs.Hardware.{IsOf}
use Rattle.ip_address.specs.Protocol.{number_of}
use Rattle.ip_wire.specs.declared.ethernet.EthernetProtocol.TheVariants as ethertype
use Rattle.ip_wire.specs.declared.ipv4_packet.Ipv4Repr.{Ipv4Repr}
use Rattle.ip_wire.specs.declared.ipv4_packet.Ipv4Fragment.{Ipv4Fragment}
use Rattle.ip_wire.specs.Ipv4Packet.{whole}
use Rattle.ip_wire.specs.Ipv4Packet as ipv4
use Rattle.ip_wire.specs.declared.ipv6_packet.Ipv6Repr.{Ipv6Repr}
use Rattle.ip_wire.specs.Ipv6Packet.{ipv6_in, end}
use Rattle.ip_wire.specs.Ipv6Packet as ipv6
use Rattle.ip_wire.specs.HopByHop.{hop_by_hop_in}
use Rattle.fragmentation.specs.Fragments.{Fragment}
use Rattle.fragmentation.specs.Cuts.{Datagram, Piece, HasForm, pieces_of, piece_of, piece_header, piece_fragment}
use Rattle.host_machine.specs.Context.Host.{Host}
use Rattle.host_machine.specs.Packet.Packet.{IpPayload, Packet, PacketV4, header_v4, header_v6, payload_of}
use Rattle.host_machine.specs.Packet.Packet as packet
use Rattle.host_machine.specs.Packet.Frame.{ip_frame, link_header, piece_frame}
use Rattle.host_machine.specs.Context.Pieces.{datagram_of}
use Rattle.host_laws.specs.RawPackets.{HasNoSegmentAfterOptions, IsLeftToSockets, IsPartIf}
use Rattle.host_laws.proofs.FramesWithoutUdp.{CarriesAtMostIcmpv6, number_v6, other_packet_v6, same_packet_v6, version_four}
use Rattle.host_laws.proofs.RawFrames.{CarriesNo, at_most_none, number_read, packet_none, piece_none, pieces_are}
use Rattle.host_laws.proofs.RawReplies.{is_segment}

abbrev pub is_raw : IpPayload → Bool
is_raw (packet.Icmpv4 message octets) = false
is_raw (packet.Icmpv6 message octets) = false
is_raw (packet.Udp header octets) = false
is_raw (packet.Tcp header octets) = false
is_raw (packet.Raw number octets) = true
is_raw (packet.Igmp message) = false
is_raw (packet.Mld count records) = false

-- a payload that no raw socket sent; where segments matter, none
pub record Other (Segments : Type 0) (payload : IpPayload) : Type 0 where
  pub no_raw : is_raw payload ≡ false
  pub no_segment : Segments → is_segment payload ≡ false

pub record Unspoken : Type 1 where
  pub Holds : Medium → List ℕ → Type 0
  pub Part : Piece → Type 0
  pub Segments : Type 0
  pub packet_holds : (m : Medium) (H : Host) (far : HardwareAddress) (p : Packet) → IsOf m H.hardware_addr → IsOf m far →
      Other Segments (payload_of p) → Holds m (ip_frame H far p)
  pub piece_holds : (m : Medium) (H : Host) (p : Piece) → IsOf m H.hardware_addr → IsOf m p.destination → Part p → Holds m (piece_frame H p)
  pub at_most_holds : (m : Medium) (frame : List ℕ) → CarriesAtMostIcmpv6 m frame → Holds m frame
  pub parts : (d : Datagram) (y : ℕ) → HasForm d → d.size ≡ y * 8 → 0 < d.size → d.size < length d.payload → AllByRecursion Part (pieces_of d)
  pub other_part : (H : Host) (h : HardwareAddress) (id : ℕ) (q : PacketV4) (f : Fragment) → Other Segments q.payload →
      Part (piece_of (datagram_of H h id q) f)

-- they carry none of a protocol
pub other_number : (n : ℕ) → IsLeftToSockets n → (payload : IpPayload) → Other (n ≡ 6) payload → number_of (packet.protocol_of payload) ≢ n
other_number n left (packet.Icmpv4 message octets) other e = left.no_icmp (sym e)
other_number n left (packet.Icmpv6 message octets) other e = left.no_icmpv6 (sym e)
other_number n left (packet.Udp header octets) other e = left.no_udp (sym e)
other_number n left (packet.Tcp header octets) other e = let bad : true ≡ false = other.no_segment (sym e) in absurd cc
other_number n left (packet.Raw number octets) other e = let bad : true ≡ false = other.no_raw in absurd cc
other_number n left (packet.Igmp message) other e = left.no_igmp (sym e)
other_number n left (packet.Mld count records) other e = left.no_options (sym e)

abbrev pub left_to_raw : (n : ℕ) → IsLeftToSockets n → Unspoken
left_to_raw n left = record {
  Holds = CarriesNo n;
  Part = IsPartIf n;
  Segments = n ≡ 6;
  packet_holds = λ m H far p own to other. packet_none n m H far p own to (other_number n left (payload_of p) other);
  piece_holds = piece_none n;
  at_most_holds = λ m frame a. at_most_none n m frame left.no_icmpv6 a;
  parts = pieces_are n;
  other_part = λ H h id q f other. record {
    part = λ e. absurd (other_number n left q.payload other e);
    header = λ e. absurd (other_number n left q.payload other e);
  };
}

-- they carry no segment after hop-by-hop options
abbrev pub HasNone : Medium → List ℕ → Type 0
HasNone m frame = (h : HardwareAddress) → IsOf m h → HasNoSegmentAfterOptions h frame

before_message : (n : ℕ) (rest : List ℕ) → (hop_by_hop_in (take n (58 ∷ rest))).0.next_header ≡ kind.Tcp → ⊥
before_message zero rest e = cc
before_message (suc n) rest e = cc

report_has_none : (r : Ipv6Repr) (rest : List ℕ) →
    (hop_by_hop_in (ipv6_in (ipv6.header_text r ++ (58 ∷ rest))).1).0.next_header ≡ kind.Tcp → ⊥
unfolding ipv6.header_text ipv6.address_text
report_has_none r rest e = before_message (end (ipv6.header_text r ++ (58 ∷ rest)) - 40) rest e

pub in_ipv4 : (m : Medium) (own far : HardwareAddress) (summed : Bool) (r : Ipv4Repr) (f : Ipv4Fragment) (rest : List ℕ) →
    IsOf m own → IsOf m far → HasNone m (link_header own far ethertype.Ipv4 ++ (ipv4.header_text summed r f ++ rest))
in_ipv4 m own far summed r f rest s t h mine packet c z e =
    other_packet_v6 m own far h (ipv4.header_text summed r f ++ rest) packet s t mine (version_four summed r f rest) c

in_ipv6 : (m : Medium) (own far : HardwareAddress) (r : Ipv6Repr) (rest : List ℕ) → IsOf m own → IsOf m far →
    (number_of r.next_header ≡ 0 → (hop_by_hop_in (ipv6_in (ipv6.header_text r ++ rest)).1).0.next_header ≡ kind.Tcp → ⊥) →
    HasNone m (link_header own far ethertype.Ipv6 ++ (ipv6.header_text r ++ rest))
in_ipv6 m own far r rest s t none h mine packet c z e =
    let is : packet ≡ ipv6.header_text r ++ rest = same_packet_v6 m own far h (ipv6.header_text r ++ rest) packet s t mine c in
    none (number_read 0 r.next_header (ipv6_in packet).0.next_header (ap (λ (p : List ℕ). (ipv6_in p).0.next_header) is ∙ number_v6 r rest) z)
    (ap (λ (p : List ℕ). (hop_by_hop_in (ipv6_in p).1).0.next_header) (sym is) ∙ e)

pub none_by_number : (m : Medium) (H : Host) (far : HardwareAddress) (p : Packet) → IsOf m H.hardware_addr → IsOf m far →
    number_of (packet.protocol_of (payload_of p)) ≢ 0 → HasNone m (ip_frame H far p)
none_by_number m H far (packet.Ipv4 p) own to other = in_ipv4 m H.hardware_addr far (is_tx H.capabilities.checksum.ipv4) (header_v4 p) whole _ own to
none_by_number m H far (packet.Ipv6 p) own to other = in_ipv6 m H.hardware_addr far (header_v6 p) _ own to (λ z e. other z)

by_numbers : (m : Medium) (H : Host) (far : HardwareAddress) (src dst : Ipv6Address) (hop_limit : ℕ) (payload : IpPayload) →
    IsOf m H.hardware_addr → IsOf m far → number_of (packet.protocol_of payload) ≢ 0 →
    HasNone m (ip_frame H far (packet.Ipv6 (record { src_addr = src; dst_addr = dst; hop_limit = hop_limit; payload = payload })))
by_numbers m H far src dst hop_limit payload own to other =
    none_by_number m H far (packet.Ipv6 (record { src_addr = src; dst_addr = dst; hop_limit = hop_limit; payload = payload })) own to other

v6_has_none : (m : Medium) (H : Host) (far : HardwareAddress) (src dst : Ipv6Address) (hop_limit : ℕ) (payload : IpPayload) →
    IsOf m H.hardware_addr → IsOf m far → Other ⊥ payload →
    HasNone m (ip_frame H far (packet.Ipv6 (record { src_addr = src; dst_addr = dst; hop_limit = hop_limit; payload = payload })))
v6_has_none m H far src dst hop_limit (packet.Icmpv4 message octets) own to other =
    by_numbers m H far src dst hop_limit (packet.Icmpv4 message octets) own to (λ e. omega (arith, e))
v6_has_none m H far src dst hop_limit (packet.Icmpv6 message octets) own to other =
    by_numbers m H far src dst hop_limit (packet.Icmpv6 message octets) own to (λ e. omega (arith, e))
v6_has_none m H far src dst hop_limit (packet.Udp header octets) own to other =
    by_numbers m H far src dst hop_limit (packet.Udp header octets) own to (λ e. omega (arith, e))
v6_has_none m H far src dst hop_limit (packet.Tcp header octets) own to other =
    by_numbers m H far src dst hop_limit (packet.Tcp header octets) own to (λ e. omega (arith, e))
v6_has_none m H far src dst hop_limit (packet.Raw number octets) own to other = let bad : true ≡ false = other.no_raw in absurd cc
v6_has_none m H far src dst hop_limit (packet.Igmp message) own to other =
    by_numbers m H far src dst hop_limit (packet.Igmp message) own to (λ e. omega (arith, e))
v6_has_none m H far src dst hop_limit (packet.Mld count records) own to other =
    in_ipv6 m H.hardware_addr far _ _ own to (λ z e. report_has_none _ _ e)

pub other_has_none : (m : Medium) (H : Host) (far : HardwareAddress) (p : Packet) → IsOf m H.hardware_addr → IsOf m far →
    Other ⊥ (payload_of p) → HasNone m (ip_frame H far p)
other_has_none m H far (packet.Ipv4 p) own to other = in_ipv4 m H.hardware_addr far (is_tx H.capabilities.checksum.ipv4) (header_v4 p) whole _ own to
other_has_none m H far (packet.Ipv6 p) own to other = v6_has_none m H far p.src_addr p.dst_addr p.hop_limit p.payload own to other

pub all_unit : (xs : List Piece) → AllByRecursion (λ p. Unit {0}) xs
all_unit [] = tt
all_unit (x ∷ xs) = (tt, all_unit xs)

abbrev pub without_segments : Unspoken
without_segments = record {
  Holds = HasNone;
  Part = λ p. Unit {0};
  Segments = ⊥;
  packet_holds = other_has_none;
  piece_holds = λ m H p own to part.
      in_ipv4 m H.hardware_addr p.destination (is_tx H.capabilities.checksum.ipv4) (piece_header p) (piece_fragment p) p.fragment.octets own to;
  at_most_holds = λ m frame a h mine packet c z e. let n = a.over_ipv6 h packet mine c in omega (arith, n, z);
  parts = λ d y form size pos more. all_unit (pieces_of d);
  other_part = λ H h id q f other. tt;
}
