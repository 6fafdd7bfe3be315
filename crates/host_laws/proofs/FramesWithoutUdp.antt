-- Frames that carry no UDP.
use Rattle.std.proofs.Common.{◌≡◌, ℕ, zero, suc, Bool, true, false, List, [], ◌∷◌, ◌++◌, take, drop, refl, sym, ◌∙◌, ap, subst, arith, get_or-drop}
use Rattle.std.specs.Prelude.{◌==◌, ◌||◌, ◌&&◌, ◌-◌, slice_index}
use Rattle.std.proofs.lemmas.Bool.Decides.{nat_tests}
use Rattle.ip_wire.specs.Octets.{u16_at}
use Rattle.net_base.specs.Checksum.{is_tx}
use Rattle.net_base.specs.declared.phy.Medium.{Medium}
use Rattle.net_base.specs.declared.phy.Medium.TheVariants as medium
use Rattle.ip_address.specs.declared.ethernet_address.EthernetAddress.{EthernetAddress}
use Rattle.ip_address.specs.declared.hardware.HardwareAddress.{HardwareAddress}
use Rattle.ip_address.specs.declared.hardware.HardwareAddress.TheVariants as hardware
use Rattle.ip_address.specs.declared.ipv6.Ipv6Address.{Ipv6Address}
use Rattle.ip_address.specs.Hardware.{IsOf}
use Rattle.ip_address.specs.Protocol.{protocol_of, number_of}
use Rattle.ip_address.specs.declared.protocol.IpProtocol.TheVariants as kind
use Rattle.ip_wire.specs.declared.arp.ArpRepr.{ArpRepr}
use Rattle.ip_wire.specs.declared.ethernet.EthernetProtocol.{EthernetProtocol}
use Rattle.ip_wire.specs.declared.ethernet.EthernetProtocol.TheVariants as protocol
use Rattle.ip_wire.specs.declared.ethernet.EthernetRepr.{EthernetRepr}
use Rattle.ip_wire.specs.declared.ipv4_packet.Ipv4Repr.{Ipv4Repr}
use Rattle.ip_wire.specs.declared.ipv4_packet.Ipv4Fragment.{Ipv4Fragment}
use Rattle.ip_wire.specs.Ethernet.{header_in, header_text, IsHeader}
use Rattle.ip_wire.specs.Arp as arp
use Rattle.ip_wire.specs.Ipv4Packet.{ipv4_in, is_fragment, whole, front, back, header_with}
use Rattle.ip_wire.specs.Ipv4Packet as ipv4
use Rattle.ip_wire.proofs.EthernetAgain as ethernet_again
use Rattle.ip_wire.proofs.Ipv4Again as ipv4_again
use Rattle.std.proofs.lemmas.List.{append-nil}
use Rattle.ip_wire.specs.declared.ipv6_packet.Ipv6Repr.{Ipv6Repr}
use Rattle.ip_wire.specs.Ipv6Packet.{ipv6_in, end}
use Rattle.ip_wire.specs.Ipv6Packet as ipv6
use Rattle.ip_wire.specs.HopByHop.{IsHopByHop, hop_by_hop_in}
use Rattle.fragmentation.specs.Cuts.{Piece, piece_header, piece_fragment}
use Rattle.host_machine.specs.Context.Host.{Host}
use Rattle.host_machine.specs.Packet.Packet.{Packet, IpPayload, Icmpv4, Icmpv6, Udp, Tcp, Raw, Igmp, Mld, payload_of}
use Rattle.host_machine.specs.Packet.Packet as packet
use Rattle.host_machine.specs.Packet.Frame.{arp_frame, ip_frame, piece_frame, piece_text, link_header}
use Rattle.host_laws.specs.Laws.Frames.{Carries}
use Rattle.host_laws.specs.Laws.Frames as frames
use Rattle.host_machine.specs.Receive.Ethernet.{version_in}
use Rattle.host_laws.specs.Laws.Requests.{is_request, is_arp_request, is_solicitation}
use Rattle.host_laws.proofs.Interface.OwnMessages.{is_own}
use Rattle.host_laws.proofs.Receive.FrameReading.{number_again, same_packet, other_packet, version_six}
use Rattle.host_machine.specs.Context.Real.{IsPart}
use Rattle.host_laws.specs.Deliveries.{CarriesIpv6}
use Rattle.host_laws.specs.Deliveries as spec
use Rattle.host_laws.specs.Senders.{CarriesNoUdp, may_be_udp}

-- a payload that may be a datagram: one by its values, and what a raw socket for UDP, or for options, sends
abbrev pub has_udp : IpPayload → Bool
has_udp (Icmpv4 message octets) = false
has_udp (Icmpv6 message octets) = false
has_udp (Udp header octets) = true
has_udp (Tcp header octets) = false
has_udp (Raw protocol octets) = may_be_udp (number_of protocol)
has_udp (Igmp message) = false
has_udp (Mld count records) = false

-- none of the host's own is
pub own_has_none : (payload : IpPayload) → is_own payload ≡ true → has_udp payload ≡ false
own_has_none (Icmpv4 message octets) e = refl
own_has_none (Icmpv6 message octets) e = refl
own_has_none (Udp header octets) e = absurd cc
own_has_none (Tcp header octets) e = refl
own_has_none (Raw protocol octets) e = absurd cc
own_has_none (Igmp message) e = refl
own_has_none (Mld count records) e = refl

no_address : (a : EthernetAddress) → hardware.Ethernet a ≡ hardware.Ip → ⊥
no_address a e = cc

two_ways : (b : Bool) → b ≡ true → b ≡ false → ⊥
two_ways b h k = cc

-- what is read as UDP has its number
pub is_17 : (n : ℕ) → protocol_of n ≡ kind.Udp → n ≡ 17
is_17 n e = sym (number_again n) ∙ ap number_of e

is_0 : (n : ℕ) → number_of (protocol_of n) ≡ 0 → n ≡ 0
is_0 n e = sym (number_again n) ∙ e

-- the header of a frame, and what stands behind it
type_is : (own far : EthernetAddress) (type : EthernetProtocol) (text : List ℕ) →
    IsHeader (record { src_addr = own; dst_addr = far; ethertype = type }) →
    (header_in (header_text (record { src_addr = own; dst_addr = far; ethertype = type }) ++ text)).ethertype ≡ type
type_is own far type text h =
    ap (λ (x : EthernetRepr × List ℕ). x.0.ethertype) (ethernet_again.read_again (record { src_addr = own; dst_addr = far; ethertype = type }) text h)

after : (own far : EthernetAddress) (type : EthernetProtocol) (text : List ℕ) →
    IsHeader (record { src_addr = own; dst_addr = far; ethertype = type }) →
    drop 14 (header_text (record { src_addr = own; dst_addr = far; ethertype = type }) ++ text) ≡ text
after own far type text h =
    ap (λ (x : EthernetRepr × List ℕ). x.1) (ethernet_again.read_again (record { src_addr = own; dst_addr = far; ethertype = type }) text h)

-- the packet of IPv6 that a host takes out of a frame is the one that stands behind the frame's header
pub same_packet_v6 : (m : Medium) (own far mine : HardwareAddress) (text packet : List ℕ) →
    IsOf m own → IsOf m far → IsOf m mine → CarriesIpv6 mine (link_header own far protocol.Ipv6 ++ text) packet → packet ≡ text
same_packet_v6 medium.Ethernet (hardware.Ethernet own) (hardware.Ethernet far)
    (hardware.Ethernet mine) text packet s t u (spec.OverEthernet a e w for type is) =
    is ∙ after own far protocol.Ipv6 text (record { destination = t; source = s; number = omega arith; protocol = refl })
same_packet_v6 medium.Ethernet (hardware.Ethernet own) (hardware.Ethernet far) (hardware.Ethernet mine) text packet s t u (spec.AsItStands e v is) =
    absurd (no_address mine e)
same_packet_v6 medium.Ethernet (hardware.Ethernet own) (hardware.Ethernet far) hardware.Ip text packet s t u c = absurd u
same_packet_v6 medium.Ethernet (hardware.Ethernet own) hardware.Ip mine text packet s t u c = absurd t
same_packet_v6 medium.Ethernet hardware.Ip far mine text packet s t u c = absurd s
same_packet_v6 medium.Ip (hardware.Ethernet own) far mine text packet s t u c = absurd s
same_packet_v6 medium.Ip hardware.Ip (hardware.Ethernet far) mine text packet s t u c = absurd t
same_packet_v6 medium.Ip hardware.Ip hardware.Ip (hardware.Ethernet mine) text packet s t u c = absurd u
same_packet_v6 medium.Ip hardware.Ip hardware.Ip hardware.Ip text packet s t u (spec.OverEthernet a e w for type is) = absurd (no_address a (sym e))
same_packet_v6 medium.Ip hardware.Ip hardware.Ip hardware.Ip text packet s t u (spec.AsItStands e v is) = is

-- and it takes none out of a frame of IPv4
not_four : protocol.Ipv4 ≡ protocol.Ipv6 → ⊥
not_four e = cc

pub other_packet_v6 : (m : Medium) (own far mine : HardwareAddress) (text packet : List ℕ) →
    IsOf m own → IsOf m far → IsOf m mine → (version_in text ≡ 6 → ⊥) → CarriesIpv6 mine (link_header own far protocol.Ipv4 ++ text) packet → ⊥
other_packet_v6 medium.Ethernet (hardware.Ethernet own) (hardware.Ethernet far) (hardware.Ethernet mine) text packet s t u other
    (spec.OverEthernet a e w for type is) =
    not_four (sym (type_is own far protocol.Ipv4 text (record { destination = t; source = s; number = omega arith; protocol = refl })) ∙ type)
other_packet_v6 medium.Ethernet (hardware.Ethernet own) (hardware.Ethernet far) (hardware.Ethernet mine) text packet s t u other
    (spec.AsItStands e v is) = absurd (no_address mine e)
other_packet_v6 medium.Ethernet (hardware.Ethernet own) (hardware.Ethernet far) hardware.Ip text packet s t u other c = absurd u
other_packet_v6 medium.Ethernet (hardware.Ethernet own) hardware.Ip mine text packet s t u other c = absurd t
other_packet_v6 medium.Ethernet hardware.Ip far mine text packet s t u other c = absurd s
other_packet_v6 medium.Ip (hardware.Ethernet own) far mine text packet s t u other c = absurd s
other_packet_v6 medium.Ip hardware.Ip (hardware.Ethernet far) mine text packet s t u other c = absurd t
other_packet_v6 medium.Ip hardware.Ip hardware.Ip (hardware.Ethernet mine) text packet s t u other c = absurd u
other_packet_v6 medium.Ip hardware.Ip hardware.Ip hardware.Ip text packet s t u other (spec.OverEthernet a e w for type is) =
    absurd (no_address a (sym e))
other_packet_v6 medium.Ip hardware.Ip hardware.Ip hardware.Ip text packet s t u other (spec.AsItStands e v is) = other v

pub version_four : (summed : Bool) (r : Ipv4Repr) (f : Ipv4Fragment) (rest : List ℕ) → version_in (ipv4.header_text summed r f ++ rest) ≡ 6 → ⊥
unfolding front back header_with
version_four summed r f rest e = absurd (omega (arith, e))

-- the protocol of a packet as it is read
pub number_v4 : (summed : Bool) (r : Ipv4Repr) (f : Ipv4Fragment) (rest : List ℕ) →
    (ipv4_in (ipv4.header_text summed r f ++ rest)).0.next_header ≡ protocol_of (number_of r.next_header)
unfolding front back header_with
number_v4 summed r f rest = refl

pub number_v6 : (r : Ipv6Repr) (rest : List ℕ) → (ipv6_in (ipv6.header_text r ++ rest)).0.next_header ≡ protocol_of (number_of r.next_header)
unfolding ipv6.header_text
number_v6 r rest = refl

-- a packet of IPv4 with another number
none_by_number : (m : Medium) (own far : HardwareAddress) (summed : Bool) (r : Ipv4Repr) (f : Ipv4Fragment) (rest : List ℕ) →
    IsOf m own → IsOf m far → (number_of r.next_header ≡ 17 → ⊥) →
    CarriesNoUdp m (link_header own far protocol.Ipv4 ++ (ipv4.header_text summed r f ++ rest))
none_by_number m own far summed r f rest s t other K x octets mine (spec.OverIpv4 packet c i may part udp is_x is_octets) =
    let e : packet ≡ ipv4.header_text summed r f ++ rest =
    same_packet m own far K.hardware_addr (ipv4.header_text summed r f ++ rest) packet s t mine c in
    other (is_17 (number_of r.next_header) (sym (number_v4 summed r f rest) ∙ ap (λ (p : List ℕ). (ipv4_in p).0.next_header) (sym e) ∙ udp))
none_by_number m own far summed r f rest s t other K x octets mine (spec.OverIpv6 packet c i u udp is_x is_octets) =
    other_packet_v6 m own far K.hardware_addr (ipv4.header_text summed r f ++ rest) packet s t mine (version_four summed r f rest) c
none_by_number m own far summed r f rest s t other K x octets mine (spec.AfterOptions packet c i u z o skip udp is_x is_octets) =
    other_packet_v6 m own far K.hardware_addr (ipv4.header_text summed r f ++ rest) packet s t mine (version_four summed r f rest) c

-- of IPv6: with another number, behind which no options are read
none_by_number_v6 : (m : Medium) (own far : HardwareAddress) (r : Ipv6Repr) (rest : List ℕ) →
    IsOf m own → IsOf m far → (number_of r.next_header ≡ 17 → ⊥) →
    (number_of r.next_header ≡ 0 → IsHopByHop (ipv6_in (ipv6.header_text r ++ rest)).1 →
    (hop_by_hop_in (ipv6_in (ipv6.header_text r ++ rest)).1).0.next_header ≡ kind.Udp → ⊥) →
    CarriesNoUdp m (link_header own far protocol.Ipv6 ++ (ipv6.header_text r ++ rest))
none_by_number_v6 m own far r rest s t other options K x octets mine (spec.OverIpv4 packet c i may part udp is_x is_octets) =
    other_packet m own far K.hardware_addr (ipv6.header_text r ++ rest) packet s t mine (version_six r rest) c
none_by_number_v6 m own far r rest s t other options K x octets mine (spec.OverIpv6 packet c i u udp is_x is_octets) =
    let e : packet ≡ ipv6.header_text r ++ rest = same_packet_v6 m own far K.hardware_addr (ipv6.header_text r ++ rest) packet s t mine c in
    other (is_17 (number_of r.next_header) (sym (number_v6 r rest) ∙ ap (λ (p : List ℕ). (ipv6_in p).0.next_header) (sym e) ∙ udp))
none_by_number_v6 m own far r rest s t other options K x octets mine (spec.AfterOptions packet c i u z o skip udp is_x is_octets) =
    let e : packet ≡ ipv6.header_text r ++ rest = same_packet_v6 m own far K.hardware_addr (ipv6.header_text r ++ rest) packet s t mine c in
    options
    (is_0 (number_of r.next_header) (ap number_of (sym (number_v6 r rest)) ∙ ap (λ (p : List ℕ). number_of (ipv6_in p).0.next_header) (sym e) ∙ z))
    (subst (λ (p : List ℕ). IsHopByHop (ipv6_in p).1) e o)
    (ap (λ (p : List ℕ). (hop_by_hop_in (ipv6_in p).1).0.next_header) (sym e) ∙ udp)

-- options before a message of ICMPv6
options_before : (n : ℕ) (rest : List ℕ) → IsHopByHop (take n (58 ∷ rest)) → (hop_by_hop_in (take n (58 ∷ rest))).0.next_header ≡ kind.Udp → ⊥
options_before zero rest o e = let w = o.whole in absurd (omega (arith, w))
options_before (suc n) rest o e = cc

reports_have_none : (r : Ipv6Repr) (rest : List ℕ) → IsHopByHop (ipv6_in (ipv6.header_text r ++ (58 ∷ rest))).1 →
    (hop_by_hop_in (ipv6_in (ipv6.header_text r ++ (58 ∷ rest))).1).0.next_header ≡ kind.Udp → ⊥
unfolding ipv6.header_text ipv6.address_text
reports_have_none r rest o e = options_before (end (ipv6.header_text r ++ (58 ∷ rest)) - 40) rest o e

-- a packet that may be none
may_not_be : (n : ℕ) → may_be_udp n ≡ false → n ≡ 17 → ⊥
may_not_be n none e = let some : may_be_udp n ≡ true = rw e refl in cc

may_not_be_0 : (n : ℕ) → may_be_udp n ≡ false → n ≡ 0 → ⊥
may_not_be_0 n none e = let some : may_be_udp n ≡ true = rw e refl in cc

pub v4_none : (payload : IpPayload) → has_udp payload ≡ false → number_of (packet.protocol_of payload) ≡ 17 → ⊥
v4_none (Icmpv4 message octets) none e = absurd (omega (arith, e))
v4_none (Icmpv6 message octets) none e = absurd (omega (arith, e))
v4_none (Udp header octets) none e = absurd cc
v4_none (Tcp header octets) none e = absurd (omega (arith, e))
v4_none (Raw number octets) none e = may_not_be (number_of number) none e
v4_none (Igmp message) none e = absurd (omega (arith, e))
v4_none (Mld count records) none e = absurd (omega (arith, e))

-- by the number alone
numbered : (m : Medium) (H : Host) (h : HardwareAddress) (r : Ipv6Repr) (rest : List ℕ) →
    IsOf m H.hardware_addr → IsOf m h → (number_of r.next_header ≡ 17 → ⊥) → (number_of r.next_header ≡ 0 → ⊥) →
    CarriesNoUdp m (link_header H.hardware_addr h protocol.Ipv6 ++ (ipv6.header_text r ++ rest))
numbered m H h r rest own far udp options = none_by_number_v6 m H.hardware_addr h r rest own far udp (λ e o u. options e)

v6_none : (m : Medium) (H : Host) (h : HardwareAddress) (src dst : Ipv6Address) (hop_limit : ℕ) (payload : IpPayload) →
    IsOf m H.hardware_addr → IsOf m h → has_udp payload ≡ false →
    CarriesNoUdp m (ip_frame H h (packet.Ipv6 (record { src_addr = src; dst_addr = dst; hop_limit = hop_limit; payload = payload })))
v6_none m H h src dst hop_limit (Icmpv4 message octets) own far none = numbered m H h _ _ own far (λ e. omega (arith, e)) (λ e. omega (arith, e))
v6_none m H h src dst hop_limit (Icmpv6 message octets) own far none = numbered m H h _ _ own far (λ e. omega (arith, e)) (λ e. omega (arith, e))
v6_none m H h src dst hop_limit (Udp header octets) own far none = absurd cc
v6_none m H h src dst hop_limit (Tcp header octets) own far none = numbered m H h _ _ own far (λ e. omega (arith, e)) (λ e. omega (arith, e))
v6_none m H h src dst hop_limit (Raw number octets) own far none =
    numbered m H h _ _ own far (may_not_be (number_of number) none) (may_not_be_0 (number_of number) none)
v6_none m H h src dst hop_limit (Igmp message) own far none = numbered m H h _ _ own far (λ e. omega (arith, e)) (λ e. omega (arith, e))
v6_none m H h src dst hop_limit (Mld count records) own far none =
    none_by_number_v6 m H.hardware_addr h _ _ own far (λ e. omega (arith, e)) (λ e o udp. reports_have_none _ _ o udp)

pub packet_none : (m : Medium) (H : Host) (h : HardwareAddress) (p : Packet) →
    IsOf m H.hardware_addr → IsOf m h → has_udp (payload_of p) ≡ false → CarriesNoUdp m (ip_frame H h p)
packet_none m H h (packet.Ipv4 p) own far none =
    none_by_number m H.hardware_addr h (is_tx H.capabilities.checksum.ipv4) (packet.header_v4 p) whole _ own far (v4_none p.payload none)
packet_none m H h (packet.Ipv6 p) own far none = v6_none m H h p.src_addr p.dst_addr p.hop_limit p.payload own far none

-- a piece is read as one
as_udp : (summed : Bool) (r : Ipv4Repr) (f : Ipv4Fragment) (rest : List ℕ) →
    number_of r.next_header ≡ 17 → ipv4.header_text summed r f ++ rest ≡ ipv4.header_text summed (record r { next_header = kind.Udp }) f ++ rest
unfolding front back header_with
as_udp summed r f rest e = rw e refl

pub piece_none : (m : Medium) (H : Host) (p : Piece) → IsOf m H.hardware_addr → IsPart m p → CarriesNoUdp m (piece_frame H p)
piece_none m H p own is K x octets mine (spec.OverIpv4 packet c i may part udp is_x is_octets) =
    let e : packet ≡ piece_text H.capabilities p =
    same_packet m H.hardware_addr p.destination K.hardware_addr (piece_text H.capabilities p) packet own is.destination mine c in
    let number : number_of p.header.next_header ≡ 17 =
    is_17 (number_of p.header.next_header) (sym (number_v4 (is_tx H.capabilities.checksum.ipv4) (piece_header p) (piece_fragment p) p.fragment.octets)
    ∙ ap (λ (p : List ℕ). (ipv4_in p).0.next_header) (sym e) ∙ udp) in
    let text = e ∙ as_udp (is_tx H.capabilities.checksum.ipv4) (piece_header p) (piece_fragment p) p.fragment.octets number
    ∙ sym (append-nil (ipv4.header_text (is_tx H.capabilities.checksum.ipv4) (record (piece_header p) { next_header = kind.Udp }) (piece_fragment p)
    ++ p.fragment.octets)) in
    let again = (ipv4_again.read_again false (is_tx H.capabilities.checksum.ipv4) (record (piece_header p) { next_header = kind.Udp })
    (piece_fragment p) p.fragment.octets [] (is.header number) refl (λ x. absurd cc)).1 in
    two_ways (is_fragment (ipv4_in packet).1)
    (ap (λ (p : List ℕ). is_fragment (ipv4_in p).1) text ∙ ap (λ (x : Ipv4Repr × Ipv4Fragment × List ℕ). is_fragment x.1) again ∙ is.part number) part
piece_none m H p own is K x octets mine (spec.OverIpv6 packet c i u udp is_x is_octets) =
    other_packet_v6 m H.hardware_addr p.destination K.hardware_addr (piece_text H.capabilities p) packet own is.destination mine
    (version_four _ (piece_header p) (piece_fragment p) p.fragment.octets) c
piece_none m H p own is K x octets mine (spec.AfterOptions packet c i u z o skip udp is_x is_octets) =
    other_packet_v6 m H.hardware_addr p.destination K.hardware_addr (piece_text H.capabilities p) packet own is.destination mine
    (version_four _ (piece_header p) (piece_fragment p) p.fragment.octets) c

-- a frame that carries no packet, or one of ICMPv6
pub record CarriesAtMostIcmpv6 (m : Medium) (frame : List ℕ) : Type 0 where
  pub over_ipv4 : (h : HardwareAddress) (packet : List ℕ) → IsOf m h → Carries h frame packet → ⊥
  pub over_ipv6 : (h : HardwareAddress) (packet : List ℕ) → IsOf m h → CarriesIpv6 h frame packet →
      number_of (ipv6_in packet).0.next_header ≡ 58

at_most_none : {m : Medium} {frame : List ℕ} → CarriesAtMostIcmpv6 m frame → CarriesNoUdp m frame
at_most_none a K x octets mine (spec.OverIpv4 packet c i may part udp is_x is_octets) = a.over_ipv4 K.hardware_addr packet mine c
at_most_none a K x octets mine (spec.OverIpv6 packet c i u udp is_x is_octets) = let n = a.over_ipv6 K.hardware_addr packet mine c in
    let m : number_of (ipv6_in packet).0.next_header ≡ 17 = ap number_of udp in omega (arith, n, m)
at_most_none a K x octets mine (spec.AfterOptions packet c i u z o skip udp is_x is_octets) =
    let n = a.over_ipv6 K.hardware_addr packet mine c in omega (arith, n, z)

-- on Ethernet a packet stands behind a header
stands : (h : HardwareAddress) → IsOf medium.Ethernet h → h ≡ hardware.Ip → ⊥
stands hardware.Ip of e = of
stands (hardware.Ethernet a) of e = no_address a e

-- a frame of another type carries none
by_type : (frame : List ℕ) (type : EthernetProtocol) → (header_in frame).ethertype ≡ type →
    (type ≡ protocol.Ipv4 → ⊥) → (type ≡ protocol.Ipv6 → ⊥) → CarriesAtMostIcmpv6 medium.Ethernet frame
by_type frame type is four six = record { over_ipv4 = v4; over_ipv6 = λ h packet of c. absurd (v6 h packet of c) } where
  v4 : (h : HardwareAddress) (packet : List ℕ) → IsOf medium.Ethernet h → Carries h frame packet → ⊥
  v4 h packet of (frames.OverEthernet a e w for type' at) = four (sym is ∙ type')
  v4 h packet of (frames.AsItStands e v at) = stands h of e

  v6 : (h : HardwareAddress) (packet : List ℕ) → IsOf medium.Ethernet h → CarriesIpv6 h frame packet → ⊥
  v6 h packet of (spec.OverEthernet a e w for type' at) = six (sym is ∙ type')
  v6 h packet of (spec.AsItStands e v at) = stands h of e

arp_not_four : protocol.Arp ≡ protocol.Ipv4 → ⊥
arp_not_four e = cc

arp_not_six : protocol.Arp ≡ protocol.Ipv6 → ⊥
arp_not_six e = cc

pub arp_at_most : (m : Medium) (r : ArpRepr) → IsOf m (hardware.Ethernet r.source_hardware_addr) →
    IsOf m (hardware.Ethernet r.target_hardware_addr) → CarriesAtMostIcmpv6 m (arp_frame r)
arp_at_most medium.Ethernet r s t = by_type (arp_frame r) protocol.Arp
    (type_is r.source_hardware_addr r.target_hardware_addr protocol.Arp (arp.text r)
    (record { destination = t; source = s; number = omega arith; protocol = refl })) arp_not_four arp_not_six
arp_at_most medium.Ip r s t = absurd s

pub arp_none : (m : Medium) (r : ArpRepr) → IsOf m (hardware.Ethernet r.source_hardware_addr) →
    IsOf m (hardware.Ethernet r.target_hardware_addr) → CarriesNoUdp m (arp_frame r)
arp_none m r s t = at_most_none (arp_at_most m r s t)

-- nor does a request for a hardware address
and_left : (a b : Bool) → (a && b) ≡ true → a ≡ true
and_left true b e = refl
and_left false b e = absurd cc

and_right : (a b : Bool) → (a && b) ≡ true → b ≡ true
and_right true b e = e
and_right false b e = absurd cc

type_of : (frame : List ℕ) (n : ℕ) → (u16_at frame 12 == n) ≡ true → u16_at frame 12 ≡ n
type_of frame n e = grind (arith, nat_tests)

arp_request : (frame : List ℕ) → is_arp_request frame ≡ true → CarriesAtMostIcmpv6 medium.Ethernet frame
arp_request frame e =
    let n : u16_at frame 12 ≡ 0x0806 = type_of frame 0x0806 (and_left (u16_at frame 12 == 0x0806) (u16_at frame 20 == 1) e) in
    let type : (header_in frame).ethertype ≡ protocol.Arp = rw n refl in
    by_type frame protocol.Arp type arp_not_four arp_not_six

solicitation : (frame : List ℕ) → is_solicitation frame ≡ true → CarriesAtMostIcmpv6 medium.Ethernet frame
solicitation frame e = record { over_ipv4 = v4; over_ipv6 = icmp } where
  both : (u16_at frame 12 == 0x86dd && slice_index frame 20 == 58) ≡ true
  both = and_left (u16_at frame 12 == 0x86dd && slice_index frame 20 == 58) (slice_index frame 54 == 135) e

  type : (header_in frame).ethertype ≡ protocol.Ipv6
  type = let n : u16_at frame 12 ≡ 0x86dd = type_of frame 0x86dd (and_left (u16_at frame 12 == 0x86dd) (slice_index frame 20 == 58) both) in rw n refl

  next : slice_index (drop 14 frame) 6 ≡ 58
  next = let n : slice_index frame 20 ≡ 58 = grind (arith, nat_tests, and_right (u16_at frame 12 == 0x86dd) (slice_index frame 20 == 58) both) in
      get_or-drop 14 frame 6 0 ∙ n

  six : protocol.Ipv6 ≡ protocol.Ipv4 → ⊥
  six e = cc

  v4 : (h : HardwareAddress) (packet : List ℕ) → IsOf medium.Ethernet h → Carries h frame packet → ⊥
  v4 h packet of (frames.OverEthernet a e w for type' at) = six (sym type ∙ type')
  v4 h packet of (frames.AsItStands e v at) = stands h of e

  icmp : (h : HardwareAddress) (packet : List ℕ) → IsOf medium.Ethernet h → CarriesIpv6 h frame packet →
      number_of (ipv6_in packet).0.next_header ≡ 58
  icmp h packet of (spec.OverEthernet a e w for type' at) = rw (at, next) refl
  icmp h packet of (spec.AsItStands e v at) = absurd (stands h of e)

pub request_at_most : (m : Medium) (frame : List ℕ) → is_request m frame ≡ true → CarriesAtMostIcmpv6 m frame
request_at_most medium.Ethernet frame e = by (is_arp_request frame) refl e where
  by : (b : Bool) → is_arp_request frame ≡ b → (b || is_solicitation frame) ≡ true → CarriesAtMostIcmpv6 medium.Ethernet frame
  by true is e = arp_request frame is
  by false is e = solicitation frame e
request_at_most medium.Ip frame e = absurd cc

pub request_none : (m : Medium) (frame : List ℕ) → is_request m frame ≡ true → CarriesNoUdp m frame
request_none m frame e = at_most_none (request_at_most m frame e)
