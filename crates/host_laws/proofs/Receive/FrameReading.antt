-- What a host reads in a frame that another one on the same medium wrote.
use Rattle.std.proofs.Common.{◌≡◌, ℕ, ◌/◌, ◌*◌, Bool, true, false, List, [], ◌++◌, length, length-append, drop, refl, sym, ◌∙◌, ap, subst, arith}
use Rattle.std.proofs.lemmas.List.{append-nil}
use Rattle.std.specs.Prelude.{IsTrue, ◌≤◌, not, ◌==◌, if◌then◌else◌}
use Rattle.std.specs.Int.{w16, to_be_bytes}
use Rattle.std.proofs.lemmas.Bool.Decides.{nat_tests}
use Rattle.net_base.specs.Checksum.{is_rx, is_tx}
use Rattle.net_base.specs.declared.phy.Medium.{Medium}
use Rattle.net_base.specs.declared.phy.Medium.TheVariants as medium
use Rattle.ip_address.specs.declared.ethernet_address.EthernetAddress.{EthernetAddress}
use Rattle.ip_address.specs.declared.hardware.HardwareAddress.{HardwareAddress}
use Rattle.ip_address.specs.declared.hardware.HardwareAddress.TheVariants as hardware
use Rattle.ip_address.specs.Protocol.{protocol_of, number_of}
use Rattle.ip_address.specs.declared.protocol.IpProtocol.TheVariants as kind
use Rattle.ip_wire.specs.declared.arp.ArpRepr.{ArpRepr}
use Rattle.ip_wire.specs.declared.ethernet.EthernetProtocol.TheVariants as protocol
use Rattle.ip_wire.specs.declared.ethernet.EthernetRepr.{EthernetRepr}
use Rattle.ip_wire.specs.declared.ipv4_packet.Ipv4Repr.{Ipv4Repr}
use Rattle.ip_wire.specs.declared.ipv4_packet.Ipv4Fragment.{Ipv4Fragment}
use Rattle.ip_wire.specs.Ethernet.{header_in, header_text}
use Rattle.ip_wire.specs.Arp as arp
use Rattle.ip_wire.specs.Ipv4Packet.{ipv4_in, is_fragment, whole, front, back, header_with}
use Rattle.ip_wire.specs.Ipv4Packet as ipv4
use Rattle.ip_wire.specs.Ipv6Packet as ipv6
use Rattle.ip_wire.specs.declared.ipv6_packet.Ipv6Repr.{Ipv6Repr}
use Rattle.ip_wire.proofs.EthernetAgain as ethernet_again
use Rattle.ip_wire.proofs.Ipv4Again as ipv4_again
use Rattle.fragmentation.specs.declared.key.FragKey.{FragKey}
use Rattle.fragmentation.specs.Keys.{key_of}
use Rattle.fragmentation.specs.Fragments.{Fragment}
use Rattle.fragmentation.specs.Cuts.{Piece, piece_header, piece_fragment}
use Rattle.host_machine.specs.Context.Host.{Host}
use Rattle.host_machine.specs.Packet.Packet.{Packet}
use Rattle.host_machine.specs.Packet.Packet as packet
use Rattle.host_machine.specs.Packet.Frame.{arp_frame, ip_frame, piece_frame, piece_text, link_header, packet_text}
use Rattle.host_laws.specs.Laws.Frames.{Carries, OverEthernet, AsItStands, Brings}
use Rattle.host_machine.specs.Receive.Ipv4.{key_in, fragment_in}
use Rattle.ip_address.specs.Hardware.{IsOf}
use Rattle.host_laws.specs.Laws.Wire.{BringsNone}
use Rattle.host_laws.specs.Laws.TwoHosts.{reaches}
use Rattle.host_machine.specs.Context.Addresses.{may_be_source}
use Rattle.host_machine.specs.Receive.Ethernet.{is_for, version_in}
use Rattle.host_laws.proofs.Receive.SlotEffects.{on_ethernet}

not_ipv4 : protocol.Arp ≡ protocol.Ipv4 → ⊥
not_ipv4 e = cc

two_ways : (b : Bool) → b ≡ true → b ≡ false → ⊥
two_ways b h k = cc

-- an ARP frame brings no fragment
pub arp_other : (m : Medium) (r : ArpRepr) → IsOf m (hardware.Ethernet r.source_hardware_addr) →
    IsOf m (hardware.Ethernet r.target_hardware_addr) → BringsNone m (arp_frame r)
arp_other medium.Ethernet r s t H key f is b =
    let e = ethernet_again.read_again (record { src_addr = r.source_hardware_addr; dst_addr = r.target_hardware_addr; ethertype = protocol.Arp })
    (arp.text r) (record { destination = t; source = s; number = omega arith; protocol = refl }) in
    let type : (header_in (arp_frame r)).ethertype ≡ protocol.Arp = ap (λ (x : EthernetRepr × List ℕ). x.0.ethertype) e in
    not_ipv4 (sym type ∙ (on_ethernet is b).0)
arp_other medium.Ip r s t H key f is b = absurd s

-- what stands behind the header of an IPv4 frame
behind : (own destination : EthernetAddress) (rest : List ℕ) → length own.0 ≡ 6 → length destination.0 ≡ 6 →
    drop 14 (header_text (record { src_addr = own; dst_addr = destination; ethertype = protocol.Ipv4 }) ++ rest) ≡ rest
behind own destination rest s t =
    let e = ethernet_again.read_again (record { src_addr = own; dst_addr = destination; ethertype = protocol.Ipv4 }) rest
    (record { destination = t; source = s; number = omega arith; protocol = refl }) in
    ap (λ (x : EthernetRepr × List ℕ). x.1) e

no_address : (a : EthernetAddress) → hardware.Ethernet a ≡ hardware.Ip → ⊥
no_address a e = cc

-- the packet that a host takes out of a frame is the one that stands behind the frame's header
pub same_packet : (m : Medium) (own far mine : HardwareAddress) (text packet : List ℕ) →
    IsOf m own → IsOf m far → IsOf m mine → Carries mine (link_header own far protocol.Ipv4 ++ text) packet → packet ≡ text
same_packet medium.Ethernet (hardware.Ethernet own) (hardware.Ethernet far) (hardware.Ethernet mine) text packet s t u
    (OverEthernet a e w for type is) = is ∙ behind own far text s t
same_packet medium.Ethernet (hardware.Ethernet own) (hardware.Ethernet far) (hardware.Ethernet mine) text packet s t u (AsItStands e v is) =
    absurd (no_address mine e)
same_packet medium.Ethernet (hardware.Ethernet own) (hardware.Ethernet far) hardware.Ip text packet s t u c = absurd u
same_packet medium.Ethernet (hardware.Ethernet own) hardware.Ip mine text packet s t u c = absurd t
same_packet medium.Ethernet hardware.Ip far mine text packet s t u c = absurd s
same_packet medium.Ip (hardware.Ethernet own) far mine text packet s t u c = absurd s
same_packet medium.Ip hardware.Ip (hardware.Ethernet far) mine text packet s t u c = absurd t
same_packet medium.Ip hardware.Ip hardware.Ip (hardware.Ethernet mine) text packet s t u c = absurd u
same_packet medium.Ip hardware.Ip hardware.Ip hardware.Ip text packet s t u (OverEthernet a e w for type is) = absurd (no_address a (sym e))
same_packet medium.Ip hardware.Ip hardware.Ip hardware.Ip text packet s t u (AsItStands e v is) = is

-- and it takes none out of a frame of IPv6
not_six : protocol.Ipv6 ≡ protocol.Ipv4 → ⊥
not_six e = cc

pub other_packet : (m : Medium) (own far mine : HardwareAddress) (text packet : List ℕ) →
    IsOf m own → IsOf m far → IsOf m mine → (version_in text ≡ 4 → ⊥) → Carries mine (link_header own far protocol.Ipv6 ++ text) packet → ⊥
other_packet medium.Ethernet (hardware.Ethernet own) (hardware.Ethernet far)
    (hardware.Ethernet mine) text packet s t u other (OverEthernet a e w for type is) =
    let again = ethernet_again.read_again (record { src_addr = own; dst_addr = far; ethertype = protocol.Ipv6 }) text
    (record { destination = t; source = s; number = omega arith; protocol = refl }) in
    not_six (sym (ap (λ (x : EthernetRepr × List ℕ). x.0.ethertype) again) ∙ type)
other_packet medium.Ethernet (hardware.Ethernet own) (hardware.Ethernet far) (hardware.Ethernet mine) text packet s t u other (AsItStands e v is) =
    absurd (no_address mine e)
other_packet medium.Ethernet (hardware.Ethernet own) (hardware.Ethernet far) hardware.Ip text packet s t u other c = absurd u
other_packet medium.Ethernet (hardware.Ethernet own) hardware.Ip mine text packet s t u other c = absurd t
other_packet medium.Ethernet hardware.Ip far mine text packet s t u other c = absurd s
other_packet medium.Ip (hardware.Ethernet own) far mine text packet s t u other c = absurd s
other_packet medium.Ip hardware.Ip (hardware.Ethernet far) mine text packet s t u other c = absurd t
other_packet medium.Ip hardware.Ip hardware.Ip (hardware.Ethernet mine) text packet s t u other c = absurd u
other_packet medium.Ip hardware.Ip hardware.Ip hardware.Ip text packet s t u other (OverEthernet a e w for type is) = absurd (no_address a (sym e))
other_packet medium.Ip hardware.Ip hardware.Ip hardware.Ip text packet s t u other (AsItStands e v is) = other v

pub version_six : (r : Ipv6Repr) (rest : List ℕ) → version_in (ipv6.header_text r ++ rest) ≡ 4 → ⊥
unfolding ipv6.header_text
version_six r rest e = absurd (omega (arith, e))

-- a whole packet is none
whole_is : (summed : Bool) (r : Ipv4Repr) (rest : List ℕ) → is_fragment (ipv4.fragment_in (ipv4.header_text summed r whole ++ rest)) ≡ false
unfolding front back header_with
whole_is summed r rest = refl

pub whole_other : (m : Medium) (H : Host) (h : HardwareAddress) (p : Packet) → IsOf m H.hardware_addr → IsOf m h → BringsNone m (ip_frame H h p)
whole_other m H h (packet.Ipv4 p) own far K key f mine b =
    let e : b.packet ≡ packet_text H.capabilities (packet.Ipv4 p) =
    same_packet m H.hardware_addr h K.hardware_addr (packet_text H.capabilities (packet.Ipv4 p)) b.packet own far mine b.carried in
    let part = subst (λ octets. is_fragment (ipv4_in octets).1 ≡ true) e b.part in
    two_ways _ part (whole_is (is_tx H.capabilities.checksum.ipv4) (packet.header_v4 p) _)
whole_other m H h (packet.Ipv6 p) own far K key f mine b = other_packet m H.hardware_addr h K.hardware_addr
    (packet_text H.capabilities (packet.Ipv6 p)) b.packet own far mine (version_six (packet.header_v6 p) _) b.carried

-- a protocol is written by its number, and read as one with that number
pub number_again : (n : ℕ) → number_of (protocol_of n) ≡ n
number_again n = by0 (n == 0) refl where
  same : (k : ℕ) → (n == k) ≡ true → k ≡ n
  same k e = grind (arith, nat_tests)

  by5 : (b : Bool) → (n == 58) ≡ b → number_of (if b then kind.Icmpv6 else kind.Unknown n) ≡ n
  by5 true e = same 58 e
  by5 false e = refl

  by4 : (b : Bool) → (n == 17) ≡ b → number_of (if b then kind.Udp else if n == 58 then kind.Icmpv6 else kind.Unknown n) ≡ n
  by4 true e = same 17 e
  by4 false e = by5 (n == 58) refl

  by3 : (b : Bool) →
      (n == 6) ≡ b → number_of (if b then kind.Tcp else if n == 17 then kind.Udp else if n == 58 then kind.Icmpv6 else kind.Unknown n) ≡ n
  by3 true e = same 6 e
  by3 false e = by4 (n == 17) refl

  by2 : (b : Bool) → (n == 2) ≡ b →
      number_of (if b then kind.Igmp else if n == 6 then kind.Tcp else if n == 17 then kind.Udp else if n == 58 then kind.Icmpv6 else kind.Unknown n)
      ≡ n
  by2 true e = same 2 e
  by2 false e = by3 (n == 6) refl

  by1 : (b : Bool) → (n == 1) ≡ b → number_of (if b then kind.Icmp else if n == 2 then kind.Igmp else if n == 6 then kind.Tcp else
      if n == 17 then kind.Udp else if n == 58 then kind.Icmpv6 else kind.Unknown n) ≡ n
  by1 true e = same 1 e
  by1 false e = by2 (n == 2) refl

  by0 : (b : Bool) → (n == 0) ≡ b → number_of (if b then kind.HopByHop else if n == 1 then kind.Icmp else if n == 2 then kind.Igmp else
      if n == 6 then kind.Tcp else if n == 17 then kind.Udp else if n == 58 then kind.Icmpv6 else kind.Unknown n) ≡ n
  by0 true e = same 0 e
  by0 false e = by1 (n == 1) refl

-- the header as it is read
abbrev read_header : Ipv4Repr → Ipv4Repr
read_header r = record r { next_header = protocol_of (number_of r.next_header) }

text_same : (summed : Bool) (r : Ipv4Repr) (f : Ipv4Fragment) → ipv4.header_text summed (read_header r) f ≡ ipv4.header_text summed r f
unfolding front back header_with
text_same summed r f = rw number_again refl

-- a piece that can be written: its values fit the fields of its header, its place is told in eights, and it goes to an address of the medium
pub record IsWritten (m : Medium) (p : Piece) : Type 0 where
  pub destination : IsOf m p.destination
  pub header : ipv4.IsHeader (read_header (piece_header p)) (piece_fragment p)
  pub eights : p.fragment.offset / 8 * 8 ≡ p.fragment.offset

pub protocol_again : (r : Ipv4Repr) → protocol_of (number_of (protocol_of (number_of r.next_header))) ≡ protocol_of (number_of r.next_header)
protocol_again r = ap protocol_of (number_again (number_of r.next_header))

twice : (b : Bool) → not (not b) ≡ b
twice true = refl
twice false = refl

-- a piece is read as it was written
pub piece_reads : (m : Medium) (H : Host) (p : Piece) → IsOf m H.hardware_addr → IsWritten m p → (K : Host) (key : FragKey) (f : Fragment) →
    IsOf m K.hardware_addr → Brings K (piece_frame H p) key f →
    (key ≡ key_of p.header p.identification) × (f ≡ p.fragment)
piece_reads m H p own w K key f mine b = (
  b.key_is ∙ ap (λ (x : Ipv4Repr × Ipv4Fragment × List ℕ). key_in x.0 x.1) values
      ∙ ap (λ n. key_by n) (number_again (number_of p.header.next_header)),
  b.fragment_is ∙ ap (λ (x : Ipv4Repr × Ipv4Fragment × List ℕ). fragment_in x.1 x.2) values ∙ same,
) where
  key_by : ℕ → FragKey
  key_by n = record { identification = p.identification; src_addr = p.header.src_addr; dst_addr = p.header.dst_addr; protocol = n }

  written : ipv4_in (ipv4.header_text (is_tx H.capabilities.checksum.ipv4) (read_header (piece_header p)) (piece_fragment p) ++ p.fragment.octets)
      ≡ (read_header (piece_header p), piece_fragment p, p.fragment.octets)
  written = subst (λ os. ipv4_in os ≡ (read_header (piece_header p), piece_fragment p, p.fragment.octets))
      (append-nil (ipv4.header_text (is_tx H.capabilities.checksum.ipv4) (read_header (piece_header p)) (piece_fragment p) ++ p.fragment.octets))
      (ipv4_again.read_again false (is_tx H.capabilities.checksum.ipv4) (read_header (piece_header p))
      (piece_fragment p) p.fragment.octets [] w.header refl (λ x. absurd cc)).1

  read : ipv4_in (piece_text H.capabilities p) ≡ (read_header (piece_header p), piece_fragment p, p.fragment.octets)
  read = subst (λ t. ipv4_in (t ++ p.fragment.octets) ≡ (read_header (piece_header p), piece_fragment p, p.fragment.octets))
      (text_same (is_tx H.capabilities.checksum.ipv4) (piece_header p) (piece_fragment p)) written

  values : ipv4_in b.packet ≡ (read_header (piece_header p), piece_fragment p, p.fragment.octets)
  values = ap ipv4_in
      (same_packet m H.hardware_addr p.destination K.hardware_addr (piece_text H.capabilities p) b.packet own w.destination mine b.carried) ∙ read

  same : fragment_in (piece_fragment p) p.fragment.octets ≡ p.fragment
  same = rw (w.eights, twice) refl

-- the frame of a packet carries it to a host that it is for
header_len : (own destination : EthernetAddress) (rest : List ℕ) → length own.0 ≡ 6 → length destination.0 ≡ 6 →
    14 ≤ length (header_text (record { src_addr = own; dst_addr = destination; ethertype = protocol.Ipv4 }) ++ rest)
header_len own destination rest s t =
    let a = length-append (destination.0 ++ own.0 ++ to_be_bytes w16 0x0800) rest in
    let b = length-append (destination.0 ++ own.0) (to_be_bytes w16 0x0800) in
    let c = length-append destination.0 own.0 in
    let d : length (to_be_bytes w16 0x0800) ≡ 2 = refl in
    omega arith

carries : (m : Medium) (own far mine : HardwareAddress) (text : List ℕ) →
    IsOf m own → IsOf m far → IsOf m mine → reaches far mine ≡ true → version_in text ≡ 4 →
    Carries mine (link_header own far protocol.Ipv4 ++ text) text
carries medium.Ethernet (hardware.Ethernet own) (hardware.Ethernet far) (hardware.Ethernet mine) text s t u for v =
    let again = ethernet_again.read_again (record { src_addr = own; dst_addr = far; ethertype = protocol.Ipv4 }) text
    (record { destination = t; source = s; number = omega arith; protocol = refl }) in
    OverEthernet mine refl (header_len own far text s t) (ap (λ (x : EthernetRepr × List ℕ). is_for mine x.0.dst_addr) again ∙ for)
    (ap (λ (x : EthernetRepr × List ℕ). x.0.ethertype) again) (sym (behind own far text s t))
carries medium.Ethernet (hardware.Ethernet own) (hardware.Ethernet far) hardware.Ip text s t u for v = absurd u
carries medium.Ethernet (hardware.Ethernet own) hardware.Ip mine text s t u for v = absurd t
carries medium.Ethernet hardware.Ip far mine text s t u for v = absurd s
carries medium.Ip (hardware.Ethernet own) far mine text s t u for v = absurd s
carries medium.Ip hardware.Ip (hardware.Ethernet far) mine text s t u for v = absurd t
carries medium.Ip hardware.Ip hardware.Ip (hardware.Ethernet mine) text s t u for v = absurd u
carries medium.Ip hardware.Ip hardware.Ip hardware.Ip text s t u for v = AsItStands refl v refl

-- and a host brings a piece in, if it is for it and from one host, and its checksum is there where it is tested
pub piece_brings : (m : Medium) (H K : Host) (p : Piece) →
    IsOf m H.hardware_addr → IsOf m K.hardware_addr → IsWritten m p → is_fragment (piece_fragment p) ≡ true →
    reaches p.destination K.hardware_addr ≡ true → may_be_source K.ip_addrs p.header.src_addr ≡ true →
    (IsTrue (is_rx K.capabilities.checksum.ipv4) → IsTrue (is_tx H.capabilities.checksum.ipv4)) →
    Brings K (piece_frame H p) (key_of p.header p.identification) p.fragment
piece_brings m H K p own mine w part for source sums = record {
  packet = piece_text H.capabilities p;
  carried = carries m H.hardware_addr p.destination K.hardware_addr (piece_text H.capabilities p) own w.destination mine for is_ipv4.version;
  ipv4 = is_ipv4;
  source = ap (λ (x : Ipv4Repr × Ipv4Fragment × List ℕ). may_be_source K.ip_addrs x.0.src_addr) values ∙ source;
  part = ap (λ (x : Ipv4Repr × Ipv4Fragment × List ℕ). is_fragment x.1) values ∙ part;
  key_is =
      sym (ap (λ (x : Ipv4Repr × Ipv4Fragment × List ℕ). key_in x.0 x.1) values ∙ ap (λ n. key_by n) (number_again (number_of p.header.next_header)));
  fragment_is = sym (ap (λ (x : Ipv4Repr × Ipv4Fragment × List ℕ). fragment_in x.1 x.2) values ∙ rw (w.eights, twice) refl);
} where
  key_by : ℕ → FragKey
  key_by n = record { identification = p.identification; src_addr = p.header.src_addr; dst_addr = p.header.dst_addr; protocol = n }

  read : ipv4.IsIpv4 (is_rx K.capabilities.checksum.ipv4)
      (ipv4.header_text (is_tx H.capabilities.checksum.ipv4) (read_header (piece_header p)) (piece_fragment p) ++ p.fragment.octets ++ [])
      × (ipv4_in (ipv4.header_text (is_tx H.capabilities.checksum.ipv4) (read_header (piece_header p)) (piece_fragment p) ++ p.fragment.octets ++ [])
      ≡ (read_header (piece_header p), piece_fragment p, p.fragment.octets))
  read = ipv4_again.read_again (is_rx K.capabilities.checksum.ipv4) (is_tx H.capabilities.checksum.ipv4) (read_header (piece_header p))
      (piece_fragment p) p.fragment.octets [] w.header refl sums

  text : ipv4.header_text (is_tx H.capabilities.checksum.ipv4) (read_header (piece_header p)) (piece_fragment p) ++ p.fragment.octets ++ []
      ≡ piece_text H.capabilities p
  text = append-nil (ipv4.header_text (is_tx H.capabilities.checksum.ipv4) (read_header (piece_header p)) (piece_fragment p) ++ p.fragment.octets)
      ∙ ap (λ (t : List ℕ). t ++ p.fragment.octets) (text_same (is_tx H.capabilities.checksum.ipv4) (piece_header p) (piece_fragment p))

  is_ipv4 : ipv4.IsIpv4 (is_rx K.capabilities.checksum.ipv4) (piece_text H.capabilities p)
  is_ipv4 = subst (ipv4.IsIpv4 (is_rx K.capabilities.checksum.ipv4)) text read.0

  values : ipv4_in (piece_text H.capabilities p) ≡ (read_header (piece_header p), piece_fragment p, p.fragment.octets)
  values = ap ipv4_in (sym text) ∙ read.1
