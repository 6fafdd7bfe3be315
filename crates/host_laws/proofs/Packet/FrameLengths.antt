-- How long a frame is.
use Rattle.std.proofs.Common.{◌≡◌, ℕ, zero, suc, ◌+◌, ◌*◌, ◌≤◌, Bool, List, ◌∷◌, ◌++◌, length, refl, subst, arith}
use Rattle.std.specs.Prelude.{drop, map, take}
use Rattle.std.specs.Int.{w16, w32, to_be_bytes}
use Rattle.std.specs.List.{AllByRecursion}
use Rattle.std.proofs.lemmas.List.{length-append, length-drop, length-take}
use Rattle.net_base.specs.Checksum.{ip_mtu_of, room_in}
use Rattle.net_base.specs.declared.phy.DeviceCapabilities.{DeviceCapabilities}
use Rattle.net_base.specs.declared.phy.Medium.{Medium}
use Rattle.net_base.specs.declared.phy.Medium.TheVariants as medium
use Rattle.ip_address.specs.Hardware.{IsOf}
use Rattle.ip_address.specs.declared.ethernet_address.EthernetAddress.{EthernetAddress}
use Rattle.ip_address.specs.declared.hardware.HardwareAddress.{HardwareAddress}
use Rattle.ip_address.specs.declared.hardware.HardwareAddress.TheVariants as hardware
use Rattle.ip_address.specs.declared.ip.IpAddress.{IpAddress}
use Rattle.ip_address.specs.declared.ipv6.Ipv6Address.{Ipv6Address}
use Rattle.ip_wire.specs.declared.arp.ArpRepr.{ArpRepr}
use Rattle.ip_wire.specs.declared.ethernet.EthernetProtocol.{EthernetProtocol}
use Rattle.ip_wire.specs.declared.ethernet.EthernetProtocol.TheVariants as protocol
use Rattle.ip_wire.specs.declared.ipv4_packet.Ipv4Fragment.{Ipv4Fragment}
use Rattle.ip_wire.specs.declared.ipv4_packet.Ipv4Repr.{Ipv4Repr}
use Rattle.ip_wire.specs.declared.tcp.TcpRepr.{TcpRepr}
use Rattle.ip_wire.specs.declared.udp.UdpRepr.{UdpRepr}
use Rattle.ip_wire.specs.Arp.{ipv4_over_ethernet, text}
use Rattle.ip_wire.specs.Arp as arp
use Rattle.ip_wire.specs.Ipv4Packet.{header_with, front, back}
use Rattle.ip_wire.specs.Ipv4Packet as ipv4
use Rattle.ip_wire.specs.Tcp as tcp
use Rattle.ip_wire.specs.Udp as udp
use Rattle.ip_wire.specs.declared.ipv6_packet.Ipv6Repr.{Ipv6Repr}
use Rattle.ip_wire.specs.Ipv6Packet as ipv6
use Rattle.ip_wire.specs.HopByHop as hop_by_hop
use Rattle.control_wire.specs.declared.icmpv4.Icmpv4Repr.{Icmpv4Repr}
use Rattle.control_wire.specs.declared.icmpv4.Icmpv4Repr.TheVariants as v4
use Rattle.control_wire.specs.Icmpv4 as icmpv4
use Rattle.control_wire.specs.declared.icmpv6.Icmpv6Repr.{Icmpv6Repr}
use Rattle.control_wire.specs.declared.icmpv6.Icmpv6Repr.TheVariants as v6
use Rattle.control_wire.specs.Icmpv6 as icmpv6
use Rattle.control_wire.specs.NdiscOption.{lladdr_text}
use Rattle.control_wire.specs.declared.mld.MldRepr.TheVariants.{Report}
use Rattle.control_wire.specs.declared.igmp.IgmpRepr.{IgmpRepr}
use Rattle.control_wire.specs.Igmp as igmp
use Rattle.fragmentation.specs.Cuts.{Datagram, Piece, count, piece_at, piece_of, pieces_from, pieces_of}
use Rattle.host_machine.specs.Context.Host.{Host}
use Rattle.host_machine.specs.Context.Pieces.{piece_size}
use Rattle.host_machine.specs.Packet.Frame.{arp_frame, ip_frame, link_header, mld_options, payload_text, piece_frame, piece_text}
use Rattle.host_machine.specs.Packet.Packet.{Packet, header_of, payload_len, payload_of, total_len}
use Rattle.host_machine.specs.Packet.Packet as packet
use Rattle.host_laws.specs.Laws.Lengths.{Fits}
use Rattle.host_laws.proofs.Sockets.DatagramDelivery.{take_few}

-- Headers

v4_len : (summed : Bool) (r : Ipv4Repr) (f : Ipv4Fragment) → length (ipv4.header_text summed r f) ≡ 20
unfolding header_with front back
v4_len summed r f = refl

v6_len : (r : Ipv6Repr) → length (ipv6.header_text r) ≡ 40
unfolding ipv6.header_text ipv6.address_text
v6_len r = refl

mac_len : (d s tail : List ℕ) → length d ≡ 6 → length s ≡ 6 → length tail ≡ 2 → length (d ++ s ++ tail) ≡ 14
mac_len d s tail a b c = omega (arith, a, b, c, length-append (d ++ s) tail, length-append d s)

link_len : (o e : EthernetAddress) (type : EthernetProtocol) → length o.0 ≡ 6 → length e.0 ≡ 6 →
    length (link_header (hardware.Ethernet o) (hardware.Ethernet e) type) ≡ 14
link_len o e type a b = mac_len e.0 o.0 _ b a refl

-- behind the link-layer header, a text that fits IP packets fits frames
pub framed : (c : DeviceCapabilities) (own h : HardwareAddress) (type : EthernetProtocol) (octets : List ℕ) →
    IsOf c.medium own → IsOf c.medium h → 576 ≤ ip_mtu_of c → length octets ≤ ip_mtu_of c →
    length (link_header own h type ++ octets) ≤ c.max_transmission_unit
framed c own h type octets = by c.medium own h where
  by : (m : Medium) (own h : HardwareAddress) → IsOf m own → IsOf m h → 576 ≤ room_in m c.max_transmission_unit →
      length octets ≤ room_in m c.max_transmission_unit → length (link_header own h type ++ octets) ≤ c.max_transmission_unit
  by medium.Ethernet (hardware.Ethernet o) (hardware.Ethernet e) a b big fits =
      let l = link_len o e type a b in
      let all = length-append (link_header (hardware.Ethernet o) (hardware.Ethernet e) type) octets in omega (arith, l, all, big, fits)
  by medium.Ethernet (hardware.Ethernet o) hardware.Ip a b big fits = absurd b
  by medium.Ethernet hardware.Ip h a b big fits = absurd a
  by medium.Ip (hardware.Ethernet o) h a b big fits = absurd a
  by medium.Ip hardware.Ip (hardware.Ethernet e) a b big fits = absurd b
  by medium.Ip hardware.Ip hardware.Ip a b big fits = fits

-- how many octets are before a packet, by the host's own hardware address
abbrev pub link_room : HardwareAddress → ℕ
link_room (hardware.Ethernet own) = 14
link_room hardware.Ip = 0

link_is : (m : Medium) (own h : HardwareAddress) (type : EthernetProtocol) → IsOf m own → IsOf m h → length (link_header own h type) ≡ link_room own
link_is medium.Ethernet (hardware.Ethernet o) (hardware.Ethernet e) type a b = link_len o e type a b
link_is medium.Ethernet (hardware.Ethernet o) hardware.Ip type a b = absurd b
link_is medium.Ethernet hardware.Ip h type a b = absurd a
link_is medium.Ip (hardware.Ethernet o) h type a b = absurd a
link_is medium.Ip hardware.Ip (hardware.Ethernet e) type a b = absurd b
link_is medium.Ip hardware.Ip hardware.Ip type a b = refl

-- an ARP packet, between addresses of six octets
six_parts : (a b c d e f : List ℕ) → length a ≡ 6 → length b ≡ 2 → length c ≡ 6 → length d ≡ 4 → length e ≡ 6 → length f ≡ 4 →
    length (a ++ b ++ c ++ d ++ e ++ f) ≡ 28
six_parts a b c d e f la lb lc ld le lf =
    omega (
      arith,
      la,
      lb,
      lc,
      ld,
      le,
      lf,
      length-append (a ++ b ++ c ++ d ++ e) f,
      length-append (a ++ b ++ c ++ d) e,
      length-append (a ++ b ++ c) d,
      length-append (a ++ b) c,
      length-append a b,
    )

arp_text_len : (r : ArpRepr) → length r.source_hardware_addr.0 ≡ 6 → length r.target_hardware_addr.0 ≡ 6 → length (text r) ≡ 28
unfolding ipv4_over_ethernet
arp_text_len r s t =
    six_parts ipv4_over_ethernet (to_be_bytes w16 (arp.number_of r.operation)) r.source_hardware_addr.0
    (to_be_bytes w32 r.source_protocol_addr.bits) r.target_hardware_addr.0 (to_be_bytes w32 r.target_protocol_addr.bits) refl refl s refl t refl

pub arp_len : (r : ArpRepr) → length r.source_hardware_addr.0 ≡ 6 → length r.target_hardware_addr.0 ≡ 6 → length (arp_frame r) ≡ 42
arp_len r s t =
    let head = mac_len r.target_hardware_addr.0 r.source_hardware_addr.0 _ t s refl in
    let behind = arp_text_len r s t in
    by _ (text r) head behind where
      by : (head behind : List ℕ) → length head ≡ 14 → length behind ≡ 28 → length (head ++ behind) ≡ 42
      by head behind a b = omega (arith, a, b, length-append head behind)

pub arp_fits : (c : DeviceCapabilities) (r : ArpRepr) → length r.source_hardware_addr.0 ≡ 6 → length r.target_hardware_addr.0 ≡ 6 →
    576 ≤ ip_mtu_of c → length (arp_frame r) ≤ c.max_transmission_unit
arp_fits c r s t = by c.medium where
  by : (m : Medium) → 576 ≤ room_in m c.max_transmission_unit → length (arp_frame r) ≤ c.max_transmission_unit
  by medium.Ethernet big = let l = arp_len r s t in omega (arith, l, big)
  by medium.Ip big = let l = arp_len r s t in omega (arith, l, big)

-- a fragment
pub piece_fits : (H : Host) (p : Piece) → IsOf H.capabilities.medium H.hardware_addr → IsOf H.capabilities.medium p.destination →
    576 ≤ ip_mtu_of H.capabilities → Fits H.capabilities p → length (piece_frame H p) ≤ H.capabilities.max_transmission_unit
piece_fits H p a b big fits =
    framed H.capabilities H.hardware_addr p.destination _ (piece_text H.capabilities p) a b big (by _ (v4_len _ _ _) fits) where
      by : (head : List ℕ) → length head ≡ 20 → Fits H.capabilities p → length (head ++ p.fragment.octets) ≤ ip_mtu_of H.capabilities
      by head l f = omega (arith, l, f, length-append head p.fragment.octets)

three_parts : (link head behind : List ℕ) (l m n : ℕ) → length link ≡ l → length head ≡ m → length behind ≤ n →
    length (link ++ (head ++ behind)) ≤ l + (m + n)
three_parts link head behind l m n a b c = omega (arith, a, b, c, length-append link (head ++ behind), length-append head behind)

pub piece_len : (H : Host) (p : Piece) (n : ℕ) → IsOf H.capabilities.medium H.hardware_addr → IsOf H.capabilities.medium p.destination →
    length p.fragment.octets ≤ n → length (piece_frame H p) ≤ link_room H.hardware_addr + (20 + n)
piece_len H p n a b few =
    three_parts (link_header H.hardware_addr p.destination protocol.Ipv4) _ p.fragment.octets (link_room H.hardware_addr) 20 n
    (link_is H.capabilities.medium H.hardware_addr p.destination protocol.Ipv4 a b) (v4_len _ _ _) few

-- Payloads

-- a payload has as many octets as its packet says
pub record IsSized (c : DeviceCapabilities) (p : Packet) : Type 0 where
  pub len : length (payload_text c (header_of p) (payload_of p)) ≤ payload_len (payload_of p)

pub packet_fits : (H : Host) (h : HardwareAddress) (p : Packet) → IsOf H.capabilities.medium H.hardware_addr → IsOf H.capabilities.medium h →
    576 ≤ ip_mtu_of H.capabilities → total_len p ≤ ip_mtu_of H.capabilities → IsSized H.capabilities p →
    length (ip_frame H h p) ≤ H.capabilities.max_transmission_unit
packet_fits H h (packet.Ipv4 p) a b big short s =
    framed H.capabilities H.hardware_addr h _ _ a b big (by _ _ (v4_len _ _ _) s.len short) where
      by : (head behind : List ℕ) → length head ≡ 20 → length behind ≤ payload_len p.payload → 20 + payload_len p.payload ≤ ip_mtu_of H.capabilities →
          length (head ++ behind) ≤ ip_mtu_of H.capabilities
      by head behind l few f = omega (arith, l, few, f, length-append head behind)
packet_fits H h (packet.Ipv6 p) a b big short s =
    framed H.capabilities H.hardware_addr h _ _ a b big (by _ _ (v6_len _) s.len short) where
      by : (head behind : List ℕ) → length head ≡ 40 → length behind ≤ payload_len p.payload → 40 + payload_len p.payload ≤ ip_mtu_of H.capabilities →
          length (head ++ behind) ≤ ip_mtu_of H.capabilities
      by head behind l few f = omega (arith, l, few, f, length-append head behind)

-- so its frame has at most so many octets, too
pub packet_len : (H : Host) (h : HardwareAddress) (p : Packet) → IsOf H.capabilities.medium H.hardware_addr → IsOf H.capabilities.medium h →
    IsSized H.capabilities p → length (ip_frame H h p) ≤ link_room H.hardware_addr + total_len p
packet_len H h (packet.Ipv4 p) a b s =
    three_parts (link_header H.hardware_addr h protocol.Ipv4) _ _ (link_room H.hardware_addr) 20 (payload_len p.payload)
    (link_is H.capabilities.medium H.hardware_addr h protocol.Ipv4 a b) (v4_len _ _ _) s.len
packet_len H h (packet.Ipv6 p) a b s =
    three_parts (link_header H.hardware_addr h protocol.Ipv6) _ _ (link_room H.hardware_addr) 40 (payload_len p.payload)
    (link_is H.capabilities.medium H.hardware_addr h protocol.Ipv6 a b) (v6_len _) s.len

icmpv4_head : (sum : ℕ) (m : Icmpv4Repr) → length (icmpv4.head_with sum m) ≡ 8
unfolding icmpv4.head_with
icmpv4_head sum (v4.EchoRequest ident seq_no) = refl
icmpv4_head sum (v4.EchoReply ident seq_no) = refl
icmpv4_head sum (v4.DstUnreachable reason header) = refl
icmpv4_head sum (v4.TimeExceeded code header) = refl

quoted_len : (summed : Bool) (m : Icmpv4Repr) → 8 + length (icmpv4.quoted_text summed m) ≡ icmpv4.header_len m
quoted_len summed (v4.EchoRequest ident seq_no) = refl
quoted_len summed (v4.EchoReply ident seq_no) = refl
quoted_len summed (v4.DstUnreachable reason header) = let l = v4_len summed header ipv4.whole in omega (arith, l)
quoted_len summed (v4.TimeExceeded code header) = let l = v4_len summed header ipv4.whole in omega (arith, l)

pub icmpv4_len : (a b : Bool) (m : Icmpv4Repr) (octets : List ℕ) → length (icmpv4.text a b m octets) ≡ icmpv4.header_len m + length octets
icmpv4_len a b m octets =
    let head = icmpv4_head (icmpv4.sum_of a b m octets) m in
    let quoted = quoted_len b m in
    let one = length-append (icmpv4.head_with (icmpv4.sum_of a b m octets) m ++ icmpv4.quoted_text b m) octets in
    let two = length-append (icmpv4.head_with (icmpv4.sum_of a b m octets) m) (icmpv4.quoted_text b m) in
    omega (arith, head, quoted, one, two)

-- of ICMPv6, where what follows the checksum is four octets, and the body is known
pub icmpv6_len : (summed : Bool) (src dst : IpAddress) (m : Icmpv6Repr) (octets : List ℕ) → length (icmpv6.rest_of m) ≡ 4 →
    8 + length (icmpv6.body m) ≡ icmpv6.header_len m → length (icmpv6.text summed src dst m octets) ≡ icmpv6.header_len m + length octets
unfolding icmpv6.head_with
icmpv6_len summed src dst m octets rest body =
    let one = length-append (icmpv6.head_with (icmpv6.sum_of summed src dst m octets) m ++ icmpv6.body m) octets in
    let two = length-append (icmpv6.head_with (icmpv6.sum_of summed src dst m octets) m) (icmpv6.body m) in
    omega (arith, rest, body, one, two)

pub v6_quoted : (r : Ipv6Repr) → 8 + length (ipv6.header_text r) ≡ 48
v6_quoted r = let l = v6_len r in omega (arith, l)

pub udp_len : (summed : Bool) (src dst : IpAddress) (r : UdpRepr) (octets : List ℕ) → length (udp.text summed src dst r octets) ≡ 8 + length octets
unfolding udp.header_with
udp_len summed src dst r octets = omega arith

pub tcp_len : (summed : Bool) (src dst : IpAddress) (r : TcpRepr) (octets : List ℕ) → length (tcp.text summed src dst r octets) ≡ 20 + length octets
unfolding tcp.header_with
tcp_len summed src dst r octets = omega arith

-- messages with a hardware address of six octets
pub ndisc_body : (type : ℕ) (target : Ipv6Address) (own : EthernetAddress) → length own.0 ≡ 6 →
    8 + length (ipv6.address_text target ++ lladdr_text type own) ≡ 32
unfolding ipv6.address_text lladdr_text
ndisc_body type target own six = omega (arith, six)

pub router_body : (own : EthernetAddress) → length own.0 ≡ 6 → 8 + length (lladdr_text 1 own) ≡ 16
unfolding lladdr_text
router_body own six = omega (arith, six)

-- a report of MLD, behind its options
pub mld_len : (summed : Bool) (src dst : IpAddress) (count : ℕ) (records : List ℕ) →
    length (hop_by_hop.text mld_options ++ icmpv6.text summed src dst (v6.Mld (Report count)) records) ≡ 16 + length records
unfolding hop_by_hop.option_text
mld_len summed src dst count records =
    let l = icmpv6_len summed src dst (v6.Mld (Report count)) records refl refl in
    let all = length-append (hop_by_hop.text mld_options) (icmpv6.text summed src dst (v6.Mld (Report count)) records) in
    omega (arith, l, all)

pub igmp_len : (m : IgmpRepr) → length (igmp.text m) ≡ 8
unfolding igmp.text_with
igmp_len m = refl

-- Fragments

few_taken : (m k : ℕ) (xs : List ℕ) → length (take m (drop k xs)) ≤ length xs
few_taken m k xs = omega (arith, length-take m (drop k xs), length-drop k xs)

-- the first fragment has at most the octets of the payload
pub first_few : (d : Datagram) (first : Piece) (rest : List Piece) → pieces_of d ≡ first ∷ rest → length first.fragment.octets ≤ length d.payload
first_few d first rest is = by (count d.size (length d.payload)) is where
  by : (n : ℕ) → map (piece_of d) (pieces_from d.size d.payload 0 n) ≡ first ∷ rest → length first.fragment.octets ≤ length d.payload
  by zero e = absurd cc
  by (suc n) e =
      let same : piece_of d (piece_at d.size d.payload 0) ≡ first = cc in
      subst (λ p. length p.fragment.octets ≤ length d.payload) same (few_taken d.size (0 * d.size) d.payload)

first_fits : (c : DeviceCapabilities) (m : ℕ) (payload : List ℕ) (d : Datagram) (n k : ℕ) → 20 + m ≤ ip_mtu_of c →
    AllByRecursion (Fits c) (map (piece_of d) (pieces_from m payload k n))
first_fits c m payload d zero k small = tt
first_fits c m payload d (suc n) k small = (
  fits (length (take m (drop (k * m) payload))) (take_few m (drop (k * m) payload)) small,
  first_fits c m payload d n (k + 1) small,
) where
  fits : (len : ℕ) → len ≤ m → 20 + m ≤ ip_mtu_of c → 20 + len ≤ ip_mtu_of c
  fits len a b = omega (arith, a, b)

pub cuts_fit : (c : DeviceCapabilities) (d : Datagram) (pieces : List Piece) → d.size ≡ piece_size c → 576 ≤ ip_mtu_of c → pieces_of d ≡ pieces →
    AllByRecursion (Fits c) pieces
cuts_fit c d pieces size big is =
    let small : 20 + d.size ≤ ip_mtu_of c = omega (arith, size, big) in
    subst (AllByRecursion (Fits c)) is (first_fits c d.size d.payload d (count d.size (length d.payload)) 0 small)
