-- What is learnt from neighbour messages was told by the frame, and the guard reads the same octets.
use Rattle.std.proofs.Common.{◌≡◌, ◌≤◌, ◌+◌, ◌-◌, ◌∙◌, ap, sym, subst, ℕ, Bool, true, false, refl, inl, inr, arith, List, length, take, drop}
use Rattle.std.specs.Prelude.{◌==◌, ◌⊎◌, slice_get, slice_index, slice_range, Option, Some, if◌then◌else◌}
use Rattle.std.specs.Int.{from_be_bytes, w128}
use Rattle.std.proofs.lemmas.Bool.Decides.{nat_tests}
use Rattle.std.proofs.lemmas.List.{drop-drop, get_or-drop, length-drop}
use Rattle.ip_wire.specs.Octets.{u16_at}
use Rattle.ip_address.specs.Protocol.{protocol_of}
use Rattle.ip_address.specs.declared.ethernet_address.EthernetAddress.{EthernetAddress}
use Rattle.ip_address.specs.declared.hardware.HardwareAddress.{HardwareAddress}
use Rattle.ip_address.specs.declared.hardware.HardwareAddress.TheVariants.{Ethernet}
use Rattle.ip_address.specs.declared.ip.IpAddress.{IpAddress}
use Rattle.ip_address.specs.declared.ip.IpAddress.TheVariants.{Ipv6}
use Rattle.ip_address.specs.declared.ipv6.Ipv6Address.{Ipv6Address}
use Rattle.ip_address.specs.declared.protocol.IpProtocol.TheVariants as ip_protocol
use Rattle.ip_wire.specs.Ethernet.{header_in}
use Rattle.ip_wire.specs.declared.ethernet.EthernetProtocol.TheVariants as protocol
use Rattle.ip_wire.specs.Ipv6Packet.{address_at, end, ipv6_in}
use Rattle.ip_wire.specs.HopByHop.{header_len, hop_by_hop_in}
use Rattle.control_wire.specs.Icmpv6.{Error, IsBody, Listener, Neighbor, OfRouters, Reply, Request, type_in}
use Rattle.control_wire.specs.Ndisc.{IsNdisc, ndisc_in, flags_in}
use Rattle.control_wire.specs.NdiscOption.{AreOptions, lladdr_in}
use Rattle.control_wire.specs.Router.{Advertisement, Solicitation}
use Rattle.control_wire.specs.declared.ndisc.NdiscNeighborFlags.{NdiscNeighborFlags}
use Rattle.control_wire.specs.declared.ndisc.NdiscRepr.TheVariants.{NeighborAdvert, NeighborSolicit}
use Rattle.control_wire.specs.Mld.{IsQuery, IsReport}
use Rattle.host_machine.specs.Interface.Config.{if_ethernet}
use Rattle.host_machine.specs.Context.Host.{Host}
use Rattle.host_laws.specs.Laws.Restraint.Neighbors.{Gives}
use Rattle.guard.proofs.Ipv6Lemmas.{among_if, own_messages_stay, pinned_messages_stay}
use Rattle.guard.specs.Guard.{is_own}
use Rattle.guard.specs.Ipv6.{AsSource, Behind, BehindOptions, HasMessage, IsNeighborMessage, source_of}
use Rattle.guard.specs.Kind.{octet_at}
use Rattle.guard.specs.Laws.{passes}
use Rattle.guard.specs.declared.watch.Watch.{Watch}
use Rattle.guard_laws.proofs.ClaimLemmas.{arrival}
use Rattle.guard_laws.proofs.MessageLemmas.{ArePart, octet_in, rest_is_part, told_one}

-- the type number of IPv6
type_in_frame : (four arp six : Bool) (n : ℕ) → (n == 0x0800) ≡ four → (n == 0x0806) ≡ arp → (n == 0x86dd) ≡ six →
    (if four then protocol.Ipv4 else if arp then protocol.Arp else if six then protocol.Ipv6 else protocol.Unknown n) ≡ protocol.Ipv6 → n ≡ 0x86dd
type_in_frame true arp six n f a s e = absurd cc
type_in_frame false true six n f a s e = absurd cc
type_in_frame false false true n f a s e = grind (arith, nat_tests)
type_in_frame false false false n f a s e = absurd cc

pub type_number : (frame : List ℕ) → (header_in frame).ethertype ≡ protocol.Ipv6 → u16_at frame 12 ≡ 0x86dd
type_number frame e = type_in_frame (u16_at frame 12 == 0x0800) (u16_at frame 12 == 0x0806) (u16_at frame 12 == 0x86dd) (u16_at frame 12) refl refl refl e

-- the number of ICMPv6
number_by : (a b c d e f : Bool) (n : ℕ) → (n == 58) ≡ f →
    (if a then ip_protocol.HopByHop else if b then ip_protocol.Icmp else if c then ip_protocol.Igmp else if d then ip_protocol.Tcp
    else if e then ip_protocol.Udp else if f then ip_protocol.Icmpv6 else ip_protocol.Unknown n) ≡ ip_protocol.Icmpv6 → n ≡ 58
number_by true b c d e f n is p = absurd cc
number_by false true c d e f n is p = absurd cc
number_by false false true d e f n is p = absurd cc
number_by false false false true e f n is p = absurd cc
number_by false false false false true f n is p = absurd cc
number_by false false false false false true n is p = grind (arith, nat_tests)
number_by false false false false false false n is p = absurd cc

pub icmpv6_number : (n : ℕ) → protocol_of n ≡ ip_protocol.Icmpv6 → n ≡ 58
icmpv6_number n p = number_by (n == 0) (n == 1) (n == 2) (n == 6) (n == 17) (n == 58) n refl p

-- the address at an offset of a packet
pub source_in : (frame : List ℕ) → address_at (drop 14 frame) 8 ≡ address_at frame 22
unfolding address_at
source_in frame = ap (λ (o : List ℕ). record { bits = from_be_bytes w128 (take 16 o) }) (drop-drop 8 14 frame)

-- a message by its type is one of neighbour discovery
pub is_ndisc : (octets : List ℕ) → IsBody octets → (type_in octets ≡ 135) ⊎ (type_in octets ≡ 136) → IsNdisc octets
is_ndisc octets (Neighbor is) type = is
is_ndisc octets (Request t c) (inl e) = absurd (omega (arith, t, e))
is_ndisc octets (Request t c) (inr e) = absurd (omega (arith, t, e))
is_ndisc octets (Reply t c) (inl e) = absurd (omega (arith, t, e))
is_ndisc octets (Reply t c) (inr e) = absurd (omega (arith, t, e))
is_ndisc octets (Error is) (inl e) = absurd (let m = is.most in omega (arith, m, e))
is_ndisc octets (Error is) (inr e) = absurd (let m = is.most in omega (arith, m, e))
is_ndisc octets (OfRouters (Solicitation is)) (inl e) = absurd (let t = is.type in omega (arith, t, e))
is_ndisc octets (OfRouters (Solicitation is)) (inr e) = absurd (let t = is.type in omega (arith, t, e))
is_ndisc octets (OfRouters (Advertisement is)) (inl e) = absurd (let t = is.type in omega (arith, t, e))
is_ndisc octets (OfRouters (Advertisement is)) (inr e) = absurd (let t = is.type in omega (arith, t, e))
is_ndisc octets (Listener (IsQuery t c l)) (inl e) = absurd (omega (arith, t, e))
is_ndisc octets (Listener (IsQuery t c l)) (inr e) = absurd (omega (arith, t, e))
is_ndisc octets (Listener (IsReport t c l)) (inl e) = absurd (omega (arith, t, e))
is_ndisc octets (Listener (IsReport t c l)) (inr e) = absurd (omega (arith, t, e))

-- where the options of a frame tell a hardware address
pub record IsTold (frame : List ℕ) (at : ℕ) (octets : List ℕ) (h : EthernetAddress) : Type 0 where
  pub part : ArePart frame at octets
  pub whole : 24 ≤ length octets
  pub options : AreOptions (drop 24 octets)
  pub type : ℕ
  pub tells : lladdr_in type (drop 24 octets) ≡ Some h

gives_by : (b : Bool) (t u : Ipv6Address) (x y : Option EthernetAddress) (f : NdiscNeighborFlags) (h : EthernetAddress) →
    Gives (if b then NeighborSolicit t x else NeighborAdvert f u y) h → (x ≡ Some h) ⊎ (y ≡ Some h)
gives_by true t u x y f h e = inl e
gives_by false t u x y f h e = inr e

pub told_in : (frame : List ℕ) (at : ℕ) (octets : List ℕ) (h : EthernetAddress) → ArePart frame at octets → IsNdisc octets → Gives (ndisc_in octets) h →
    IsTold frame at octets h
told_in frame at octets h part is gives = by (gives_by (slice_index octets 0 == 135) (address_at octets 8) (address_at octets 8)
    (lladdr_in 1 (drop 24 octets)) (lladdr_in 2 (drop 24 octets)) (flags_in octets) h gives) where
      by : (lladdr_in 1 (drop 24 octets) ≡ Some h) ⊎ (lladdr_in 2 (drop 24 octets) ≡ Some h) → IsTold frame at octets h
      by (inl e) = record { part = part; whole = is.whole; options = is.options; type = 1; tells = e }
      by (inr e) = record { part = part; whole = is.whole; options = is.options; type = 2; tells = e }

-- where the message of a packet is in its frame
pub record IsPlaced (frame octets : List ℕ) : Type 0 where
  pub at : ℕ
  pub message : HasMessage frame at
  pub part : ArePart frame at octets

longer : (octets : List ℕ) (n : ℕ) → 24 ≤ length (drop n octets) → n + 24 ≤ length octets
longer octets n l = let d = length-drop n octets in omega (arith, l, d)

pub payload_part : (frame packet : List ℕ) → packet ≡ drop 14 frame → ArePart frame 54 (slice_range packet 40 (end packet))
payload_part frame packet is = record {
  most = end packet - 40;
  is = ap (λ (p : List ℕ). take (end packet - 40) (drop 40 p)) is ∙ ap (take (end packet - 40)) (drop-drop 40 14 frame);
}

pub placed_after_header : (frame packet octets : List ℕ) → packet ≡ drop 14 frame → (ipv6_in packet).0.next_header ≡ ip_protocol.Icmpv6 →
    octets ≡ (ipv6_in packet).1 → IsPlaced frame octets
placed_after_header frame packet octets is header same = record {
  at = 54;
  message =
      Behind (sym (ap (λ (p : List ℕ). slice_index p 6) is ∙ get_or-drop 14 frame 6 0) ∙ icmpv6_number (slice_index packet 6) header) refl;
  part = subst (ArePart frame 54) (sym same) (payload_part frame packet is);
}

pub placed_after_options : (frame packet octets : List ℕ) → packet ≡ drop 14 frame → 24 ≤ length octets → octet_at frame 20 ≡ 0 →
    (hop_by_hop_in (ipv6_in packet).1).0.next_header ≡ ip_protocol.Icmpv6 → octets ≡ (hop_by_hop_in (ipv6_in packet).1).1 → IsPlaced frame octets
placed_after_options frame packet octets is long zero header same = by (slice_range packet 40 (end packet)) (payload_part frame packet is) header same where
  by : (payload : List ℕ) → ArePart frame 54 payload → protocol_of (slice_index payload 0) ≡ ip_protocol.Icmpv6 →
      octets ≡ drop (header_len payload) payload → IsPlaced frame octets
  by payload part number rest =
      let left : 24 ≤ length (drop (header_len payload) payload) = subst (λ (o : List ℕ). 24 ≤ length o) rest long in
      let all : header_len payload + 24 ≤ length payload = longer payload (header_len payload) left in
      let first : octet_at frame 54 ≡ 58 =
      sym (octet_in frame 54 payload part 0 (omega (arith, all))) ∙ icmpv6_number (slice_index payload 0) number in
      let second : slice_index payload 1 ≡ octet_at frame 55 = octet_in frame 54 payload part 1 (omega (arith, all)) in
      record {
        at = 54 + header_len payload;
        message = BehindOptions zero first (omega (arith, second));
        part =
            subst (ArePart frame (54 + header_len payload)) (sym rest)
            (rest_is_part frame 54 (header_len payload) payload part (omega (arith, all)));
      }

-- a message is behind the whole header
pub behind : (frame : List ℕ) (at : ℕ) (octets : List ℕ) → HasMessage frame at → length octets ≤ length frame - at → 24 ≤ length octets → 54 ≤ length frame
behind frame at octets (Behind header is) few long = omega (arith, is, few, long)
behind frame at octets (BehindOptions header first is) few long = omega (arith, is, few, long)

-- who a neighbour message comes from, and what it tells
pub record Told (frame : List ℕ) (a : Ipv6Address) (h : EthernetAddress) : Type 0 where
  pub at : ℕ
  pub octets : List ℕ
  pub is : IsNeighborMessage frame at
  pub source : source_of frame ≡ Ipv6 a
  pub told : IsTold frame at octets h

-- what a message that an open guard lets through tells of an own address is the own hardware address
pub own_by_message : (at : ℕ) (frame : List ℕ) (w : Watch) (H : Host) (a : Ipv6Address) (own h : EthernetAddress) →
    passes (arrival at frame H) w.guard ≡ true → w.guard.keeps_own_addresses ≡ true → H.hardware_addr ≡ Ethernet own →
    is_own H.ip_addrs (Ipv6 a) ≡ true → Told frame a h → h ≡ own
own_by_message at frame w H a own h pass keeps hardware mine told =
    let among = among_if H.ip_addrs (source_of frame) (ap (is_own H.ip_addrs) told.source ∙ mine) in
    let stays = own_messages_stay (arrival at frame H) w.guard own told.at keeps (ap (λ (x : HardwareAddress). if_ethernet x) hardware)
    told.is (AsSource among) pass in
    told_one frame told.at told.octets told.told.type own h told.told.part told.told.whole told.told.options told.told.tells stays.1

-- and of a pinned address the pinned one
pub pinned_by_message : (at : ℕ) (frame : List ℕ) (w : Watch) (H : Host) (a : Ipv6Address) (h one : EthernetAddress) (k : ℕ) →
    passes (arrival at frame H) w.guard ≡ true → slice_get w.guard.pins.pairs k ≡ Some (Some (record { address = Ipv6 a; hardware = h })) →
    Told frame a one → one ≡ h
pinned_by_message at frame w H a h one k pass there told =
    let pinned : slice_get w.guard.pins.pairs k ≡ Some (Some (record { address = source_of frame; hardware = h })) =
    there ∙ ap (λ (x : IpAddress). Some (Some (record { address = x; hardware = h }))) (sym told.source) in
    let stays = pinned_messages_stay (arrival at frame H) w.guard h k told.at told.is pinned pass in
    told_one frame told.at told.octets told.told.type h one told.told.part told.told.whole told.told.options told.told.tells stays
