-- Frames that carry no packet of a protocol, and what is read of one that a raw socket sent.
use Rattle.std.proofs.Common.{inl, inr, ◌≡◌, ℕ, ◌<◌, ◌≤◌, Bool, true, false, List, [], ◌∷◌, ◌++◌, length, length-take, length-drop, drop}
use Rattle.std.proofs.Common.{refl, sym, ◌∙◌, ap, subst, arith, Option, Some, None}
use Rattle.std.specs.Prelude.{◌≢◌, ◌-◌, ◌*◌, ◌/◌, ◌&&◌, ◌==◌, map, nat_le, cond, slice_range, slice_index}
use Rattle.std.specs.Option.{option_and_then}
use Rattle.std.specs.List.{AllByRecursion}
use Rattle.std.proofs.lemmas.Bool.Decides.{nat_tests}
use Rattle.std.proofs.lemmas.List.{append-nil}
use Rattle.net_base.specs.Checksum.{is_tx}
use Rattle.net_base.specs.declared.phy.Medium.{Medium}
use Rattle.ip_address.specs.declared.hardware.HardwareAddress.{HardwareAddress}
use Rattle.ip_address.specs.Hardware.{IsOf}
use Rattle.ip_address.specs.declared.protocol.IpProtocol.{IpProtocol}
use Rattle.ip_address.specs.declared.protocol.IpVersion.{IpVersion}
use Rattle.ip_address.specs.declared.protocol.IpVersion.TheVariants as version
use Rattle.ip_address.specs.Protocol.{protocol_of, number_of}
use Rattle.ip_wire.specs.declared.ethernet.EthernetProtocol.TheVariants as protocol
use Rattle.ip_wire.specs.declared.ip_packet.IpRepr.{IpRepr}
use Rattle.ip_wire.specs.declared.ip_packet.IpRepr.TheVariants as repr
use Rattle.ip_wire.specs.declared.ipv4_packet.Ipv4Repr.{Ipv4Repr}
use Rattle.ip_wire.specs.declared.ipv4_packet.Ipv4Fragment.{Ipv4Fragment}
use Rattle.ip_wire.specs.IpPacket.{next_header, payload_len}
use Rattle.ip_wire.specs.Ipv4Packet.{ipv4_in, is_fragment, whole, front, back, header_with}
use Rattle.ip_wire.specs.Ipv4Packet as ipv4
use Rattle.ip_wire.proofs.Ipv4Again as ipv4_again
use Rattle.ip_wire.specs.declared.ipv6_packet.Ipv6Repr.{Ipv6Repr}
use Rattle.ip_wire.specs.Ipv6Packet.{ipv6_in}
use Rattle.ip_wire.specs.Ipv6Packet as ipv6
use Rattle.sockets.specs.Raw.{RawSocket, Sent}
use Rattle.sockets.specs.Raw as raw
use Rattle.fragmentation.specs.Cuts.{Datagram, Piece, HasForm, cut, pieces_of, piece_of, piece_header, piece_fragment}
use Rattle.fragmentation.specs.Fragments.{Fragment}
use Rattle.host_machine.specs.Context.Host.{Host}
use Rattle.host_machine.specs.Packet.Packet.{Packet, IsFormed, payload_of, packet_with, header_v4, header_v6}
use Rattle.host_machine.specs.Packet.Packet as packet
use Rattle.host_machine.specs.Packet.Frame.{ip_frame, piece_frame, piece_text, link_header}
use Rattle.host_laws.specs.Laws.Frames.{Carries}
use Rattle.host_laws.proofs.Receive.FrameReading.{number_again, same_packet, other_packet, version_six}
use Rattle.host_machine.proofs.Receive.Pieces.{IsIn, contains_in, IsPiece, piece_in, part_of}
use Rattle.host_machine.proofs.Receive.Parts.{is_part}
use Rattle.host_laws.specs.Deliveries.{CarriesIpv6}
use Rattle.host_laws.specs.RawPackets.{IsPartIf}
use Rattle.host_laws.proofs.FramesWithoutUdp.{CarriesAtMostIcmpv6, number_v4, number_v6, other_packet_v6}
use Rattle.host_laws.proofs.FramesWithoutUdp.{same_packet_v6, version_four}
use Rattle.host_laws.proofs.ReadBack.{v4_again, v6_again}

-- a host reads a frame as a whole packet of a protocol, with this header and this payload
pub data Reads (n : ℕ) (h : HardwareAddress) (frame : List ℕ) (r : IpRepr) (octets : List ℕ) : Type 0 where
  OverIpv4 : (packet : List ℕ) → Carries h frame packet → is_fragment (ipv4_in packet).1 ≡ false →
      number_of (ipv4_in packet).0.next_header ≡ n →
      r ≡ repr.Ipv4 (ipv4_in packet).0 → octets ≡ (ipv4_in packet).2 → Reads n h frame r octets
  OverIpv6 : (packet : List ℕ) → CarriesIpv6 h frame packet → number_of (ipv6_in packet).0.next_header ≡ n →
      r ≡ repr.Ipv6 (ipv6_in packet).0 → octets ≡ (ipv6_in packet).1 → Reads n h frame r octets

-- no host on the medium does
abbrev pub CarriesNo : ℕ → Medium → List ℕ → Type 0
CarriesNo n m frame = (h : HardwareAddress) (r : IpRepr) (octets : List ℕ) → IsOf m h → Reads n h frame r octets → ⊥

-- by the number of the protocol
pub number_read : (n : ℕ) (p q : IpProtocol) → q ≡ protocol_of (number_of p) → number_of q ≡ n → number_of p ≡ n
number_read n p q e is = sym (number_again (number_of p)) ∙ ap number_of (sym e) ∙ is

none_v4 : (n : ℕ) (m : Medium) (own far : HardwareAddress) (summed : Bool) (r : Ipv4Repr) (f : Ipv4Fragment) (rest : List ℕ) →
    IsOf m own → IsOf m far → number_of r.next_header ≢ n → CarriesNo n m (link_header own far protocol.Ipv4 ++ (ipv4.header_text summed r f ++ rest))
none_v4 n m own far summed r f rest s t other h x octets mine (OverIpv4 packet c part is is_x is_octets) =
    let e : packet ≡ ipv4.header_text summed r f ++ rest = same_packet m own far h (ipv4.header_text summed r f ++ rest) packet s t mine c in
    other (number_read n r.next_header (ipv4_in packet).0.next_header
    (ap (λ (p : List ℕ). (ipv4_in p).0.next_header) e ∙ number_v4 summed r f rest) is)
none_v4 n m own far summed r f rest s t other h x octets mine (OverIpv6 packet c is is_x is_octets) =
    other_packet_v6 m own far h (ipv4.header_text summed r f ++ rest) packet s t mine (version_four summed r f rest) c

none_v6 : (n : ℕ) (m : Medium) (own far : HardwareAddress) (r : Ipv6Repr) (rest : List ℕ) →
    IsOf m own → IsOf m far → number_of r.next_header ≢ n → CarriesNo n m (link_header own far protocol.Ipv6 ++ (ipv6.header_text r ++ rest))
none_v6 n m own far r rest s t other h x octets mine (OverIpv4 packet c part is is_x is_octets) =
    other_packet m own far h (ipv6.header_text r ++ rest) packet s t mine (version_six r rest) c
none_v6 n m own far r rest s t other h x octets mine (OverIpv6 packet c is is_x is_octets) =
    let e : packet ≡ ipv6.header_text r ++ rest = same_packet_v6 m own far h (ipv6.header_text r ++ rest) packet s t mine c in
    other (number_read n r.next_header (ipv6_in packet).0.next_header
    (ap (λ (p : List ℕ). (ipv6_in p).0.next_header) e ∙ number_v6 r rest) is)

pub packet_none : (n : ℕ) (m : Medium) (H : Host) (far : HardwareAddress) (p : Packet) → IsOf m H.hardware_addr → IsOf m far →
    number_of (packet.protocol_of (payload_of p)) ≢ n → CarriesNo n m (ip_frame H far p)
packet_none n m H far (packet.Ipv4 p) own to other =
    none_v4 n m H.hardware_addr far (is_tx H.capabilities.checksum.ipv4) (header_v4 p) whole _ own to other
packet_none n m H far (packet.Ipv6 p) own to other = none_v6 n m H.hardware_addr far (header_v6 p) _ own to other

-- frames of ARP and requests for hardware addresses carry none
pub at_most_none : (n : ℕ) (m : Medium) (frame : List ℕ) → n ≢ 58 → CarriesAtMostIcmpv6 m frame → CarriesNo n m frame
at_most_none n m frame other a h x octets mine (OverIpv4 packet c part is is_x is_octets) = a.over_ipv4 h packet mine c
at_most_none n m frame other a h x octets mine (OverIpv6 packet c is is_x is_octets) = other (sym is ∙ a.over_ipv6 h packet mine c)

-- a pending fragment of the protocol is read as one
text_as : (summed : Bool) (r : Ipv4Repr) (f : Ipv4Fragment) (rest : List ℕ) (n : ℕ) → number_of r.next_header ≡ n →
    ipv4.header_text summed r f ++ rest ≡ ipv4.header_text summed (record r { next_header = protocol_of n }) f ++ rest
unfolding front back header_with
text_as summed r f rest n e = rw (e, number_again n) refl

two_ways : (b : Bool) → b ≡ true → b ≡ false → ⊥
two_ways b h k = cc

pub piece_none : (n : ℕ) (m : Medium) (H : Host) (p : Piece) → IsOf m H.hardware_addr → IsOf m p.destination → IsPartIf n p →
    CarriesNo n m (piece_frame H p)
piece_none n m H p own to part_if h x octets mine (OverIpv4 packet c part is is_x is_octets) =
    let summed = is_tx H.capabilities.checksum.ipv4 in
    let e : packet ≡ piece_text H.capabilities p =
    same_packet m H.hardware_addr p.destination h (piece_text H.capabilities p) packet own to mine c in
    let number : number_of p.header.next_header ≡ n = number_read n p.header.next_header (ipv4_in packet).0.next_header
    (ap (λ (p : List ℕ). (ipv4_in p).0.next_header) e ∙ number_v4 summed (piece_header p) (piece_fragment p) p.fragment.octets) is in
    let r = record (piece_header p) { next_header = protocol_of n } in
    let text = e ∙ text_as summed (piece_header p) (piece_fragment p) p.fragment.octets n number
    ∙ sym (append-nil (ipv4.header_text summed r (piece_fragment p) ++ p.fragment.octets)) in
    let again = (ipv4_again.read_again false summed r (piece_fragment p) p.fragment.octets [] (part_if.header number) refl (λ x. absurd cc)).1 in
    two_ways (is_fragment (ipv4_in packet).1)
    (ap (λ (p : List ℕ). is_fragment (ipv4_in p).1) text ∙ ap (λ (x : Ipv4Repr × Ipv4Fragment × List ℕ). is_fragment x.1) again
    ∙ part_if.part number) part
piece_none n m H p own to part_if h x octets mine (OverIpv6 packet c is is_x is_octets) =
    other_packet_v6 m H.hardware_addr p.destination h (piece_text H.capabilities p) packet own to mine
    (version_four _ (piece_header p) (piece_fragment p) p.fragment.octets) c

-- the fragments of a packet that was cut into two or more are parts of it
part_is : (n : ℕ) (d : Datagram) (y : ℕ) (f : Fragment) → HasForm d → d.size ≡ y * 8 → 0 < d.size →
    d.size < length d.payload → IsPiece d.size d.payload f → IsPartIf n (piece_of d f)
part_is n d y f form size pos more piece =
    let within = (part_of d.size d.payload f pos piece).within in
    let payload = form.payload in
    record {
      part = λ e. is_part y d f size pos more piece;
      header = λ e. record {
        source = form.source_addr;
        destination = form.destination_addr;
        protocol = ap protocol_of (number_again n);
        payload_len = omega arith;
        identification = form.identification;
        offset = omega arith;
      };
    }

parts_are : (n : ℕ) (d : Datagram) (y : ℕ) (fs : List Fragment) → HasForm d → d.size ≡ y * 8 → 0 < d.size →
    d.size < length d.payload → ((f : Fragment) → IsIn f fs → IsPiece d.size d.payload f) → AllByRecursion (IsPartIf n) (map (piece_of d) fs)
parts_are n d y [] form size pos more pieces = tt
parts_are n d y (f ∷ fs) form size pos more pieces =
    (part_is n d y f form size pos more (pieces f (inl refl)), parts_are n d y fs form size pos more (λ g i. pieces g (inr i)))

pub pieces_are : (n : ℕ) (d : Datagram) (y : ℕ) → HasForm d → d.size ≡ y * 8 → 0 < d.size →
    d.size < length d.payload → AllByRecursion (IsPartIf n) (pieces_of d)
pieces_are n d y form size pos more =
    parts_are n d y (cut d.size d.payload) form size pos more (λ f i. piece_in d.size d.payload f (contains_in (cut d.size d.payload) f i))

-- what a raw socket has to send says how long it is, and its protocol is one that is read
pub record IsWhole (x : Sent) : Type 0 where
  pub protocol : protocol_of (number_of (next_header x.header)) ≡ next_header x.header
  pub len : payload_len x.header ≡ length x.payload

slice_len : (xs : List ℕ) (a b : ℕ) → a ≤ b → b ≤ length xs → length (slice_range xs a b) ≡ b - a
slice_len xs a b low high =
    let one = length-take (b - a) (drop a xs) in
    let two = length-drop a xs in
    omega arith

bounds_v4 : (l v h t : ℕ) → (nat_le 20 l && (v == 4) && nat_le 20 h && nat_le h t && nat_le t l) ≡ true → (h ≤ t) × (t ≤ l)
bounds_v4 l v h t e = (grind (arith, nat_tests), grind (arith, nat_tests))

bounds_v6 : (l v t : ℕ) → (nat_le 40 l && (v == 6) && nat_le t l) ≡ true → t ≤ l
bounds_v6 l v t e = grind (arith, nat_tests)

read_whole : (v : IpVersion) (octets : List ℕ) (x : Sent) → raw.packet_in v octets ≡ Some x → IsWhole x
read_whole version.Ipv4 octets x e = by (raw.is_ipv4 octets) refl e where
  by : (b : Bool) → raw.is_ipv4 octets ≡ b → cond b (Some (raw.ipv4_in octets)) None ≡ Some x → IsWhole x
  by true t q =
      let is : raw.ipv4_in octets ≡ x = cc in
      let b = bounds_v4 (length octets) (slice_index octets 0 / 16) (ipv4.header_len octets) (ipv4.total_len octets) t in
      subst IsWhole is (record {
        protocol = ap protocol_of (number_again (slice_index octets 9));
        len = sym (slice_len octets (ipv4.header_len octets) (ipv4.total_len octets) b.0 b.1);
      })
  by false t q = absurd cc
read_whole version.Ipv6 octets x e = by (raw.is_ipv6 octets) refl e where
  by : (b : Bool) → raw.is_ipv6 octets ≡ b → cond b (Some (raw.ipv6_in octets)) None ≡ Some x → IsWhole x
  by true t q =
      let is : raw.ipv6_in octets ≡ x = cc in
      let b = bounds_v6 (length octets) (slice_index octets 0 / 16) (ipv6.end octets) t in
      let n = slice_len octets 40 (ipv6.end octets) (omega arith) b in
      subst IsWhole is (record { protocol = ap protocol_of (number_again (slice_index octets 6)); len = omega (arith, n) })
  by false t q = absurd cc

spoken_is : (s : RawSocket) (o : Option Sent) (x : Sent) → option_and_then (raw.if_spoken s) o ≡ Some x → o ≡ Some x
spoken_is s None x e = absurd cc
spoken_is s (Some y) x e = by (number_of s.protocol == number_of (next_header y.header)) e where
  by : (b : Bool) → cond b (Some y) None ≡ Some x → Some y ≡ Some x
  by true q = q
  by false q = absurd cc

pub sent_whole : (s : RawSocket) (octets : List ℕ) (x : Sent) → raw.packet_to_send s octets ≡ Some x → IsWhole x
sent_whole s octets x e = read_whole s.version octets x (spoken_is s (raw.packet_in s.version octets) x e)

-- its packet, with the header written anew
abbrev pub packet_for : Sent → Packet
packet_for x = packet_with x.header (packet.Raw (next_header x.header) x.payload)

-- what a host on the medium reads of it
pub record IsReadAs (r : IpRepr) (octets : List ℕ) (x : Sent) : Type 0 where
  pub header_is : r ≡ x.header
  pub payload_is : octets ≡ x.payload

module _ (n : ℕ) (m : Medium) (H : Host) (far h : HardwareAddress) (own : IsOf m H.hardware_addr) (to : IsOf m far) (mine : IsOf m h) where
  read_v4 : (hd : Ipv4Repr) (payload : List ℕ) → IsWhole (record { header = repr.Ipv4 hd; payload = payload }) →
      IsFormed (packet_for (record { header = repr.Ipv4 hd; payload = payload })) → (r : IpRepr) (octets : List ℕ) →
      Reads n h (ip_frame H far (packet_for (record { header = repr.Ipv4 hd; payload = payload }))) r octets →
      IsReadAs r octets (record { header = repr.Ipv4 hd; payload = payload })
  read_v4 hd payload w formed r octets (OverIpv4 text c part is is_r is_octets) =
      let q = record hd { payload_len = length payload } in
      let summed = is_tx H.capabilities.checksum.ipv4 in
      let e : text ≡ ipv4.header_text summed q whole ++ payload =
      same_packet m H.hardware_addr far h (ipv4.header_text summed q whole ++ payload) text own to mine c in
      let form : ipv4.IsHeader q whole = record {
        source = formed.source;
        destination = formed.destination;
        protocol = w.protocol;
        payload_len = formed.len;
        identification = omega arith;
        offset = omega arith;
      } in
      let again : ipv4_in text ≡ (q, whole, payload) = ap ipv4_in e ∙ v4_again summed q payload form refl in
      let same : q ≡ hd = ap (λ l. record hd { payload_len = l }) (sym w.len) in
      record {
        header_is = is_r ∙ ap (λ (x : Ipv4Repr × Ipv4Fragment × List ℕ). repr.Ipv4 x.0) again ∙ ap repr.Ipv4 same;
        payload_is = is_octets ∙ ap (λ (x : Ipv4Repr × Ipv4Fragment × List ℕ). x.2) again;
      }
  read_v4 hd payload w formed r octets (OverIpv6 text c is is_r is_octets) =
      absurd (other_packet_v6 m H.hardware_addr far h _ text own to mine (version_four _ _ whole _) c)

  read_v6 : (hd : Ipv6Repr) (payload : List ℕ) → IsWhole (record { header = repr.Ipv6 hd; payload = payload }) →
      IsFormed (packet_for (record { header = repr.Ipv6 hd; payload = payload })) → (r : IpRepr) (octets : List ℕ) →
      Reads n h (ip_frame H far (packet_for (record { header = repr.Ipv6 hd; payload = payload }))) r octets →
      IsReadAs r octets (record { header = repr.Ipv6 hd; payload = payload })
  read_v6 hd payload w formed r octets (OverIpv4 text c part is is_r is_octets) =
      absurd (other_packet m H.hardware_addr far h _ text own to mine (version_six _ _) c)
  read_v6 hd payload w formed r octets (OverIpv6 text c is is_r is_octets) =
      let q = record hd { payload_len = length payload } in
      let e : text ≡ ipv6.header_text q ++ payload = same_packet_v6 m H.hardware_addr far h (ipv6.header_text q ++ payload) text own to mine c in
      let form : ipv6.IsHeader q =
      record { source = formed.source; destination = formed.destination; protocol = w.protocol; payload_len = formed.len } in
      let again : ipv6_in text ≡ (q, payload) = ap ipv6_in e ∙ v6_again q payload form refl in
      let same : q ≡ hd = ap (λ l. record hd { payload_len = l }) (sym w.len) in
      record {
        header_is = is_r ∙ ap (λ (x : Ipv6Repr × List ℕ). repr.Ipv6 x.0) again ∙ ap repr.Ipv6 same;
        payload_is = is_octets ∙ ap (λ (x : Ipv6Repr × List ℕ). x.1) again;
      }

  pub raw_read : (header : IpRepr) (payload : List ℕ) → IsWhole (record { header = header; payload = payload }) →
      IsFormed (packet_for (record { header = header; payload = payload })) → (r : IpRepr) (octets : List ℕ) →
      Reads n h (ip_frame H far (packet_for (record { header = header; payload = payload }))) r octets →
      IsReadAs r octets (record { header = header; payload = payload })
  raw_read (repr.Ipv4 hd) payload w formed r octets b = read_v4 hd payload w formed r octets b
  raw_read (repr.Ipv6 hd) payload w formed r octets b = read_v6 hd payload w formed r octets b
