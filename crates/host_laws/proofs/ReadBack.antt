-- What a host on the medium reads in the packet of a departure.
use Rattle.std.proofs.Common.{◌≡◌, ℕ, ◌<◌, Bool, false, List, [], ◌++◌, length, take_at, refl, ◌∙◌, ap, subst, Some, arith}
use Rattle.std.specs.Prelude.{◌+◌, ◌-◌, ◌*◌, ◌/◌, ◌%◌, ◌^◌, slice_range, take}
use Rattle.std.proofs.lemmas.List.{append-nil}
use Rattle.net_base.specs.Checksum.{is_tx}
use Rattle.net_base.specs.declared.phy.Medium.{Medium}
use Rattle.ip_address.specs.declared.hardware.HardwareAddress.{HardwareAddress}
use Rattle.ip_address.specs.declared.ip.IpAddress.{IpAddress}
use Rattle.ip_address.specs.declared.ip.IpAddress.TheVariants as address
use Rattle.ip_address.specs.declared.ipv4.Ipv4Address.{Ipv4Address}
use Rattle.ip_address.specs.declared.ipv6.Ipv6Address.{Ipv6Address}
use Rattle.ip_address.specs.Hardware.{IsOf}
use Rattle.ip_address.specs.Protocol.{number_of}
use Rattle.ip_wire.specs.declared.ip_packet.IpRepr.{IpRepr}
use Rattle.ip_wire.specs.declared.ip_packet.IpRepr.TheVariants as repr
use Rattle.ip_wire.specs.declared.ipv4_packet.Ipv4Repr.{Ipv4Repr}
use Rattle.ip_wire.specs.declared.ipv4_packet.Ipv4Fragment.{Ipv4Fragment}
use Rattle.ip_wire.specs.declared.udp.UdpRepr.{UdpRepr}
use Rattle.ip_wire.specs.IpPacket.{src_addr, dst_addr}
use Rattle.ip_wire.specs.Ipv4Packet.{ipv4_in, whole}
use Rattle.ip_wire.specs.Ipv4Packet as ipv4
use Rattle.ip_wire.specs.Udp.{udp_in, udp_len}
use Rattle.ip_wire.specs.Udp as udp
use Rattle.ip_wire.proofs.Ipv4Again as ipv4_again
use Rattle.ip_wire.specs.declared.ipv6_packet.Ipv6Repr.{Ipv6Repr}
use Rattle.ip_wire.specs.Ipv6Packet.{ipv6_in}
use Rattle.ip_wire.specs.Ipv6Packet as ipv6
use Rattle.ip_wire.proofs.Ipv6Again as ipv6_again
use Rattle.host_machine.specs.Context.Host.{Host}
use Rattle.host_machine.specs.Packet.Packet.{Packet, PacketV4, PacketV6, IpPayload, Udp, IsFormed}
use Rattle.host_machine.specs.Packet.Packet.{IsFormedV4, IsFormedV6, header_v4, header_v6, payload_len}
use Rattle.host_machine.specs.Packet.Packet as packet
use Rattle.host_machine.specs.Packet.Frame.{ip_frame, packet_text, payload_text}
use Rattle.host_machine.specs.Sockets.Offers.{packet_between}
use Rattle.host_laws.proofs.Receive.FrameReading.{same_packet, other_packet, version_six}
use Rattle.host_laws.specs.Deliveries.{BringsPacket}
use Rattle.host_laws.specs.Deliveries as spec
use Rattle.host_laws.proofs.TurnDepartures.{datagram_len}
use Rattle.host_laws.proofs.FramesWithoutUdp.{number_v6, other_packet_v6, same_packet_v6, version_four}

-- octets behind a header are read as a datagram between two addresses, with these ports and this payload
pub record IsRead (r : IpRepr) (octets : List ℕ) (src dst : IpAddress) (ports : UdpRepr) (payload : List ℕ) : Type 0 where
  pub source : src_addr r ≡ src
  pub destination : dst_addr r ≡ dst
  pub values : udp_in octets ≡ (ports, payload)

-- a datagram's text is read as its values, whether its checksum is there or not
total : (n : ℕ) → n < 2 ^ 16 → n / 256 % 256 * 256 + n % 256 ≡ n
total n lt = omega arith

made : (r : UdpRepr) (s d : ℕ) (xs ys : List ℕ) → s ≡ r.src_port → d ≡ r.dst_port → xs ≡ ys →
    ◌≡◌ {A = UdpRepr × List ℕ} (record { src_port = s; dst_port = d }, xs) (r, ys)
made r s d xs ys es ed e = rw (es, ed, e) refl

pub udp_again : (summed : Bool) (src dst : IpAddress) (r : UdpRepr) (payload : List ℕ) →
    r.src_port < 2 ^ 16 → r.dst_port < 2 ^ 16 → 8 + length payload < 2 ^ 16 →
    udp_in (udp.text summed src dst r payload) ≡ (r, payload)
unfolding udp.header_with
udp_again summed src dst r payload source destination len =
    let octets = udp.text summed src dst r payload in
    let t : udp_len octets ≡ 8 + length payload = total (8 + length payload) len in
    let n : udp_len octets - 8 ≡ length payload = omega (arith, t) in
    let part : slice_range octets 8 (udp_len octets) ≡ payload = rw n (take_all payload) in
    made r _ _ _ _ (total r.src_port source) (total r.dst_port destination) part where
      take_all : (xs : List ℕ) → take (length xs) xs ≡ xs
      take_all xs = subst (λ ys. take (length xs) ys ≡ xs) (append-nil xs) (take_at xs [] _ refl)

-- a datagram's packet, by the family of its addresses
pub data InFamily (src dst : IpAddress) (hop_limit : ℕ) (payload : IpPayload) (p : Packet) : Type 0 where
  V4 : (a b : Ipv4Address) → src ≡ address.Ipv4 a → dst ≡ address.Ipv4 b →
      p ≡ packet.Ipv4 (record { src_addr = a; dst_addr = b; hop_limit = hop_limit; payload = payload }) → InFamily src dst hop_limit payload p
  V6 : (a b : Ipv6Address) → src ≡ address.Ipv6 a → dst ≡ address.Ipv6 b →
      p ≡ packet.Ipv6 (record { src_addr = a; dst_addr = b; hop_limit = hop_limit; payload = payload }) → InFamily src dst hop_limit payload p

pub in_family : (src dst : IpAddress) (hop_limit : ℕ) (payload : IpPayload) (p : Packet) →
    packet_between src dst hop_limit payload ≡ Some p → InFamily src dst hop_limit payload p
in_family (address.Ipv4 a) (address.Ipv4 b) hop_limit payload p e = V4 a b refl refl cc
in_family (address.Ipv4 a) (address.Ipv6 b) hop_limit payload p e = absurd cc
in_family (address.Ipv6 a) (address.Ipv4 b) hop_limit payload p e = absurd cc
in_family (address.Ipv6 a) (address.Ipv6 b) hop_limit payload p e = V6 a b refl refl cc

-- a packet of IPv4 is read as it was written
pub v4_again : (summed : Bool) (r : Ipv4Repr) (payload : List ℕ) → ipv4.IsHeader r whole → length payload ≡ r.payload_len →
    ipv4_in (ipv4.header_text summed r whole ++ payload) ≡ (r, whole, payload)
v4_again summed r payload h len =
    subst (λ os. ipv4_in os ≡ (r, whole, payload)) (append-nil (ipv4.header_text summed r whole ++ payload))
    (ipv4_again.read_again false summed r whole payload [] h len (λ x. absurd cc)).1

pub v6_again : (r : Ipv6Repr) (payload : List ℕ) → ipv6.IsHeader r → length payload ≡ r.payload_len →
    ipv6_in (ipv6.header_text r ++ payload) ≡ (r, payload)
v6_again r payload h len =
    subst (λ os. ipv6_in os ≡ (r, payload)) (append-nil (ipv6.header_text r ++ payload)) (ipv6_again.read_again r payload [] h len).1

module _ (m : Medium) (H : Host) (h : HardwareAddress) (own : IsOf m H.hardware_addr) (far : IsOf m h) (K : Host) (mine : IsOf m K.hardware_addr)
    (ports : UdpRepr) (payload : List ℕ) (hop_limit : ℕ) where
  read_v4 : (a b : Ipv4Address) →
      IsFormedV4 (record { src_addr = a; dst_addr = b; hop_limit = hop_limit; payload = Udp ports payload }) → (r : IpRepr) (octets : List ℕ) →
      BringsPacket K (ip_frame H h (packet.Ipv4 (record { src_addr = a; dst_addr = b; hop_limit = hop_limit; payload = Udp ports payload })))
      r octets → IsRead r octets (address.Ipv4 a) (address.Ipv4 b) ports payload
  read_v4 a b formed r octets (spec.OverIpv4 text c i may part next is_r is_octets) =
      let p : PacketV4 = record { src_addr = a; dst_addr = b; hop_limit = hop_limit; payload = Udp ports payload } in
      let body : List ℕ = payload_text H.capabilities (repr.Ipv4 (header_v4 p)) (Udp ports payload) in
      let summed = is_tx H.capabilities.checksum.ipv4 in
      let e : text ≡ packet_text H.capabilities (packet.Ipv4 p) =
      same_packet m H.hardware_addr h K.hardware_addr (packet_text H.capabilities (packet.Ipv4 p)) text own far mine c in
      let len : length body ≡ payload_len (Udp ports payload) =
      datagram_len (is_tx H.capabilities.checksum.udp) (address.Ipv4 a) (address.Ipv4 b) ports payload in
      let form : ipv4.IsHeader (header_v4 p) whole = record {
        source = formed.source;
        destination = formed.destination;
        protocol = refl;
        payload_len = formed.len;
        identification = omega arith;
        offset = omega arith;
      } in
      let again : ipv4_in text ≡ (header_v4 p, whole, body) = ap ipv4_in e ∙ v4_again summed (header_v4 p) body form len in
      let short = formed.len in
      record {
        source = ap src_addr is_r ∙ ap (λ (x : Ipv4Repr × Ipv4Fragment × List ℕ). address.Ipv4 x.0.src_addr) again;
        destination = ap dst_addr is_r ∙ ap (λ (x : Ipv4Repr × Ipv4Fragment × List ℕ). address.Ipv4 x.0.dst_addr) again;
        values = ap udp_in (is_octets ∙ ap (λ (x : Ipv4Repr × Ipv4Fragment × List ℕ). x.2) again)
            ∙ udp_again (is_tx H.capabilities.checksum.udp) (address.Ipv4 a)
            (address.Ipv4 b) ports payload formed.ports.0 formed.ports.1 (omega (arith, short));
      }
  read_v4 a b formed r octets (spec.OverIpv6 text c i u next is_r is_octets) =
      absurd (other_packet_v6 m H.hardware_addr h K.hardware_addr _ text own far mine (version_four _ _ whole _) c)
  read_v4 a b formed r octets (spec.AfterOptions text c i u z o skip next is_r is_octets) =
      absurd (other_packet_v6 m H.hardware_addr h K.hardware_addr _ text own far mine (version_four _ _ whole _) c)

  read_v6 : (a b : Ipv6Address) →
      IsFormedV6 (record { src_addr = a; dst_addr = b; hop_limit = hop_limit; payload = Udp ports payload }) → (r : IpRepr) (octets : List ℕ) →
      BringsPacket K (ip_frame H h (packet.Ipv6 (record { src_addr = a; dst_addr = b; hop_limit = hop_limit; payload = Udp ports payload })))
      r octets → IsRead r octets (address.Ipv6 a) (address.Ipv6 b) ports payload
  read_v6 a b formed r octets (spec.OverIpv4 text c i may part next is_r is_octets) =
      absurd (other_packet m H.hardware_addr h K.hardware_addr _ text own far mine (version_six _ _) c)
  read_v6 a b formed r octets (spec.OverIpv6 text c i u next is_r is_octets) =
      let p : PacketV6 = record { src_addr = a; dst_addr = b; hop_limit = hop_limit; payload = Udp ports payload } in
      let body : List ℕ = payload_text H.capabilities (repr.Ipv6 (header_v6 p)) (Udp ports payload) in
      let e : text ≡ packet_text H.capabilities (packet.Ipv6 p) =
      same_packet_v6 m H.hardware_addr h K.hardware_addr (packet_text H.capabilities (packet.Ipv6 p)) text own far mine c in
      let len : length body ≡ payload_len (Udp ports payload) =
      datagram_len (is_tx H.capabilities.checksum.udp) (address.Ipv6 a) (address.Ipv6 b) ports payload in
      let form : ipv6.IsHeader (header_v6 p) =
      record { source = formed.source; destination = formed.destination; protocol = refl; payload_len = formed.len } in
      let again : ipv6_in text ≡ (header_v6 p, body) = ap ipv6_in e ∙ v6_again (header_v6 p) body form len in
      let short = formed.len in
      record {
        source = ap src_addr is_r ∙ ap (λ (x : Ipv6Repr × List ℕ). address.Ipv6 x.0.src_addr) again;
        destination = ap dst_addr is_r ∙ ap (λ (x : Ipv6Repr × List ℕ). address.Ipv6 x.0.dst_addr) again;
        values = ap udp_in (is_octets ∙ ap (λ (x : Ipv6Repr × List ℕ). x.1) again)
            ∙ udp_again (is_tx H.capabilities.checksum.udp) (address.Ipv6 a)
            (address.Ipv6 b) ports payload formed.ports.0 formed.ports.1 (omega (arith, short));
      }
  read_v6 a b formed r octets (spec.AfterOptions text c i u z o skip next is_r is_octets) =
      let p : PacketV6 = record { src_addr = a; dst_addr = b; hop_limit = hop_limit; payload = Udp ports payload } in
      let e : text ≡ packet_text H.capabilities (packet.Ipv6 p) =
      same_packet_v6 m H.hardware_addr h K.hardware_addr (packet_text H.capabilities (packet.Ipv6 p)) text own far mine c in
      let n : number_of (ipv6_in text).0.next_header ≡ 17 = ap (λ (t : List ℕ). number_of (ipv6_in t).0.next_header) e
      ∙ ap number_of (number_v6 (header_v6 p) _) in
      absurd (omega (arith, n, z))

  -- a packet of a datagram is read as that
  pub read_whole : (src dst : IpAddress) (p : Packet) → packet_between src dst hop_limit (Udp ports payload) ≡ Some p → IsFormed p →
      (r : IpRepr) (octets : List ℕ) → BringsPacket K (ip_frame H h p) r octets →
      IsRead r octets src dst ports payload
  read_whole src dst p e formed r octets b = by (in_family src dst hop_limit (Udp ports payload) p e) where
    by : InFamily src dst hop_limit (Udp ports payload) p → IsRead r octets src dst ports payload
    by (V4 a c s d is) = rw (s, d) (read_v4 a c (subst IsFormed is formed) r octets (subst (λ x. BringsPacket K (ip_frame H h x) r octets) is b))
    by (V6 a c s d is) = rw (s, d) (read_v6 a c (subst IsFormed is formed) r octets (subst (λ x. BringsPacket K (ip_frame H h x) r octets) is b))

-- the payload of a datagram's packet of IPv4 is read so
pub read_payload : (H : Host) (q : PacketV4) (ports : UdpRepr) (payload : List ℕ) →
    q.payload ≡ Udp ports payload → IsFormedV4 q → udp_in (payload_text H.capabilities (repr.Ipv4 (header_v4 q)) q.payload) ≡ (ports, payload)
read_payload H q ports payload is formed =
    let len : 20 + payload_len (Udp ports payload) < 2 ^ 16 = subst (λ x. 20 + payload_len x < 2 ^ 16) is formed.len in
    let fits : (ports.src_port < 2 ^ 16) × (ports.dst_port < 2 ^ 16) = subst packet.HasPorts is formed.ports in
    ap (λ x. udp_in (payload_text H.capabilities (repr.Ipv4 (header_v4 q)) x)) is
    ∙ udp_again (is_tx H.capabilities.checksum.udp) (address.Ipv4 q.src_addr)
    (address.Ipv4 q.dst_addr) ports payload fits.0 fits.1 (omega (arith, len))
