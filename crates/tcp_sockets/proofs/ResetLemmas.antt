-- A reset's packet is read as one with a reset, whatever its ends are.
use Rattle.std.proofs.Common.{◌≡◌, ◌∙◌, ℕ, ◌+◌, ◌-◌, ◌<◌, ◌^◌, Bool, true, false, List, [], ◌++◌, length, Option, Some, None}
use Rattle.std.proofs.Common.{refl, ap, subst, length-append, arith}
use Rattle.std.specs.Prelude.{◌==◌, slice_range, slice_index}
use Rattle.std.specs.Int.{w128, from_be_bytes, to_be_bytes}
use Rattle.std.proofs.lemmas.List.{append-nil, take_at}
use Rattle.ip_address.specs.declared.ip.IpAddress.{IpAddress}
use Rattle.ip_address.specs.declared.ip.IpAddress.TheVariants.{Ipv4, Ipv6}
use Rattle.ip_address.specs.declared.ipv4.Ipv4Address.{Ipv4Address}
use Rattle.ip_address.specs.declared.ipv6.Ipv6Address.{Ipv6Address}
use Rattle.ip_address.specs.declared.protocol.IpVersion.{IpVersion}
use Rattle.ip_address.specs.declared.protocol.IpVersion.TheVariants as version
use Rattle.ip_wire.specs.declared.ip_packet.IpRepr.{IpRepr}
use Rattle.ip_wire.specs.declared.ip_packet.IpRepr.TheVariants as repr
use Rattle.ip_wire.specs.declared.ipv4_packet.Ipv4Fragment.{Ipv4Fragment}
use Rattle.ip_wire.specs.declared.tcp.TcpControl.{TcpControl}
use Rattle.ip_wire.specs.declared.tcp.TcpControl.TheVariants as control
use Rattle.ip_wire.specs.declared.tcp.TcpSeqNumber.{TcpSeqNumber}
use Rattle.ip_wire.specs.Ipv4Packet as ipv4
use Rattle.ip_wire.specs.Ipv4Packet.{front, back, header_with}
use Rattle.ip_wire.specs.Tcp as tcp
use Rattle.ip_wire.specs.Tcp.{flags_of, ack_flag}
use Rattle.ip_wire.proofs.Ipv4Again.{total}
use Rattle.ip_wire.specs.Ipv6Packet as ipv6
use Rattle.ip_wire.specs.Ipv6Packet.{address_at, address_text}
use Rattle.sockets.specs.Raw.{Sent, packet_in, stored_packet}
use Rattle.tcp_wire.specs.declared.tcp.TcpRepr.{TcpRepr}
use Rattle.tcp_wire.specs.Tcp.{text, text_len, words_text}
use Rattle.tcp_wire.proofs.Lengths.{options_words}
use Rattle.tcp_connection.specs.declared.outgoing.Header.{Header}
use Rattle.tcp_sockets.specs.Reading.{IsReset, IsReadAsReset, ResetsAreReadAgain}
use Rattle.tcp_sockets.specs.Arrivals.{arrived_in, is_rst}
use Rattle.tcp_sockets.specs.Packets.{Segment, control_of, repr_of, ip_text, ipv4_header, ipv6_header}
use Rattle.tcp_sockets.specs.Sending.{version_of}
use Rattle.tcp_sockets.proofs.AgainLemmas.{read_v4, read_v6, v4_again, v6_again, length-text}

-- a header with TCP in its packet, whatever its addresses are, and what is read of it
module _ (src dst : Ipv4Address) (len hop_limit : ℕ) (payload : List ℕ) (is : length payload ≡ len) (few : 20 + len < 2 ^ 16) where
  abbrev sent_v4 : List ℕ
  sent_v4 = ipv4.header_text true (ipv4_header src dst len hop_limit) ipv4.whole ++ payload ++ []

  is_v4 : ipv4.IsIpv4 false sent_v4
  unfolding front back header_with
  is_v4 =
      let t = total (20 + len) few in record {
        whole = omega (arith, length-append payload []);
        version = refl;
        header = omega arith;
        header_fits = omega (arith, t);
        total_fits = omega (arith, t, is, length-append payload []);
        sum = λ yes. absurd cc;
      }

  payload_v4 : slice_range sent_v4 (ipv4.header_len sent_v4) (ipv4.total_len sent_v4) ≡ payload
  unfolding front back header_with
  payload_v4 =
      let t = total (20 + len) few in
      let n : ipv4.total_len sent_v4 - 20 ≡ length payload = omega (arith, t, is) in
      rw n (take_at payload [] _ refl)

  header_v4 : ipv4.IsHeader (ipv4.header_in sent_v4) ipv4.whole
  unfolding front back header_with
  header_v4 =
      let t = total (20 + len) few in record {
        source = omega arith;
        destination = omega arith;
        protocol = refl;
        payload_len = omega (arith, t, few);
        identification = omega arith;
        offset = omega arith;
      }

  fragment_v4 : ipv4.fragment_in sent_v4 ≡ ipv4.whole
  unfolding front back header_with
  fragment_v4 = refl

  len_v4 : length payload ≡ (ipv4.header_in sent_v4).payload_len
  unfolding front back header_with
  len_v4 = let t = total (20 + len) few in omega (arith, t, is)

-- sixteen octets are a number below 2^128
sixteen : (n : ℕ) → from_be_bytes w128 (to_be_bytes w128 n) < 2 ^ 128
sixteen n = omega arith

module _ (src dst : Ipv6Address) (len hop_limit : ℕ) (payload : List ℕ) (is : length payload ≡ len) (few : 20 + len < 2 ^ 16) where
  abbrev sent_v6 : List ℕ
  sent_v6 = ipv6.header_text (ipv6_header src dst len hop_limit) ++ payload ++ []

  is_v6 : ipv6.IsIpv6 sent_v6
  unfolding address_text ipv6.header_text
  is_v6 =
      let t = total len (omega (arith, few)) in record {
        whole = omega (arith, length-append payload []);
        version = refl;
        fits = omega (arith, t, is, length-append payload []);
      }

  payload_v6 : slice_range sent_v6 40 (ipv6.end sent_v6) ≡ payload
  unfolding address_text ipv6.header_text
  payload_v6 =
      let t = total len (omega (arith, few)) in
      let n : ipv6.end sent_v6 - 40 ≡ length payload = omega (arith, t, is) in
      rw n (take_at payload [] _ refl)

  header_v6 : ipv6.IsHeader (ipv6.header_in sent_v6)
  unfolding address_at address_text ipv6.header_text
  header_v6 =
      let t = total len (omega (arith, few)) in record {
        source = sixteen src.bits;
        destination = sixteen dst.bits;
        protocol = refl;
        payload_len = omega (arith, t, few);
      }

  len_v6 : length payload ≡ (ipv6.header_in sent_v6).payload_len
  unfolding address_text ipv6.header_text
  len_v6 = let t = total len (omega (arith, few)) in omega (arith, t, is)

-- what is read of a packet, and read again once it was stored
record IsRead (v : IpVersion) (octets payload : List ℕ) (h : IpRepr) : Type 0 where
  queued : packet_in v octets ≡ Some (record { header = h; payload = payload })
  stored : (summed : Bool) → packet_in v (stored_packet summed h payload) ≡ Some (record { header = h; payload = payload })

by_family : (src dst : IpAddress) (v : IpVersion) (len hop_limit : ℕ) (payload : List ℕ) → version_of src dst ≡ Some v →
    length payload ≡ len → 20 + len < 2 ^ 16 → (h : IpRepr) × IsRead v (ip_text src dst len hop_limit ++ payload) payload h
by_family (Ipv4 a) (Ipv4 b) v len hop_limit payload e is few =
    let same : version.Ipv4 ≡ v = cc in
    let octets = sent_v4 a b len hop_limit payload is few in
    let r = ipv4.header_in octets in
    let values : ipv4.ipv4_in octets ≡ (r, ipv4.fragment_in octets, payload) =
    ap (λ (xs : List ℕ). (r, ipv4.fragment_in octets, xs)) (payload_v4 a b len hop_limit payload is few) in
    let whole : ipv4.fragment_in octets ≡ ipv4.whole = fragment_v4 a b len hop_limit payload is few in (
      repr.Ipv4 r,
      subst (λ (x : IpVersion). IsRead x (ip_text (Ipv4 a) (Ipv4 b) len hop_limit ++ payload) payload (repr.Ipv4 r)) same (record {
        queued = subst (λ (os : List ℕ). packet_in version.Ipv4 os ≡ Some (record { header = repr.Ipv4 r; payload = payload }))
            (append-nil (ipv4.header_text true (ipv4_header a b len hop_limit) ipv4.whole ++ payload))
            (read_v4 octets r ipv4.whole payload (is_v4 a b len hop_limit payload is few)
            (values ∙ ap (λ (f : Ipv4Fragment). (r, f, payload)) whole));
        stored = λ summed. v4_again summed r payload (header_v4 a b len hop_limit payload is few) (len_v4 a b len hop_limit payload is few);
      }),
    )
by_family (Ipv4 a) (Ipv6 b) v len hop_limit payload e is few = absurd cc
by_family (Ipv6 a) (Ipv4 b) v len hop_limit payload e is few = absurd cc
by_family (Ipv6 a) (Ipv6 b) v len hop_limit payload e is few =
    let same : version.Ipv6 ≡ v = cc in
    let octets = sent_v6 a b len hop_limit payload is few in
    let r = ipv6.header_in octets in
    let values : ipv6.ipv6_in octets ≡ (r, payload) =
    ap (λ (xs : List ℕ). (r, xs)) (payload_v6 a b len hop_limit payload is few) in (
      repr.Ipv6 r,
      subst (λ (x : IpVersion). IsRead x (ip_text (Ipv6 a) (Ipv6 b) len hop_limit ++ payload) payload (repr.Ipv6 r)) same (record {
        queued = subst (λ (os : List ℕ). packet_in version.Ipv6 os ≡ Some (record { header = repr.Ipv6 r; payload = payload }))
            (append-nil (ipv6.header_text (ipv6_header a b len hop_limit) ++ payload))
            (read_v6 octets r payload (is_v6 a b len hop_limit payload is few) values);
        stored = λ summed. v6_again r payload (header_v6 a b len hop_limit payload is few) (len_v6 a b len hop_limit payload is few);
      }),
    )

-- the flags of a segment are one octet of its header
flags_at : (src dst : IpAddress) (r : TcpRepr) (payload : List ℕ) →
    slice_index (text true src dst r payload) 13 ≡ flags_of r.control + ack_flag r.ack_number
unfolding words_text
flags_at src dst r payload = refl

rst_flags : (ack : Option TcpSeqNumber) → is_rst (tcp.control_of (flags_of control.Rst + ack_flag ack)) ≡ true
unfolding tcp.control_of
rst_flags None = refl
rst_flags (Some n) = refl

-- the control of a reset is RST
rst_control : (h : Header) (is_empty : Bool) → h.rst ≡ true → h.syn ≡ false → control_of h is_empty ≡ control.Rst
rst_control h is_empty reset no_syn = rw (no_syn, reset) refl

module _ (s : Segment) (v : IpVersion) (f : IsReset s) (family : version_of s.endpoints.local_addr s.endpoints.remote_addr ≡ Some v) where
  abbrev src : IpAddress
  src = s.endpoints.local_addr

  abbrev dst : IpAddress
  dst = s.endpoints.remote_addr

  abbrev payload : List ℕ
  payload = text true src dst (repr_of s) s.octets

  resets : (h : IpRepr) → (arrived_in (record { header = h; payload = payload })).segment.rst ≡ true
  resets h =
      ap (λ (n : ℕ). is_rst (tcp.control_of n)) (flags_at src dst (repr_of s) s.octets)
      ∙ ap (λ (c : TcpControl). is_rst (tcp.control_of (flags_of c + ack_flag (repr_of s).ack_number)))
      (rst_control s.header (length s.octets == 0) f.rst f.no_syn)
      ∙ rst_flags (repr_of s).ack_number

  read : (h : IpRepr) × IsRead v (ip_text src dst (text_len (repr_of s) + length s.octets) s.hop_limit ++ payload) payload h →
      (p : Sent) × IsReadAsReset s v p
  read h = (record { header = h.0; payload = payload }, record { queued = h.1.queued; stored = h.1.stored; resets = resets h.0 })

  pub reset_again : (p : Sent) × IsReadAsReset s v p
  reset_again =
      let w = options_words (repr_of s).options in
      let few = f.octets in
      read (by_family src dst v (text_len (repr_of s) + length s.octets) s.hop_limit payload family (length-text src dst (repr_of s) s.octets)
      (omega (arith, w.0, few)))

pub resets_are_read_again : ResetsAreReadAgain
resets_are_read_again s v f family = reset_again s v f family
