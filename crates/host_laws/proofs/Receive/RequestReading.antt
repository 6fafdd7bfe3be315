-- Requests of other hosts are read from the octets of their frames.
use Rattle.std.proofs.Common.{◌≡◌, ◌⊎◌, inl, inr, ℕ, zero, suc, ◌*◌, ◌%◌, ◌+◌, List, [], ◌∷◌, drop, length, refl, sym}
use Rattle.std.proofs.Common.{◌∙◌, ap, subst, arith, false}
use Rattle.std.proofs.lemmas.List.{drop_all, length-drop}
use Rattle.std.proofs.lemmas.List.Elements.{All-nil, All-cons}
use Rattle.std.specs.List.{All}
use Rattle.std.specs.Prelude.{Bool, slice_index, slice_range, Some}
use Rattle.net_base.specs.Checksum.{is_rx}
use Rattle.ip_address.specs.declared.ethernet_address.EthernetAddress.{EthernetAddress}
use Rattle.ip_address.specs.declared.ip.IpAddress.TheVariants.{Ipv6}
use Rattle.ip_address.specs.declared.ipv6.Ipv6Address.{Ipv6Address}
use Rattle.ip_wire.specs.declared.ethernet.EthernetProtocol.{EthernetProtocol}
use Rattle.ip_wire.specs.Ethernet.{header_in}
use Rattle.ip_wire.specs.Ethernet as ethernet
use Rattle.ip_wire.specs.Ipv4Packet.{IsIpv4, is_fragment, ipv4_in}
use Rattle.ip_wire.specs.Ipv6Packet.{IsIpv6, ipv6_in}
use Rattle.ip_wire.specs.Ipv6Packet as packet_v6
use Rattle.control_wire.specs.Icmpv6.{IsIcmpv6, Neighbor}
use Rattle.control_wire.specs.NdiscOption.{AreOptions, IsOption, lladdr_in, last_of, options_from, options_in}
use Rattle.control_wire.specs.Icmpv4.{Request}
use Rattle.host_laws.specs.Laws.Service.{AfterHeader, IsTaken}
use Rattle.host_laws.specs.Laws.RequestOctets.{CarriesIcmp, IsFrameTo, IsSolicitation}
use Rattle.host_laws.specs.Laws.RequestOctets.{PingFramesAreRead, SolicitationFramesAreRead}
use Rattle.host_laws.proofs.Receive.ForeignFrames.{own_taken}

-- a frame to the host, or to many, is taken
first_of_range : (frame : List ℕ) → slice_index (slice_range frame 0 6) 0 ≡ slice_index frame 0
first_of_range [] = refl
first_of_range (x ∷ frame) = refl

taken : {own : EthernetAddress} {n : ℕ} {frame : List ℕ} (type : EthernetProtocol) → IsFrameTo own n frame → ethernet.protocol_of n ≡ type →
    IsTaken own type frame
taken {own} {n} {frame} type f is = record {
  whole = f.whole;
  to_host = own_taken own (header_in frame).dst_addr (by f.destination);
  of_type = ap ethernet.protocol_of f.of_type ∙ is;
} where
  by : (slice_range frame 0 6 ≡ own.0) ⊎ (slice_index frame 0 % 2 ≡ 1) →
      ((header_in frame).dst_addr.0 ≡ own.0) ⊎ (slice_index (header_in frame).dst_addr.0 0 % 2 ≡ 1)
  by (inl same) = inl same
  by (inr odd) = inr (ap (λ n. n % 2) (first_of_range frame) ∙ odd)

-- IPv4
whole_packet : {packet : List ℕ} → CarriesIcmp packet → is_fragment (ipv4_in packet).1 ≡ false
whole_packet p = rw (p.none_follow, p.none_precede) refl

pub pings_read : PingFramesAreRead
pings_read own H frame packet message is carries f p m from of_link to given = record {
  payload = message;
  in_packet = record {
    taken = taken _ f refl;
    is_packet = subst (IsIpv4 (is_rx H.capabilities.checksum.ipv4)) is (record {
      whole = p.whole;
      version = p.version;
      header = p.header;
      header_fits = p.header_fits;
      total_fits = p.total_fits;
      sum = λ on. p.sum;
    });
    header = ap (λ os. (ipv4_in os).0) (sym is);
    whole = ap (λ os. is_fragment (ipv4_in os).1) (sym is) ∙ whole_packet p;
    behind = ap (λ os. (ipv4_in os).2) (sym is) ∙ sym carries;
    sender = from;
    of_link = of_link;
    receiver = to;
    given = given;
  };
  protocol_is = rw p.protocol_is refl;
  is_message = record { whole_header = m.whole_header; sum = λ on. m.sum; body = Request m.type m.code };
  values = rw m.type refl;
}

-- an option of eight octets is the only one among eight octets
none_from : (n : ℕ) → options_from n [] ≡ []
unfolding options_from
none_from zero = refl
none_from (suc n) = refl

only_option : (octets : List ℕ) → length octets ≡ 8 → slice_index octets 1 ≡ 1 → options_in octets ≡ octets ∷ []
unfolding options_from
only_option [] long one = absurd cc
only_option (x ∷ xs) long one =
    let behind : drop (slice_index (x ∷ xs) 1 * 8) (x ∷ xs) ≡ [] = drop_all (slice_index (x ∷ xs) 1 * 8) (x ∷ xs) (omega (arith, long, one)) in
    ap (λ os. (x ∷ xs) ∷ options_from (length xs) os) behind ∙ ap (λ os. (x ∷ xs) ∷ os) (none_from (length xs))

is_option : (octets : List ℕ) → length octets ≡ 8 → slice_index octets 0 ≡ 1 → slice_index octets 1 ≡ 1 → IsOption octets
is_option octets long type one = record {
  header = omega (arith, long);
  some = omega (arith, one);
  fits = omega (arith, long, one);
  allowed = rw (type, one) refl;
}

are_options : (octets : List ℕ) → length octets ≡ 8 → slice_index octets 0 ≡ 1 → slice_index octets 1 ≡ 1 → AreOptions octets
are_options octets long type one = subst (All IsOption) (sym (only_option octets long one))
    (All-cons IsOption octets [] (is_option octets long type one) (All-nil IsOption))

address_read : (octets : List ℕ) → length octets ≡ 8 → slice_index octets 0 ≡ 1 → slice_index octets 1 ≡ 1 →
    lladdr_in 1 octets ≡ Some (record { 0 = slice_range octets 2 8 })
unfolding last_of
address_read octets long type one = rw (only_option octets long one, type) refl

-- IPv6
option_long : (message : List ℕ) → length message ≡ 32 → length (drop 24 message) ≡ 8
option_long message e = length-drop 24 message ∙ omega (arith, e)

message_read : (checked : Bool) (source destination : Ipv6Address) (message : List ℕ) → IsSolicitation source destination message →
    IsIcmpv6 checked (Ipv6 source) (Ipv6 destination) message
message_read checked source destination message m = record {
  whole_header = omega (arith, m.whole);
  sum = λ on. rw m.whole m.sum;
  body = Neighbor (record {
    whole = omega (arith, m.whole);
    type = inl m.type;
    code = m.code;
    options = are_options (drop 24 message) (option_long message m.whole) m.option m.units;
  });
}

pub solicitations_read : SolicitationFramesAreRead
solicitations_read own H frame packet message is carries f p m from near hardware_is for_host one given =
    let ends : packet_v6.end packet ≡ 72 = ap (λ n. 40 + n) p.len in
    let octets : (ipv6_in packet).1 ≡ message = ap (slice_range packet 40) ends ∙ sym carries in record {
      payload = message;
      in_packet = record {
        octets = message;
        packet = record {
          taken = taken _ f refl;
          is_packet = subst IsIpv6 is (record { whole = omega (arith, p.fits); version = p.version; fits = omega (arith, p.fits, ends) });
          values = ap ipv6_in (sym is) ∙ ap (λ os. (packet_v6.header_in packet, os)) octets;
          sender = from;
        };
        carried = AfterHeader (rw p.protocol_is refl) refl;
      };
      is_message = message_read _ _ _ message m;
      values = rw (m.type, address_read (drop 24 message) (option_long message m.whole) m.option m.units) refl;
      near = near;
      by_neighbor = p.hop_limit;
      hardware = hardware_is;
      target_is_one = one;
      for_host = for_host;
      target_is_own = given;
    }
