-- A segment's packet is read as that segment.
use Rattle.std.proofs.Common.{◌≡◌, ◌∙◌, ℕ, ◌+◌, ◌<◌, ◌≤◌, ◌^◌, Bool, true, false, List, [], ◌∷◌, ◌++◌, length, Option, Some, None, cond}
use Rattle.std.proofs.Common.{refl, sym, ap, subst, length-append, arith}
use Rattle.std.specs.Prelude.{nat_le, ◌==◌, ◌&&◌, ◌||◌}
use Rattle.std.specs.Option.{option_map}
use Rattle.std.proofs.lemmas.Bool.Decides.{nat_tests}
use Rattle.std.proofs.lemmas.List.{append-nil}
use Rattle.ip_address.specs.declared.ip.IpAddress.{IpAddress}
use Rattle.ip_address.specs.declared.ip.IpAddress.TheVariants.{Ipv4, Ipv6}
use Rattle.ip_address.specs.declared.cidr.IpCidr.{IpCidr}
use Rattle.ip_address.specs.declared.protocol.IpVersion.{IpVersion}
use Rattle.ip_address.specs.declared.protocol.IpVersion.TheVariants as version
use Rattle.ip_address.specs.Protocol.{number_of}
use Rattle.ip_wire.specs.declared.ip_packet.IpRepr.{IpRepr}
use Rattle.ip_wire.specs.declared.ip_packet.IpRepr.TheVariants as repr
use Rattle.ip_wire.specs.declared.ipv4_packet.Ipv4Repr.{Ipv4Repr}
use Rattle.ip_wire.specs.declared.ipv4_packet.Ipv4Fragment.{Ipv4Fragment}
use Rattle.ip_wire.specs.declared.tcp.TcpSeqNumber.{TcpSeqNumber}
use Rattle.ip_wire.specs.IpPacket.{src_addr, dst_addr, next_header, header_text}
use Rattle.ip_wire.specs.Ipv4Packet as ipv4
use Rattle.ip_wire.specs.Tcp.{IsTcp, IsHeader, ack_bits}
use Rattle.ip_wire.proofs.Ipv4Again as ipv4_again
use Rattle.ip_wire.specs.declared.ipv6_packet.Ipv6Repr.{Ipv6Repr}
use Rattle.ip_wire.specs.Ipv6Packet as ipv6
use Rattle.ip_wire.proofs.Ipv6Again as ipv6_again
use Rattle.sockets.specs.Raw.{Sent, packet_in, stored_packet}
use Rattle.sockets.specs.Raw as raw
use Rattle.tcp_wire.specs.declared.tcp.TcpRepr.{TcpRepr}
use Rattle.tcp_wire.specs.Options.{options_text, AreOptions}
use Rattle.tcp_wire.specs.Tcp.{text, text_len, tcp_in, header_with, words_of, words_text, sum_of}
use Rattle.tcp_wire.proofs.Lengths.{options_words}
use Rattle.tcp_wire.proofs.Sums.{length-words_text}
use Rattle.tcp_wire.proofs.TcpAgain as tcp_again
use Rattle.tcp_wire.proofs.TcpAgain.{IsReadButOptions}
use Rattle.tcp_machine.specs.declared.sack.SackBlock.{SackBlock}
use Rattle.tcp_sockets.specs.Reading.{ReadOptions, arrived_as, options_of, IsAddress, Fits, IsReadAgain, SegmentsAreReadAgain}
use Rattle.tcp_sockets.specs.Arrivals.{Arrived, HasSegment, arrived_in, blocks_of, endpoints_of, segment_of, is_for_host, is_syn, is_fin, is_rst}
use Rattle.tcp_sockets.specs.Packets.{Segment, control_of, ranges_of, repr_of, ip_text, ipv4_header, ipv6_header}
use Rattle.tcp_sockets.specs.Sending.{version_of}

-- octets that are a packet are read as it
v4_tests : (l v h t : ℕ) → 20 ≤ l → v ≡ 4 → 20 ≤ h → h ≤ t → t ≤ l →
    nat_le 20 l && (v == 4) && nat_le 20 h && nat_le h t && nat_le t l ≡ true
v4_tests l v h t a b c d e = grind (arith, nat_tests)

v6_tests : (l v t : ℕ) → 40 ≤ l → v ≡ 6 → t ≤ l → nat_le 40 l && (v == 6) && nat_le t l ≡ true
v6_tests l v t a b c = grind (arith, nat_tests)

pub read_v4 : (octets : List ℕ) (r : Ipv4Repr) (f : Ipv4Fragment) (payload : List ℕ) → ipv4.IsIpv4 false octets → ipv4.ipv4_in octets ≡ (r, f, payload) →
    packet_in version.Ipv4 octets ≡ Some (record { header = repr.Ipv4 r; payload = payload })
read_v4 octets r f payload is values =
    let tests : raw.is_ipv4 octets ≡ true =
    v4_tests (length octets) _ (ipv4.header_len octets) (ipv4.total_len octets) is.whole is.version is.header is.header_fits is.total_fits in
    let sent : Ipv4Repr × Ipv4Fragment × List ℕ → Sent = λ x. record { header = repr.Ipv4 x.0; payload = x.2 } in
    ap (λ (b : Bool). cond b (Some (raw.ipv4_in octets)) None) tests ∙ ap (λ (x : Ipv4Repr × Ipv4Fragment × List ℕ). Some (sent x)) values

pub read_v6 : (octets : List ℕ) (r : Ipv6Repr) (payload : List ℕ) → ipv6.IsIpv6 octets → ipv6.ipv6_in octets ≡ (r, payload) →
    packet_in version.Ipv6 octets ≡ Some (record { header = repr.Ipv6 r; payload = payload })
read_v6 octets r payload is values =
    let tests : raw.is_ipv6 octets ≡ true = v6_tests (length octets) _ (ipv6.end octets) is.whole is.version is.fits in
    let sent : Ipv6Repr × List ℕ → Sent = λ x. record { header = repr.Ipv6 x.0; payload = x.1 } in
    ap (λ (b : Bool). cond b (Some (raw.ipv6_in octets)) None) tests ∙ ap (λ (x : Ipv6Repr × List ℕ). Some (sent x)) values

pub v4_again : (summed : Bool) (r : Ipv4Repr) (payload : List ℕ) → ipv4.IsHeader r ipv4.whole → length payload ≡ r.payload_len →
    packet_in version.Ipv4 (ipv4.header_text summed r ipv4.whole ++ payload) ≡ Some (record { header = repr.Ipv4 r; payload = payload })
v4_again summed r payload h len =
    subst (λ (os : List ℕ). packet_in version.Ipv4 os ≡ Some (record { header = repr.Ipv4 r; payload = payload }))
    (append-nil (ipv4.header_text summed r ipv4.whole ++ payload))
    (let again = ipv4_again.read_again false summed r ipv4.whole payload [] h len (λ x. absurd cc) in
    read_v4 (ipv4.header_text summed r ipv4.whole ++ payload ++ []) r ipv4.whole payload again.0 again.1)

pub v6_again : (r : Ipv6Repr) (payload : List ℕ) → ipv6.IsHeader r → length payload ≡ r.payload_len →
    packet_in version.Ipv6 (ipv6.header_text r ++ payload) ≡ Some (record { header = repr.Ipv6 r; payload = payload })
v6_again r payload h len =
    subst (λ (os : List ℕ). packet_in version.Ipv6 os ≡ Some (record { header = repr.Ipv6 r; payload = payload }))
    (append-nil (ipv6.header_text r ++ payload))
    (let again = ipv6_again.read_again r payload [] h len in
    read_v6 (ipv6.header_text r ++ payload ++ []) r payload again.0 again.1)

-- a packet between two addresses, by their family
record IsPacket (src dst : IpAddress) (v : IpVersion) (len hop_limit : ℕ) (payload : List ℕ) (h : IpRepr) : Type 0 where
  text : ip_text src dst len hop_limit ≡ header_text true h
  stored : (summed : Bool) → packet_in v (stored_packet summed h payload) ≡ Some (record { header = h; payload = payload })
  source : src_addr h ≡ src
  destination : dst_addr h ≡ dst
  of_tcp : number_of (next_header h) ≡ 6

by_family : (src dst : IpAddress) (v : IpVersion) (len hop_limit : ℕ) (payload : List ℕ) → version_of src dst ≡ Some v →
    IsAddress src → IsAddress dst → length payload ≡ len → 20 + len < 2 ^ 16 → (h : IpRepr) × IsPacket src dst v len hop_limit payload h
by_family (Ipv4 a) (Ipv4 b) v len hop_limit payload e source destination is few =
    let same : version.Ipv4 ≡ v = cc in
    let r = ipv4_header a b len hop_limit in
    let h : ipv4.IsHeader r ipv4.whole = record {
      source = source;
      destination = destination;
      protocol = refl;
      payload_len = few;
      identification = omega arith;
      offset = omega arith;
    } in (
      repr.Ipv4 r,
      subst (λ (x : IpVersion). IsPacket (Ipv4 a) (Ipv4 b) x len hop_limit payload (repr.Ipv4 r)) same (record {
        text = refl;
        stored = λ summed. v4_again summed r payload h is;
        source = refl;
        destination = refl;
        of_tcp = refl;
      }),
    )
by_family (Ipv4 a) (Ipv6 b) v len hop_limit payload e source destination is few = absurd cc
by_family (Ipv6 a) (Ipv4 b) v len hop_limit payload e source destination is few = absurd cc
by_family (Ipv6 a) (Ipv6 b) v len hop_limit payload e source destination is few =
    let same : version.Ipv6 ≡ v = cc in
    let r = ipv6_header a b len hop_limit in
    let h : ipv6.IsHeader r = record { source = source; destination = destination; protocol = refl; payload_len = omega (arith, few) } in (
      repr.Ipv6 r,
      subst (λ (x : IpVersion). IsPacket (Ipv6 a) (Ipv6 b) x len hop_limit payload (repr.Ipv6 r)) same (record {
        text = refl;
        stored = λ summed. v6_again r payload h is;
        source = refl;
        destination = refl;
        of_tcp = refl;
      }),
    )

-- the length of a segment
pub length-text : (src dst : IpAddress) (r : TcpRepr) (octets : List ℕ) → length (text true src dst r octets) ≡ text_len r + length octets
length-text src dst r octets =
    let sum = sum_of true src dst r octets in
    omega (arith, length-append (header_with sum r) octets, length-append (words_text sum r) (options_text r.options), length-words_text sum r)

-- flags are read as they were
ack_again : (ack : Option ℕ) →
    option_map (λ (n : TcpSeqNumber). n.bits) (option_map (λ (n : ℕ). record { bits = n }) ack) ≡ ack
ack_again None = refl
ack_again (Some n) = refl

record FlagsAgain (number : ℕ) (ack : Option ℕ) (window : ℕ) (syn fin rst is_empty : Bool) : Type 0 where
  is_syn_again : is_syn (control_of (record { number = number; ack = ack; window = window; syn = syn; fin = fin; rst = rst }) is_empty) ≡ syn
  is_fin_again : is_fin (control_of (record { number = number; ack = ack; window = window; syn = syn; fin = fin; rst = rst }) is_empty) ≡ fin
  is_rst_again : is_rst (control_of (record { number = number; ack = ack; window = window; syn = syn; fin = fin; rst = rst }) is_empty) ≡ rst

flags : (number : ℕ) (ack : Option ℕ) (window : ℕ) (syn fin rst is_empty : Bool) → (syn || rst ≡ true → fin ≡ false) → (syn ≡ true → rst ≡ false) →
    FlagsAgain number ack window syn fin rst is_empty
flags number ack window true fin rst is_empty ends resets =
    record { is_syn_again = refl; is_fin_again = sym (ends refl); is_rst_again = sym (resets refl) }
flags number ack window false fin true is_empty ends resets =
    record { is_syn_again = refl; is_fin_again = sym (ends refl); is_rst_again = refl }
flags number ack window false true false is_empty ends resets =
    record { is_syn_again = refl; is_fin_again = refl; is_rst_again = refl }
flags number ack window false false false true ends resets =
    record { is_syn_again = refl; is_fin_again = refl; is_rst_again = refl }
flags number ack window false false false false ends resets =
    record { is_syn_again = refl; is_fin_again = refl; is_rst_again = refl }

few_bits : (ack : Option ℕ) → ((n : ℕ) → ack ≡ Some n → n < 2 ^ 32) → ack_bits (option_map (λ (n : ℕ). record { bits = n }) ack) < 2 ^ 32
few_bits None few = omega arith
few_bits (Some n) few = few n refl

-- so is a segment
made : (s : Segment) (o : ReadOptions) (src dst : IpAddress) (ack : Option ℕ) (syn fin rst : Bool) → src ≡ s.endpoints.local_addr → dst ≡ s.endpoints.remote_addr →
    ack ≡ s.header.ack → syn ≡ s.header.syn → fin ≡ s.header.fin → rst ≡ s.header.rst →
    ◌≡◌ {A = Arrived} (record {
      endpoints = record {
        local_addr = dst;
        local_port = s.endpoints.remote_port;
        remote_addr = src;
        remote_port = s.endpoints.local_port;
      };
      segment = record {
        number = s.header.number;
        ack = ack;
        window = s.header.window;
        syn = syn;
        fin = fin;
        rst = rst;
        mss = o.mss;
        scale = o.scale;
        sack_permitted = o.sack_permitted;
        blocks = o.blocks;
      };
      octets = s.octets;
    }) (arrived_as o s)
made s o src dst ack syn fin rst es ed ea ey ef er = rw (es, ed, ea, ey, ef, er) refl

-- blocks are read as they were sent
blocks_again : (bs : List (Option SackBlock)) → blocks_of (ranges_of bs) ≡ bs ++ None ∷ []
blocks_again [] = refl
blocks_again (None ∷ bs) = ap (λ (cs : List (Option SackBlock)). None ∷ cs) (blocks_again bs)
blocks_again (Some b ∷ bs) = ap (λ (cs : List (Option SackBlock)). Some b ∷ cs) (blocks_again bs)

module _ (s : Segment) (v : IpVersion) (f : Fits s) (family : version_of s.endpoints.local_addr s.endpoints.remote_addr ≡ Some v) where
  abbrev src : IpAddress
  src = s.endpoints.local_addr

  abbrev dst : IpAddress
  dst = s.endpoints.remote_addr

  abbrev r : TcpRepr
  r = repr_of s

  abbrev payload : List ℕ
  payload = text true src dst r s.octets

  short : text_len r ≤ 60
  short = let w = options_words r.options in omega (arith, w.0)

  len : length payload ≡ text_len r + length s.octets
  len = length-text src dst r s.octets

  packet : (h : IpRepr) × IsPacket src dst v (text_len r + length s.octets) s.hop_limit payload h
  packet = by_family src dst v (text_len r + length s.octets) s.hop_limit payload family f.ends.local_addr f.ends.remote_addr len
      (let few = f.octets in let l = short in omega (arith, few, l))

  header : IsHeader (words_of r)
  header = record {
    source = f.ends.local_port;
    some_source = f.ends.some_local;
    destination = f.ends.remote_port;
    some_destination = f.ends.some_remote;
    sequence = f.fields.number;
    acknowledgement = few_bits s.header.ack f.fields.ack;
    window = f.fields.window;
  }

  fits : text_len r + length s.octets < 2 ^ 16
  fits = let few = f.octets in let l = short in omega (arith, few, l)

  again : (checked : Bool) → IsReadButOptions checked src dst r s.octets
  again checked = tcp_again.read_but_options checked src dst r s.octets header fits

  -- the options that are read
  abbrev seen : TcpRepr → ReadOptions
  seen x = record {
    mss = x.options.max_seg_size;
    scale = x.options.window_scale;
    sack_permitted = x.options.sack_permitted;
    blocks = blocks_of x.options.sack_ranges;
  }

  abbrev read_options : ReadOptions
  read_options = seen (tcp_in payload).0

  own : AreOptions r.options → read_options ≡ options_of s
  own are =
      ap (λ (x : TcpRepr × List ℕ). seen x.0) (tcp_again.read_again false src dst r s.octets header are fits).1
      ∙ ap (λ (bs : List (Option SackBlock)). record (options_of s) { blocks = bs }) (blocks_again s.blocks)

  arrives : (h : IpRepr) → IsPacket src dst v (text_len r + length s.octets) s.hop_limit payload h →
      arrived_in (record { header = h; payload = payload }) ≡ arrived_as read_options s
  arrives h p =
      let sent : Sent = record { header = h; payload = payload } in
      let as_read : TcpRepr × List ℕ → Arrived = λ x. record { endpoints = endpoints_of sent x.0; segment = segment_of x.0; octets = x.1 } in
      let w = again false in
      let n = flags s.header.number s.header.ack s.header.window s.header.syn s.header.fin s.header.rst (length s.octets == 0)
      f.says_one.no_end f.says_one.no_reset in
      ap as_read w.values
      ∙ made s (seen (record r { options = w.options })) (src_addr h) (dst_addr h) _ _ _ _ p.source p.destination (ack_again s.header.ack)
      n.is_syn_again n.is_fin_again n.is_rst_again
      ∙ ap (λ (x : TcpRepr × List ℕ). arrived_as (seen x.0) s) (sym w.values)

  taken : (h : IpRepr) → IsPacket src dst v (text_len r + length s.octets) s.hop_limit payload h → (checked : Bool) (own : List IpCidr) →
      is_for_host own src dst ≡ true → HasSegment checked own (record { header = h; payload = payload })
  taken h p checked own is =
      let few = f.octets in
      let l = short in
      let n = len in record {
        of_tcp = p.of_tcp;
        for_host = ap (λ (x : IpAddress). is_for_host own x (dst_addr h)) p.source ∙ ap (λ (x : IpAddress). is_for_host own src x) p.destination ∙ is;
        most = omega (arith, few, l, n);
        segment = subst (λ (x : IpAddress). IsTcp checked (src_addr h) x payload) (sym p.destination)
            (subst (λ (x : IpAddress). IsTcp checked x dst payload) (sym p.source) (again checked).segment);
      }

  read : (h : IpRepr) × IsPacket src dst v (text_len r + length s.octets) s.hop_limit payload h → (p : Sent) × IsReadAgain s v p
  read h = (
    record { header = h.0; payload = payload },
    record {
      queued = ap (λ (t : List ℕ). packet_in v (t ++ payload)) h.1.text ∙ h.1.stored true;
      stored = h.1.stored;
      taken = taken h.0 h.1;
      options = read_options;
      arrives = arrives h.0 h.1;
      own_options = own;
    },
  )

  pub segment_again : (p : Sent) × IsReadAgain s v p
  segment_again = read packet

pub segments_are_read_again : SegmentsAreReadAgain
segments_are_read_again s v f family = segment_again s v f family
