-- Which octets the frames of replies have.
use Rattle.std.proofs.Common.{◌≡◌, ℕ, ◌+◌, ◌-◌, ◌/◌, ◌%◌, ◌*◌, ◌==◌, ◌⊎◌, inl, inr, Bool, true, List, [], ◌∷◌, ◌++◌, length, drop}
use Rattle.std.proofs.Common.{refl, sym, ◌∙◌, ap, subst, arith}
use Rattle.std.proofs.lemmas.List.{append-nil}
use Rattle.std.specs.Prelude.{take, slice_index, if◌then◌else◌}
use Rattle.net_base.specs.Checksum.{is_tx}
use Rattle.ip_wire.specs.Checksum.{folded_sum, word_sum}
use Rattle.ip_wire.specs.Octets.{u16_at}
use Rattle.ip_address.specs.declared.hardware.HardwareAddress.TheVariants as hardware
use Rattle.ip_wire.specs.declared.arp.ArpRepr.{ArpRepr}
use Rattle.ip_wire.specs.declared.arp.ArpOperation.TheVariants as operation
use Rattle.ip_wire.specs.declared.ethernet.EthernetRepr.{EthernetRepr}
use Rattle.ip_wire.specs.declared.ethernet.EthernetProtocol.TheVariants as protocol
use Rattle.ip_wire.specs.declared.ipv4_packet.Ipv4Repr.{Ipv4Repr}
use Rattle.ip_wire.specs.declared.ipv4_packet.Ipv4Fragment.{Ipv4Fragment}
use Rattle.ip_wire.specs.Ethernet.{IsHeader, header_text}
use Rattle.ip_wire.specs.Arp as arp
use Rattle.ip_wire.specs.Ipv4Packet.{IsIpv4, ipv4_in, quoted_in, whole, front, back, header_with}
use Rattle.ip_wire.specs.Ipv4Packet as ipv4
use Rattle.ip_wire.proofs.ArpAgain as arp_again
use Rattle.ip_wire.proofs.EthernetAgain as ethernet_again
use Rattle.ip_wire.proofs.Ipv4Again as ipv4_again
use Rattle.control_wire.specs.declared.icmpv4.Icmpv4Repr.{Icmpv4Repr}
use Rattle.control_wire.specs.declared.icmpv4.Icmpv4Repr.TheVariants.{EchoRequest, EchoReply, DstUnreachable, TimeExceeded}
use Rattle.control_wire.specs.Icmpv4.{IsBody, icmpv4_in, head_with, type_in}
use Rattle.control_wire.specs.Icmpv4 as icmpv4
use Rattle.control_wire.proofs.Icmpv4Again as icmpv4_again
use Rattle.host_machine.specs.Packet.Packet.{PacketV4, Icmpv4, header_v4}
use Rattle.host_machine.specs.Packet.Packet as packet
use Rattle.host_machine.specs.Packet.Frame.{ip_frame, link_header, packet_text}
use Rattle.host_laws.specs.Laws.Service.{arp_answer}
use Rattle.host_laws.specs.Laws.ReplyOctets.{ArpRequestsAreAnsweredByOctets, IsBetweenHosts, IsMessageBack}
use Rattle.host_laws.specs.Laws.ReplyOctets.{IsPacketBack, PingsAreAnsweredByOctets}
use Rattle.host_laws.proofs.Receive.FrameReplies.{arp_served, pings_served}

-- the octets of a frame's header, and what follows it
between : (r : EthernetRepr) (payload : List ℕ) → IsHeader r → IsBetweenHosts r.src_addr.0 r.dst_addr.0 r.ethertype (header_text r ++ payload)
between r payload h = let e = ethernet_again.read_again r payload h in record {
  to = ap (λ (x : EthernetRepr × List ℕ). x.0.dst_addr.0) e;
  from = ap (λ (x : EthernetRepr × List ℕ). x.0.src_addr.0) e;
  of_type = ap (λ (x : EthernetRepr × List ℕ). x.0.ethertype) e;
}

-- the octets of a header of IPv4
record HeaderOctets (r : Ipv4Repr) (text octets : List ℕ) : Type 0 where
  version : slice_index octets 0 / 16 ≡ 4
  header_len : slice_index octets 0 % 16 * 4 ≡ 20
  fragment : u16_at octets 6 ≡ 0x4000
  hop_limit : slice_index octets 8 ≡ r.hop_limit
  long : length octets ≡ 20 + length text
  behind : drop 20 octets ≡ text

header_octets : (summed : Bool) (r : Ipv4Repr) (text : List ℕ) → HeaderOctets r text (ipv4.header_text summed r whole ++ text)
unfolding front back header_with
header_octets summed r text = record {
  version = refl;
  header_len = refl;
  fragment = refl;
  hop_limit = refl;
  long = omega arith;
  behind = refl;
}

icmp_is : (summed : Bool) (p : PacketV4) (message : Icmpv4Repr) (octets text : List ℕ) → p.payload ≡ Icmpv4 message octets →
    slice_index (ipv4.header_text summed (header_v4 p) whole ++ text) 9 ≡ 1
unfolding front back header_with
icmp_is summed p message octets text is = rw is refl

v4_again : (summed : Bool) (r : Ipv4Repr) (payload : List ℕ) → summed ≡ true → ipv4.IsHeader r whole → length payload ≡ r.payload_len →
    IsIpv4 true (ipv4.header_text summed r whole ++ payload) × (ipv4_in (ipv4.header_text summed r whole ++ payload) ≡ (r, whole, payload))
v4_again summed r payload on h len =
    subst (λ os. IsIpv4 true os × (ipv4_in os ≡ (r, whole, payload))) (append-nil (ipv4.header_text summed r whole ++ payload))
    (ipv4_again.read_again true summed r whole payload [] h len (λ c. on))

-- the octets of an echo reply
record ReplyOctets (octets text : List ℕ) : Type 0 where
  type : slice_index text 0 ≡ 0
  code : slice_index text 1 ≡ 0
  data_are : drop 8 text ≡ octets
  len : length text ≡ 8 + length octets

reply_octets : (a b : Bool) (ident seq_no : ℕ) (octets : List ℕ) → ReplyOctets octets (icmpv4.text a b (EchoReply ident seq_no) octets)
unfolding head_with
reply_octets a b ident seq_no octets = record { type = refl; code = refl; data_are = refl; len = omega arith }

-- the fields of the request
record RequestOctets (ident seq_no : ℕ) (octets text : List ℕ) : Type 0 where
  identifier : u16_at text 4 ≡ ident
  sequence_number : u16_at text 6 ≡ seq_no
  data_are : drop 8 text ≡ octets

abbrev ident_of : Icmpv4Repr → ℕ
ident_of (EchoRequest ident seq_no) = ident
ident_of (EchoReply ident seq_no) = ident
ident_of (DstUnreachable reason header) = 0
ident_of (TimeExceeded code header) = 0

abbrev number_of : Icmpv4Repr → ℕ
number_of (EchoRequest ident seq_no) = seq_no
number_of (EchoReply ident seq_no) = seq_no
number_of (DstUnreachable reason header) = 0
number_of (TimeExceeded code header) = 0

-- of a message by its type
values_are : (n : ℕ) (message : Icmpv4Repr) (octets text : List ℕ) → icmpv4.type_in text ≡ n → icmpv4_in text ≡ (message, octets) →
    (n ≡ 8) ⊎ (n ≡ 0) → (u16_at text 4 ≡ ident_of message) × (u16_at text 6 ≡ number_of message) × (drop 8 text ≡ octets)
values_are n message octets text type e (inl eight) =
    let it : (EchoRequest (u16_at text 4) (u16_at text 6), drop 8 text) ≡ (message, octets) = rw (type, eight) at e in
    (ap (λ (x : Icmpv4Repr × List ℕ). ident_of x.0) it, ap (λ (x : Icmpv4Repr × List ℕ). number_of x.0) it, ap (λ (x : Icmpv4Repr × List ℕ). x.1) it)
values_are n message octets text type e (inr zero) =
    let it : (EchoReply (u16_at text 4) (u16_at text 6), drop 8 text) ≡ (message, octets) = rw (type, zero) at e in
    (ap (λ (x : Icmpv4Repr × List ℕ). ident_of x.0) it, ap (λ (x : Icmpv4Repr × List ℕ). number_of x.0) it, ap (λ (x : Icmpv4Repr × List ℕ). x.1) it)

-- the type of a message is that of its values
type_is : (message : Icmpv4Repr) (octets text : List ℕ) → IsBody text → icmpv4_in text ≡ (message, octets) → icmpv4.type_of message ≡ type_in text
type_is message octets text (icmpv4.Request type code) e =
    let it : (EchoRequest (u16_at text 4) (u16_at text 6), drop 8 text) ≡ (message, octets) = rw type at e in
    sym (ap (λ (x : Icmpv4Repr × List ℕ). icmpv4.type_of x.0) it) ∙ sym type
type_is message octets text (icmpv4.Reply type code) e =
    let it : (EchoReply (u16_at text 4) (u16_at text 6), drop 8 text) ≡ (message, octets) = rw type at e in
    sym (ap (λ (x : Icmpv4Repr × List ℕ). icmpv4.type_of x.0) it) ∙ sym type
type_is message octets text (icmpv4.Unreachable type q) e =
    let it : (DstUnreachable (icmpv4.reason_of (icmpv4.code_in text)) (quoted_in (drop 8 text)).0, (quoted_in (drop 8 text)).1) ≡ (message, octets) =
    rw type at e in
    sym (ap (λ (x : Icmpv4Repr × List ℕ). icmpv4.type_of x.0) it) ∙ sym type
type_is message octets text (icmpv4.Exceeded type q) e =
    let it : (TimeExceeded (icmpv4.code_in text) (quoted_in (drop 8 text)).0, (quoted_in (drop 8 text)).1) ≡ (message, octets) = rw type at e in
    sym (ap (λ (x : Icmpv4Repr × List ℕ). icmpv4.type_of x.0) it) ∙ sym type

request_octets : (ident seq_no : ℕ) (octets text : List ℕ) → IsBody text → icmpv4_in text ≡ (EchoRequest ident seq_no, octets) →
    RequestOctets ident seq_no octets text
request_octets ident seq_no octets text body e =
    let v = values_are 8 (EchoRequest ident seq_no) octets text (sym (type_is (EchoRequest ident seq_no) octets text body e)) e (inl refl) in
    record { identifier = v.0; sequence_number = v.1; data_are = v.2 }

reply_fields : (ident seq_no : ℕ) (octets text : List ℕ) → slice_index text 0 ≡ 0 → icmpv4_in text ≡ (EchoReply ident seq_no, octets) →
    (u16_at text 4 ≡ ident) × (u16_at text 6 ≡ seq_no)
reply_fields ident seq_no octets text type e =
    let v = values_are 0 (EchoReply ident seq_no) octets text type e (inr refl) in (v.0, v.1)

pub pings_by_octets : PingsAreAnsweredByOctets
pings_by_octets t old new told own h frame r ident seq_no octets w itself p reach f fits short headers messages =
    let gone = pings_served t old new told (hardware.Ethernet own) frame r ident seq_no octets (hardware.Ethernet h) w itself p reach fits in
    let echo : PacketV4 = record {
      src_addr = r.dst_addr;
      dst_addr = r.src_addr;
      hop_limit = 64;
      payload = Icmpv4 (EchoReply ident seq_no) octets;
    } in
    let q : Ipv4Repr = header_v4 echo in
    let summed = is_tx old.capabilities.checksum.ipv4 in
    let text : List ℕ = icmpv4.text (is_tx old.capabilities.checksum.icmpv4) summed (EchoReply ident seq_no) octets in
    let link : EthernetRepr = record { src_addr = own; dst_addr = h; ethertype = protocol.Ipv4 } in
    let body : List ℕ = ipv4.header_text summed q whole ++ text in
    let reply : List ℕ = header_text link ++ body in
    let frame_is : ip_frame old (hardware.Ethernet h) (packet.Ipv4 echo) ≡ reply =
    ap (λ x. link_header x (hardware.Ethernet h) protocol.Ipv4 ++ packet_text old.capabilities (packet.Ipv4 echo)) w.on_medium in
    let linked : IsHeader link = record { destination = f.octets; source = f.own_octets; number = omega arith; protocol = refl } in
    let behind : drop 14 reply ≡ body = ap (λ (x : EthernetRepr × List ℕ). x.1) (ethernet_again.read_again link body linked) in
    let said = reply_octets (is_tx old.capabilities.checksum.icmpv4) summed ident seq_no octets in
    let len = said.len in
    let form : ipv4.IsHeader q whole = record {
      source = f.destination;
      destination = f.source;
      protocol = refl;
      payload_len = omega (arith, short);
      identification = omega arith;
      offset = omega arith;
    } in
    let read = v4_again summed q text headers form len in
    let head = header_octets summed q text in
    let total : u16_at body 2 - slice_index body 0 % 16 * 4 ≡ q.payload_len =
    ap (λ (x : Ipv4Repr × Ipv4Fragment × List ℕ). x.0.payload_len) read.1 in
    let it = icmpv4_again.read_again true (is_tx old.capabilities.checksum.icmpv4) summed (EchoReply ident seq_no) octets
    (f.ident_fits, f.seq_no_fits) (λ c. messages) in
    let fields = reply_fields ident seq_no octets text said.type it.1 in
    let request = request_octets ident seq_no octets p.payload p.is_message.body p.values in
    let message : IsMessageBack p.payload text = record {
      type = said.type;
      code = said.code;
      identifier = fields.0 ∙ sym request.identifier;
      sequence_number = fields.1 ∙ sym request.sequence_number;
      data_are = said.data_are ∙ sym request.data_are;
      sum = it.0.sum refl;
    } in
    let back : IsPacketBack (drop 14 frame) body = record {
      version = head.version;
      header_len = head.header_len;
      total_len = omega (arith, total, head.header_len, read.0.header_fits, head.long, len);
      fragment = head.fragment;
      hop_limit = head.hop_limit;
      protocol_is = icmp_is summed echo (EchoReply ident seq_no) octets text refl;
      from = ap (λ (x : Ipv4Repr × Ipv4Fragment × List ℕ). x.0.src_addr.bits) read.1
          ∙ sym (ap (λ (x : Ipv4Repr). x.dst_addr.bits) p.in_packet.header);
      to = ap (λ (x : Ipv4Repr × Ipv4Fragment × List ℕ). x.0.dst_addr.bits) read.1
          ∙ sym (ap (λ (x : Ipv4Repr). x.src_addr.bits) p.in_packet.header);
      sum = subst (λ n. folded_sum (word_sum (take n body)) ≡ 65535) head.header_len (read.0.sum refl);
    } in (
      reply,
      gone ∙ ap (λ x. x ∷ []) frame_is,
      record {
        link = between link body linked;
        packet = subst (IsPacketBack (drop 14 frame)) (sym behind) back;
        message = subst (λ x. IsMessageBack x (drop 20 (drop 14 reply))) (sym p.in_packet.behind)
            (subst (IsMessageBack p.payload) (sym (ap (drop 20) behind ∙ head.behind)) message);
      },
    )

-- ARP

is_reply : (n : ℕ) → (n ≡ 1) ⊎ (n ≡ 2) → (if n == 1 then operation.Request else operation.Reply) ≡ operation.Reply → n ≡ 2
is_reply n (inl one) e = absurd (let bad = rw one at e in cc)
is_reply n (inr two) e = two

pub arp_by_octets : ArpRequestsAreAnsweredByOctets
arp_by_octets t old new told own frame r w a six f =
    let gone = (arp_served t old new told own frame r w a).0 in
    let reply : ArpRepr = arp_answer own r in
    let link : EthernetRepr = record { src_addr = own; dst_addr = r.source_hardware_addr; ethertype = protocol.Arp } in
    let linked : IsHeader link = record { destination = f.source_hardware; source = six; number = omega arith; protocol = refl } in
    let form : arp.IsPacket reply = record {
      source_hardware = six;
      source_protocol = f.target_protocol;
      target_hardware = f.source_hardware;
      target_protocol = f.source_protocol;
    } in
    let octets : List ℕ = header_text link ++ arp.text reply in
    let behind : drop 14 octets ≡ arp.text reply = ap (λ (x : EthernetRepr × List ℕ). x.1) (ethernet_again.read_again link (arp.text reply) linked) in
    let plain = arp_again.read_again reply [] form in
    let is : arp.IsArp (drop 14 octets) = subst arp.IsArp (append-nil (arp.text reply) ∙ sym behind) plain.0 in
    let read : arp.arp_in (drop 14 octets) ≡ reply = ap arp.arp_in (behind ∙ sym (append-nil (arp.text reply))) ∙ plain.1 in
    let hears = a.values in (
      octets,
      gone,
      record {
        link = subst (λ x. IsBetweenHosts own.0 x protocol.Arp octets) (sym (ap (λ (x : ArpRepr). x.source_hardware_addr.0) hears))
            (between link (arp.text reply) linked);
        hardware_is = is.hardware;
        protocol_is = is.protocol;
        hardware_len = is.hardware_len;
        protocol_len = is.protocol_len;
        operation = is_reply (u16_at (drop 14 octets) 6) is.operation (ap (λ (x : ArpRepr). x.operation) read);
        source_hardware = ap (λ (x : ArpRepr). x.source_hardware_addr.0) read;
        source = ap (λ (x : ArpRepr). x.source_protocol_addr.bits) read
            ∙ sym (ap (λ (x : ArpRepr). x.target_protocol_addr.bits) hears);
        target_hardware = ap (λ (x : ArpRepr). x.target_hardware_addr.0) read
            ∙ sym (ap (λ (x : ArpRepr). x.source_hardware_addr.0) hears);
        target = ap (λ (x : ArpRepr). x.target_protocol_addr.bits) read
            ∙ sym (ap (λ (x : ArpRepr). x.source_protocol_addr.bits) hears);
      },
    )
