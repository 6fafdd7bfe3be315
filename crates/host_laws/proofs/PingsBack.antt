-- A ping comes back.
use Rattle.std.proofs.Common.{◌≡◌, ℕ, zero, suc, ◌+◌, ◌<◌, ◌≤◌, Bool, true, false, List, [], ◌∷◌, ◌++◌, length, drop, refl, sym, ◌∙◌, ap, subst, Some, arith}
use Rattle.std.proofs.lemmas.List.{append-nil, length-append}
use Rattle.std.specs.Prelude.{◌^◌, ◌||◌, ℤ, IsTrue, slice_get}
use Rattle.std.specs.List.{AllByRecursion}
use Rattle.std.specs.Int.{w16, to_be_bytes}
use Rattle.std.specs.Str.{bytes_eq}
use Rattle.std.proofs.lemmas.Slice.Eq.{bytes_eq-Decides}
use Rattle.net_base.specs.Checksum.{is_rx, is_tx}
use Rattle.net_base.specs.Device.{Event, handed_frames, sent_frames}
use Rattle.ip_address.specs.declared.ethernet_address.EthernetAddress.{EthernetAddress}
use Rattle.ip_address.specs.declared.hardware.HardwareAddress.TheVariants as hardware
use Rattle.ip_address.specs.declared.ip.IpAddress.TheVariants.{Ipv4}
use Rattle.ip_address.specs.EthernetAddress as ethernet
use Rattle.ip_address.specs.Protocol.{number_of, protocol_of}
use Rattle.ip_wire.specs.declared.ethernet.EthernetRepr.{EthernetRepr}
use Rattle.ip_wire.specs.declared.ethernet.EthernetProtocol.TheVariants as protocol
use Rattle.ip_wire.specs.declared.ip_packet.IpRepr.TheVariants as repr
use Rattle.ip_wire.specs.declared.ipv4_packet.Ipv4Repr.{Ipv4Repr}
use Rattle.ip_wire.specs.declared.ipv4_packet.Ipv4Fragment.{Ipv4Fragment}
use Rattle.ip_wire.specs.Ethernet.{header_in, header_text}
use Rattle.ip_wire.specs.Ipv4Packet.{IsIpv4, ipv4_in, is_fragment, whole}
use Rattle.ip_wire.specs.Ipv4Packet as ipv4
use Rattle.ip_wire.proofs.EthernetAgain as ethernet_again
use Rattle.ip_wire.proofs.Ipv4Again as ipv4_again
use Rattle.control_wire.specs.declared.icmpv4.Icmpv4Repr.{Icmpv4Repr}
use Rattle.control_wire.specs.declared.icmpv4.Icmpv4Repr.TheVariants.{EchoRequest, EchoReply}
use Rattle.control_wire.specs.Icmpv4.{IsIcmpv4, icmpv4_in, header_len}
use Rattle.control_wire.specs.Icmpv4 as icmpv4
use Rattle.control_wire.proofs.Icmpv4Again as icmpv4_again
use Rattle.sockets.specs.Queue.{is_room}
use Rattle.host_machine.specs.declared.command.Command.TheVariants.{PollEgress, PollIngressSingle}
use Rattle.host_machine.specs.Context.Host.{Host, at, is_assigned}
use Rattle.host_machine.specs.Context.Addresses.{is_unicast_v4}
use Rattle.host_machine.specs.Receive.Ethernet.{is_for}
use Rattle.host_machine.specs.Packet.Packet.{IpPayload, PacketV4, Icmpv4, header_v4, payload_len}
use Rattle.host_machine.specs.Packet.Packet as packet
use Rattle.host_machine.specs.Packet.Frame.{link_header, packet_text, payload_text}
use Rattle.host_machine.specs.Interface.Run.{Transition}
use Rattle.host_laws.specs.Laws.Calls.{IsCallOf, IsEgress, IsIngress, KeepsCallLaws}
use Rattle.host_laws.specs.Laws.Service.{HasPacketV4, IsOfLink, IsToItself, Pings as AsksByEcho, HasEchoReply, Takes}
use Rattle.host_laws.proofs.Receive.FrameReplies.{pings_served}
use Rattle.host_laws.proofs.Icmp.EchoReplies.{replies_queued}
use Rattle.host_laws.proofs.Sockets.FirstPackets.{first_echoes_go}
use Rattle.host_laws.specs.Pings.{Echo, End, FitsBoth, Knows, PingsComeBack, frame_to, reply_packet, request_packet}
use Rattle.host_laws.specs.PingsInRuns.{PingsReturn, RunsReturnPings, call_at}

-- what is read of the frame of an echo message by the host that it is for
record ReadsEcho (far : EthernetAddress) (K : Host) (frame : List ℕ) (r : Ipv4Repr) (message : Icmpv4Repr) (octets text : List ℕ) : Type 0 where
  itself : IsToItself (hardware.Ethernet far) frame
  in_packet : HasPacketV4 (hardware.Ethernet far) K frame r text
  is_message : IsIcmpv4 (is_rx K.capabilities.checksum.icmpv4) text
  values : icmpv4_in text ≡ (message, octets)
  len : length text ≡ 8 + length octets

last_is : (b c d : Bool) → d ≡ true → (b || c || d) ≡ true
last_is true c d e = refl
last_is false true d e = refl
last_is false false d e = e

is_own : (own : EthernetAddress) → is_for own own ≡ true
is_own own =
    last_is (ethernet.is_broadcast own) (ethernet.is_multicast own) (bytes_eq own.0 own.0) ((bytes_eq-Decides own.0 own.0).1 refl)

header_long : (d s : List ℕ) (n : ℕ) (rest : List ℕ) → length d ≡ 6 → length s ≡ 6 → 14 ≤ length ((d ++ s ++ to_be_bytes w16 n) ++ rest)
header_long d s n rest e f = search (arith, length-append)

summed_is : (checked summed : Bool) → summed ≡ true → IsTrue checked → IsTrue summed
summed_is checked summed e c = e

-- a packet of IPv4 is read as it was written
v4_again : (checked summed : Bool) (r : Ipv4Repr) (payload : List ℕ) → summed ≡ true → ipv4.IsHeader r whole → length payload ≡ r.payload_len →
    IsIpv4 checked (ipv4.header_text summed r whole ++ payload) × (ipv4_in (ipv4.header_text summed r whole ++ payload) ≡ (r, whole, payload))
v4_again checked summed r payload on h len =
    subst (λ os. IsIpv4 checked os × (ipv4_in os ≡ (r, whole, payload))) (append-nil (ipv4.header_text summed r whole ++ payload))
    (ipv4_again.read_again checked summed r whole payload [] h len (summed_is checked summed on))

abbrev echo_text : Host → Icmpv4Repr → List ℕ → List ℕ
echo_text H message octets = icmpv4.text (is_tx H.capabilities.checksum.icmpv4) (is_tx H.capabilities.checksum.ipv4) message octets

-- the frame that a host sends is read by the host that it is for
reads : (H K : Host) (own : EthernetAddress) (end : End) (p : PacketV4) (message : Icmpv4Repr) (octets : List ℕ) →
    p.payload ≡ Icmpv4 message octets → icmpv4.IsMessage message → header_len message ≡ 8 →
    length (echo_text H message octets) ≡ 8 + length octets →
    H.hardware_addr ≡ hardware.Ethernet own → length own.0 ≡ 6 → length end.hardware_addr.0 ≡ 6 →
    is_tx H.capabilities.checksum.ipv4 ≡ true → is_tx H.capabilities.checksum.icmpv4 ≡ true →
    p.src_addr.bits < 2 ^ 32 → p.dst_addr.bits < 2 ^ 32 → 28 + length octets < 2 ^ 16 →
    is_unicast_v4 K.ip_addrs p.src_addr ≡ true → IsOfLink p.src_addr → is_unicast_v4 K.ip_addrs p.dst_addr ≡ true →
    is_assigned K.ip_addrs (Ipv4 p.dst_addr) ≡ true →
    ReadsEcho end.hardware_addr K (frame_to H end p) (header_v4 p) message octets (echo_text H message octets)
reads H K own end p message octets is m eight len on six_own six_far headers messages source destination short from_one of_link to_one given =
    let far : EthernetAddress = end.hardware_addr in
    let text : List ℕ = echo_text H message octets in
    let r : Ipv4Repr = header_v4 p in
    let summed = is_tx H.capabilities.checksum.ipv4 in
    let body_is : payload_text H.capabilities (repr.Ipv4 r) p.payload ≡ text = ap (payload_text H.capabilities (repr.Ipv4 r)) is in
    let len_is : r.payload_len ≡ 8 + length octets = ap payload_len is ∙ ap (λ n. n + length octets) eight in
    let head : EthernetRepr = record { src_addr = own; dst_addr = far; ethertype = protocol.Ipv4 } in
    let body : List ℕ = ipv4.header_text summed r whole ++ text in
    let frame_is : frame_to H end p ≡ header_text head ++ body =
    ap (λ h. link_header h (hardware.Ethernet far) protocol.Ipv4 ++ packet_text H.capabilities (packet.Ipv4 p)) on
    ∙ ap (λ t. header_text head ++ (ipv4.header_text summed r whole ++ t)) body_is in
    let again = ethernet_again.read_again head body (record { destination = six_far; source = six_own; number = omega arith; protocol = refl }) in
    let header : header_in (frame_to H end p) ≡ head = ap header_in frame_is ∙ ap (λ x. x.0) again in
    let behind : drop 14 (frame_to H end p) ≡ body = ap (drop 14) frame_is ∙ ap (λ x. x.1) again in
    let form : ipv4.IsHeader r whole = record {
      source = source;
      destination = destination;
      protocol = ap (λ (x : IpPayload). protocol_of (number_of (packet.protocol_of x))) is ∙ sym (ap packet.protocol_of is);
      payload_len = omega (arith, len_is, short);
      identification = omega arith;
      offset = omega arith;
    } in
    let packet_again = v4_again (is_rx K.capabilities.checksum.ipv4) summed r text headers form (len ∙ sym len_is) in
    let message_again = icmpv4_again.read_again (is_rx K.capabilities.checksum.icmpv4) (is_tx H.capabilities.checksum.icmpv4) summed message octets m
    (summed_is (is_rx K.capabilities.checksum.icmpv4) (is_tx H.capabilities.checksum.icmpv4) messages) in
    let values : ipv4_in (drop 14 (frame_to H end p)) ≡ (r, whole, text) = ap ipv4_in behind ∙ packet_again.1 in
    record {
      itself = ap (λ (h : EthernetRepr). h.dst_addr) header;
      in_packet = record {
        taken = record {
          whole = subst (λ f. 14 ≤ length f) (sym frame_is) (header_long far.0 own.0 0x0800 body six_far six_own);
          to_host = ap (λ (h : EthernetRepr). is_for far h.dst_addr) header ∙ is_own far;
          of_type = ap (λ (h : EthernetRepr). h.ethertype) header;
        };
        is_packet = subst (IsIpv4 (is_rx K.capabilities.checksum.ipv4)) (sym behind) packet_again.0;
        header = ap (λ (x : Ipv4Repr × Ipv4Fragment × List ℕ). x.0) values;
        whole = ap (λ (x : Ipv4Repr × Ipv4Fragment × List ℕ). is_fragment x.1) values;
        behind = ap (λ (x : Ipv4Repr × Ipv4Fragment × List ℕ). x.2) values;
        sender = from_one;
        of_link = of_link;
        receiver = to_one;
        given = given;
      };
      is_message = message_again.0;
      values = message_again.1;
      len = len;
    }

request_len : (a b : Bool) (ident seq_no : ℕ) (octets : List ℕ) → length (icmpv4.text a b (EchoRequest ident seq_no) octets) ≡ 8 + length octets
unfolding icmpv4.head_with
request_len a b ident seq_no octets = omega arith

reply_len : (a b : Bool) (ident seq_no : ℕ) (octets : List ℕ) → length (icmpv4.text a b (EchoReply ident seq_no) octets) ≡ 8 + length octets
unfolding icmpv4.head_with
reply_len a b ident seq_no octets = omega arith

-- B answers
answered : (a b : End) (e : Echo) (hop_limit : ℕ) (t u : ℤ) (A B B' : Host) (told_b : List Event) →
    Knows (at A t) a b → Knows (at B u) b a → FitsBoth e A B →
    Takes (hardware.Ethernet b.hardware_addr) u (frame_to A b (request_packet a b hop_limit e)) B told_b B' →
    sent_frames told_b ≡ frame_to B a (reply_packet b a e) ∷ []
answered a b e hop_limit t u A B B' told_b ka kb fits takes =
    let request : PacketV4 = request_packet a b hop_limit e in
    let asked = reads A B a.hardware_addr b request (EchoRequest e.ident e.seq_no) e.octets refl (fits.ident, fits.seq_no) refl
    (request_len (is_tx A.capabilities.checksum.icmpv4) (is_tx A.capabilities.checksum.ipv4) e.ident e.seq_no e.octets)
    ka.on_ethernet ka.octets kb.octets ka.headers_summed ka.messages_summed ka.bits kb.bits fits.short
    kb.peer_is_one ka.of_link kb.one kb.given in
    let pings : AsksByEcho (hardware.Ethernet b.hardware_addr) B (frame_to A b request) (header_v4 request) e.ident e.seq_no e.octets = record {
      payload = echo_text A (EchoRequest e.ident e.seq_no) e.octets;
      in_packet = asked.in_packet;
      protocol_is = refl;
      is_message = asked.is_message;
      values = asked.values;
    } in
    pings_served u B B' told_b (hardware.Ethernet b.hardware_addr) (frame_to A b request) (header_v4 request) e.ident e.seq_no e.octets
    (hardware.Ethernet a.hardware_addr) takes asked.itself pings kb.reached fits.b

pub come_back : PingsComeBack
come_back a b e i k x y z p =
    let hop_limit = p.sends.socket.hop_limit in
    let reply : PacketV4 = reply_packet b a e in
    let ka = p.a_knows in
    let kb = p.b_knows in
    let kc = p.c_knows in
    let A = x.before in
    let B = y.before in
    let C = z.before in
    let went = first_echoes_go x.moment p.sends.answer A x.after x.told p.sends.notes p.sends.call (hardware.Ethernet a.hardware_addr) i p.sends.socket
    a.addr b.addr e.ident e.seq_no e.octets
    (hardware.Ethernet b.hardware_addr) p.sends.granted ka.on_ethernet p.sends.first p.sends.may ka.peer_is_one ka.reached p.fits.a in
    let told_by_b = answered a b e hop_limit x.moment y.moment A B y.after y.told ka kb p.fits p.b_takes in
    let told = reads B C b.hardware_addr a reply (EchoReply e.ident e.seq_no) e.octets refl (p.fits.ident, p.fits.seq_no) refl
    (reply_len (is_tx B.capabilities.checksum.icmpv4) (is_tx B.capabilities.checksum.ipv4) e.ident e.seq_no e.octets)
    kb.on_ethernet kb.octets ka.octets kb.headers_summed kb.messages_summed kb.bits ka.bits p.fits.short
    kc.peer_is_one kb.of_link kc.one kc.given in
    let text : List ℕ = echo_text B (EchoReply e.ident e.seq_no) e.octets in
    let back : HasEchoReply (hardware.Ethernet a.hardware_addr) C (frame_to B a reply) (header_v4 reply) e.ident e.seq_no text = record {
      in_packet = told.in_packet;
      protocol_is = refl;
      is_message = told.is_message;
      values = ap (λ x. x.0) told.values;
    } in
    let queued = replies_queued z.moment C z.after z.told (hardware.Ethernet a.hardware_addr) (frame_to B a reply) (header_v4 reply) e.ident e.seq_no text k
    p.awaits.socket p.a_takes told.itself back p.awaits.here
    p.awaits.endpoint (ap (λ n. is_room p.awaits.socket.rx n) told.len ∙ p.awaits.room) in
    record {
      front = went.front;
      back = went.back;
      request = went.frames;
      reply = told_by_b;
      message = text;
      queued = queued.0;
      values = told.values;
    }

-- by the calls of two runs
all_at : {X : Type 0} (P : X → Type 0) (xs : List X) (k : ℕ) (x : X) → AllByRecursion P xs → slice_get xs k ≡ Some x → P x
all_at P [] k x all e = absurd cc
all_at P (y ∷ xs) zero x all e = let same : y ≡ x = cc in subst P same all.0
all_at P (y ∷ xs) (suc k) x all e = all_at P xs k x all.1 e

sending : (t : ℤ) (p : Transition) → p.command ≡ PollEgress t → KeepsCallLaws p → IsEgress t p
sending t p e k = subst (λ c. IsCallOf c p) e k.call

taking : (own : EthernetAddress) (t : ℤ) (frame : List ℕ) (p : Transition) → p.command ≡ PollIngressSingle t → KeepsCallLaws p →
    handed_frames p.told ≡ frame ∷ [] → p.before.hardware_addr ≡ hardware.Ethernet own → Takes (hardware.Ethernet own) t frame p.before p.told p.after
taking own t frame p e k took on =
    let i : IsIngress t p = subst (λ c. IsCallOf c p) e k.call in
    record { answer = i.answer; notes = p.notes; call = i.call; took = took; on_medium = on }

pub pings_return : (ps qs : List Transition) → AllByRecursion KeepsCallLaws ps → AllByRecursion KeepsCallLaws qs → PingsReturn ps qs
pings_return ps qs keep_p keep_q a b e t u v i k x y z p q r at_x at_y at_z g =
    let c = sending t p g.sends (all_at KeepsCallLaws ps x p keep_p at_x) in
    let b_takes = taking b.hardware_addr u _ q g.b_receives (all_at KeepsCallLaws qs y q keep_q at_y) g.b_took g.b_knows.on_ethernet in
    let told = answered a b e g.asking.hop_limit t u p.before q.before q.after q.told g.a_knows g.b_knows g.fits b_takes in
    let a_takes = taking a.hardware_addr v (frame_to q.before a (reply_packet b a e)) r g.a_receives
    (all_at KeepsCallLaws ps z r keep_p at_z) (g.a_took ∙ told) g.c_knows.on_ethernet in
    come_back a b e i k (call_at t p) (call_at u q) (call_at v r) (record {
      a_knows = g.a_knows;
      b_knows = g.b_knows;
      c_knows = g.c_knows;
      fits = g.fits;
      sends = record {
        answer = c.answer;
        notes = p.notes;
        call = c.call;
        granted = g.granted;
        socket = g.asking;
        first = g.first;
        may = g.may;
      };
      b_takes = b_takes;
      a_takes = a_takes;
      awaits = g.awaits;
    })

pub runs_return : RunsReturnPings
runs_return A B ps qs a b = pings_return a.calls.calls.singles b.calls.calls.singles a.calls.keep b.calls.keep
