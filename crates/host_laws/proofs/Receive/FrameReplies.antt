-- Frames that ask for something are answered in the call that takes them.
use Rattle.std.proofs.Common.{◌≡◌, ℕ, ◌+◌, ◌<◌, ◌≤◌, Bool, true, false, List, [], ◌∷◌, refl}
use Rattle.std.proofs.Common.{sym, ◌∙◌, ap, subst, Option, Some, None, arith, length, drop}
use Rattle.std.proofs.lemmas.Bool.Decides.{nat_tests}
use Rattle.std.proofs.lemmas.Int.{ints}
use Rattle.std.specs.Prelude.{ℤ, pos, ◌+ℤ◌, ◌<ℤ◌, not, ◌||◌, ◌&&◌, cond, is_some, nat_le, nat_lt, IsTrue, Ok, if◌then◌else◌}
use Rattle.std.specs.Cmp.{int_cmp_is}
use Rattle.std.specs.declared.cmp.Ordering.TheVariants.{Less}
use Rattle.std.specs.FinMap as map
use Rattle.std.specs.FinMap.{FinMap, get-insert}
use Rattle.std.specs.Ordering.{eq_by_cmp}
use Rattle.net_base.specs.Checksum.{is_rx, ip_mtu_of}
use Rattle.net_base.specs.Device.{Event, Reception, Received, Frame, Nothing, Withheld, handed_frames, sent_frames}
use Rattle.ip_address.specs.declared.cidr.IpCidr.{IpCidr}
use Rattle.ip_address.specs.declared.ethernet_address.EthernetAddress.{EthernetAddress}
use Rattle.ip_address.specs.declared.hardware.HardwareAddress.{HardwareAddress}
use Rattle.ip_address.specs.declared.hardware.HardwareAddress.TheVariants as hardware
use Rattle.ip_address.specs.declared.ip.IpAddress.{IpAddress}
use Rattle.ip_address.specs.declared.ip.IpAddress.TheVariants.{Ipv4}
use Rattle.ip_address.specs.declared.ipv4.Ipv4Address.{Ipv4Address}
use Rattle.ip_address.specs.Ip.{address_cmp, is_unspecified}
use Rattle.ip_address.specs.Ipv4 as ipv4
use Rattle.ip_address.specs.EthernetAddress as ethernet_address
use Rattle.iface_tables.specs.Route.{IsRouter}
use Rattle.ip_wire.specs.declared.arp.ArpRepr.{ArpRepr}
use Rattle.ip_wire.specs.declared.arp.ArpOperation.{ArpOperation}
use Rattle.ip_wire.specs.declared.arp.ArpOperation.TheVariants as operation
use Rattle.ip_wire.specs.declared.ethernet.EthernetProtocol.{EthernetProtocol}
use Rattle.ip_wire.specs.declared.ethernet.EthernetProtocol.TheVariants as protocol
use Rattle.ip_wire.specs.declared.ipv4_packet.Ipv4Repr.{Ipv4Repr}
use Rattle.ip_wire.specs.declared.ipv4_packet.Ipv4Fragment.{Ipv4Fragment}
use Rattle.ip_wire.specs.declared.ip_packet.IpRepr.TheVariants as repr
use Rattle.std.proofs.Common.{◌++◌, length-append, lit≤}
use Rattle.std.specs.Int.{w16, to_be_bytes}
use Rattle.ip_wire.specs.declared.ethernet.EthernetRepr.{EthernetRepr}
use Rattle.ip_wire.proofs.EthernetAgain as ethernet_again
use Rattle.ip_wire.proofs.ArpAgain as arp_again
use Rattle.ip_wire.specs.Arp as arp_text
use Rattle.ip_wire.specs.Ethernet.{header_in}
use Rattle.ip_wire.specs.Arp.{IsArp, arp_in}
use Rattle.ip_wire.specs.Ipv4Packet.{IsIpv4, ipv4_in, is_fragment}
use Rattle.control_wire.specs.declared.icmpv4.Icmpv4Repr.TheVariants.{EchoRequest, EchoReply}
use Rattle.control_wire.specs.Icmpv4.{IsIcmpv4, icmpv4_in}
use Rattle.iface_tables.proofs.EntriesLemmas.{tied, tied_itself}
use Rattle.iface_tables.proofs.NeighborLemmas.{address_total, address_same}
use Rattle.iface_tables.specs.declared.neighbor.Neighbor.{Neighbor}
use Rattle.iface_tables.specs.declared.neighbor.Answer.TheVariants.{Found, NotFound, RateLimited}
use Rattle.iface_tables.specs.Neighbor.{Neighbors, Fills, answer_from, answer_of, expiry_from, is_before, is_same, after_renewal, renewed_from}
use Rattle.host_machine.specs.Context.Note.{Note}
use Rattle.host_machine.specs.Context.Host.{Host, at, without_expired, in_same_network, with_neighbors, with_next_id}
use Rattle.host_machine.specs.Context.Addresses.{is_broadcast_v4, is_for_host, is_unicast_v4, may_be_source}
use Rattle.host_machine.specs.Receive.Reply.{Reply, Arp, Ip}
use Rattle.host_machine.specs.Packet.Packet.{Packet, PacketV4, Icmpv4, total_len}
use Rattle.host_machine.specs.Packet.Packet as packet
use Rattle.fragmentation.specs.Cuts.{Piece, pieces_of}
use Rattle.host_machine.specs.Packet.Frame.{ip_frame, piece_frame, sends}
use Rattle.host_machine.specs.Discovery.Arp.{ProcessesArp, LearnsSender, answer_by, is_for_us, reply_to}
use Rattle.host_machine.specs.Discovery.Arp as arp
use Rattle.host_machine.specs.Sockets.Raw as raw
use Rattle.host_machine.specs.Discovery.Renewal.{sender_renewed}
use Rattle.host_machine.specs.Icmp.Icmpv4.{ProcessesIcmpv4, answer_to}
use Rattle.host_machine.specs.Icmp.Icmpv4 as icmp
use Rattle.host_machine.specs.Receive.Ipv4.{ProcessesIpv4, ProcessesPacket, ProcessesProtocol, ProcessesDatagram}
use Rattle.host_machine.specs.Receive.Ipv4 as ip
use Rattle.host_machine.specs.Receive.Ethernet.{is_for, version_in, ProcessesEthernet, ProcessesFrame, ProcessesEthertype, ProcessesIp}
use Rattle.host_machine.specs.Receive.Ethernet as ethernet
use Rattle.host_machine.specs.Receive.Ipv6.{ProcessesIpv6}
use Rattle.ip_wire.specs.Ipv6Packet.{IsIpv6}
use Rattle.host_machine.specs.Send.Outcome.{Outcome}
use Rattle.host_machine.specs.Send.Hops.{IsNextHop, OnLink, ByRouter, group_address_v4, multicast_hardware_addr}
use Rattle.host_machine.specs.Send.Dispatch.{Emits, DispatchesByHop, DispatchesEthernet, SendsOver, Dispatches, destination_of}
use Rattle.host_machine.specs.Context.Pieces.{datagram_of}
use Rattle.host_machine.specs.Send.Dispatch as dispatch
use Rattle.host_machine.specs.Receive.Response.{Responds}
use Rattle.host_machine.specs.Interface.Ingress as ingress
use Rattle.host_laws.specs.Laws.Service.{RequestFramesAreRead, request_frame, ArpRequestsAreAnswered, ArpSendersAreLearnt}
use Rattle.host_laws.specs.Laws.Service.{HasPacketV4, HasWay, IsAccepted, IsReached, IsTaken, PingsAreAnswered, Takes, packet_in}
use Rattle.host_laws.proofs.Receive.Malformed.{handed_frames-received, handed_frames-sends, sent_frames-sends}
use Rattle.host_machine.proofs.Interface.EarliestInstant.{hop_is_one}

pub clash : {b : Bool} → b ≡ true → b ≡ false → ⊥
clash one other = absurd cc

-- the frame that was handed over is the one that is taken
frame_taken : (moment : ℤ) (H : Host) (r : Reception) (frame : List ℕ) (reply : Option Reply) (notes : List Note) (new : Host) →
    ingress.Takes H r reply notes new →
    handed_frames (Received moment r ∷ []) ≡ frame ∷ [] → 1 ≤ length frame → ProcessesFrame H.hardware_addr H frame reply notes new
frame_taken moment H Nothing frame reply notes new t e long = absurd cc
frame_taken moment H Withheld frame reply notes new t e long = absurd cc
frame_taken moment H (Frame []) frame reply notes new t e long =
    let same : [] ≡ frame = cc in
    let short : 1 ≤ length {A = ℕ} [] = subst (λ f. 1 ≤ length f) (sym same) long in
    absurd (omega (arith, short))
frame_taken moment H (Frame (octet ∷ octets)) frame reply notes new t e long =
    let same : octet ∷ octets ≡ frame = cc in
    subst (λ f. ProcessesFrame H.hardware_addr H f reply notes new) same t

payload_taken : {own : EthernetAddress} {H new : Host} {frame : List ℕ} {reply : Option Reply} {notes : List Note} (type : EthernetProtocol) →
    ProcessesEthernet own H frame reply notes new →
    IsTaken own type frame → ProcessesEthertype own (header_in frame).src_addr H type (drop 14 frame) reply notes new
payload_taken type (ethernet.Malformed m d) i = absurd (m i.whole)
payload_taken type (ethernet.NotForUs l f d) i = absurd (clash i.to_host f)
payload_taken {own} {H} {new} {frame} {reply} {notes} type (ethernet.Accepted l f t) i =
    subst (λ p. ProcessesEthertype own (header_in frame).src_addr H p (drop 14 frame) reply notes new) i.of_type t

-- what was done with a frame, and how that was responded to
record FrameTaken (own : HardwareAddress) (t : ℤ) (frame : List ℕ) (old : Host) (told : List Event) (all : List Note) (new : Host) : Type 0 where
  reply : Option Reply
  taken : Host
  notes : List Note
  more : List Note
  frames : List (List ℕ)
  takes : ProcessesFrame own (without_expired old t) frame reply notes taken
  responds : Responds reply taken frames more new
  sends_them : sent_frames told ≡ frames
  all_notes : all ≡ notes ++ more

frame_of : {own : HardwareAddress} {t : ℤ} {frame : List ℕ} {old new : Host} {told : List Event} →
    (w : Takes own t frame old told new) → 1 ≤ length frame → FrameTaken own t frame old told w.notes new
frame_of {own} {t} {frame} {old} {new} {told} w some =
    let i = w.call in
    let only : handed_frames (Received t i.reception ∷ []) ≡ frame ∷ [] =
    sym (handed_frames-received t i.reception (sends i.frames) (handed_frames-sends i.frames)) ∙ sym (ap handed_frames i.events) ∙ w.took in
    let any = frame_taken t
    (without_expired old t) i.reception frame i.response.reply i.response.notes_taking i.response.taken i.response.takes only some in
    record {
      reply = i.response.reply;
      taken = i.response.taken;
      notes = i.response.notes_taking;
      more = i.response.notes_responding;
      frames = i.frames;
      takes = subst (λ h. ProcessesFrame h (without_expired old t) frame i.response.reply i.response.notes_taking i.response.taken) w.on_medium any;
      responds = i.response.responds;
      sends_them = ap sent_frames i.events ∙ sent_frames-sends i.frames;
      all_notes = i.response.all_notes;
    }

-- the same of the payload of a frame on Ethernet
pub record WasTaken (own : EthernetAddress) (t : ℤ) (type : EthernetProtocol) (frame : List ℕ) (old : Host)
    (told : List Event) (new : Host) : Type 0 where
  pub reply : Option Reply
  pub taken : Host
  pub notes : List Note
  pub more : List Note
  pub frames : List (List ℕ)
  pub takes : ProcessesEthertype own (header_in frame).src_addr (without_expired old t) type (drop 14 frame) reply notes taken
  pub responds : Responds reply taken frames more new
  pub sends_them : sent_frames told ≡ frames

pub taken_of : {own : EthernetAddress} {t : ℤ} {frame : List ℕ} {old new : Host} {told : List Event} (type : EthernetProtocol) →
    Takes (hardware.Ethernet own) t frame old told new → IsTaken own type frame →
    WasTaken own t type frame old told new
taken_of {own} {t} {frame} {old} {new} {told} type w is = let f = frame_of w (some is.whole) in record {
  reply = f.reply;
  taken = f.taken;
  notes = f.notes;
  more = f.more;
  frames = f.frames;
  takes = payload_taken type f.takes is;
  responds = f.responds;
  sends_them = f.sends_them;
} where
  some : {n : ℕ} → 14 ≤ n → 1 ≤ n
  some long = omega (arith, long)

-- and of the packet in a frame on either medium
pub record PacketTaken (Processes : HardwareAddress → Host → List ℕ → Option Reply → List Note → Host → Type 0) (own : HardwareAddress)
    (t : ℤ) (frame : List ℕ) (old : Host) (told : List Event) (all : List Note) (new : Host) : Type 0 where
  pub source : HardwareAddress
  pub reply : Option Reply
  pub taken : Host
  pub notes : List Note
  pub more : List Note
  pub frames : List (List ℕ)
  pub takes : Processes source (without_expired old t) (packet_in own frame) reply notes taken
  pub responds : Responds reply taken frames more new
  pub sends_them : sent_frames told ≡ frames
  pub all_notes : all ≡ notes ++ more

pub v4_of : {t : ℤ} {frame : List ℕ} {old new : Host} {told : List Event} {checked : Bool} (own : HardwareAddress) →
    (w : Takes own t frame old told new) → IsAccepted own protocol.Ipv4 frame → IsIpv4 checked (packet_in own frame) →
    PacketTaken ProcessesIpv4 own t frame old told w.notes new
v4_of {frame = frame} (hardware.Ethernet own) w is p = let k = frame_of w (some is.whole) in record {
  source = hardware.Ethernet (header_in frame).src_addr;
  reply = k.reply;
  taken = k.taken;
  notes = k.notes;
  more = k.more;
  frames = k.frames;
  takes = payload_taken protocol.Ipv4 k.takes is;
  responds = k.responds;
  sends_them = k.sends_them;
  all_notes = k.all_notes;
} where
  some : {n : ℕ} → 14 ≤ n → 1 ≤ n
  some long = omega (arith, long)
v4_of {t} {frame} {old} {new} {told} hardware.Ip w is p = let k = frame_of w (some p.whole) in record {
  source = hardware.Ip;
  reply = k.reply;
  taken = k.taken;
  notes = k.notes;
  more = k.more;
  frames = k.frames;
  takes = by k.takes p.version;
  responds = k.responds;
  sends_them = k.sends_them;
  all_notes = k.all_notes;
} where
  some : {n : ℕ} → 20 ≤ n → 1 ≤ n
  some long = omega (arith, long)

  by : {reply : Option Reply} {notes : List Note} {taken : Host} → ProcessesIp (without_expired old t) frame reply notes taken →
      version_in frame ≡ 4 → ProcessesIpv4 hardware.Ip (without_expired old t) frame reply notes taken
  by (ethernet.Ipv4 v x) four = x
  by (ethernet.Ipv6 v x) four = absurd (omega (arith, v, four))
  by (ethernet.OtherVersion v6 v d) four = absurd (v6 four)

pub v6_of : {t : ℤ} {frame : List ℕ} {old new : Host} {told : List Event} (own : HardwareAddress) →
    (w : Takes own t frame old told new) → IsAccepted own protocol.Ipv6 frame → IsIpv6 (packet_in own frame) →
    PacketTaken ProcessesIpv6 own t frame old told w.notes new
v6_of {frame = frame} (hardware.Ethernet own) w is p = let k = frame_of w (some is.whole) in record {
  source = hardware.Ethernet (header_in frame).src_addr;
  reply = k.reply;
  taken = k.taken;
  notes = k.notes;
  more = k.more;
  frames = k.frames;
  takes = payload_taken protocol.Ipv6 k.takes is;
  responds = k.responds;
  sends_them = k.sends_them;
  all_notes = k.all_notes;
} where
  some : {n : ℕ} → 14 ≤ n → 1 ≤ n
  some long = omega (arith, long)
v6_of {t} {frame} {old} {new} {told} hardware.Ip w is p = let k = frame_of w (some p.whole) in record {
  source = hardware.Ip;
  reply = k.reply;
  taken = k.taken;
  notes = k.notes;
  more = k.more;
  frames = k.frames;
  takes = by k.takes p.version;
  responds = k.responds;
  sends_them = k.sends_them;
  all_notes = k.all_notes;
} where
  some : {n : ℕ} → 40 ≤ n → 1 ≤ n
  some long = omega (arith, long)

  by : {reply : Option Reply} {notes : List Note} {taken : Host} → ProcessesIp (without_expired old t) frame reply notes taken →
      version_in frame ≡ 6 → ProcessesIpv6 hardware.Ip (without_expired old t) frame reply notes taken
  by (ethernet.Ipv4 v x) six = absurd (omega (arith, v, six))
  by (ethernet.Ipv6 v x) six = x
  by (ethernet.OtherVersion v w d) six = absurd (w six)

-- neighbours

pub is_ahead : (t : ℤ) → is_before t (expiry_from t) ≡ true
is_ahead t = let ahead : t <ℤ (t +ℤ pos 60000000) = omega (arith, ints) in rw (← int_cmp_is t (t +ℤ pos 60000000) Less ahead) refl

got_itself : (m : FinMap address_cmp Neighbor) (a : IpAddress) (n : Neighbor) → map.get (map.insert m a n) a ≡ Some n
got_itself m a n = get-insert address_total m a n a ∙ rw (tied_itself address_total address_same a) refl

-- who was learnt is known
filled_in : {old new : Neighbors} {a : IpAddress} {n : Neighbor} → Fills old new a n → map.get new.known a ≡ Some n
filled_in {old} {new} {a} {n} f = by (map.get old.known a) refl where
  room : (k : ℕ) → map.len old.known ≡ k → map.get old.known a ≡ None → map.get new.known a ≡ Some n
  room k is none = elim (nat_lt k old.room) as (λ b. nat_lt k old.room ≡ b → map.get new.known a ≡ Some n) [
    | true ↦ λ t. let h : map.len old.known < old.room = grind (arith, nat_tests) in rw (f.puts.room h) (got_itself old.known a n)
    | false ↦ λ t. let h : old.room ≤ map.len old.known = grind (arith, nat_tests) in let g = f.puts.full none h in
        rw g.2 (got_itself (map.remove old.known g.0) a n)
  ] refl

  by : (o : Option Neighbor) → map.get old.known a ≡ o → map.get new.known a ≡ Some n
  by None is = room (map.len old.known) refl is
  by (Some x) is = let t : IsTrue (is_some (map.get old.known a)) = rw is refl in rw (f.puts.there t) (got_itself old.known a n)

pub learnt_found : {old new : Neighbors} {a : IpAddress} {h : HardwareAddress} (t : ℤ) →
    Fills old new a (record { hardware_addr = h; expires_at = expiry_from t }) → answer_of new a t ≡ Found h
learnt_found {old} {new} {a} {h} t f = rw (filled_in f, is_ahead t) refl

-- who is known is known still where another one, or the same, is renewed
pub renewed_found : (n : Neighbors) (a b : IpAddress) (source h : HardwareAddress) (t : ℤ) →
    answer_of n b t ≡ Found h → answer_of (after_renewal n a source (expiry_from t)) b t ≡ Found h
renewed_found n a b source h t found = by (map.get n.known a) refl where
  -- the entry of b, where it is the renewed one
  hardware_is : (e : Neighbor) → answer_from (Some e) n.silent_until t ≡ Found h → e.hardware_addr ≡ h
  hardware_is e is = at_end (is_before t e.expires_at) (is_before t n.silent_until) is where
    at_end : (c d : Bool) → (if c then Found e.hardware_addr else (if d then RateLimited else NotFound)) ≡ Found h → e.hardware_addr ≡ h
    at_end true d q = cc
    at_end false true q = absurd cc
    at_end false false q = absurd cc

  inserted : (e : Neighbor) →
      map.get n.known a ≡ Some e → answer_from (map.get (map.insert n.known a (record e { expires_at = expiry_from t })) b) n.silent_until t ≡ Found h
  inserted e is = rw (get-insert address_total n.known a (record e { expires_at = expiry_from t }) b) (on (eq_by_cmp address_cmp b a) refl) where
    same : eq_by_cmp address_cmp b a ≡ true → map.get n.known b ≡ Some e
    same one = ap (map.get n.known) (tied address_total address_same b a one) ∙ is

    on : (c : Bool) → eq_by_cmp address_cmp b a ≡ c →
        answer_from (cond c (Some (record e { expires_at = expiry_from t })) (map.get n.known b)) n.silent_until t ≡ Found h
    on true one = let here : answer_from (Some e) n.silent_until t ≡ Found h =
        subst (λ o. answer_from o n.silent_until t ≡ Found h) (same one) found in rw (is_ahead t, hardware_is e here) refl
    on false apart = found

  by : (o : Option Neighbor) →
      map.get n.known a ≡ o → answer_from (map.get (renewed_from o n.known a source (expiry_from t)) b) n.silent_until t ≡ Found h
  by None is = found
  by (Some e) is = here (is_same e.hardware_addr source) where
    here : (c : Bool) →
        answer_from (map.get (if c then map.insert n.known a (record e { expires_at = expiry_from t }) else n.known) b) n.silent_until t ≡ Found h
    here true = inserted e is
    here false = found

-- ARP

record ArpAnswered (own : EthernetAddress) (r : ArpRepr) (H : Host) (reply : Option Reply) (new : Host) : Type 0 where
  learns : LearnsSender H r new
  replies : reply ≡ Some (Arp (reply_to own r))

arp_answered : {own : EthernetAddress} {H new : Host} {payload : List ℕ} {reply : Option Reply} {notes : List Note} (r : ArpRepr) →
    ProcessesArp own H payload reply notes new → IsArp payload → arp_in payload ≡ r →
    is_for_us H r ≡ true → r.operation ≡ operation.Request → ArpAnswered own r H reply new
arp_answered r (arp.Malformed m d) is values hears asks = absurd (m is)
arp_answered {H = H} r (arp.NotForUs p l d) is values hears asks = absurd (clash (ap (is_for_us H) values ∙ hears) l)
arp_answered {own} {H} {new} r (arp.Learnt p l learns rep n) is values hears asks = record {
  learns = subst (λ x. LearnsSender H x new) values learns;
  replies = rep ∙ ap (λ (x : ArpRepr). answer_by x.operation own x) values ∙ ap (λ o. answer_by o own r) asks;
}

pub arp_served : ArpRequestsAreAnswered
arp_served t old new told own frame r w a =
    let k = taken_of protocol.Arp w a.taken in
    let hears : is_for_us (without_expired old t) r ≡ true = rw (a.target, a.sender, a.sender_hardware, a.near) refl in
    let answered = arp_answered r k.takes a.is_packet a.values hears a.request in
    let went : Responds (Some (Arp (reply_to own r))) k.taken k.frames k.more new =
    subst (λ x. Responds x k.taken k.frames k.more new) answered.replies k.responds in
    let known : answer_of answered.learns.neighbors (Ipv4 r.source_protocol_addr) t ≡ Found (hardware.Ethernet r.source_hardware_addr) =
    learnt_found t answered.learns.filled in
    (k.sends_them ∙ went.0, rw (went.2, answered.learns.same) known)

-- whether it asks or answers, its sender is learnt
record ArpTaught (own : EthernetAddress) (r : ArpRepr) (H : Host) (reply : Option Reply) (new : Host) : Type 0 where
  learns : LearnsSender H r new
  replies : reply ≡ answer_by r.operation own r

arp_taught : {own : EthernetAddress} {H new : Host} {payload : List ℕ} {reply : Option Reply} {notes : List Note} (r : ArpRepr) →
    ProcessesArp own H payload reply notes new → IsArp payload → arp_in payload ≡ r → is_for_us H r ≡ true → ArpTaught own r H reply new
arp_taught r (arp.Malformed m d) is values hears = absurd (m is)
arp_taught {H = H} r (arp.NotForUs p l d) is values hears = absurd (clash (ap (is_for_us H) values ∙ hears) l)
arp_taught {own} {H} {new} r (arp.Learnt p l learns rep n) is values hears = record {
  learns = subst (λ x. LearnsSender H x new) values learns;
  replies = rep ∙ ap (λ (x : ArpRepr). answer_by x.operation own x) values;
}

arp_settled : (own : EthernetAddress) (r : ArpRepr) (K new : Host) (reply : Option Reply) (frames : List (List ℕ)) (more : List Note)
    (o : ArpOperation) → reply ≡ answer_by o own r → Responds reply K frames more new → new ≡ K
arp_settled own r K new reply frames more operation.Request e x = (subst (λ y. Responds y K frames more new) e x).2
arp_settled own r K new reply frames more operation.Reply e x = (subst (λ y. Responds y K frames more new) e x).2

pub arp_teaches : ArpSendersAreLearnt
arp_teaches t old new told own frame r w a =
    let k = taken_of protocol.Arp w a.taken in
    let hears : is_for_us (without_expired old t) r ≡ true = rw (a.target, a.sender, a.sender_hardware, a.near) refl in
    let taught = arp_taught r k.takes a.is_packet a.values hears in
    let known : answer_of taught.learns.neighbors (Ipv4 r.source_protocol_addr) t ≡ Found (hardware.Ethernet r.source_hardware_addr) =
    learnt_found t taught.learns.filled in
    rw (arp_settled own r k.taken new k.reply k.frames k.more r.operation taught.replies k.responds, taught.learns.same) known

-- a packet to one host

-- a packet that is short enough goes to a known hop, whole
pub record GoesWhole (p : Packet) (h : HardwareAddress) (outcome : Outcome) (H : Host) (frames : List (List ℕ)) (new : Host) : Type 0 where
  pub frames_are : frames ≡ ip_frame H h p ∷ []
  pub outcome_is : outcome ≡ Ok tt
  pub host_is : new ≡ with_next_id H

pub emits_whole : {id : ℕ} {p : Packet} {h : HardwareAddress} {outcome : Outcome} {H new : Host} {frames : List (List ℕ)} {notes : List Note} →
    Emits id p h outcome (with_next_id H) frames notes new →
    total_len p ≤ ip_mtu_of H.capabilities → GoesWhole p h outcome H frames new
emits_whole (dispatch.Whole fits formed o f n e) short = record { frames_are = f; outcome_is = o; host_is = e }
emits_whole (dispatch.InPieces q first rest is long may pieces fits formed o f n e) short = absurd (omega (arith, short, long))
emits_whole (dispatch.TooLong long may o u) short = absurd (omega (arith, short, long))

-- a fragment of a packet that is too long goes to a known hop, and the others wait
pub record GoesCut (p : PacketV4) (h : HardwareAddress) (H : Host) (frames : List (List ℕ)) (new : Host) : Type 0 where
  pub first : Piece
  pub rest : List Piece
  pub pieces_are : pieces_of (datagram_of H h H.ipv4_id p) ≡ first ∷ rest
  pub frames_are : frames ≡ piece_frame H first ∷ []
  pub others_wait : new.left ≡ rest

emits_cut : {p : PacketV4} {h : HardwareAddress} {outcome : Outcome} {H new : Host} {frames : List (List ℕ)} {notes : List Note} →
    Emits H.ipv4_id (packet.Ipv4 p) h outcome (with_next_id H) frames notes new → ip_mtu_of H.capabilities < total_len (packet.Ipv4 p) →
    total_len (packet.Ipv4 p) ≤ 4096 → GoesCut p h H frames new
emits_cut (dispatch.Whole fits formed o f n e) long short = absurd (omega (arith, fits, long))
emits_cut {p} {h} {H = H} (dispatch.InPieces q first rest is longer may pieces fits formed o f n e) long short =
    let same : q ≡ p = let both : packet.Ipv4 p ≡ packet.Ipv4 q = is in cc in
    record {
      first = first;
      rest = rest;
      pieces_are = ap (λ x. pieces_of (datagram_of H h H.ipv4_id x)) (sym same) ∙ pieces;
      frames_are = f;
      others_wait = ap (λ (K : Host). K.left) e;
    }
emits_cut {p} (dispatch.TooLong longer may o u) long short =
    let fits : nat_le (total_len (packet.Ipv4 p)) 4096 ≡ true = grind (arith, nat_tests) in
    let bad : false ≡ true = sym may ∙ fits in absurd cc

-- a dispatch to a known hop comes to the point at which the packet is sent
by_hop_emits : {id : ℕ} {own : EthernetAddress} {p : Packet} {hop : IpAddress} {outcome : Outcome} (H : Host) {new : Host}
    {frames : List (List ℕ)} {notes : List Note} (h : HardwareAddress) →
    DispatchesByHop id own p hop outcome (with_next_id H) frames notes new → answer_of H.neighbors hop H.moment ≡ Found h →
    Emits id p h outcome (with_next_id H) frames notes new
by_hop_emits {id} {own} {p} {hop} {outcome} H {new} {frames} {notes} h (dispatch.Known h' k e) known =
    let found : Found h' ≡ Found h = sym k ∙ known in
    let same : h' ≡ h = cc in
    subst (λ x. Emits id p x outcome (with_next_id H) frames notes new) same e
by_hop_emits H h (dispatch.Silent s o u) known = absurd cc
by_hop_emits H h (dispatch.Unknown u d) known = absurd cc

-- taking an identification changes no way
same_hop : {H : Host} {a : IpAddress} {hop : Option IpAddress} → IsNextHop H a hop → IsNextHop (with_next_id H) a hop
same_hop (OnLink i e) = OnLink i e
same_hop (ByRouter router i is e) = ByRouter router i is e

ethernet_emits : {id : ℕ} {own : EthernetAddress} {p : Packet} {outcome : Outcome} (H : Host) {new : Host} {frames : List (List ℕ)}
    {notes : List Note} (h : HardwareAddress) →
    DispatchesEthernet id own p outcome (with_next_id H) frames notes new → multicast_hardware_addr H.ip_addrs (destination_of p) ≡ None →
    IsReached H (destination_of p) h → Emits id p h outcome (with_next_id H) frames notes new
ethernet_emits H h (dispatch.ToMulticast h' m e) one r = absurd cc
ethernet_emits H h (dispatch.NoHop m n o u) one r = let none : None ≡ Some r.hop = hop_is_one n (same_hop r.next) in absurd cc
ethernet_emits {id} {own} {p} {outcome} H {new} {frames} {notes} h (dispatch.ByHop hop m n s) one r =
    let some : Some hop ≡ Some r.hop = hop_is_one n (same_hop r.next) in
    let same : hop ≡ r.hop = cc in
    by_hop_emits {hop = r.hop} H h (subst (λ x. DispatchesByHop id own p x outcome (with_next_id H) frames notes new) same s) r.known

-- or where none is needed
sends_emits : (id : ℕ) {p : Packet} {outcome : Outcome} (H : Host) {new : Host} {frames : List (List ℕ)} (notes : List Note)
    (own : HardwareAddress) (h : HardwareAddress) →
    SendsOver id own p outcome (with_next_id H) frames notes new → multicast_hardware_addr H.ip_addrs (destination_of p) ≡ None →
    HasWay own H (destination_of p) h → Emits id p h outcome (with_next_id H) frames notes new
sends_emits id H notes (hardware.Ethernet own) h s one r = ethernet_emits H h s one r
sends_emits id {p} {outcome} H {new} {frames} notes hardware.Ip h s one r =
    subst (λ x. Emits id p x outcome (with_next_id H) frames notes new) (sym r) s

-- a way stays, as far as it is one by a neighbour
pub way_by : {H K : Host} {a : IpAddress} {h : HardwareAddress} (own : HardwareAddress) → (IsReached H a h → IsReached K a h) →
    HasWay own H a h → HasWay own K a h
way_by (hardware.Ethernet own) f w = f w
way_by hardware.Ip f w = w

pub goes_whole : {p : Packet} {outcome : Outcome} {H new : Host} {frames : List (List ℕ)} {notes : List Note}
    (own : HardwareAddress) (h : HardwareAddress) →
    Dispatches p outcome H frames notes new → H.hardware_addr ≡ own → is_unspecified (destination_of p) ≡ false →
    multicast_hardware_addr H.ip_addrs (destination_of p) ≡ None →
    HasWay own H (destination_of p) h → total_len p ≤ ip_mtu_of H.capabilities → GoesWhole p h outcome H frames new
goes_whole own h (dispatch.ToUnspecified n o u) on specified one r short = absurd cc
goes_whole {p} {outcome} {H} {new} {frames} {notes} own h (dispatch.ToSpecified more s d n) on specified one r short =
    emits_whole (sends_emits H.ipv4_id H more own h (subst (λ x. SendsOver H.ipv4_id x p outcome (with_next_id H) frames more new) on d) one r) short

pub goes_cut : {p : PacketV4} {outcome : Outcome} {H new : Host} {frames : List (List ℕ)} {notes : List Note}
    (own : HardwareAddress) (h : HardwareAddress) →
    Dispatches (packet.Ipv4 p) outcome H frames notes new → H.hardware_addr ≡ own → is_unspecified (Ipv4 p.dst_addr) ≡ false →
    multicast_hardware_addr H.ip_addrs (Ipv4 p.dst_addr) ≡ None →
    HasWay own H (Ipv4 p.dst_addr) h → ip_mtu_of H.capabilities < total_len (packet.Ipv4 p) → total_len (packet.Ipv4 p) ≤ 4096 →
    GoesCut p h H frames new
goes_cut own h (dispatch.ToUnspecified n o u) on specified one r long short = absurd cc
goes_cut {p} {outcome} {H} {new} {frames} {notes} own h (dispatch.ToSpecified more s d n) on specified one r long short =
    emits_cut (sends_emits H.ipv4_id H more own h
    (subst (λ x. SendsOver H.ipv4_id x (packet.Ipv4 p) outcome (with_next_id H) frames more new) on d) one r) long short

-- an address of one host is neither nobody's nor that of many
pub record IsOne (own : List IpCidr) (a : Ipv4Address) : Type 0 where
  pub specified : ipv4.is_unspecified a ≡ false
  pub not_multicast : multicast_hardware_addr own (Ipv4 a) ≡ None

both_true : (x y : Bool) → (x && y) ≡ true → (x ≡ true) × (y ≡ true)
both_true true true e = (refl, refl)
both_true true false e = absurd cc
both_true false y e = absurd cc

none_true : (x y z : Bool) → not (x || y || z) ≡ true → (x ≡ false) × (y ≡ false) × (z ≡ false)
none_true false false false e = (refl, refl, refl)
none_true false false true e = absurd cc
none_true false true z e = absurd cc
none_true true y z e = absurd cc

not_true : (x : Bool) → not x ≡ true → x ≡ false
not_true false e = refl
not_true true e = absurd cc

pub one_of : (own : List IpCidr) (a : Ipv4Address) → is_unicast_v4 own a ≡ true → IsOne own a
one_of own a is =
    let parts = both_true (ipv4.is_unicast a) (not (is_broadcast_v4 own a)) is in
    let host = none_true (ipv4.is_broadcast a) (ipv4.is_multicast a) (ipv4.is_unspecified a) parts.0 in
    let all : is_broadcast_v4 own a ≡ false = not_true (is_broadcast_v4 own a) parts.1 in
    record { specified = host.2; not_multicast = on (is_broadcast_v4 own a) (ipv4.is_multicast a) all host.1 } where
      on : (b m : Bool) →
          b ≡ false → m ≡ false → (if b then Some ethernet_address.broadcast else if m then Some (group_address_v4 a) else None) ≡ None
      on false false e f = refl
      on true m e f = absurd cc
      on false true e f = absurd cc

-- the next hop is the same where the addresses, the routes and the moment are
pub hop_as : {H K : Host} {a : IpAddress} {hop : Option IpAddress} →
    K.ip_addrs ≡ H.ip_addrs → K.routes ≡ H.routes → K.moment ≡ H.moment → IsNextHop H a hop → IsNextHop K a hop
hop_as {H} {K} {a} addrs routes moment (OnLink i e) = OnLink (ap (λ x. in_same_network x a) addrs ∙ i) e
hop_as {H} {K} {a} addrs routes moment (ByRouter router i is e) =
    ByRouter router (ap (λ x. in_same_network x a) addrs ∙ i)
    (subst (λ x. IsRouter K.routes a x router) (sym moment) (subst (λ x. IsRouter x a H.moment router) (sym routes) is)) e

-- IPv4

-- the host that a packet for it leaves, before its protocol is looked at: raw sockets heard it, and its sender is renewed
abbrev pub met : HardwareAddress → Ipv4Repr → List ℕ → Host → Host
met source r payload H =
    with_neighbors (raw.host_after_raw_delivery (repr.Ipv4 r) payload H) (after_renewal H.neighbors (Ipv4 r.src_addr) source (expiry_from H.moment))

-- the way to an address stays known
pub reached_still : {H : Host} {a : IpAddress} {h : HardwareAddress} (source : HardwareAddress) (r : Ipv4Repr) (payload : List ℕ) →
    IsReached H a h → IsReached (met source r payload H) a h
reached_still {H} {a} {h} source r payload i = record {
  hop = i.hop;
  next = hop_as {H = H} {K = met source r payload H} refl refl refl i.next;
  known = renewed_found H.neighbors (Ipv4 r.src_addr) i.hop source h H.moment i.known;
}

renewal : (source : HardwareAddress) (r : Ipv4Repr) (K : Host) → is_unicast_v4 K.ip_addrs r.dst_addr ≡ true →
    sender_renewed source (repr.Ipv4 r) K ≡ with_neighbors K (after_renewal K.neighbors (Ipv4 r.src_addr) source (expiry_from K.moment))
renewal source r K one = rw one refl

pub whole_taken : {source : HardwareAddress} {H new : Host} {payload : List ℕ} {reply : Option Reply} {notes : List Note} (r : Ipv4Repr) →
    ProcessesDatagram source r H payload reply notes new →
    is_for_host H (Ipv4 r.dst_addr) ≡ true → is_unicast_v4 H.ip_addrs r.dst_addr ≡ true →
    ProcessesProtocol r.next_header (raw.is_taken (repr.Ipv4 r) H) r (met source r payload H) payload reply notes new
whole_taken r (ip.NotForUs n d) for_us one = absurd (clash for_us n)
whole_taken {source} {H} {new} {payload} {reply} {notes} r (ip.Accepted f t) for_us one =
    subst (λ K. ProcessesProtocol r.next_header (raw.is_taken (repr.Ipv4 r) H) r K payload reply notes new)
    (renewal source r (raw.host_after_raw_delivery (repr.Ipv4 r) payload H) one) t

packet_taken : {source : HardwareAddress} {H new : Host} {payload : List ℕ} {reply : Option Reply}
    {notes : List Note} (r : Ipv4Repr) (f : Ipv4Fragment) →
    ProcessesPacket source r f H payload reply notes new → may_be_source H.ip_addrs r.src_addr ≡ true → is_fragment f ≡ false →
    ProcessesDatagram source r H payload reply notes new
packet_taken r f (ip.FromNoHost s d) may whole = absurd (clash may s)
packet_taken r f (ip.Part s p t e) may whole = absurd (clash p whole)
packet_taken r f (ip.Completed octets mid first rest s p t w e) may whole = absurd (clash p whole)
packet_taken r f (ip.Whole s w t) may whole = t

pub ipv4_taken : {source : HardwareAddress} {H new : Host} {octets : List ℕ} {reply : Option Reply} {notes : List Note} (r : Ipv4Repr)
    (payload : List ℕ) → ProcessesIpv4 source H octets reply notes new →
    IsIpv4 (is_rx H.capabilities.checksum.ipv4) octets → (ipv4_in octets).0 ≡ r →
    is_fragment (ipv4_in octets).1 ≡ false → (ipv4_in octets).2 ≡ payload →
    may_be_source H.ip_addrs r.src_addr ≡ true → ProcessesDatagram source r H payload reply notes new
ipv4_taken r payload (ip.Malformed m d) is header whole behind may = absurd (m is)
ipv4_taken {source} {H} {new} {octets} {reply} {notes} r payload (ip.Read i t) is header whole behind may =
    let at_header : ProcessesPacket source r (ipv4_in octets).1 H (ipv4_in octets).2 reply notes new =
    subst (λ x. ProcessesPacket source x (ipv4_in octets).1 H (ipv4_in octets).2 reply notes new) header t in
    let at_payload : ProcessesPacket source r (ipv4_in octets).1 H payload reply notes new =
    subst (λ x. ProcessesPacket source r (ipv4_in octets).1 H x reply notes new) behind at_header in
    packet_taken r (ipv4_in octets).1 at_payload may whole

-- what is done with a packet for the host that came whole
pub packet_served : {own : HardwareAddress} {t : ℤ} {frame : List ℕ} {old new : Host} {told : List Event} {r : Ipv4Repr} {payload : List ℕ}
    {all : List Note} (w : PacketTaken ProcessesIpv4 own t frame old told all new) →
    HasPacketV4 own old frame r payload →
    ProcessesProtocol r.next_header (raw.is_taken (repr.Ipv4 r) (without_expired old t)) r
    (met w.source r payload (without_expired old t)) payload w.reply w.notes w.taken
packet_served {own} {t} {frame} {old} {new} {told} {r} {payload} w p =
    let may : may_be_source old.ip_addrs r.src_addr ≡ true = rw p.sender refl in
    let for_us : is_for_host (without_expired old t) (Ipv4 r.dst_addr) ≡ true = rw p.given refl in
    whole_taken r (ipv4_taken r payload w.takes p.is_packet p.header p.whole p.behind may) for_us p.receiver

pub record EchoAnswered (r : Ipv4Repr) (ident seq_no : ℕ) (octets payload : List ℕ) (H : Host) (reply : Option Reply) (new : Host) : Type 0 where
  pub replies : reply ≡ Some
      (Ip (packet.Ipv4 (record { src_addr = r.dst_addr; dst_addr = r.src_addr; hop_limit = 64; payload = Icmpv4 (EchoReply ident seq_no) octets })))
  pub host_is : new ≡ icmp.host_after_delivery r payload H

pub echo_answered : {H new : Host} {payload : List ℕ} {reply : Option Reply} {notes : List Note} (r : Ipv4Repr) (ident seq_no : ℕ) (octets : List ℕ) →
    ProcessesIcmpv4 r H payload reply notes new →
    IsIcmpv4 (is_rx H.capabilities.checksum.icmpv4) payload → icmpv4_in payload ≡ (EchoRequest ident seq_no, octets) →
    is_unicast_v4 H.ip_addrs r.src_addr ≡ true → is_unicast_v4 H.ip_addrs r.dst_addr ≡ true → EchoAnswered r ident seq_no octets payload H reply new
echo_answered r ident seq_no octets (icmp.Malformed m d) is values from to = absurd (m is)
echo_answered {H} r ident seq_no octets (icmp.Taken i rep n e) is values from to = record {
  replies = rep ∙ ap (λ v. answer_to H.ip_addrs r v.0 v.1) values ∙ rw (from, to) refl;
  host_is = e;
}

pub pings_served : PingsAreAnswered
pings_served t old new told own frame r ident seq_no octets h w itself p reach fits =
    let k = v4_of own w p.in_packet.taken p.in_packet.is_packet in
    let mid : Host = met k.source r p.payload (without_expired old t) in
    let any = packet_served k p.in_packet in
    let message : ProcessesIcmpv4 r mid p.payload k.reply k.notes k.taken =
    subst (λ q. ProcessesProtocol q (raw.is_taken (repr.Ipv4 r) (without_expired old t)) r mid p.payload k.reply k.notes k.taken) p.protocol_is any in
    let answered = echo_answered r ident seq_no octets message p.is_message p.values p.in_packet.sender p.in_packet.receiver in
    let one = one_of old.ip_addrs r.src_addr p.in_packet.sender in
    let there : Responds (Some (Ip (packet.Ipv4 (record {
      src_addr = r.dst_addr;
      dst_addr = r.src_addr;
      hop_limit = 64;
      payload = Icmpv4 (EchoReply ident seq_no) octets;
    })))) k.taken k.frames k.more new =
    subst (λ x. Responds x k.taken k.frames k.more new) answered.replies k.responds in
    let went : Responds (Some (Ip (packet.Ipv4 (record {
      src_addr = r.dst_addr;
      dst_addr = r.src_addr;
      hop_limit = 64;
      payload = Icmpv4 (EchoReply ident seq_no) octets;
    })))) (icmp.host_after_delivery r p.payload mid) k.frames k.more new =
    subst (λ K. Responds (Some (Ip (packet.Ipv4 (record {
      src_addr = r.dst_addr;
      dst_addr = r.src_addr;
      hop_limit = 64;
      payload = Icmpv4 (EchoReply ident seq_no) octets;
    })))) K k.frames k.more new) answered.host_is there in
    let way : HasWay own (icmp.host_after_delivery r p.payload mid) (Ipv4 r.src_addr) h = way_by {H = at old t} own (λ near.
    let still = reached_still {H = without_expired old t} k.source r p.payload
    (record { hop = near.hop; next = hop_as {H = at old t} {K = without_expired old t} refl refl refl near.next; known = near.known }) in
    record { hop = still.hop; next = hop_as {H = mid} {K = icmp.host_after_delivery r p.payload mid} refl refl refl still.next; known = still.known })
    reach in
    let short : 20 + (8 + length octets) ≤ ip_mtu_of old.capabilities = omega (arith, fits) in
    let gone = goes_whole own h went.1 w.on_medium one.specified one.not_multicast way short in
    k.sends_them ∙ gone.frames_are

-- A request's frame

header_long : (d s rest : List ℕ) → length d ≡ 6 → length s ≡ 6 → 14 ≤ length ((d ++ s ++ to_be_bytes w16 0x0806) ++ rest)
header_long d s rest e f = search (arith, length-append)

pub request_frames_read : RequestFramesAreRead
request_frames_read own source destination addrs r padding s d for_us packet asks target sender hardware near =
    let e = ethernet_again.read_again (record { src_addr = source; dst_addr = destination; ethertype = protocol.Arp }) (arp_text.text r ++ padding)
    (record { destination = d; source = s; number = lit≤ tt; protocol = refl }) in
    let header : header_in (request_frame source destination r padding)
    ≡ record { src_addr = source; dst_addr = destination; ethertype = protocol.Arp } = ap (λ x. x.0) e in
    let behind : drop 14 (request_frame source destination r padding) ≡ arp_text.text r ++ padding = ap (λ x. x.1) e in
    let again = arp_again.read_again r padding packet in
    record {
      taken = record {
        whole = header_long destination.0 source.0 (arp_text.text r ++ padding) d s;
        to_host = ap (λ (h : EthernetRepr). is_for own h.dst_addr) header ∙ for_us;
        of_type = ap (λ (h : EthernetRepr). h.ethertype) header;
      };
      is_packet = subst IsArp (sym behind) again.0;
      values = ap arp_in behind ∙ again.1;
      request = asks;
      target = target;
      sender = sender;
      sender_hardware = hardware;
      near = near;
    }
