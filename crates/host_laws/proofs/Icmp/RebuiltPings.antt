-- An echo request that a fragment completes is answered in the call that takes it.
use Rattle.std.proofs.Common.{◌≡◌, ◌≤◌, ◌<◌, ℕ, ◌+◌, true, List, [], ◌∷◌, ◌++◌, refl, sym, ◌∙◌, ap, subst, Some, None, length}
use Rattle.std.proofs.Common.{arith}
use Rattle.std.specs.Prelude.{ℤ}
use Rattle.net_base.specs.Checksum.{ip_mtu_of}
use Rattle.net_base.specs.Device.{Event, sent_frames}
use Rattle.ip_address.specs.declared.hardware.HardwareAddress.{HardwareAddress}
use Rattle.ip_address.specs.declared.ip.IpAddress.TheVariants.{Ipv4}
use Rattle.ip_wire.specs.declared.ip_packet.IpRepr.TheVariants as repr
use Rattle.ip_wire.specs.declared.ipv4_packet.Ipv4Repr.{Ipv4Repr}
use Rattle.host_machine.specs.Context.Note.{Note, slot_notes}
use Rattle.fragmentation.specs.Slots.{Slots}
use Rattle.host_machine.specs.Context.Host.{Host, at, with_slots, without_expired}
use Rattle.host_machine.specs.Context.Addresses.{is_for_host, may_be_source}
use Rattle.host_machine.specs.Packet.Packet as packet
use Rattle.host_machine.specs.Icmp.Icmpv4.{ProcessesIcmpv4}
use Rattle.host_machine.specs.Icmp.Icmpv4 as icmp
use Rattle.host_machine.specs.Sockets.Raw as raw
use Rattle.host_machine.specs.Receive.Reply.{Reply, Ip}
use Rattle.host_machine.specs.Receive.Response.{Responds}
use Rattle.host_machine.specs.Receive.Ipv4.{ProcessesProtocol, datagram_header, key_in}
use Rattle.host_laws.specs.Laws.Arrivals.{rebuilt}
use Rattle.host_laws.specs.Laws.Service.{HasWay, Takes}
use Rattle.host_laws.specs.Laws.Reassembled.{CompletesPing, LongPingsAreAnswered, RebuiltPingsAreAnswered, echo_reply}
use Rattle.host_laws.proofs.Receive.FrameReplies.{echo_answered, goes_cut, goes_whole, hop_as, met, one_of, reached_still}
use Rattle.host_laws.proofs.Receive.FrameReplies.{v4_of, way_by, whole_taken}
use Rattle.host_laws.proofs.Sockets.RebuiltDelivery.{completes}

abbrev reply_of : Ipv4Repr → ℕ → ℕ → List ℕ → Reply
reply_of r ident seq_no octets = Ip (packet.Ipv4 (echo_reply r ident seq_no octets))

-- the host that has taken it, and dispatches the reply
abbrev host_of_reply : HardwareAddress → Ipv4Repr → List ℕ → Host → Slots → Host
host_of_reply source r payload H slots =
    icmp.host_after_delivery (datagram_header r payload) payload (met source (datagram_header r payload) payload (with_slots H slots))

record IsDispatched (own h : HardwareAddress) (r : Ipv4Repr) (ident seq_no : ℕ) (octets payload : List ℕ) (H : Host)
    (told : List Event) (new : Host) : Type 0 where
  source : HardwareAddress
  slots : Slots
  frames : List (List ℕ)
  notes : List Note
  sends_them : sent_frames told ≡ frames
  goes : Responds (Some (reply_of r ident seq_no octets)) (host_of_reply source r payload H slots) frames notes new
  way : HasWay own (host_of_reply source r payload H slots) (Ipv4 r.src_addr) h

dispatched : {t : ℤ} {own h : HardwareAddress} {frame : List ℕ} {r : Ipv4Repr} {ident seq_no : ℕ} {octets : List ℕ} {old new : Host}
    {told : List Event} (w : Takes own t frame old told new) (p : CompletesPing own old frame w.notes r ident seq_no octets) →
    HasWay own (at old t) (Ipv4 r.src_addr) h → IsDispatched own h r ident seq_no octets p.payload (without_expired old t) told new
dispatched {t} {own} {h} {frame} {r} {ident} {seq_no} {octets} {old} {new} {told} w p reach =
    let d = p.in_frame in
    let k = v4_of own w d.taken d.is_packet in
    let H : Host = without_expired old t in
    let may : may_be_source old.ip_addrs r.src_addr ≡ true = rw d.sender refl in
    let noted : rebuilt (key_in r p.fields) (slot_notes (k.notes ++ k.more)) ≡ p.payload ∷ [] =
    ap (λ ns. rebuilt (key_in r p.fields) (slot_notes ns)) (sym k.all_notes) ∙ p.rebuilds in
    let silent : k.reply ≡ None → k.more ≡ [] = λ none. (subst (λ x. Responds x k.taken k.frames k.more new) none k.responds).1 in
    let c = completes k.more r p.fields p.payload k.takes silent d.is_packet d.header d.fields_are may d.part noted in
    let K : Host = with_slots H c.slots in
    let q : Ipv4Repr = datagram_header r p.payload in
    let for_us : is_for_host K (Ipv4 r.dst_addr) ≡ true = rw d.given refl in
    let any = whole_taken q c.takes for_us d.receiver in
    let mid : Host = met k.source q p.payload K in
    let message : ProcessesIcmpv4 q mid p.payload k.reply c.notes k.taken =
    subst (λ x. ProcessesProtocol x (raw.is_taken (repr.Ipv4 q) K) q mid p.payload k.reply c.notes k.taken) p.protocol_is any in
    let answered = echo_answered q ident seq_no octets message p.is_message p.values d.sender d.receiver in
    let there : Responds (Some (reply_of r ident seq_no octets)) k.taken k.frames k.more new =
    subst (λ x. Responds x k.taken k.frames k.more new) answered.replies k.responds in
    record {
      source = k.source;
      slots = c.slots;
      frames = k.frames;
      notes = k.more;
      sends_them = k.sends_them;
      goes = subst (λ X. Responds (Some (reply_of r ident seq_no octets)) X k.frames k.more new) answered.host_is there;
      way = way_by {H = at old t} own (λ near.
          let still = reached_still {H = K} k.source q p.payload
          (record { hop = near.hop; next = hop_as {H = at old t} {K = K} refl refl refl near.next; known = near.known }) in
          record { hop = still.hop; next = hop_as {H = mid} {K = icmp.host_after_delivery q p.payload mid} refl refl refl still.next; known = still.known })
          reach;
    }

pub rebuilt_pings_served : RebuiltPingsAreAnswered
rebuilt_pings_served t old new told own frame r ident seq_no octets h w itself p reach fits =
    let d = dispatched w p reach in
    let one = one_of old.ip_addrs r.src_addr p.in_frame.sender in
    let short : 20 + (8 + length octets) ≤ ip_mtu_of old.capabilities = omega (arith, fits) in
    let gone = goes_whole own h d.goes.1 w.on_medium one.specified one.not_multicast d.way short in
    d.sends_them ∙ gone.frames_are

-- a longer one is answered by a first fragment
pub long_pings_served : LongPingsAreAnswered
long_pings_served t old new told own frame r ident seq_no octets h w itself p reach too_long short =
    let d = dispatched w p reach in
    let one = one_of old.ip_addrs r.src_addr p.in_frame.sender in
    let long : ip_mtu_of old.capabilities < 20 + (8 + length octets) = omega (arith, too_long) in
    let fits : 20 + (8 + length octets) ≤ 4096 = omega (arith, short) in
    let gone = goes_cut own h d.goes.1 w.on_medium one.specified one.not_multicast d.way long fits in
    record {
      first = gone.first;
      rest = gone.rest;
      pieces_are = gone.pieces_are;
      sent = d.sends_them ∙ gone.frames_are;
      others_wait = gone.others_wait;
    }
