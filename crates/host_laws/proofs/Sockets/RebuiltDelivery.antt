-- A datagram that a fragment completes is queued in the call that takes it.
use Rattle.std.proofs.Common.{◌≡◌, ℕ, true, List, [], ◌∷◌, ◌++◌, refl, sym, ◌∙◌, ap, subst, append_assoc, Option, Some, None}
use Rattle.std.specs.Prelude.{ℤ, if◌then◌else◌}
use Rattle.net_base.specs.Checksum.{is_rx}
use Rattle.ip_address.specs.declared.hardware.HardwareAddress.{HardwareAddress}
use Rattle.ip_address.specs.declared.ip.IpAddress.TheVariants.{Ipv4}
use Rattle.ip_wire.specs.declared.ip_packet.IpRepr.TheVariants as repr
use Rattle.ip_wire.specs.declared.ipv4_packet.Ipv4Fragment.{Ipv4Fragment}
use Rattle.ip_wire.specs.declared.ipv4_packet.Ipv4Repr.{Ipv4Repr}
use Rattle.ip_wire.specs.Ipv4Packet.{IsIpv4, ipv4_in, is_fragment}
use Rattle.fragmentation.specs.declared.key.FragKey.{FragKey}
use Rattle.fragmentation.specs.Fragments.{Fragment}
use Rattle.fragmentation.specs.Slots.{Slots}
use Rattle.fragmentation.specs.Reassembly.{SlotNote, Reassembles, Arrival, Rebuild, NoSlot, Unfit, Waits, Rebuilt}
use Rattle.host_machine.specs.Context.Note.{Note, slot_notes}
use Rattle.host_machine.specs.Context.Host.{Host, with_slots, without_expired}
use Rattle.host_machine.specs.Context.Addresses.{is_for_host, may_be_source}
use Rattle.host_machine.specs.Sockets.Raw as raw
use Rattle.host_machine.specs.Receive.Reassembly.{TakesFragment}
use Rattle.host_machine.specs.Receive.Reply.{Reply}
use Rattle.host_machine.specs.Receive.Response.{Responds}
use Rattle.host_machine.specs.Sockets.Udp.{ProcessesUdp}
use Rattle.host_machine.specs.Receive.Ipv4.{ProcessesIpv4, ProcessesPacket, ProcessesDatagram, ProcessesProtocol, datagram_header, key_in}
use Rattle.host_machine.specs.Receive.Ipv4 as ip
use Rattle.host_laws.specs.Laws.Arrivals.{rebuilt}
use Rattle.host_laws.specs.Laws.Reassembled.{RebuiltDatagramsAreQueued}
use Rattle.host_laws.proofs.Context.NotesBySubject.{slot_notes-append, slot_notes-slots}
use Rattle.host_laws.proofs.Runs.ReassemblyOrigin.{test_same}
use Rattle.host_laws.proofs.Receive.FrameReplies.{clash, met, v4_of, whole_taken}
use Rattle.host_laws.proofs.Sockets.DatagramDelivery.{datagram_heard}
use Rattle.host_laws.proofs.Runs.FragmentArrivals.{rebuilt-append, rebuilt_after}

abbrev pub all_of : Option (List ℕ) → List (List ℕ)
all_of None = []
all_of (Some octets) = octets ∷ []

-- what a fragment rebuilds under its key
rebuilt_by : {ends : ℤ} {slots new : Slots} {f : Fragment} {result : Option (List ℕ)} {notes : List SlotNote} (key : FragKey) →
    Reassembles ends key f result slots notes new → rebuilt key notes ≡ all_of result
rebuilt_by key (NoSlot none full r n e) = ap (rebuilt key) n ∙ sym (ap all_of r)
rebuilt_by {f = f} key (Unfit slot first enters u r n e) = ap (rebuilt key) n ∙ rebuilt_after key (Arrival key f ∷ []) enters ∙ sym (ap all_of r)
rebuilt_by {f = f} key (Waits slot first enters u w r n e) = ap (rebuilt key) n ∙ rebuilt_after key (Arrival key f ∷ []) enters ∙ sym (ap all_of r)
rebuilt_by {f = f} key (Rebuilt slot first octets enters u w r n e) = ap (rebuilt key) n
    ∙ rebuilt_after key (Arrival key f ∷ Rebuild key octets ∷ []) enters
    ∙ ap (λ b. if b then octets ∷ [] else []) (test_same key) ∙ sym (ap all_of r)

-- and a part of a call that takes it, before others
pub rebuilt_first : {key : FragKey} {f : Fragment} {result : Option (List ℕ)} {H new : Host} {notes : List Note} (more : List Note) →
    TakesFragment key f result H notes new → rebuilt key (slot_notes (notes ++ more)) ≡ all_of result ++ rebuilt key (slot_notes more)
rebuilt_first {key} {notes = notes} more t = ap (rebuilt key) (slot_notes-append notes more)
    ∙ rebuilt-append key (slot_notes notes) (slot_notes more)
    ∙ ap (λ x. x ++ rebuilt key (slot_notes more)) (ap (λ x. rebuilt key (slot_notes x)) t.noted
    ∙ ap (rebuilt key) (slot_notes-slots t.slot_notes) ∙ rebuilt_by key t.reassembles)

-- the datagram that was completed, at a host with other slots
pub record WasCompleted (source : HardwareAddress) (r : Ipv4Repr) (payload : List ℕ) (H : Host) (reply : Option Reply) (new : Host) : Type 0 where
  pub slots : Slots
  pub notes : List Note
  pub takes : ProcessesDatagram source (datagram_header r payload) (with_slots H slots) payload reply notes new

packet_completes : {source : HardwareAddress} {H new : Host} {octets : List ℕ} {reply : Option Reply} {notes : List Note}
    (more : List Note) (r : Ipv4Repr) (f : Ipv4Fragment) (payload : List ℕ) →
    ProcessesPacket source r f H octets reply notes new → (reply ≡ None → more ≡ []) →
    may_be_source H.ip_addrs r.src_addr ≡ true → is_fragment f ≡ true →
    rebuilt (key_in r f) (slot_notes (notes ++ more)) ≡ payload ∷ [] → WasCompleted source r payload H reply new
packet_completes more r f payload (ip.FromNoHost s d) x may part e = absurd (clash may s)
packet_completes more r f payload (ip.Whole s w t) x may part e = absurd (clash part w)
packet_completes more r f payload (ip.Part s p t none) x may part e =
    let nothing : rebuilt (key_in r f) (slot_notes more) ≡ [] = ap (λ ns. rebuilt (key_in r f) (slot_notes ns)) (x none) in
    absurd (let bad : [] ≡ payload ∷ [] = sym nothing ∙ sym (rebuilt_first more t) ∙ e in cc)
packet_completes {source} {H} {new} {reply = reply} more r f payload (ip.Completed whole mid first rest s p t w n) x may part e =
    let all : rebuilt (key_in r f) (slot_notes (first ++ (rest ++ more))) ≡ payload ∷ [] =
    ap (λ ns. rebuilt (key_in r f) (slot_notes ns)) (sym (append_assoc first rest more) ∙ ap (λ ns. ns ++ more) (sym n)) ∙ e in
    let one : whole ∷ rebuilt (key_in r f) (slot_notes (rest ++ more)) ≡ payload ∷ [] = sym (rebuilt_first (rest ++ more) t) ∙ all in
    let same : whole ≡ payload = cc in
    record {
      slots = t.slots;
      notes = rest;
      takes = subst (λ K. ProcessesDatagram source (datagram_header r payload) K payload reply rest new) t.changed
          (subst (λ os. ProcessesDatagram source (datagram_header r os) mid os reply rest new) same w);
    }

pub completes : {source : HardwareAddress} {H new : Host} {octets : List ℕ} {reply : Option Reply} {notes : List Note}
    (more : List Note) (r : Ipv4Repr) (f : Ipv4Fragment) (payload : List ℕ) →
    ProcessesIpv4 source H octets reply notes new → (reply ≡ None → more ≡ []) →
    IsIpv4 (is_rx H.capabilities.checksum.ipv4) octets → (ipv4_in octets).0 ≡ r → (ipv4_in octets).1 ≡ f →
    may_be_source H.ip_addrs r.src_addr ≡ true → is_fragment f ≡ true →
    rebuilt (key_in r f) (slot_notes (notes ++ more)) ≡ payload ∷ [] → WasCompleted source r payload H reply new
completes more r f payload (ip.Malformed m d) x is header fields may part e = absurd (m is)
completes {source} {H} {new} {octets = octets} {reply} {notes} more r f payload (ip.Read i t) x is header fields may part e =
    packet_completes more r f payload (subst (λ y. ProcessesPacket source r y H (ipv4_in octets).2 reply notes new) fields
    (subst (λ y. ProcessesPacket source y (ipv4_in octets).1 H (ipv4_in octets).2 reply notes new) header t)) x may part e

pub rebuilt_queued : RebuiltDatagramsAreQueued
rebuilt_queued t old new told own frame r ports octets i s w itself d heard_by =
    let p = d.in_frame in
    let k = v4_of own w p.taken p.is_packet in
    let H : Host = without_expired old t in
    let may : may_be_source old.ip_addrs r.src_addr ≡ true = rw p.sender refl in
    let noted : rebuilt (key_in r d.fields) (slot_notes (k.notes ++ k.more)) ≡ d.payload ∷ [] =
    ap (λ ns. rebuilt (key_in r d.fields) (slot_notes ns)) (sym k.all_notes) ∙ d.rebuilds in
    let silent : k.reply ≡ None → k.more ≡ [] = λ none. (subst (λ x. Responds x k.taken k.frames k.more new) none k.responds).1 in
    let c = completes k.more r d.fields d.payload k.takes silent p.is_packet p.header p.fields_are may p.part noted in
    let K : Host = with_slots H c.slots in
    let q : Ipv4Repr = datagram_header r d.payload in
    let for_us : is_for_host K (Ipv4 r.dst_addr) ≡ true = rw p.given refl in
    let any = whole_taken q c.takes for_us p.receiver in
    let message : ProcessesUdp (raw.is_taken (repr.Ipv4 q) K) (repr.Ipv4 q) (met k.source q d.payload K) d.payload k.reply c.notes k.taken =
    subst (λ x. ProcessesProtocol x (raw.is_taken (repr.Ipv4 q) K) q (met k.source q d.payload K) d.payload k.reply c.notes k.taken)
    d.protocol_is any in
    let x = datagram_heard k.source k.more K new q ports octets i s message k.responds d.is_datagram d.values (record {
      here = heard_by.here;
      port = heard_by.port;
      addr = heard_by.addr;
      first = heard_by.first;
      room = heard_by.room;
    }) in
    (record { got = x.0.got; others = x.0.others }, k.sends_them ∙ x.1)
