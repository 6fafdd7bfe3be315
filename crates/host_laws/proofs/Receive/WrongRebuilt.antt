-- A payload that a fragment completes, and whose checksum is wrong, is dropped.
use Rattle.std.proofs.Common.{◌≡◌, ◌⊎◌, ℕ, true, List, [], ◌∷◌, ◌++◌, sym, ◌∙◌, ap, subst, append_assoc}
use Rattle.std.proofs.Common.{inl, inr, Option, None}
use Rattle.std.proofs.lemmas.List.{append-nil}
use Rattle.std.specs.Prelude.{map}
use Rattle.ip_address.specs.declared.hardware.HardwareAddress.{HardwareAddress}
use Rattle.ip_address.specs.declared.ip.IpAddress.{IpAddress}
use Rattle.ip_address.specs.declared.ip.IpAddress.TheVariants.{Ipv4}
use Rattle.ip_wire.specs.declared.ipv4_packet.Ipv4Repr.{Ipv4Repr}
use Rattle.ip_wire.specs.declared.ipv4_packet.Ipv4Fragment.{Ipv4Fragment}
use Rattle.ip_wire.specs.Ipv4Packet.{ipv4_in, is_fragment}
use Rattle.fragmentation.specs.Reassembly.{SlotNote}
use Rattle.fragmentation.specs.Slots.{Slots}
use Rattle.host_machine.specs.Context.Note.{Note, OfSlots, slot_notes}
use Rattle.host_machine.specs.Context.Host.{Host, with_slots, without_expired}
use Rattle.host_machine.specs.Receive.Reply.{Reply, IsDropped}
use Rattle.host_machine.specs.Receive.Response.{Responds}
use Rattle.host_machine.specs.Receive.Ipv4.{ProcessesDatagram, ProcessesIpv4, ProcessesPacket, datagram_header, key_in}
use Rattle.host_machine.specs.Receive.Ipv4 as ip
use Rattle.host_laws.specs.Laws.Arrivals.{rebuilt}
use Rattle.host_laws.specs.Laws.Restraint.Checksums.{HasWrongSumV4}
use Rattle.host_laws.specs.Laws.Restraint.Rebuilt.{WrongRebuiltPayloadsAreDropped}
use Rattle.host_laws.proofs.Receive.FrameReplies.{clash}
use Rattle.host_laws.proofs.Receive.Malformed.{nothing_responded}
use Rattle.host_laws.proofs.Sockets.RebuiltDelivery.{rebuilt_first}
use Rattle.host_laws.proofs.Receive.ReceivedFrames.{WasHandled, TakenV4, handled, handled_v4}
use Rattle.host_laws.proofs.Receive.WrongSums.{IsUnread, datagram_unread}

-- what a fragment leaves that completes such a payload
record IsUnreadRebuilt (sender : IpAddress) (H : Host) (reply : Option Reply) (notes : List Note) (new : Host) : Type 0 where
  slots : Slots
  noted_slots : List SlotNote
  rest : List Note
  noted : notes ≡ map OfSlots noted_slots ++ rest
  unread : IsUnread sender (with_slots H slots) reply rest new

-- what is dropped rebuilds nothing
dropped_rebuilds : {H new : Host} {reply : Option Reply} {notes more : List Note} {payload : List ℕ} (r : Ipv4Repr) (f : Ipv4Fragment) →
    IsDropped H reply notes new → (reply ≡ None → more ≡ []) → rebuilt (key_in r f) (slot_notes (notes ++ more)) ≡ payload ∷ [] → ⊥
dropped_rebuilds {notes = notes} {more} {payload} r f d silent e =
    let bad : rebuilt (key_in r f) (slot_notes ([] ++ [])) ≡ payload ∷ [] = rw (d.unnoted, silent d.silent) at e in cc

packet_unread : {source : HardwareAddress} {H new : Host} {octets : List ℕ} {reply : Option Reply} {notes : List Note}
    (more : List Note) (r : Ipv4Repr) (f : Ipv4Fragment) (payload : List ℕ) →
    ProcessesPacket source r f H octets reply notes new → (reply ≡ None → more ≡ []) → is_fragment f ≡ true →
    rebuilt (key_in r f) (slot_notes (notes ++ more)) ≡ payload ∷ [] →
    HasWrongSumV4 H.capabilities.checksum (Ipv4 r.src_addr) (Ipv4 r.dst_addr) payload r.next_header →
    IsUnreadRebuilt (Ipv4 r.src_addr) H reply notes new
packet_unread more r f payload (ip.FromNoHost s d) silent part e wrong = absurd (dropped_rebuilds r f d silent e)
packet_unread more r f payload (ip.Whole s w t) silent part e wrong = absurd (clash part w)
packet_unread more r f payload (ip.Part s p t none) silent part e wrong =
    let nothing : rebuilt (key_in r f) (slot_notes more) ≡ [] = ap (λ ns. rebuilt (key_in r f) (slot_notes ns)) (silent none) in
    absurd (let bad : [] ≡ payload ∷ [] = sym nothing ∙ sym (rebuilt_first more t) ∙ e in cc)
packet_unread {source} {H} {new} {reply = reply} more r f payload (ip.Completed whole mid first rest s p t w n) silent part e wrong =
    let all : rebuilt (key_in r f) (slot_notes (first ++ (rest ++ more))) ≡ payload ∷ [] =
    ap (λ ns. rebuilt (key_in r f) (slot_notes ns)) (sym (append_assoc first rest more) ∙ ap (λ ns. ns ++ more) (sym n)) ∙ e in
    let one : whole ∷ rebuilt (key_in r f) (slot_notes (rest ++ more)) ≡ payload ∷ [] = sym (rebuilt_first (rest ++ more) t) ∙ all in
    let same : whole ≡ payload = cc in
    let takes : ProcessesDatagram source (datagram_header r payload) (with_slots H t.slots) payload reply rest new =
    subst (λ K. ProcessesDatagram source (datagram_header r payload) K payload reply rest new) t.changed
    (subst (λ os. ProcessesDatagram source (datagram_header r os) mid os reply rest new) same w) in
    record {
      slots = t.slots;
      noted_slots = t.slot_notes;
      rest = rest;
      noted = n ∙ ap (λ ns. ns ++ rest) t.noted;
      unread = datagram_unread (datagram_header r payload) takes wrong;
    }

ipv4_unread : {source : HardwareAddress} {H new : Host} {octets : List ℕ} {reply : Option Reply} {notes : List Note} (more : List Note)
    (payload : List ℕ) → ProcessesIpv4 source H octets reply notes new → (reply ≡ None → more ≡ []) → is_fragment (ipv4_in octets).1 ≡ true →
    rebuilt (key_in (ipv4_in octets).0 (ipv4_in octets).1) (slot_notes (notes ++ more)) ≡ payload ∷ [] →
    HasWrongSumV4 H.capabilities.checksum
    (Ipv4 (ipv4_in octets).0.src_addr) (Ipv4 (ipv4_in octets).0.dst_addr) payload (ipv4_in octets).0.next_header →
    IsUnreadRebuilt (Ipv4 (ipv4_in octets).0.src_addr) H reply notes new
ipv4_unread {octets = octets} more payload (ip.Malformed m d) silent part e wrong =
    absurd (dropped_rebuilds (ipv4_in octets).0 (ipv4_in octets).1 d silent e)
ipv4_unread {octets = octets} more payload (ip.Read i t) silent part e wrong =
    packet_unread more (ipv4_in octets).0 (ipv4_in octets).1 payload t silent part e wrong

-- only slots were noted
slots_noted : (first more rest : List Note) (s : List SlotNote) → first ≡ map OfSlots s ++ rest → rest ≡ [] → more ≡ [] → first ++ more ≡ map OfSlots s
slots_noted first more rest s e r m = rw (m, e, r) (append-nil (map OfSlots s ++ []) ∙ append-nil (map OfSlots s))

pub rebuilt_dropped : WrongRebuiltPayloadsAreDropped
rebuilt_dropped t frame old new told notes w packet c wrong =
    let h = handled w in
    let silent : h.reply ≡ None → h.more ≡ [] = λ none. (subst (λ x. Responds x h.taken h.frames h.more new) none h.responds).1 in
    let u = by h silent (handled_v4 h c) in
    let r = nothing_responded u.unread.dropped.silent h.responds in
    record {
      silent = h.sends_them ∙ r.0;
      slots = u.slots;
      noted_slots = u.noted_slots;
      noted = h.noted ∙ slots_noted h.first h.more u.rest u.noted_slots u.noted u.unread.dropped.unnoted r.1;
      neighbors = u.unread.neighbors;
      places = u.unread.places;
      renewed = u.unread.renewed;
      raw_only = u.unread.raw_only;
      others = r.2 ∙ u.unread.dropped.unchanged;
    } where
      by : (h : WasHandled t frame old told notes new) → (h.reply ≡ None → h.more ≡ []) →
          (TakenV4 (without_expired old t) packet h.reply h.first h.taken ⊎ IsDropped (without_expired old t) h.reply h.first h.taken) →
          IsUnreadRebuilt (Ipv4 (ipv4_in packet).0.src_addr) (without_expired old t) h.reply h.first h.taken
      by h silent (inl x) =
          let noted = ap (λ ns. rebuilt (key_in (ipv4_in packet).0 (ipv4_in packet).1) (slot_notes ns)) (sym h.noted) ∙ wrong.rebuilds in
          ipv4_unread h.more wrong.payload x.takes silent wrong.part noted wrong.wrong
      by h silent (inr d) =
          let noted = ap (λ ns. rebuilt (key_in (ipv4_in packet).0 (ipv4_in packet).1) (slot_notes ns)) (sym h.noted) ∙ wrong.rebuilds in
          absurd (dropped_rebuilds (ipv4_in packet).0 (ipv4_in packet).1 d silent noted)
