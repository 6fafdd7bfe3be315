-- What a frame brings: nothing for raw sockets, or one packet; and what calls that receive make of them.
use Rattle.std.proofs.Common.{◌≡◌, ◌≤◌, ℕ, true, false, List, [], ◌∷◌, ◌++◌, refl, sym, ◌∙◌, ap, subst, Option, Some, length}
use Rattle.std.proofs.Common.{option_map, if◌then◌else◌}
use Rattle.std.specs.Prelude.{ℤ, Bool, drop}
use Rattle.std.proofs.lemmas.List.{append-nil, append_assoc}
use Rattle.net_base.specs.Checksum.{is_rx, is_tx}
use Rattle.net_base.specs.Device.{Event, Reception, Frame, Nothing, Withheld, Received, handed_frames}
use Rattle.ip_address.specs.declared.ethernet_address.EthernetAddress.{EthernetAddress}
use Rattle.ip_address.specs.declared.hardware.HardwareAddress.{HardwareAddress}
use Rattle.ip_address.specs.declared.hardware.HardwareAddress.TheVariants as hardware
use Rattle.ip_address.specs.declared.ip.IpAddress.TheVariants as address
use Rattle.ip_address.specs.Protocol.{number_of}
use Rattle.ip_address.specs.Ipv6.{is_unicast}
use Rattle.ip_wire.specs.declared.ethernet.EthernetProtocol.{EthernetProtocol}
use Rattle.ip_wire.specs.declared.ethernet.EthernetProtocol.TheVariants as ethertype
use Rattle.ip_wire.specs.declared.ip_packet.IpRepr.TheVariants as repr
use Rattle.ip_wire.specs.Ethernet.{header_in}
use Rattle.ip_wire.specs.IpPacket.{next_header, version_of}
use Rattle.ip_wire.specs.Ipv4Packet.{IsIpv4, ipv4_in, is_fragment}
use Rattle.ip_wire.specs.Ipv6Packet.{IsIpv6, ipv6_in}
use Rattle.ip_wire.specs.HopByHop.{IsHopByHop, hop_by_hop_in, first_failure}
use Rattle.ip_wire.specs.declared.hop_by_hop.Ipv6OptionFailureType.TheVariants.{Skip}
use Rattle.sockets.specs.Raw.{RawSocket, accepts, socket_after_delivery}
use Rattle.fragmentation.specs.declared.key.FragKey.{FragKey}
use Rattle.fragmentation.specs.Fragments.{Fragment}
use Rattle.fragmentation.specs.Reassembly.{SlotNote}
use Rattle.host_machine.specs.declared.results.PollIngressSingleResult.{PollIngressSingleResult}
use Rattle.host_machine.specs.Context.Note.{Note, slot_notes}
use Rattle.host_machine.specs.Context.Host.{Host, at, without_expired}
use Rattle.host_machine.specs.Context.Addresses.{is_for_host, may_be_source}
use Rattle.host_machine.specs.Receive.Reply.{Reply}
use Rattle.host_machine.specs.Discovery.Arp.{ProcessesArp}
use Rattle.host_machine.specs.Discovery.Arp as arp
use Rattle.host_machine.specs.Receive.Reassembly.{TakesFragment}
use Rattle.host_machine.specs.Receive.Ipv4.{ProcessesIpv4, key_in, fragment_in, datagram_header}
use Rattle.host_machine.specs.Receive.Ipv4 as ipv4
use Rattle.host_machine.specs.Receive.Ipv6 as ipv6
use Rattle.host_machine.specs.Receive.Ethernet.{ProcessesEthertype, ProcessesFrame, is_for}
use Rattle.host_machine.specs.Receive.Ethernet as ethernet
use Rattle.host_laws.specs.Laws.Frames.{Carries}
use Rattle.host_laws.specs.Laws.Frames as frames
use Rattle.host_machine.specs.Interface.Ingress.{Takes, Ingress}
use Rattle.host_machine.specs.Packet.Frame.{sends}
use Rattle.host_machine.specs.Interface.Parts.{Part}
use Rattle.host_laws.proofs.Context.NotesBySubject.{slot_notes-append, slot_notes-slots}
use Rattle.host_laws.proofs.Receive.PacketEffects.{whole_plain}
use Rattle.host_laws.proofs.Receive.Malformed.{handed_frames-sends}
use Rattle.host_laws.proofs.Receive.SlotEffects.{handed_frames-append}
use Rattle.host_laws.specs.Deliveries.{CarriesIpv6}
use Rattle.host_laws.specs.Deliveries as spec
use Rattle.host_laws.specs.RawArrivals.{RawArrival, Arrive, BringsRaw, socket_after_arrival, with_arrivals, without_sending}
use Rattle.host_laws.specs.RawArrivals as arrive
use Rattle.host_laws.proofs.DatagramHandover.{seen}
use Rattle.host_laws.proofs.FrameDatagrams.{completes}
use Rattle.host_laws.proofs.IngressDeliveries.{responded}
use Rattle.host_laws.proofs.Lists.{option_map_then}
use Rattle.host_laws.proofs.RawHandover.{Heard, HeardV6, IsHeard, NotHeard, Same, Speaker, ByRaw, ByTcp, changed, heard_none, payload_v6}
use Rattle.host_laws.proofs.RawHandover.{same, same_by, same_heard, speaker_at, unread, whole_v4}

-- nothing was heard, or one packet that the frame brings
pub data Came (H : Host) (frame : List ℕ) (noted : List SlotNote) (new : Host) : Type 0 where
  NoneCame : Same H new → Came H frame noted new
  OneCame : (a : RawArrival) → BringsRaw H frame noted a → Heard (is_tx H.capabilities.checksum.ipv4) (a ∷ []) H new → Came H frame noted new

fragment_same : {key : FragKey} {f : Fragment} {result : Option (List ℕ)} {H new : Host} {notes : List Note} →
    TakesFragment key f result H notes new → Same H new
fragment_same t = same_by t.changed (unread refl refl)

-- IPv4
rebuilt_came : {source : HardwareAddress} {frame packet : List ℕ} {H mid new : Host} {octets : List ℕ} {reply : Option Reply}
    {notes first rest : List Note} →
    Carries H.hardware_addr frame packet → IsIpv4 (is_rx H.capabilities.checksum.ipv4) packet →
    may_be_source H.ip_addrs (ipv4_in packet).0.src_addr ≡ true → is_fragment (ipv4_in packet).1 ≡ true →
    TakesFragment (key_in (ipv4_in packet).0 (ipv4_in packet).1) (fragment_in (ipv4_in packet).1 (ipv4_in packet).2) (Some octets) H first mid →
    ipv4.ProcessesDatagram source (datagram_header (ipv4_in packet).0 octets) mid octets reply rest new →
    notes ≡ first ++ rest → Came H frame (slot_notes notes) new
rebuilt_came {source} {frame} {packet} {H} {mid} {new} {octets} {reply} {notes} {first} {rest} c i s g t w n =
    let kept = fragment_same t in
    let e : rest ≡ [] = (whole_plain w).unnoted in
    let last = completes t.reassembles in
    let all : slot_notes notes ≡ t.slot_notes = rw (n, e, append-nil, t.noted) (slot_notes-slots t.slot_notes) in
    let a : RawArrival = record { header = repr.Ipv4 (datagram_header (ipv4_in packet).0 octets); payload = octets; is_reassembled = true } in
    let summed : is_tx mid.capabilities.checksum.ipv4 ≡ is_tx H.capabilities.checksum.ipv4 =
    ap (λ (K : Host). is_tx K.capabilities.checksum.ipv4) kept.seen_is in
    OneCame a (arrive.InFragments packet octets last.earlier c i s g (all ∙ last.last) refl)
    (same_heard kept (subst (λ b. Heard b (a ∷ []) mid new) summed (whole_v4 true w)))

ipv4_came : {source : HardwareAddress} {frame packet : List ℕ} {H new : Host} {reply : Option Reply} {notes : List Note} →
    Carries H.hardware_addr frame packet → ProcessesIpv4 source H packet reply notes new → Came H frame (slot_notes notes) new
ipv4_came c (ipv4.Malformed m d) = NoneCame (same d.unchanged)
ipv4_came c (ipv4.Read i (ipv4.FromNoHost s d)) = NoneCame (same d.unchanged)
ipv4_came c (ipv4.Read i (ipv4.Part s g t e)) = NoneCame (fragment_same t)
ipv4_came c (ipv4.Read i (ipv4.Completed octets mid first rest s g t w n)) = rebuilt_came c i s g t w n
ipv4_came {packet = packet} c (ipv4.Read i (ipv4.Whole s g t)) =
    OneCame (record { header = repr.Ipv4 (ipv4_in packet).0; payload = (ipv4_in packet).2; is_reassembled = false })
    (arrive.OverIpv4 packet c i s g refl) (whole_v4 false t)

-- IPv6
options_came : {frame packet : List ℕ} {H new : Host} {noted : List SlotNote} →
    CarriesIpv6 H.hardware_addr frame packet → IsIpv6 packet → is_unicast (ipv6_in packet).0.src_addr ≡ true →
    number_of (ipv6_in packet).0.next_header ≡ 0 → IsHopByHop (ipv6_in packet).1 →
    first_failure (hop_by_hop_in (ipv6_in packet).1).0.options.items ≡ Skip →
    HeardV6 (ipv6_in packet).0 (hop_by_hop_in (ipv6_in packet).1).1 H new → Came H frame noted new
options_came c i u z o s (NotHeard x) = NoneCame x
options_came {frame} {packet} c i u z o s (IsHeard for h) =
    OneCame (record { header = repr.Ipv6 (ipv6_in packet).0; payload = (hop_by_hop_in (ipv6_in packet).1).1; is_reassembled = false })
    (arrive.AfterOptions packet c i u z o s for refl) h

bare_came : {frame packet : List ℕ} {H new : Host} {noted : List SlotNote} →
    CarriesIpv6 H.hardware_addr frame packet → IsIpv6 packet → is_unicast (ipv6_in packet).0.src_addr ≡ true →
    (number_of (ipv6_in packet).0.next_header ≡ 0 → ⊥) → HeardV6 (ipv6_in packet).0 (ipv6_in packet).1 H new → Came H frame noted new
bare_came c i u z (NotHeard x) = NoneCame x
bare_came {frame} {packet} c i u z (IsHeard for h) =
    OneCame (record { header = repr.Ipv6 (ipv6_in packet).0; payload = (ipv6_in packet).1; is_reassembled = false })
    (arrive.OverIpv6 packet c i u z for refl) h

ipv6_came : {source : HardwareAddress} {frame packet : List ℕ} {H new : Host} {reply : Option Reply} {notes : List Note} →
    CarriesIpv6 H.hardware_addr frame packet → ipv6.ProcessesIpv6 source H packet reply notes new → Came H frame (slot_notes notes) new
ipv6_came c (ipv6.Malformed m d) = NoneCame (same d.unchanged)
ipv6_came c (ipv6.Read i (ipv6.FromNoHost u d)) = NoneCame (same d.unchanged)
ipv6_came c (ipv6.Read i (ipv6.WithOptions u z (ipv6.MalformedOptions m d))) = NoneCame (same d.unchanged)
ipv6_came c (ipv6.Read i (ipv6.WithOptions u z (ipv6.Skipped o s t))) = options_came c i u z o s (payload_v6 t)
ipv6_came c (ipv6.Read i (ipv6.WithOptions u z (ipv6.Discarded failure o f s r n e))) = NoneCame (same e)
ipv6_came c (ipv6.Read i (ipv6.Bare u z t)) = bare_came c i u z (payload_v6 t)

-- frames
arp_same : {own : EthernetAddress} {H new : Host} {payload : List ℕ} {reply : Option Reply} {notes : List Note} →
    ProcessesArp own H payload reply notes new → Same H new
arp_same (arp.Malformed m d) = same d.unchanged
arp_same (arp.NotForUs a l d) = same d.unchanged
arp_same (arp.Learnt a l learns r n) = same_by learns.same (unread refl refl)

payload_came : (own source : EthernetAddress) (H : Host) (p : EthernetProtocol) (frame : List ℕ) (reply : Option Reply) (notes : List Note)
    (new : Host) → H.hardware_addr ≡ hardware.Ethernet own → 14 ≤ length frame →
    is_for own (header_in frame).dst_addr ≡ true → (header_in frame).ethertype ≡ p →
    ProcessesEthertype own source H p (drop 14 frame) reply notes new → Came H frame (slot_notes notes) new
payload_came own source H ethertype.Arp frame reply notes new mine l f is t = NoneCame (arp_same t)
payload_came own source H ethertype.Ipv4 frame reply notes new mine l f is t = ipv4_came (frames.OverEthernet own mine l f is refl) t
payload_came own source H ethertype.Ipv6 frame reply notes new mine l f is t = ipv6_came (spec.OverEthernet own mine l f is refl) t
payload_came own source H (ethertype.Unknown n) frame reply notes new mine l f is t = NoneCame (same t.unchanged)

frame_came : (h : HardwareAddress) (H : Host) (frame : List ℕ) (reply : Option Reply) (notes : List Note) (new : Host) →
    H.hardware_addr ≡ h → ProcessesFrame h H frame reply notes new → Came H frame (slot_notes notes) new
frame_came (hardware.Ethernet own) H frame reply notes new mine (ethernet.Malformed m d) = NoneCame (same d.unchanged)
frame_came (hardware.Ethernet own) H frame reply notes new mine (ethernet.NotForUs l f d) = NoneCame (same d.unchanged)
frame_came (hardware.Ethernet own) H frame reply notes new mine (ethernet.Accepted l f t) =
    payload_came own _ H (header_in frame).ethertype frame reply notes new mine l f refl t
frame_came hardware.Ip H frame reply notes new mine (ethernet.Ipv4 v t) = ipv4_came (frames.AsItStands mine v refl) t
frame_came hardware.Ip H frame reply notes new mine (ethernet.Ipv6 v t) = ipv6_came (spec.AsItStands mine v refl) t
frame_came hardware.Ip H frame reply notes new mine (ethernet.OtherVersion v w d) = NoneCame (same d.unchanged)

-- what arrives in parts one after the other
pub arrive-append : {B : Host} {fs gs : List (List ℕ)} {ns ms : List SlotNote} {cs bs : List RawArrival} →
    Arrive B fs ns cs → Arrive B gs ms bs → Arrive B (fs ++ gs) (ns ++ ms) (cs ++ bs)
arrive-append arrive.NoFrame e = e
arrive-append {B = B} {gs = gs} {ms = ms} {bs = bs} (arrive.OneBrings {frames = frames} {noted = noted} {cs = cs} frame own a g r) e =
    subst (λ ns. Arrive B (frame ∷ (frames ++ gs)) ns (a ∷ (cs ++ bs))) (sym (append_assoc own noted ms))
    (arrive.OneBrings frame own a g (arrive-append r e))
arrive-append {B = B} {gs = gs} {ms = ms} {bs = bs} (arrive.NoneBrings {frames = frames} {noted = noted} {cs = cs} frame own r) e =
    subst (λ ns. Arrive B (frame ∷ (frames ++ gs)) ns (cs ++ bs)) (sym (append_assoc own noted ms))
    (arrive.NoneBrings frame own (arrive-append r e))

pub with_arrivals-append : (summed : Bool) (cs bs : List RawArrival) (s : RawSocket) →
    with_arrivals summed (cs ++ bs) s ≡ with_arrivals summed bs (with_arrivals summed cs s)
with_arrivals-append summed [] bs s = refl
with_arrivals-append summed (a ∷ cs) bs s = with_arrivals-append summed cs bs (socket_after_arrival summed a s)

-- it leaves what there is to send, and whom a socket accepts
pub after_arrival : (summed : Bool) (a : RawArrival) (s : RawSocket) →
    without_sending (socket_after_arrival summed a s) ≡ socket_after_arrival summed a (without_sending s)
after_arrival summed a s = by (accepts s (version_of a.header) (next_header a.header)) where
  by : (b : Bool) → without_sending (if b then socket_after_delivery summed a.header a.payload s else s)
      ≡ (if b then socket_after_delivery summed a.header a.payload (without_sending s) else without_sending s)
  by true = refl
  by false = refl

pub after_arrivals : (summed : Bool) (cs : List RawArrival) (s : RawSocket) →
    without_sending (with_arrivals summed cs s) ≡ with_arrivals summed cs (without_sending s)
after_arrivals summed [] s = refl
after_arrivals summed (a ∷ cs) s =
    after_arrivals summed cs (socket_after_arrival summed a s) ∙ ap (with_arrivals summed cs) (after_arrival summed a s)

-- what part of a call received, from a host that is as the call's in what is read of it
pub record Receipt (B old : Host) (told : List Event) (notes : List Note) (new : Host) : Type 0 where
  pub seen_is : seen new ≡ seen B
  pub arrivals : List RawArrival
  pub came : Arrive B (handed_frames told) (slot_notes notes) arrivals
  pub speakers : (i : ℕ) → speaker_at new.sockets i
      ≡ option_map (changed (with_arrivals (is_tx B.capabilities.checksum.ipv4) arrivals)) (speaker_at old.sockets i)

abbrev pub Receives : Host → Part
Receives B old told notes new = seen old ≡ seen B → Receipt B old told notes new

pub received_none : (B old : Host) (told : List Event) (notes : List Note) (new : Host) →
    handed_frames told ≡ [] → slot_notes notes ≡ [] → Same old new → Receives B old told notes new
received_none B old told notes new h n s = λ like. let heard = heard_none (is_tx B.capabilities.checksum.ipv4) s in record {
  seen_is = s.seen_is ∙ like;
  arrivals = [];
  came = subst (λ fs. Arrive B fs (slot_notes notes) []) (sym h) (subst (λ ns. Arrive B [] ns []) (sym n) arrive.NoFrame);
  speakers = heard.speakers;
}

changed_then : (f g h : RawSocket → RawSocket) → ((s : RawSocket) → g (f s) ≡ h s) → (v : Speaker) → changed g (changed f v) ≡ changed h v
changed_then f g h same (ByRaw s) = ap ByRaw (same s)
changed_then f g h same ByTcp = refl

pub changed_twice : (f g h : RawSocket → RawSocket) → ((s : RawSocket) → g (f s) ≡ h s) → (o : Option Speaker) →
    option_map (changed g) (option_map (changed f) o) ≡ option_map (changed h) o
changed_twice f g h same o = option_map_then (changed g) (changed f) (changed h) (changed_then f g h same) o

pub received_on : (B a b c : Host) (ts us : List Event) (xs ys : List Note) →
    Receives B a ts xs b → Receives B b us ys c → Receives B a (ts ++ us) (xs ++ ys) c
received_on B a b c ts us xs ys one two = λ like.
    let x = one like in
    let y = two x.seen_is in
    let summed = is_tx B.capabilities.checksum.ipv4 in
    record {
      arrivals = x.arrivals ++ y.arrivals;
      came = rw (handed_frames-append, slot_notes-append) (arrive-append x.came y.came);
      seen_is = y.seen_is;
      speakers = λ i. y.speakers i ∙ ap (option_map (changed (with_arrivals summed y.arrivals))) (x.speakers i)
          ∙ changed_twice (with_arrivals summed x.arrivals) (with_arrivals summed y.arrivals) (with_arrivals summed (x.arrivals ++ y.arrivals))
          (λ s. sym (with_arrivals-append summed x.arrivals y.arrivals s)) (speaker_at a.sockets i);
    }

-- a packet as it is read by the call's host
brings_alike : {H B : Host} {frame : List ℕ} {noted : List SlotNote} {a : RawArrival} → seen H ≡ seen B →
    BringsRaw H frame noted a → BringsRaw B frame noted a
brings_alike {H} {B} e (arrive.OverIpv4 packet c i s g is) =
    let h : H.hardware_addr ≡ B.hardware_addr = ap (λ (K : Host). K.hardware_addr) e in
    let k : H.capabilities ≡ B.capabilities = ap (λ (K : Host). K.capabilities) e in
    let a : H.ip_addrs ≡ B.ip_addrs = ap (λ (K : Host). K.ip_addrs) e in
    arrive.OverIpv4 packet (rw (← h) c) (rw (← k) i) (rw (← a) s) g is
brings_alike {H} {B} e (arrive.InFragments packet octets earlier c i s g n is) =
    let h : H.hardware_addr ≡ B.hardware_addr = ap (λ (K : Host). K.hardware_addr) e in
    let k : H.capabilities ≡ B.capabilities = ap (λ (K : Host). K.capabilities) e in
    let a : H.ip_addrs ≡ B.ip_addrs = ap (λ (K : Host). K.ip_addrs) e in
    arrive.InFragments packet octets earlier (rw (← h) c) (rw (← k) i) (rw (← a) s) g n is
brings_alike {H} {B} e (arrive.OverIpv6 packet c i u z for is) =
    let h : H.hardware_addr ≡ B.hardware_addr = ap (λ (K : Host). K.hardware_addr) e in
    arrive.OverIpv6 packet (rw (← h) c) i u z (subst (λ (K : Host). is_for_host K (address.Ipv6 (ipv6_in packet).0.dst_addr) ≡ true) e for) is
brings_alike {H} {B} e (arrive.AfterOptions packet c i u z o s for is) =
    let h : H.hardware_addr ≡ B.hardware_addr = ap (λ (K : Host). K.hardware_addr) e in
    arrive.AfterOptions packet (rw (← h) c) i u z o s
    (subst (λ (K : Host). is_for_host K (address.Ipv6 (ipv6_in packet).0.dst_addr) ≡ true) e for) is

-- a call that takes a frame
frame_received : (B H : Host) (frame : List ℕ) (notes : List Note) (new : Host) (t : ℤ) → Came H frame (slot_notes notes) new →
    Receives B H (Received t (Frame frame) ∷ []) notes new
frame_received B H frame notes new t (NoneCame s) = λ like. let heard = heard_none (is_tx B.capabilities.checksum.ipv4) s in record {
  seen_is = s.seen_is ∙ like;
  arrivals = [];
  came = subst (λ ns. Arrive B (frame ∷ []) ns []) (append-nil (slot_notes notes)) (arrive.NoneBrings frame (slot_notes notes) arrive.NoFrame);
  speakers = heard.speakers;
}
frame_received B H frame notes new t (OneCame a brings h) = λ like.
    let heard = subst (λ b. Heard b (a ∷ []) H new) (ap (λ (K : Host). is_tx K.capabilities.checksum.ipv4) like) h in record {
      seen_is = h.seen_is ∙ like;
      arrivals = a ∷ [];
      came = subst (λ ns. Arrive B (frame ∷ []) ns (a ∷ [])) (append-nil (slot_notes notes))
          (arrive.OneBrings frame (slot_notes notes) a (brings_alike like brings) arrive.NoFrame);
      speakers = heard.speakers;
    }

pub took_received : (B H : Host) (r : Reception) (reply : Option Reply) (notes : List Note) (new : Host) (t : ℤ) →
    Takes H r reply notes new → Receives B H (Received t r ∷ []) notes new
took_received B H Nothing reply notes new t x = received_none B H _ notes new refl (ap slot_notes x.unnoted) (same x.unchanged)
took_received B H Withheld reply notes new t x = received_none B H _ notes new refl (ap slot_notes x.unnoted) (same x.unchanged)
took_received B H (Frame []) reply notes new t x = frame_received B H [] notes new t (NoneCame (same x.unchanged))
took_received B H (Frame (octet ∷ octets)) reply notes new t x =
    frame_received B H (octet ∷ octets) notes new t (frame_came H.hardware_addr H (octet ∷ octets) reply notes new refl x)

pub ingress_received : (B : Host) (t : ℤ) (answer : PollIngressSingleResult) (old new : Host) (told : List Event) (notes : List Note) →
    Ingress t answer old told notes new → seen (at old t) ≡ seen B → Receipt B old told notes new
ingress_received B t answer old new told notes i like =
    let r = i.response in
    let second = took_received B (without_expired old t) i.reception r.reply r.notes_taking r.taken t r.takes in
    let u = responded r.reply r.taken i.frames r.notes_responding new r.responds in
    let third = received_none B r.taken (sends i.frames) r.notes_responding new (handed_frames-sends i.frames) u.unnoted
    (unread u.seen_is u.sockets_are) in
    let both = received_on B (without_expired old t) r.taken new (Received t i.reception ∷ [])
    (sends i.frames) r.notes_taking r.notes_responding second third like in
    rw (i.events, r.all_notes) (record { seen_is = both.seen_is; arrivals = both.arrivals; came = both.came; speakers = both.speakers })
