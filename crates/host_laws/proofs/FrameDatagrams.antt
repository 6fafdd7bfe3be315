-- What a frame brings: nothing for a UDP socket, or one datagram for one.
use Rattle.std.proofs.Common.{◌≡◌, ◌≤◌, ◌⊎◌, inl, inr, ℕ, true, false, List, [], ◌∷◌, ◌++◌, refl, sym, ◌∙◌, ap, subst, Option, Some, length}
use Rattle.std.specs.Prelude.{ℤ, drop}
use Rattle.std.proofs.lemmas.List.{append-nil, append_assoc}
use Rattle.net_base.specs.Checksum.{is_rx}
use Rattle.net_base.specs.Device.{Reception, Frame, Nothing, Withheld, Received, handed_frames}
use Rattle.ip_address.specs.declared.ethernet_address.EthernetAddress.{EthernetAddress}
use Rattle.ip_address.specs.declared.hardware.HardwareAddress.{HardwareAddress}
use Rattle.ip_address.specs.declared.hardware.HardwareAddress.TheVariants as hardware
use Rattle.ip_address.specs.Protocol.{number_of}
use Rattle.ip_address.specs.Ipv6.{is_unicast}
use Rattle.ip_wire.specs.declared.ethernet.EthernetProtocol.{EthernetProtocol}
use Rattle.ip_wire.specs.declared.ethernet.EthernetProtocol.TheVariants as ethertype
use Rattle.ip_wire.specs.declared.ip_packet.IpRepr.{IpRepr}
use Rattle.ip_wire.specs.declared.ip_packet.IpRepr.TheVariants as repr
use Rattle.ip_wire.specs.Ethernet.{header_in}
use Rattle.ip_wire.specs.IpPacket.{dst_addr}
use Rattle.ip_wire.specs.Ipv4Packet.{IsIpv4, ipv4_in, is_fragment}
use Rattle.ip_wire.specs.Ipv6Packet.{IsIpv6, ipv6_in}
use Rattle.ip_wire.specs.HopByHop.{IsHopByHop, hop_by_hop_in, first_failure}
use Rattle.ip_wire.specs.declared.hop_by_hop.Ipv6OptionFailureType.TheVariants.{Skip}
use Rattle.fragmentation.specs.declared.key.FragKey.{FragKey}
use Rattle.fragmentation.specs.Fragments.{Fragment}
use Rattle.fragmentation.specs.Slots.{Slots}
use Rattle.fragmentation.specs.Reassembly.{SlotNote, Arrival, Rebuild, Reassembles, NoSlot, Unfit, Waits, Rebuilt}
use Rattle.host_machine.specs.Context.Note.{Note, slot_notes}
use Rattle.host_machine.specs.Context.Host.{Host}
use Rattle.host_machine.specs.Context.Addresses.{is_for_host, may_be_source}
use Rattle.host_machine.specs.Receive.Reply.{Reply}
use Rattle.host_machine.specs.Discovery.Arp.{ProcessesArp}
use Rattle.host_machine.specs.Discovery.Arp as arp
use Rattle.host_machine.specs.Receive.Reassembly.{TakesFragment}
use Rattle.host_machine.specs.Receive.Ipv4.{ProcessesIpv4, key_in, fragment_in, datagram_header}
use Rattle.host_machine.specs.Receive.Ipv4 as ipv4
use Rattle.host_machine.specs.Receive.Ipv6 as ipv6
use Rattle.host_machine.specs.Receive.Ethernet.{ProcessesEthertype, ProcessesFrame, is_for}
use Rattle.host_machine.specs.Receive.Ethernet as ethernet
use Rattle.host_laws.specs.Laws.Frames.{Carries}
use Rattle.host_laws.specs.Laws.Frames as frames
use Rattle.host_machine.specs.Interface.Ingress.{Takes}
use Rattle.host_laws.proofs.Context.NotesBySubject.{slot_notes-slots}
use Rattle.host_laws.proofs.Receive.PacketEffects.{whole_plain}
use Rattle.host_laws.specs.Deliveries.{BringsUdp, CarriesIpv6}
use Rattle.host_laws.specs.Deliveries as spec
use Rattle.host_laws.proofs.DatagramHandover.{Same, Hands, HandsPacket, same, same_by, same_then, unread, hands_after, whole_v4, payload_v6}

-- one socket was handed the datagram that a frame brings
pub record Brought (H : Host) (frame : List ℕ) (noted : List SlotNote) (new : Host) : Type 0 where
  pub header : IpRepr
  pub octets : List ℕ
  pub brings : BringsUdp H frame noted header octets
  pub for_host : is_for_host H (dst_addr header) ≡ true
  pub hands : Hands header octets H new

-- what a fragment completes is noted last
pub record Completes (key : FragKey) (octets : List ℕ) (notes : List SlotNote) : Type 0 where
  pub earlier : List SlotNote
  pub last : notes ≡ earlier ++ Rebuild key octets ∷ []

pub completes : {ends : ℤ} {key : FragKey} {f : Fragment} {octets : List ℕ} {slots new : Slots} {notes : List SlotNote} →
    Reassembles ends key f (Some octets) slots notes new → Completes key octets notes
completes (NoSlot none full o n x) = absurd cc
completes (Unfit slot first e fit o n x) = absurd cc
completes (Waits slot first e fit wait o n x) = absurd cc
completes {key = key} {f = f} {octets = octets} (Rebuilt slot first others e fit whole o n x) =
    let is : others ≡ octets = cc in
    record {
      earlier = first ++ Arrival key f ∷ [];
      last = n ∙ ap (λ x. first ++ (Arrival key f ∷ Rebuild key x ∷ [])) is ∙ sym (append_assoc first (Arrival key f ∷ []) (Rebuild key octets ∷ []));
    }

fragment_same : {key : FragKey} {f : Fragment} {result : Option (List ℕ)} {H new : Host} {notes : List Note} →
    TakesFragment key f result H notes new → Same H new
fragment_same t = same_by t.changed (unread refl refl)

-- IPv4
rebuilt_handed : {frame packet : List ℕ} {H mid new : Host} {octets : List ℕ} {notes first rest : List Note} →
    Carries H.hardware_addr frame packet → IsIpv4 (is_rx H.capabilities.checksum.ipv4) packet →
    may_be_source H.ip_addrs (ipv4_in packet).0.src_addr ≡ true → is_fragment (ipv4_in packet).1 ≡ true →
    TakesFragment (key_in (ipv4_in packet).0 (ipv4_in packet).1) (fragment_in (ipv4_in packet).1 (ipv4_in packet).2) (Some octets) H first mid →
    notes ≡ first ++ rest → rest ≡ [] →
    Same mid new ⊎ HandsPacket (ipv4_in packet).0.next_header (repr.Ipv4 (datagram_header (ipv4_in packet).0 octets)) octets mid new →
    Same H new ⊎ Brought H frame (slot_notes notes) new
rebuilt_handed c i s g t n e (inl x) = inl (same_then (fragment_same t) x)
rebuilt_handed {frame} {packet} {H} {mid} {new} {octets} {notes} {first} {rest} c i s g t n e (inr h) =
    let kept = fragment_same t in
    let last = completes t.reassembles in
    let all : slot_notes notes ≡ t.slot_notes = rw (n, e, append-nil, t.noted) (slot_notes-slots t.slot_notes) in
    inr (record {
      header = repr.Ipv4 (datagram_header (ipv4_in packet).0 octets);
      octets = octets;
      brings = spec.InFragments packet last.earlier c i s g h.is_udp (all ∙ last.last) refl;
      for_host =
          subst (λ (K : Host). is_for_host K (dst_addr (repr.Ipv4 (datagram_header (ipv4_in packet).0 octets))) ≡ true) kept.seen_is h.for_host;
      hands = hands_after kept h.hands;
    })

whole_handed : {frame packet : List ℕ} {H new : Host} {noted : List SlotNote} →
    Carries H.hardware_addr frame packet → IsIpv4 (is_rx H.capabilities.checksum.ipv4) packet →
    may_be_source H.ip_addrs (ipv4_in packet).0.src_addr ≡ true → is_fragment (ipv4_in packet).1 ≡ false →
    Same H new ⊎ HandsPacket (ipv4_in packet).0.next_header (repr.Ipv4 (ipv4_in packet).0) (ipv4_in packet).2 H new →
    Same H new ⊎ Brought H frame noted new
whole_handed c i s g (inl x) = inl x
whole_handed {frame} {packet} c i s g (inr h) = inr (record {
  header = repr.Ipv4 (ipv4_in packet).0;
  octets = (ipv4_in packet).2;
  brings = spec.AtOnce (spec.OverIpv4 packet c i s g h.is_udp refl refl);
  for_host = h.for_host;
  hands = h.hands;
})

ipv4_brought : {source : HardwareAddress} {frame packet : List ℕ} {H new : Host} {reply : Option Reply} {notes : List Note} →
    Carries H.hardware_addr frame packet → ProcessesIpv4 source H packet reply notes new →
    Same H new ⊎ Brought H frame (slot_notes notes) new
ipv4_brought c (ipv4.Malformed m d) = inl (same d.unchanged)
ipv4_brought c (ipv4.Read i (ipv4.FromNoHost s d)) = inl (same d.unchanged)
ipv4_brought c (ipv4.Read i (ipv4.Part s g t e)) = inl (fragment_same t)
ipv4_brought c (ipv4.Read i (ipv4.Completed octets mid first rest s g t w n)) = rebuilt_handed c i s g t n (whole_plain w).unnoted (whole_v4 w)
ipv4_brought c (ipv4.Read i (ipv4.Whole s g t)) = whole_handed c i s g (whole_v4 t)

-- IPv6
options_handed : {frame packet : List ℕ} {H new : Host} {noted : List SlotNote} →
    CarriesIpv6 H.hardware_addr frame packet → IsIpv6 packet → is_unicast (ipv6_in packet).0.src_addr ≡ true →
    number_of (ipv6_in packet).0.next_header ≡ 0 → IsHopByHop (ipv6_in packet).1 →
    first_failure (hop_by_hop_in (ipv6_in packet).1).0.options.items ≡ Skip →
    Same H new
    ⊎ HandsPacket (hop_by_hop_in (ipv6_in packet).1).0.next_header (repr.Ipv6 (ipv6_in packet).0) (hop_by_hop_in (ipv6_in packet).1).1 H new →
    Same H new ⊎ Brought H frame noted new
options_handed c i u z o s (inl x) = inl x
options_handed {frame} {packet} c i u z o s (inr h) = inr (record {
  header = repr.Ipv6 (ipv6_in packet).0;
  octets = (hop_by_hop_in (ipv6_in packet).1).1;
  brings = spec.AtOnce (spec.AfterOptions packet c i u z o s h.is_udp refl refl);
  for_host = h.for_host;
  hands = h.hands;
})

bare_handed : {frame packet : List ℕ} {H new : Host} {noted : List SlotNote} →
    CarriesIpv6 H.hardware_addr frame packet → IsIpv6 packet → is_unicast (ipv6_in packet).0.src_addr ≡ true →
    Same H new ⊎ HandsPacket (ipv6_in packet).0.next_header (repr.Ipv6 (ipv6_in packet).0) (ipv6_in packet).1 H new →
    Same H new ⊎ Brought H frame noted new
bare_handed c i u (inl x) = inl x
bare_handed {frame} {packet} c i u (inr h) = inr (record {
  header = repr.Ipv6 (ipv6_in packet).0;
  octets = (ipv6_in packet).1;
  brings = spec.AtOnce (spec.OverIpv6 packet c i u h.is_udp refl refl);
  for_host = h.for_host;
  hands = h.hands;
})

ipv6_brought : {source : HardwareAddress} {frame packet : List ℕ} {H new : Host} {reply : Option Reply} {notes : List Note} →
    CarriesIpv6 H.hardware_addr frame packet → ipv6.ProcessesIpv6 source H packet reply notes new →
    Same H new ⊎ Brought H frame (slot_notes notes) new
ipv6_brought c (ipv6.Malformed m d) = inl (same d.unchanged)
ipv6_brought c (ipv6.Read i (ipv6.FromNoHost u d)) = inl (same d.unchanged)
ipv6_brought c (ipv6.Read i (ipv6.WithOptions u z (ipv6.MalformedOptions m d))) = inl (same d.unchanged)
ipv6_brought c (ipv6.Read i (ipv6.WithOptions u z (ipv6.Skipped o s t))) = options_handed c i u z o s (payload_v6 t)
ipv6_brought c (ipv6.Read i (ipv6.WithOptions u z (ipv6.Discarded failure o f s r n e))) = inl (same e)
ipv6_brought c (ipv6.Read i (ipv6.Bare u z t)) = bare_handed c i u (payload_v6 t)

-- frames
arp_same : {own : EthernetAddress} {H new : Host} {payload : List ℕ} {reply : Option Reply} {notes : List Note} →
    ProcessesArp own H payload reply notes new → Same H new
arp_same (arp.Malformed m d) = same d.unchanged
arp_same (arp.NotForUs a l d) = same d.unchanged
arp_same (arp.Learnt a l learns r n) = same_by learns.same (unread refl refl)

payload_brought : (own source : EthernetAddress) (H : Host) (p : EthernetProtocol) (frame : List ℕ) (reply : Option Reply) (notes : List Note)
    (new : Host) → H.hardware_addr ≡ hardware.Ethernet own → 14 ≤ length frame →
    is_for own (header_in frame).dst_addr ≡ true → (header_in frame).ethertype ≡ p →
    ProcessesEthertype own source H p (drop 14 frame) reply notes new → Same H new ⊎ Brought H frame (slot_notes notes) new
payload_brought own source H ethertype.Arp frame reply notes new mine l f is t = inl (arp_same t)
payload_brought own source H ethertype.Ipv4 frame reply notes new mine l f is t = ipv4_brought (frames.OverEthernet own mine l f is refl) t
payload_brought own source H ethertype.Ipv6 frame reply notes new mine l f is t = ipv6_brought (spec.OverEthernet own mine l f is refl) t
payload_brought own source H (ethertype.Unknown n) frame reply notes new mine l f is t = inl (same t.unchanged)

frame_brought : (h : HardwareAddress) (H : Host) (frame : List ℕ) (reply : Option Reply) (notes : List Note) (new : Host) →
    H.hardware_addr ≡ h → ProcessesFrame h H frame reply notes new → Same H new ⊎ Brought H frame (slot_notes notes) new
frame_brought (hardware.Ethernet own) H frame reply notes new mine (ethernet.Malformed m d) = inl (same d.unchanged)
frame_brought (hardware.Ethernet own) H frame reply notes new mine (ethernet.NotForUs l f d) = inl (same d.unchanged)
frame_brought (hardware.Ethernet own) H frame reply notes new mine (ethernet.Accepted l f t) =
    payload_brought own _ H (header_in frame).ethertype frame reply notes new mine l f refl t
frame_brought hardware.Ip H frame reply notes new mine (ethernet.Ipv4 v t) = ipv4_brought (frames.AsItStands mine v refl) t
frame_brought hardware.Ip H frame reply notes new mine (ethernet.Ipv6 v t) = ipv6_brought (spec.AsItStands mine v refl) t
frame_brought hardware.Ip H frame reply notes new mine (ethernet.OtherVersion v w d) = inl (same d.unchanged)

-- what the device gave: no frame; one that leaves the UDP sockets as they were; or one that brings one of them a datagram
pub data Took (H : Host) (noted : List SlotNote) (new : Host) (r : Reception) : Type 0 where
  NoFrame : ((t : ℤ) → handed_frames (Received t r ∷ []) ≡ []) → noted ≡ [] → Same H new → Took H noted new r
  Unmoved : (frame : List ℕ) → r ≡ Frame frame → Same H new → Took H noted new r
  OneFrame : (frame : List ℕ) → r ≡ Frame frame → Brought H frame noted new → Took H noted new r

pub took : (H : Host) (r : Reception) (reply : Option Reply) (notes : List Note) (new : Host) →
    Takes H r reply notes new → Took H (slot_notes notes) new r
took H Nothing reply notes new t = NoFrame (λ t. refl) (ap slot_notes t.unnoted) (same t.unchanged)
took H Withheld reply notes new t = NoFrame (λ t. refl) (ap slot_notes t.unnoted) (same t.unchanged)
took H (Frame []) reply notes new t = Unmoved [] refl (same t.unchanged)
took H (Frame (octet ∷ octets)) reply notes new t = by (frame_brought H.hardware_addr H (octet ∷ octets) reply notes new refl t) where
  by : Same H new ⊎ Brought H (octet ∷ octets) (slot_notes notes) new → Took H (slot_notes notes) new (Frame (octet ∷ octets))
  by (inl s) = Unmoved (octet ∷ octets) refl s
  by (inr b) = OneFrame (octet ∷ octets) refl b
