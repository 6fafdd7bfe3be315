-- A malformed frame is dropped.
use Rattle.std.proofs.Common.{◌≡◌, ℕ, List, [], ◌∷◌, refl, sym, ◌∙◌, ap, subst, drop, Option, None}
use Rattle.std.specs.Prelude.{ℤ}
use Rattle.net_base.specs.Device.{Event, Reception, Received, Frame, Nothing, Withheld, handed_frames, sent_frames}
use Rattle.ip_address.specs.declared.ethernet_address.EthernetAddress.{EthernetAddress}
use Rattle.ip_wire.specs.declared.ethernet.EthernetProtocol.{EthernetProtocol}
use Rattle.ip_wire.specs.declared.ethernet.EthernetProtocol.TheVariants as protocol
use Rattle.ip_address.specs.declared.hardware.HardwareAddress.{HardwareAddress}
use Rattle.ip_address.specs.declared.hardware.HardwareAddress.TheVariants as hardware
use Rattle.net_base.specs.Checksum.{is_rx}
use Rattle.ip_wire.specs.Arp.{IsArp}
use Rattle.ip_wire.specs.Ipv4Packet.{IsIpv4}
use Rattle.ip_wire.specs.Ipv6Packet.{IsIpv6}
use Rattle.host_machine.specs.declared.results.PollIngressSingleResult.{PollIngressSingleResult}
use Rattle.host_machine.specs.Context.Note.{Note}
use Rattle.host_machine.specs.Context.Host.{Host, without_expired}
use Rattle.host_machine.specs.Receive.Reply.{Reply, IsDropped}
use Rattle.host_machine.specs.Packet.Frame.{sends}
use Rattle.host_machine.specs.Discovery.Arp.{ProcessesArp}
use Rattle.host_machine.specs.Discovery.Arp as arp
use Rattle.host_machine.specs.Receive.Ethernet.{ProcessesEthertype, ProcessesEthernet, ProcessesFrame}
use Rattle.host_machine.specs.Receive.Ethernet as ethernet
use Rattle.host_machine.specs.Receive.Ipv4.{ProcessesIpv4}
use Rattle.host_machine.specs.Receive.Ipv4 as ipv4
use Rattle.host_machine.specs.Receive.Ipv6.{ProcessesIpv6}
use Rattle.host_machine.specs.Receive.Ipv6 as ipv6
use Rattle.host_machine.specs.Receive.Response.{Responds}
use Rattle.host_machine.specs.Interface.Ingress.{Takes, Ingress}
use Rattle.host_laws.specs.Laws.Steps.{IsMalformed, IsMalformedFrame}
use Rattle.host_laws.specs.Laws.Steps as law

arp_dropped : {own : EthernetAddress} {H new : Host} {payload : List ℕ} {reply : Option Reply} {notes : List Note} →
    ProcessesArp own H payload reply notes new → (IsArp payload → ⊥) → IsDropped H reply notes new
arp_dropped (arp.Malformed m d) other = d
arp_dropped (arp.NotForUs a l d) other = d
arp_dropped (arp.Learnt a l learns r n) other = absurd (other a)

ipv4_dropped : {source : HardwareAddress} {H new : Host} {octets : List ℕ} {reply : Option Reply} {notes : List Note} →
    ProcessesIpv4 source H octets reply notes new → (IsIpv4 (is_rx H.capabilities.checksum.ipv4) octets → ⊥) → IsDropped H reply notes new
ipv4_dropped (ipv4.Malformed m d) other = d
ipv4_dropped (ipv4.Read i t) other = absurd (other i)

ipv6_dropped : {source : HardwareAddress} {H new : Host} {octets : List ℕ} {reply : Option Reply} {notes : List Note} →
    ProcessesIpv6 source H octets reply notes new → (IsIpv6 octets → ⊥) → IsDropped H reply notes new
ipv6_dropped (ipv6.Malformed m d) other = d
ipv6_dropped (ipv6.Read i t) other = absurd (other i)

-- a payload of ARP, of IPv4 or of IPv6 that is none
abbrev IsNone : Host → EthernetProtocol → List ℕ → Type 0
IsNone H protocol.Arp payload = IsArp payload → ⊥
IsNone H protocol.Ipv4 payload = IsIpv4 (is_rx H.capabilities.checksum.ipv4) payload → ⊥
IsNone H protocol.Ipv6 payload = IsIpv6 payload → ⊥
IsNone H (protocol.Unknown n) payload = Unit {0}

payload_dropped : (own source : EthernetAddress) (H : Host) (p : EthernetProtocol) (payload : List ℕ)
    (reply : Option Reply) (notes : List Note) (new : Host) →
    ProcessesEthertype own source H p payload reply notes new → IsNone H p payload → IsDropped H reply notes new
payload_dropped own source H protocol.Arp payload reply notes new t other = arp_dropped t other
payload_dropped own source H protocol.Ipv4 payload reply notes new t other = ipv4_dropped t other
payload_dropped own source H protocol.Ipv6 payload reply notes new t other = ipv6_dropped t other
payload_dropped own source H (protocol.Unknown n) payload reply notes new t other = t

ethernet_dropped : {own : EthernetAddress} {H new : Host} {frame : List ℕ} {reply : Option Reply} {notes : List Note} →
    ProcessesEthernet own H frame reply notes new → IsMalformedFrame H.capabilities.checksum frame → IsDropped H reply notes new
ethernet_dropped (ethernet.Malformed m d) bad = d
ethernet_dropped (ethernet.NotForUs l f d) bad = d
ethernet_dropped (ethernet.Accepted l f t) (law.Ethernet short) = absurd (short l)
ethernet_dropped {own} {H} {new} {frame} {reply} {notes} (ethernet.Accepted l f t) (law.Arp e other) =
    payload_dropped own _ H _ _ reply notes new t (subst (λ p. IsNone H p (drop 14 frame)) (sym e) other)
ethernet_dropped {own} {H} {new} {frame} {reply} {notes} (ethernet.Accepted l f t) (law.Ipv4 e other) =
    payload_dropped own _ H _ _ reply notes new t (subst (λ p. IsNone H p (drop 14 frame)) (sym e) other)
ethernet_dropped {own} {H} {new} {frame} {reply} {notes} (ethernet.Accepted l f t) (law.Ipv6 e other) =
    payload_dropped own _ H _ _ reply notes new t (subst (λ p. IsNone H p (drop 14 frame)) (sym e) other)

frame_dropped : (h : HardwareAddress) (H : Host) (frame : List ℕ) (reply : Option Reply) (notes : List Note) (new : Host) →
    ProcessesFrame h H frame reply notes new → IsMalformed h H.capabilities.checksum frame → IsDropped H reply notes new
frame_dropped (hardware.Ethernet own) H frame reply notes new t bad = ethernet_dropped t bad
frame_dropped hardware.Ip H frame reply notes new (ethernet.Ipv4 v t) bad = ipv4_dropped t bad.0
frame_dropped hardware.Ip H frame reply notes new (ethernet.Ipv6 v t) bad = ipv6_dropped t bad.1
frame_dropped hardware.Ip H frame reply notes new (ethernet.OtherVersion v w d) bad = d

handed_by : Reception → List (List ℕ)
handed_by (Frame f) = f ∷ []
handed_by Nothing = []
handed_by Withheld = []

taken_dropped : (moment : ℤ) (H : Host) (r : Reception) (frame : List ℕ) (reply : Option Reply) (notes : List Note) (new : Host) →
    Takes H r reply notes new → handed_frames (Received moment r ∷ []) ≡ frame ∷ [] →
    IsMalformed H.hardware_addr H.capabilities.checksum frame → IsDropped H reply notes new
taken_dropped moment H Nothing frame reply notes new t e bad = t
taken_dropped moment H Withheld frame reply notes new t e bad = t
taken_dropped moment H (Frame []) frame reply notes new t e bad = t
taken_dropped moment H (Frame (octet ∷ octets)) frame reply notes new t e bad =
    let same : octet ∷ octets ≡ frame = cc in
    frame_dropped H.hardware_addr H (octet ∷ octets) reply notes new t (rw same bad)

pub handed_frames-sends : (frames : List (List ℕ)) → handed_frames (sends frames) ≡ []
handed_frames-sends [] = refl
handed_frames-sends (f ∷ fs) = handed_frames-sends fs

pub handed_frames-received : (moment : ℤ) (r : Reception) (es : List Event) →
    handed_frames es ≡ [] → handed_frames (Received moment r ∷ es) ≡ handed_frames (Received moment r ∷ [])
handed_frames-received moment (Frame f) es e = ap (λ fs. f ∷ fs) e
handed_frames-received moment Nothing es e = e
handed_frames-received moment Withheld es e = e

pub sent_frames-sends : (frames : List (List ℕ)) → sent_frames (sends frames) ≡ frames
sent_frames-sends [] = refl
sent_frames-sends (f ∷ fs) = ap (λ t. f ∷ t) (sent_frames-sends fs)

pub nothing_responded : {H new : Host} {reply : Option Reply} {frames : List (List ℕ)} {notes : List Note} →
    reply ≡ None → Responds reply H frames notes new → (frames ≡ []) × (notes ≡ []) × (new ≡ H)
nothing_responded {H} {new} {reply} {frames} {notes} e r = rw e at r

pub malformed : (t : ℤ) (answer : PollIngressSingleResult) (old new : Host) (told : List Event) (notes : List Note) (frame : List ℕ) →
    Ingress t answer old told notes new → handed_frames told ≡ frame ∷ [] → IsMalformed old.hardware_addr old.capabilities.checksum frame →
    (sent_frames told ≡ []) × (notes ≡ []) × (new ≡ without_expired old t)
malformed t answer old new told notes frame i is bad =
    let only : handed_frames (Received t i.reception ∷ []) ≡ frame ∷ [] =
    sym (handed_frames-received t i.reception (sends i.frames) (handed_frames-sends i.frames)) ∙ sym (ap handed_frames i.events) ∙ is in
    let d =
    taken_dropped t (without_expired old t) i.reception frame i.response.reply i.response.notes_taking i.response.taken i.response.takes only bad in
    let r = nothing_responded d.silent i.response.responds in
    (ap sent_frames i.events ∙ sent_frames-sends i.frames ∙ r.0, i.response.all_notes ∙ rw (d.unnoted, r.1) refl, r.2 ∙ d.unchanged)
