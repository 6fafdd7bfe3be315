-- What is done with a frame that a call received, and what that leaves where it is dropped.
use Rattle.std.proofs.Common.{◌≡◌, ◌⊎◌, ℕ, ◌/◌, Bool, true, false, List, [], ◌∷◌, ◌++◌, refl, sym, ◌∙◌, ap, subst, drop}
use Rattle.std.proofs.Common.{inl, inr, Option, Some, None}
use Rattle.std.specs.Prelude.{ℤ, slice_index, if◌then◌else◌}
use Rattle.std.specs.FinMap as finite
use Rattle.net_base.specs.Device.{Event, Reception, Received, Frame, Nothing, Withheld, handed_frames, sent_frames}
use Rattle.ip_address.specs.declared.ethernet_address.EthernetAddress.{EthernetAddress}
use Rattle.ip_address.specs.declared.hardware.HardwareAddress.{HardwareAddress}
use Rattle.ip_address.specs.declared.hardware.HardwareAddress.TheVariants as hardware
use Rattle.ip_address.specs.declared.ip.IpAddress.{IpAddress}
use Rattle.ip_wire.specs.Ethernet.{header_in}
use Rattle.ip_wire.specs.IpPacket.{src_addr, dst_addr}
use Rattle.ip_wire.specs.declared.ip_packet.IpRepr.{IpRepr}
use Rattle.ip_wire.specs.declared.ethernet.EthernetProtocol.TheVariants as protocol
use Rattle.iface_tables.specs.declared.neighbor.Neighbor.{Neighbor}
use Rattle.iface_tables.specs.Neighbor.{Neighbors, after_renewal, expiry_from, is_same, renewed_from}
use Rattle.sockets.specs.declared.socket.SocketOf.TheVariants.{Raw, Icmp, Udp, Tcp}
use Rattle.host_machine.specs.Context.Note.{Note}
use Rattle.host_machine.specs.Context.Host.{Host, Storage, with_neighbors, without_expired}
use Rattle.host_machine.specs.Context.Addresses.{is_unicast}
use Rattle.host_machine.specs.Sockets.Delivery.{to_each, to_this}
use Rattle.host_machine.specs.Sockets.Raw as raw
use Rattle.host_machine.specs.Discovery.Renewal.{sender_renewed}
use Rattle.host_machine.specs.Receive.Reply.{Reply, IsDropped}
use Rattle.host_machine.specs.Receive.Response.{Responds}
use Rattle.host_machine.specs.Receive.Ethernet.{ProcessesEthernet, ProcessesFrame, ProcessesIp}
use Rattle.host_machine.specs.Receive.Ethernet as ethernet
use Rattle.host_machine.specs.Receive.Ipv4.{ProcessesIpv4}
use Rattle.host_machine.specs.Receive.Ipv6.{ProcessesIpv6}
use Rattle.host_machine.specs.Packet.Frame.{sends}
use Rattle.host_machine.specs.Interface.Ingress.{Takes}
use Rattle.host_laws.specs.Laws.Restraint.Readings.{AreSameButRaw, CarriesV4, CarriesV6, IsRenewed, IsSameButRaw}
use Rattle.host_laws.specs.Laws.Restraint.Readings.{Receives}
use Rattle.host_laws.specs.Laws.Restraint.Foreign.{HasNoEffect}
use Rattle.host_laws.proofs.Receive.Malformed.{handed_frames-received, handed_frames-sends, nothing_responded}
use Rattle.host_laws.proofs.Receive.Malformed.{sent_frames-sends}

-- what was done with the frame, and how that was responded to
pub record WasHandled (t : ℤ) (frame : List ℕ) (old : Host) (told : List Event) (notes : List Note) (new : Host) : Type 0 where
  pub reply : Option Reply
  pub taken : Host
  pub first : List Note
  pub more : List Note
  pub frames : List (List ℕ)
  pub takes : ProcessesFrame old.hardware_addr (without_expired old t) frame reply first taken ⊎ IsDropped (without_expired old t) reply first taken
  pub responds : Responds reply taken frames more new
  pub sends_them : sent_frames told ≡ frames
  pub noted : notes ≡ first ++ more

-- the frame that was handed over is the one that is taken, unless it is empty
frame_taken : (moment : ℤ) (H : Host) (r : Reception) (frame : List ℕ) (reply : Option Reply) (notes : List Note) (new : Host) →
    Takes H r reply notes new → handed_frames (Received moment r ∷ []) ≡ frame ∷ [] →
    ProcessesFrame H.hardware_addr H frame reply notes new ⊎ IsDropped H reply notes new
frame_taken moment H Nothing frame reply notes new t e = inr t
frame_taken moment H Withheld frame reply notes new t e = inr t
frame_taken moment H (Frame []) frame reply notes new t e = inr t
frame_taken moment H (Frame (octet ∷ octets)) frame reply notes new t e =
    let same : octet ∷ octets ≡ frame = cc in
    inl (subst (λ f. ProcessesFrame H.hardware_addr H f reply notes new) same t)

pub frame_of_call : {t : ℤ} {frame : List ℕ} {old new : Host} {told : List Event} {notes : List Note} (w : Receives t frame old told notes new) →
    ProcessesFrame old.hardware_addr (without_expired old t) frame w.call.response.reply w.call.response.notes_taking w.call.response.taken
    ⊎ IsDropped (without_expired old t) w.call.response.reply w.call.response.notes_taking w.call.response.taken
frame_of_call {t} {frame} {old} {new} {told} {notes} w =
    let i = w.call in
    let only : handed_frames (Received t i.reception ∷ []) ≡ frame ∷ [] =
    sym (handed_frames-received t i.reception (sends i.frames) (handed_frames-sends i.frames)) ∙ sym (ap handed_frames i.events) ∙ w.took in
    frame_taken t (without_expired old t) i.reception frame i.response.reply i.response.notes_taking i.response.taken i.response.takes only

pub handled : {t : ℤ} {frame : List ℕ} {old new : Host} {told : List Event} {notes : List Note} →
    Receives t frame old told notes new → WasHandled t frame old told notes new
handled {t} {frame} {old} {new} {told} {notes} w =
    let i = w.call in record {
      reply = i.response.reply;
      taken = i.response.taken;
      first = i.response.notes_taking;
      more = i.response.notes_responding;
      frames = i.frames;
      takes = frame_of_call w;
      responds = i.response.responds;
      sends_them = ap sent_frames i.events ∙ sent_frames-sends i.frames;
      noted = i.response.all_notes;
    }

-- what is done with the packet in a frame, unless it is dropped
pub record TakenV4 (H : Host) (packet : List ℕ) (reply : Option Reply) (notes : List Note) (new : Host) : Type 0 where
  pub source : HardwareAddress
  pub takes : ProcessesIpv4 source H packet reply notes new

pub record TakenV6 (H : Host) (packet : List ℕ) (reply : Option Reply) (notes : List Note) (new : Host) : Type 0 where
  pub source : HardwareAddress
  pub takes : ProcessesIpv6 source H packet reply notes new

four_in : {own : EthernetAddress} {H new : Host} {frame packet : List ℕ} {reply : Option Reply} {notes : List Note} →
    ProcessesEthernet own H frame reply notes new → (header_in frame).ethertype ≡ protocol.Ipv4 → packet ≡ drop 14 frame →
    TakenV4 H packet reply notes new ⊎ IsDropped H reply notes new
four_in (ethernet.Malformed m d) type is = inr d
four_in (ethernet.NotForUs l f d) type is = inr d
four_in {own} {H} {new} {frame} {packet} {reply} {notes} (ethernet.Accepted l f t) type is =
    let on : ProcessesIpv4 (hardware.Ethernet (header_in frame).src_addr) H (drop 14 frame) reply notes new =
    subst (λ p. ethernet.ProcessesEthertype own (header_in frame).src_addr H p (drop 14 frame) reply notes new) type t in
    inl (record {
      source = hardware.Ethernet (header_in frame).src_addr;
      takes = subst (λ p. ProcessesIpv4 (hardware.Ethernet (header_in frame).src_addr) H p reply notes new) (sym is) on;
    })

six_in : {own : EthernetAddress} {H new : Host} {frame packet : List ℕ} {reply : Option Reply} {notes : List Note} →
    ProcessesEthernet own H frame reply notes new → (header_in frame).ethertype ≡ protocol.Ipv6 → packet ≡ drop 14 frame →
    TakenV6 H packet reply notes new ⊎ IsDropped H reply notes new
six_in (ethernet.Malformed m d) type is = inr d
six_in (ethernet.NotForUs l f d) type is = inr d
six_in {own} {H} {new} {frame} {packet} {reply} {notes} (ethernet.Accepted l f t) type is =
    let on : ProcessesIpv6 (hardware.Ethernet (header_in frame).src_addr) H (drop 14 frame) reply notes new =
    subst (λ p. ethernet.ProcessesEthertype own (header_in frame).src_addr H p (drop 14 frame) reply notes new) type t in
    inl (record {
      source = hardware.Ethernet (header_in frame).src_addr;
      takes = subst (λ p. ProcessesIpv6 (hardware.Ethernet (header_in frame).src_addr) H p reply notes new) (sym is) on;
    })

four_alone : {H new : Host} {frame packet : List ℕ} {reply : Option Reply} {notes : List Note} →
    ProcessesIp H frame reply notes new → slice_index frame 0 / 16 ≡ 4 → packet ≡ frame →
    TakenV4 H packet reply notes new ⊎ IsDropped H reply notes new
four_alone {H} {new} {frame} {packet} {reply} {notes} (ethernet.Ipv4 v t) four is =
    inl (record { source = hardware.Ip; takes = subst (λ p. ProcessesIpv4 hardware.Ip H p reply notes new) (sym is) t })
four_alone (ethernet.Ipv6 v t) four is = absurd cc
four_alone (ethernet.OtherVersion a b d) four is = absurd (a four)

six_alone : {H new : Host} {frame packet : List ℕ} {reply : Option Reply} {notes : List Note} →
    ProcessesIp H frame reply notes new → slice_index frame 0 / 16 ≡ 6 → packet ≡ frame →
    TakenV6 H packet reply notes new ⊎ IsDropped H reply notes new
six_alone (ethernet.Ipv4 v t) six is = absurd cc
six_alone {H} {new} {frame} {packet} {reply} {notes} (ethernet.Ipv6 v t) six is =
    inl (record { source = hardware.Ip; takes = subst (λ p. ProcessesIpv6 hardware.Ip H p reply notes new) (sym is) t })
six_alone (ethernet.OtherVersion a b d) six is = absurd (b six)

pub taken_v4 : (h : HardwareAddress) (H : Host) (frame packet : List ℕ) (reply : Option Reply) (notes : List Note) (new : Host) →
    ProcessesFrame h H frame reply notes new → CarriesV4 h frame packet → TakenV4 H packet reply notes new ⊎ IsDropped H reply notes new
taken_v4 (hardware.Ethernet own) H frame packet reply notes new t c = four_in t c.0 c.1
taken_v4 hardware.Ip H frame packet reply notes new t c = four_alone t c.0 c.1

pub taken_v6 : (h : HardwareAddress) (H : Host) (frame packet : List ℕ) (reply : Option Reply) (notes : List Note) (new : Host) →
    ProcessesFrame h H frame reply notes new → CarriesV6 h frame packet → TakenV6 H packet reply notes new ⊎ IsDropped H reply notes new
taken_v6 (hardware.Ethernet own) H frame packet reply notes new t c = six_in t c.0 c.1
taken_v6 hardware.Ip H frame packet reply notes new t c = six_alone t c.0 c.1

-- the packet that a call received
pub handled_v4 : {t : ℤ} {frame packet : List ℕ} {old new : Host} {told : List Event} {notes : List Note} →
    (h : WasHandled t frame old told notes new) → CarriesV4 old.hardware_addr frame packet →
    TakenV4 (without_expired old t) packet h.reply h.first h.taken ⊎ IsDropped (without_expired old t) h.reply h.first h.taken
handled_v4 {t} {frame} {packet} {old} h c = by h.takes where
  by : (ProcessesFrame old.hardware_addr (without_expired old t) frame h.reply h.first h.taken
      ⊎ IsDropped (without_expired old t) h.reply h.first h.taken) →
      TakenV4 (without_expired old t) packet h.reply h.first h.taken ⊎ IsDropped (without_expired old t) h.reply h.first h.taken
  by (inl p) = taken_v4 old.hardware_addr (without_expired old t) frame packet h.reply h.first h.taken p c
  by (inr d) = inr d

pub handled_v6 : {t : ℤ} {frame packet : List ℕ} {old new : Host} {told : List Event} {notes : List Note} →
    (h : WasHandled t frame old told notes new) → CarriesV6 old.hardware_addr frame packet →
    TakenV6 (without_expired old t) packet h.reply h.first h.taken ⊎ IsDropped (without_expired old t) h.reply h.first h.taken
handled_v6 {t} {frame} {packet} {old} h c = by h.takes where
  by : (ProcessesFrame old.hardware_addr (without_expired old t) frame h.reply h.first h.taken
      ⊎ IsDropped (without_expired old t) h.reply h.first h.taken) →
      TakenV6 (without_expired old t) packet h.reply h.first h.taken ⊎ IsDropped (without_expired old t) h.reply h.first h.taken
  by (inl p) = taken_v6 old.hardware_addr (without_expired old t) frame packet h.reply h.first h.taken p c
  by (inr d) = inr d

-- what is dropped has no effect
pub no_effect : {t : ℤ} {frame : List ℕ} {old new : Host} {told : List Event} {notes : List Note} →
    (h : WasHandled t frame old told notes new) → IsDropped (without_expired old t) h.reply h.first h.taken → HasNoEffect t old told notes new
no_effect h d =
    let r = nothing_responded d.silent h.responds in
    record { silent = h.sends_them ∙ r.0; unnoted = h.noted ∙ rw (d.unnoted, r.1) refl; unchanged = r.2 ∙ d.unchanged }

-- only raw sockets get a packet before its destination is looked at
same_this : (p : Storage) → IsSameButRaw p p
same_this None = refl
same_this (Some (Raw s)) = (s.rx, refl)
same_this (Some (Icmp s)) = refl
same_this (Some (Udp s)) = refl
same_this (Some (Tcp s)) = refl

delivered_this : (summed : Bool) (r : IpRepr) (payload : List ℕ) (p : Storage) → IsSameButRaw p (raw.storage_after_delivery summed r payload p)
delivered_this summed r payload None = refl
delivered_this summed r payload (Some (Raw s)) = (_, refl)
delivered_this summed r payload (Some (Icmp s)) = refl
delivered_this summed r payload (Some (Udp s)) = refl
delivered_this summed r payload (Some (Tcp s)) = refl

to_this_raw : (summed : Bool) (r : IpRepr) (payload : List ℕ) (p : Storage) →
    IsSameButRaw p (to_this (raw.takes r) (raw.storage_after_delivery summed r payload) p)
to_this_raw summed r payload p = by (raw.takes r p) where
  by : (b : Bool) → IsSameButRaw p (if b then raw.storage_after_delivery summed r payload p else p)
  by true = delivered_this summed r payload p
  by false = same_this p

pub raw_only : (summed : Bool) (r : IpRepr) (payload : List ℕ) (ps : List Storage) →
    AreSameButRaw ps (to_each (raw.takes r) (raw.storage_after_delivery summed r payload) ps)
raw_only summed r payload [] = tt
raw_only summed r payload (p ∷ ps) = (to_this_raw summed r payload p, raw_only summed r payload ps)

pub same_all : (ps : List Storage) → AreSameButRaw ps ps
same_all [] = tt
same_all (p ∷ ps) = (same_this p, same_all ps)

-- the sender of a packet may be renewed, and nothing else changes
renewed_by : (n : Neighbors) (a : IpAddress) (h : HardwareAddress) (t : ℤ) → IsRenewed a t n (after_renewal n a h (expiry_from t))
renewed_by n a h t = by (finite.get n.known a) refl where
  by : (o : Option Neighbor) → finite.get n.known a ≡ o → IsRenewed a t n (record n { known = renewed_from o n.known a h (expiry_from t) })
  by None is = inl refl
  by (Some e) is = here (is_same e.hardware_addr h) where
    here : (b : Bool) → IsRenewed a t n
        (record n { known = if b then finite.insert n.known a (record e { expires_at = expiry_from t }) else n.known })
    here true = inr (e, is, refl)
    here false = inl refl

pub record Renewal (r : IpRepr) (H : Host) (new : Host) : Type 0 where
  pub neighbors : Neighbors
  pub renewed : IsRenewed (src_addr r) H.moment H.neighbors neighbors
  pub is : new ≡ with_neighbors H neighbors

pub renewal : (source : HardwareAddress) (r : IpRepr) (H : Host) → Renewal r H (sender_renewed source r H)
renewal source r H = by (is_unicast H.ip_addrs (dst_addr r)) where
  by : (b : Bool) → Renewal r H (if b then with_neighbors H (after_renewal H.neighbors (src_addr r) source (expiry_from H.moment)) else H)
  by true = record {
    neighbors = after_renewal H.neighbors (src_addr r) source (expiry_from H.moment);
    renewed = renewed_by H.neighbors (src_addr r) source H.moment;
    is = refl;
  }
  by false = record { neighbors = H.neighbors; renewed = inl refl; is = refl }
