-- What one step does to the slots, and from which frame.
use Rattle.std.proofs.Common.{◌≡◌, ℕ, List, [], ◌∷◌, ◌++◌, length, drop, refl, sym, ◌∙◌, ap, subst, arith, Option, Some, None}
use Rattle.std.proofs.lemmas.List.{append-nil}
use Rattle.std.specs.Prelude.{ℤ, ◌≤◌, Bool, true, false, if◌then◌else◌}
use Rattle.net_base.specs.Device.{Event, Reception, Frame, Nothing, Withheld, Received, Asked, Sent, handed_frames}
use Rattle.net_base.specs.Checksum.{is_rx}
use Rattle.ip_address.specs.declared.ethernet_address.EthernetAddress.{EthernetAddress}
use Rattle.ip_wire.specs.declared.ethernet.EthernetProtocol.{EthernetProtocol}
use Rattle.ip_wire.specs.declared.ethernet.EthernetProtocol.TheVariants as protocol
use Rattle.ip_address.specs.declared.hardware.HardwareAddress.{HardwareAddress}
use Rattle.ip_address.specs.declared.hardware.HardwareAddress.TheVariants as hardware
use Rattle.ip_wire.specs.declared.ipv4_packet.Ipv4Repr.{Ipv4Repr}
use Rattle.ip_wire.specs.declared.ipv4_packet.Ipv4Fragment.{Ipv4Fragment}
use Rattle.ip_wire.specs.Ethernet.{header_in}
use Rattle.ip_wire.specs.Ipv4Packet.{IsIpv4, ipv4_in, is_fragment}
use Rattle.host_machine.specs.declared.command.Command.{Command}
use Rattle.host_machine.specs.declared.command.Command.TheVariants as command
use Rattle.host_machine.specs.declared.command.Answer.{Answer}
use Rattle.host_machine.specs.declared.results.PollIngressSingleResult.{PollIngressSingleResult}
use Rattle.fragmentation.specs.Fragments.{Fragment}
use Rattle.fragmentation.specs.declared.key.FragKey.{FragKey}
use Rattle.fragmentation.specs.Slots.{live_at}
use Rattle.fragmentation.specs.Reassembly.{Reassembles}
use Rattle.host_machine.specs.Context.Note.{Note, slot_notes}
use Rattle.host_laws.proofs.Multicast.GroupChanges.{join_groups, leave_groups}
use Rattle.host_machine.specs.Context.Host.{Host, Socket, at, without_expired}
use Rattle.host_machine.specs.Packet.Packet.{Packet}
use Rattle.host_machine.specs.Receive.Reply.{Reply, Arp, Ip, IsDropped}
use Rattle.host_machine.specs.Packet.Frame.{sends}
use Rattle.host_machine.specs.Discovery.Arp.{ProcessesArp}
use Rattle.host_machine.specs.Receive.Reassembly.{TakesFragment, slot_end}
use Rattle.host_machine.specs.Receive.Ipv4.{ProcessesDatagram, ProcessesPacket, ProcessesIpv4, key_in, fragment_in}
use Rattle.host_machine.specs.Receive.Ipv4 as ipv4
use Rattle.host_machine.specs.Context.Addresses.{may_be_source}
use Rattle.host_machine.specs.Receive.Ipv6.{ProcessesIpv6}
use Rattle.host_machine.specs.Receive.Ethernet.{ProcessesEthertype, ProcessesEthernet, ProcessesFrame, is_for, version_in}
use Rattle.host_machine.specs.Receive.Ethernet as ethernet
use Rattle.host_machine.specs.Send.Outcome.{Outcome}
use Rattle.host_machine.specs.Send.Dispatch.{Dispatches}
use Rattle.host_machine.specs.Receive.Response.{Responds}
use Rattle.host_machine.specs.Interface.Ingress.{Takes, Ingress}
use Rattle.host_machine.specs.Sockets.Turns.{SocketTurn, Serves, Walks, SocketEgress}
use Rattle.host_machine.specs.Send.Fragments.{Ipv4Egress}
use Rattle.host_machine.specs.Interface.Egress.{Egress}
use Rattle.host_machine.specs.Sockets.Turns as turns
use Rattle.host_machine.specs.Send.Fragments as fragments
use Rattle.host_machine.specs.Interface.Step.{Act, Step, UpdatesIpAddrs, Accepted, Refused, SetsHardwareAddr}
use Rattle.host_machine.specs.Interface.Step as step
use Rattle.host_laws.specs.Laws.Arrivals.{slots_then}
use Rattle.net_base.specs.declared.phy.Medium.TheVariants as medium
use Rattle.ip_address.specs.Hardware.{IsOf}
use Rattle.host_laws.specs.Laws.Frames.{Carries, OverEthernet, AsItStands, Brings}
use Rattle.host_machine.specs.Interface.Parts.{Part, Both}
use Rattle.ip_address.specs.declared.cidr.IpCidr.{IpCidr}
use Rattle.ip_address.specs.declared.ip.IpAddress.{IpAddress}
use Rattle.host_machine.specs.Packet.Packet.{Packet}
use Rattle.iface_tables.specs.declared.groups.Group.{Group}
use Rattle.iface_tables.specs.declared.groups.GroupState.{GroupState}
use Rattle.host_machine.specs.Multicast.Joins as multicast
use Rattle.host_machine.specs.Multicast.Igmp as igmp
use Rattle.host_machine.specs.Multicast.Mld as mld
use Rattle.host_machine.specs.Multicast.Igmp.{IgmpEgress}
use Rattle.host_machine.specs.Multicast.Mld.{MldEgress}
use Rattle.host_machine.specs.Discovery.RouterSolicitation as slaac
use Rattle.host_machine.specs.Discovery.RouterSolicitation.{NdiscRsEgress}
use Rattle.host_machine.specs.Context.Autoconfiguration.{with_slaac_applied}
use Rattle.iface_tables.specs.Slaac.{sync_required}
use Rattle.host_laws.proofs.Interface.PollCalls.{both}
use Rattle.host_laws.specs.Laws.Unfolded.{IsSingle}
use Rattle.host_laws.proofs.Context.NotesBySubject.{slot_notes-append, slot_notes-slots}
use Rattle.host_laws.proofs.Receive.Malformed.{handed_frames-sends, handed_frames-received}
use Rattle.host_laws.proofs.Context.UnchangedFields.{Keeps}
use Rattle.host_laws.proofs.Runs.Walk.{dropped, arp_taken, whole_taken, ipv6_taken, dispatched, egressed}

-- the slots stay, and none of them is noted
pub record Still (old : Host) (notes : List Note) (new : Host) : Type 0 where
  pub slots : new.slots ≡ old.slots
  pub silent : slot_notes notes ≡ []

abbrev StillOver : Host → List (List ℕ) → List Note → Host → Type 0
StillOver old frames notes new = Still old notes new

still_on : (a b c : Host) (fs gs : List (List ℕ)) (xs ys : List Note) →
    StillOver a fs xs b → StillOver b gs ys c → StillOver a (fs ++ gs) (xs ++ ys) c
still_on a b c fs gs xs ys one two = record { slots = two.slots ∙ one.slots; silent = slot_notes-append xs ys ∙ rw (one.silent, two.silent) refl }

still_kept : (old new : Host) → Keeps old new → StillOver old [] [] new
still_kept old new k = record { slots = ap (λ (K : Host). K.slots) k.same; silent = refl }

-- sending leaves the slots
sends_still : {p : Packet} {outcome : Outcome} {H new : Host} {frames : List (List ℕ)} {notes : List Note} →
    Dispatches p outcome H frames notes new → Still H notes new
sends_still d =
    dispatched StillOver still_kept still_on
    (λ H own source target mine. record { slots = refl; silent = refl })
    (λ H hop unknown. record { slots = refl; silent = refl })
    (λ H. record { slots = refl; silent = refl })
    (λ H h p reached. record { slots = refl; silent = refl })
    (λ H h id p first rest e form reached. record { slots = refl; silent = refl })
    d

same_still : {old new : Host} {notes : List Note} → notes ≡ [] → new ≡ old → Still old notes new
same_still n e = record { slots = ap (λ (K : Host). K.slots) e; silent = ap slot_notes n }

pub egress_still : {t : ℤ} {answer : _} {old new : Host} {told : List Event} {notes : List Note} →
    Egress t answer old told notes new → Still old notes new
egress_still e =
    egressed StillOver still_kept still_on
    (λ H own source target mine. record { slots = refl; silent = refl })
    (λ H hop unknown. record { slots = refl; silent = refl })
    (λ H. record { slots = refl; silent = refl })
    (λ H h p reached. record { slots = refl; silent = refl })
    (λ H h id p first rest e form reached. record { slots = refl; silent = refl })
    (λ H p rest e. record { slots = refl; silent = refl })
    e

responds_still : (reply : Option Reply) (H : Host) (frames : List (List ℕ)) (notes : List Note) (new : Host) →
    Responds reply H frames notes new → Still H notes new
responds_still None H frames notes new r = same_still r.1 r.2
responds_still (Some (Arp packet)) H frames notes new r = same_still r.1 r.2
responds_still (Some (Ip packet)) H frames notes new r = sends_still r.1

-- so does a packet that is whole
drop_still : {H new : Host} {reply : Option Reply} {notes : List Note} → IsDropped H reply notes new → Still H notes new
drop_still d = dropped StillOver still_kept still_on d

arp_still : {own : EthernetAddress} {H new : Host} {payload : List ℕ} {reply : Option Reply} {notes : List Note} →
    H.hardware_addr ≡ hardware.Ethernet own → ProcessesArp own H payload reply notes new → Still H notes new
arp_still mine t = arp_taken StillOver still_kept still_on mine t

whole_still : {source : HardwareAddress} {r : Ipv4Repr} {H new : Host} {payload : List ℕ} {reply : Option Reply} {notes : List Note} →
    ProcessesDatagram source r H payload reply notes new → Still H notes new
whole_still t = whole_taken StillOver still_kept still_on t

ipv6_still : {source : HardwareAddress} {H new : Host} {octets : List ℕ} {reply : Option Reply} {notes : List Note} →
    ProcessesIpv6 source H octets reply notes new → Still H notes new
ipv6_still t = ipv6_taken StillOver still_kept still_on t

-- what a fragment does to the slots of a host, now
abbrev pub Changes : FragKey → Fragment → Option (List ℕ) → Host → List Note → Host → Type 0
Changes key f result H notes new = Reassembles (slot_end H.moment H.reassembly_timeout) key f result H.slots (slot_notes notes) new.slots

-- and where nothing else is noted of slots behind it, and they stay
changes : {key : FragKey} {f : Fragment} {result : Option (List ℕ)} {H mid : Host} {first : List Note} (notes : List Note) (new : Host) →
    TakesFragment key f result H first mid →
    slot_notes notes ≡ slot_notes first → new.slots ≡ mid.slots → Changes key f result H notes new
changes {key} {f} {result} {H} {mid} {first} notes new t n s =
    let own : Changes key f result H first mid = rw (t.noted, t.changed, slot_notes-slots t.slot_notes) t.reassembles in
    rw (n, s) own

-- what taking something does to the slots: nothing, and it is no fragment; or what a fragment does
pub data View (Is : FragKey → Fragment → Type 0) (H : Host) (notes : List Note) (new : Host) : Type 0 where
  NoFragment : ((key : FragKey) (f : Fragment) → Is key f → ⊥) → Still H notes new → View Is H notes new
  AFragment : (key : FragKey) (f : Fragment) (result : Option (List ℕ)) → Is key f → Changes key f result H notes new → View Is H notes new

pub record IsFragmentOf (H : Host) (r : Ipv4Repr) (f : Ipv4Fragment) (payload : List ℕ) (key : FragKey) (g : Fragment) : Type 0 where
  pub source : may_be_source H.ip_addrs r.src_addr ≡ true
  pub part : is_fragment f ≡ true
  pub key_is : key ≡ key_in r f
  pub fragment_is : g ≡ fragment_in f payload

two_ways : (b : Bool) → b ≡ true → b ≡ false → ⊥
two_ways b h k = cc

packet_view : {source : HardwareAddress} {r : Ipv4Repr} {f : Ipv4Fragment} {H new : Host} {payload : List ℕ}
    {reply : Option Reply} {notes : List Note} →
    ProcessesPacket source r f H payload reply notes new → View (IsFragmentOf H r f payload) H notes new
packet_view (ipv4.FromNoHost s d) = NoFragment (λ key g i. two_ways _ i.source s) (drop_still d)
packet_view {source} {r} {f} {H} {new} {payload} {reply} {notes} (ipv4.Part s g t e) =
    AFragment (key_in r f) (fragment_in f payload) None (record { source = s; part = g; key_is = refl; fragment_is = refl })
    (changes notes new t refl refl)
packet_view {source} {r} {f} {H} {new} {payload} {reply} {notes} (ipv4.Completed octets mid first rest s g t w n) =
    let still = whole_still w in
    AFragment (key_in r f) (fragment_in f payload) (Some octets) (record { source = s; part = g; key_is = refl; fragment_is = refl })
    (changes notes new t (ap slot_notes n ∙ slot_notes-append first rest ∙ rw still.silent (append-nil (slot_notes first))) still.slots)
packet_view (ipv4.Whole s g t) = NoFragment (λ key h i. two_ways _ i.part g) (whole_still t)

view_by : {Is As : FragKey → Fragment → Type 0} {H new : Host} {notes : List Note} → ((key : FragKey) (f : Fragment) → Is key f → As key f) →
    ((key : FragKey) (f : Fragment) → As key f → Is key f) → View Is H notes new → View As H notes new
view_by to from (NoFragment none s) = NoFragment (λ key f a. none key f (from key f a)) s
view_by to from (AFragment key f result i r) = AFragment key f result (to key f i) r

-- the octets behind a frame's header
pub record IsIpv4Of (H : Host) (octets : List ℕ) (key : FragKey) (g : Fragment) : Type 0 where
  pub ipv4 : IsIpv4 (is_rx H.capabilities.checksum.ipv4) octets
  pub fragment : IsFragmentOf H (ipv4_in octets).0 (ipv4_in octets).1 (ipv4_in octets).2 key g

ipv4_view : {source : HardwareAddress} {H new : Host} {octets : List ℕ} {reply : Option Reply} {notes : List Note} →
    ProcessesIpv4 source H octets reply notes new → View (IsIpv4Of H octets) H notes new
ipv4_view (ipv4.Malformed m d) = NoFragment (λ key g i. m i.ipv4) (drop_still d)
ipv4_view (ipv4.Read is t) = view_by (λ key g f. record { ipv4 = is; fragment = f }) (λ key g f. f.fragment) (packet_view t)

abbrev pub IsPayloadOf : Host → EthernetProtocol → List ℕ → FragKey → Fragment → Type 0
IsPayloadOf H p octets key g = (p ≡ protocol.Ipv4) × IsIpv4Of H octets key g

payload_view : (own source : EthernetAddress) (H : Host) (p : EthernetProtocol) (payload : List ℕ)
    (reply : Option Reply) (notes : List Note) (new : Host) →
    H.hardware_addr ≡ hardware.Ethernet own → ProcessesEthertype own source H p payload reply notes new → View (IsPayloadOf H p payload) H notes new
payload_view own source H protocol.Arp payload reply notes new mine t = NoFragment (λ key g i. absurd (other i.0)) (arp_still mine t) where
  other : protocol.Arp ≡ protocol.Ipv4 → ⊥
  other e = cc
payload_view own source H protocol.Ipv4 payload reply notes new mine t = view_by (λ key g f. (refl, f)) (λ key g f. f.1) (ipv4_view t)
payload_view own source H protocol.Ipv6 payload reply notes new mine t = NoFragment (λ key g i. absurd (other i.0)) (ipv6_still t) where
  other : protocol.Ipv6 ≡ protocol.Ipv4 → ⊥
  other e = cc
payload_view own source H (protocol.Unknown n) payload reply notes new mine t = NoFragment (λ key g i. absurd (other i.0)) (drop_still t) where
  other : protocol.Unknown n ≡ protocol.Ipv4 → ⊥
  other e = cc

same_own : (a b : EthernetAddress) → hardware.Ethernet a ≡ hardware.Ethernet b → a ≡ b
same_own a b e = cc

no_address : (own : EthernetAddress) → hardware.Ip ≡ hardware.Ethernet own → ⊥
no_address own e = cc

-- what a frame brings, by the packet in it
brings : {H : Host} {frame packet : List ℕ} {key : FragKey} {g : Fragment} →
    Carries H.hardware_addr frame packet → IsIpv4Of H packet key g → Brings H frame key g
brings {packet = packet} c i = record {
  packet = packet;
  carried = c;
  ipv4 = i.ipv4;
  source = i.fragment.source;
  part = i.fragment.part;
  key_is = i.fragment.key_is;
  fragment_is = i.fragment.fragment_is;
}

packet_of : {H : Host} {frame : List ℕ} {key : FragKey} {g : Fragment} (b : Brings H frame key g) → IsIpv4Of H b.packet key g
packet_of b = record { ipv4 = b.ipv4; fragment = record { source = b.source; part = b.part; key_is = b.key_is; fragment_is = b.fragment_is } }

-- over Ethernet behind a header that is for the host, else as it stands
record Over (own : EthernetAddress) (H : Host) (frame : List ℕ) (key : FragKey) (g : Fragment) : Type 0 where
  whole : 14 ≤ length frame
  taken : is_for own (header_in frame).dst_addr ≡ true
  payload : IsPayloadOf H (header_in frame).ethertype (drop 14 frame) key g

over_ethernet : {H : Host} {frame : List ℕ} {key : FragKey} {g : Fragment} (own : EthernetAddress) →
    H.hardware_addr ≡ hardware.Ethernet own → Brings H frame key g → Over own H frame key g
over_ethernet {H} {frame} {key} {g} own mine b = by b.carried where
  by : Carries H.hardware_addr frame b.packet → Over own H frame key g
  by (OverEthernet a e whole for type is) =
      let same : a ≡ own = same_own a own (sym e ∙ mine) in
      record { whole = whole; taken = rw same at for; payload = (type, subst (λ p. IsIpv4Of H p key g) is (packet_of b)) }
  by (AsItStands e v is) = absurd (no_address own (sym e ∙ mine))

pub on_ethernet : {H : Host} {frame : List ℕ} {key : FragKey} {g : Fragment} →
    IsOf medium.Ethernet H.hardware_addr → Brings H frame key g → IsPayloadOf H (header_in frame).ethertype (drop 14 frame) key g
on_ethernet {H} {frame} {key} {g} is b = by H.hardware_addr refl is where
  by : (h : HardwareAddress) → H.hardware_addr ≡ h → IsOf medium.Ethernet h → IsPayloadOf H (header_in frame).ethertype (drop 14 frame) key g
  by (hardware.Ethernet own) mine six = (over_ethernet own mine b).payload
  by hardware.Ip mine six = absurd six

as_it_stands : {H : Host} {frame : List ℕ} {key : FragKey} {g : Fragment} →
    H.hardware_addr ≡ hardware.Ip → Brings H frame key g → (version_in frame ≡ 4) × IsIpv4Of H frame key g
as_it_stands {H} {frame} {key} {g} mine b = by b.carried where
  by : Carries H.hardware_addr frame b.packet → (version_in frame ≡ 4) × IsIpv4Of H frame key g
  by (OverEthernet a e whole for type is) = absurd (no_address a (sym mine ∙ e))
  by (AsItStands e v is) = (v, subst (λ p. IsIpv4Of H p key g) is (packet_of b))

ethernet_view : {own : EthernetAddress} {H new : Host} {frame : List ℕ} {reply : Option Reply} {notes : List Note} →
    H.hardware_addr ≡ hardware.Ethernet own → ProcessesEthernet own H frame reply notes new → View (Brings H frame) H notes new
ethernet_view {own} mine (ethernet.Malformed m d) = NoFragment (λ key g b. m (over_ethernet own mine b).whole) (drop_still d)
ethernet_view {own} {H} {new} {frame} mine (ethernet.NotForUs l f d) =
    NoFragment (λ key g b. two_ways _ (over_ethernet own mine b).taken f) (drop_still d)
ethernet_view {own} {H} {new} {frame} {reply} {notes} mine (ethernet.Accepted l f t) =
    view_by (λ key g i. brings (OverEthernet own mine l f i.0 refl) i.1) (λ key g b. (over_ethernet own mine b).payload)
    (payload_view own _ H _ _ reply notes new mine t)

frame_view : (h : HardwareAddress) (H : Host) (frame : List ℕ) (reply : Option Reply) (notes : List Note) (new : Host) →
    H.hardware_addr ≡ h → ProcessesFrame h H frame reply notes new → View (Brings H frame) H notes new
frame_view (hardware.Ethernet own) H frame reply notes new mine t = ethernet_view mine t
frame_view hardware.Ip H frame reply notes new mine (ethernet.Ipv4 v t) =
    view_by (λ key g i. brings (AsItStands mine v refl) i) (λ key g b. (as_it_stands mine b).1) (ipv4_view t)
frame_view hardware.Ip H frame reply notes new mine (ethernet.Ipv6 v t) =
    NoFragment (λ key g b. absurd (not_both _ (as_it_stands mine b).0 v)) (ipv6_still t) where
      not_both : (n : ℕ) → n ≡ 4 → n ≡ 6 → ⊥
      not_both n four six = omega (arith, four, six)
frame_view hardware.Ip H frame reply notes new mine (ethernet.OtherVersion v w d) = NoFragment (λ key g b. v (as_it_stands mine b).0) (drop_still d)

-- an empty frame brings none
none_in_empty : {H : Host} {key : FragKey} {g : Fragment} → Brings H [] key g → ⊥
none_in_empty {H} b = by b.carried where
  by : Carries H.hardware_addr [] b.packet → ⊥
  by (OverEthernet a e whole for type is) = absurd (omega (arith, whole))
  by (AsItStands e v is) = let l = b.ipv4.whole in absurd (omega (arith, l, ap length is))

-- what was handed over brings a fragment
pub record HandsOver (H : Host) (r : Reception) (key : FragKey) (f : Fragment) : Type 0 where
  pub frame : List ℕ
  pub is : handed_frames (Received H.moment r ∷ []) ≡ frame ∷ []
  pub brings : Brings H frame key f

none_handed : (frame : List ℕ) → [] ≡ frame ∷ [] → ⊥
none_handed frame e = cc

same_frame : (f g : List ℕ) → f ∷ [] ≡ g ∷ [] → g ≡ f
same_frame f g e = cc

takes_view : (H : Host) (r : Reception) (reply : Option Reply) (notes : List Note) (new : Host) →
    Takes H r reply notes new → View (HandsOver H r) H notes new
takes_view H Nothing reply notes new t = NoFragment (λ key g o. none_handed o.frame o.is) (drop_still t)
takes_view H Withheld reply notes new t = NoFragment (λ key g o. none_handed o.frame o.is) (drop_still t)
takes_view H (Frame []) reply notes new t =
    NoFragment (λ key g o. none_in_empty (subst (λ x. Brings H x key g) (same_frame [] o.frame o.is) o.brings)) (drop_still t)
takes_view H (Frame (octet ∷ octets)) reply notes new t =
    view_by (λ key g b. record { frame = octet ∷ octets; is = refl; brings = b })
    (λ key g o. subst (λ x. Brings H x key g) (same_frame (octet ∷ octets) o.frame o.is) o.brings)
    (frame_view H.hardware_addr H (octet ∷ octets) reply notes new refl t)

-- sending takes no frame
pub handed_frames-append : (xs ys : List Event) → handed_frames (xs ++ ys) ≡ handed_frames xs ++ handed_frames ys
handed_frames-append [] ys = refl
handed_frames-append (Received t (Frame f) ∷ xs) ys = ap (λ fs. f ∷ fs) (handed_frames-append xs ys)
handed_frames-append (Received t Nothing ∷ xs) ys = handed_frames-append xs ys
handed_frames-append (Received t Withheld ∷ xs) ys = handed_frames-append xs ys
handed_frames-append (Asked t b ∷ xs) ys = handed_frames-append xs ys
handed_frames-append (Sent id f ∷ xs) ys = handed_frames-append xs ys

turn_hands_none : {s s' : Socket} {turn : _} {H new : Host} {told : List Event} {notes : List Note} →
    SocketTurn s turn s' H told notes new → handed_frames told ≡ []
turn_hands_none (turns.Silent p t o n e r) = ap handed_frames o
turn_hands_none (turns.Refused p q t o n e r) = ap handed_frames o
turn_hands_none (turns.Sent p outcome frames q d t o r) = ap handed_frames o ∙ handed_frames-sends frames

serves_hands_none : {i : ℕ} {turn : _} {H new : Host} {told : List Event} {notes : List Note} →
    Serves i turn H told notes new → handed_frames told ≡ []
serves_hands_none (turns.Free s t o n e) = ap handed_frames o
serves_hands_none (turns.Waits s known h k p t o n e) = ap handed_frames o
serves_hands_none (turns.Served s s' known mid h k p t e) = turn_hands_none t

walks_hand_none : {old new : Host} {n : ℕ} {granted changed : Bool} {told : List Event} {notes : List Note} →
    Walks old n granted changed told notes new → handed_frames told ≡ []
walks_hand_none turns.Begins = refl
walks_hand_none (turns.Goes {told_so = so} turn told notes _ w s t) = handed_frames-append so told ∙ rw (walks_hand_none w, serves_hands_none s) refl
walks_hand_none (turns.Stops {told_so = so} turn told notes _ w s t) = handed_frames-append so told
    ∙ rw (walks_hand_none w, serves_hands_none s) refl

sockets_hand_none : {old new : Host} {changed : Bool} {told : List Event} {notes : List Note} →
    SocketEgress old changed told notes new → handed_frames told ≡ []
sockets_hand_none (turns.Whole w) = walks_hand_none w
sockets_hand_none (turns.Stopped n w) = walks_hand_none w

piece_hands_none : {H new : Host} {told : List Event} {notes : List Note} → Ipv4Egress H told notes new → handed_frames told ≡ []
piece_hands_none (fragments.NoPiece l t n e) = ap handed_frames t
piece_hands_none (fragments.NotGranted piece rest l t n e) = ap handed_frames t
piece_hands_none (fragments.PieceGoes piece rest l t n e) = ap handed_frames t

groups_hand_none : {state : GroupState} {packet_for : List IpCidr → IpAddress → Option Packet} {after_report : List Group → IpAddress → List Group}
    {old new : Host} {granted : Bool} {told : List Event} {notes : List Note} →
    multicast.ReportsEach state packet_for after_report old granted told notes new → handed_frames told ≡ []
groups_hand_none multicast.Begins = refl
groups_hand_none (multicast.Silently a w f p) = groups_hand_none w
groups_hand_none (multicast.Refused {told = told} {mid = mid} a p w f q) =
    handed_frames-append told (Asked mid.moment false ∷ []) ∙ rw (groups_hand_none w) refl
groups_hand_none (multicast.Reported {told = told} {mid = mid} a p outcome frames more new w f q d) =
    handed_frames-append told (Asked mid.moment true ∷ sends frames) ∙ rw (groups_hand_none w) (handed_frames-sends frames)

all_hand_none : {state : GroupState} {packet_for : List IpCidr → IpAddress → Option Packet} {after_report : List Group → IpAddress → List Group}
    {old new : Host} {told : List Event} {notes : List Note} →
    multicast.ReportsAll state packet_for after_report old told notes new → handed_frames told ≡ []
all_hand_none (multicast.All w n) = groups_hand_none w
all_hand_none (multicast.UpToRefusal w) = groups_hand_none w

igmp_hands_none : {H new : Host} {told : List Event} {notes : List Note} → IgmpEgress H told notes new → handed_frames told ≡ []
igmp_hands_none (igmp.NotDue h t n e) = ap handed_frames t
igmp_hands_none (igmp.NoFurtherGroup h g t n e) = ap handed_frames t
igmp_hands_none (igmp.NoAddress next h g a t n e) = ap handed_frames t
igmp_hands_none (igmp.NotGranted p h r t n e) = ap handed_frames t
igmp_hands_none (igmp.Sent p outcome frames mid h r d t e) = ap handed_frames t ∙ handed_frames-sends frames

mld_hands_none : {H new : Host} {told : List Event} {notes : List Note} → MldEgress H told notes new → handed_frames told ≡ []
mld_hands_none (mld.NotYet h t n e) = ap handed_frames t
mld_hands_none (mld.GivenUp h t n e) = ap handed_frames t
mld_hands_none (mld.ReportGoes outcome frames mid h d t e) = ap handed_frames t ∙ handed_frames-sends frames

solicit_hands_none : {old new : Host} {told : List Event} {notes : List Note} → NdiscRsEgress old told notes new → handed_frames told ≡ []
solicit_hands_none (slaac.NotDue d t n e) = ap handed_frames t
solicit_hands_none (slaac.NotGranted p d t n e) = ap handed_frames t
solicit_hands_none (slaac.Goes p outcome frames mid h d t e) = ap handed_frames t ∙ handed_frames-sends frames

-- each part of a round, in order
abbrev HandsNone : Part
HandsNone old told notes new = handed_frames told ≡ []

hand_on : {one two : Part} → ((old new : Host) (told : List Event) (notes : List Note) → one old told notes new → HandsNone old told notes new) →
    ((old new : Host) (told : List Event) (notes : List Note) → two old told notes new → HandsNone old told notes new) →
    (old new : Host) (told : List Event) (notes : List Note) → Both one two old told notes new → HandsNone old told notes new
hand_on = both HandsNone (λ H. refl) (λ a b c ts us xs ys one two. handed_frames-append ts us ∙ rw (one, two) refl)

pub egress_hands_none : {t : ℤ} {answer : _} {old new : Host} {told : List Event} {notes : List Note} →
    Egress t answer old told notes new → handed_frames told ≡ []
egress_hands_none {t} {answer} {old} {new} {told} {notes} e =
    hand_on (λ o n ts xs p. piece_hands_none p)
    (hand_on (λ o n ts xs p. solicit_hands_none p) (hand_on (λ o n ts xs p. all_hand_none p) (hand_on (λ o n ts xs p. all_hand_none p)
    (hand_on (λ o n ts xs p. igmp_hands_none p) (hand_on (λ o n ts xs p. mld_hands_none p) (λ o n ts xs p. sockets_hand_none p))))))
    (at old t) new told notes e.round

-- what one step does to the slots
pub data StepView (c : Command) (H : Host) (told : List Event) (notes : List Note) (new : Host) : Type 0 where
  NoPart : ((frame : List ℕ) (key : FragKey) (f : Fragment) → handed_frames told ≡ frame ∷ [] → Brings H frame key f → ⊥) →
      slot_notes notes ≡ [] → new.slots ≡ slots_then c H.slots →
      StepView c H told notes new
  APart : (t : ℤ) (frame : List ℕ) (key : FragKey) (f : Fragment) (result : Option (List ℕ)) →
      c ≡ command.PollIngressSingle t → handed_frames told ≡ frame ∷ [] → Brings H frame key f →
      Reassembles (slot_end t H.reassembly_timeout) key f result (live_at t H.slots) (slot_notes notes) new.slots → StepView c H told notes new

-- a frame brings the same before a sweep and behind it
unexpired : (H : Host) (t : ℤ) (frame : List ℕ) (key : FragKey) (f : Fragment) → Brings (without_expired H t) frame key f → Brings H frame key f
unexpired H t frame key f b =
    record { packet = b.packet; carried = b.carried; ipv4 = b.ipv4; source = b.source; part = b.part; key_is = b.key_is; fragment_is = b.fragment_is }

to_live : (H : Host) (t : ℤ) (frame : List ℕ) (key : FragKey) (f : Fragment) → Brings H frame key f → Brings (without_expired H t) frame key f
to_live H t frame key f b =
    record { packet = b.packet; carried = b.carried; ipv4 = b.ipv4; source = b.source; part = b.part; key_is = b.key_is; fragment_is = b.fragment_is }

pub ingress_view : {t : ℤ} {answer : PollIngressSingleResult} {old new : Host} {told : List Event} {notes : List Note} →
    Ingress t answer old told notes new → StepView (command.PollIngressSingle t) old told notes new
ingress_view {t} {answer} {old} {new} {told}
    {notes} i = by (takes_view (without_expired old t) i.reception i.response.reply i.response.notes_taking i.response.taken i.response.takes) where
      sent_still : Still i.response.taken i.response.notes_responding new
      sent_still = responds_still i.response.reply i.response.taken i.frames i.response.notes_responding new i.response.responds

      noted : slot_notes notes ≡ slot_notes i.response.notes_taking
      noted = ap slot_notes i.response.all_notes ∙ slot_notes-append i.response.notes_taking i.response.notes_responding
          ∙ rw sent_still.silent (append-nil (slot_notes i.response.notes_taking))

      hands : handed_frames told ≡ handed_frames (Received t i.reception ∷ [])
      hands = ap handed_frames i.events ∙ handed_frames-received t i.reception (sends i.frames) (handed_frames-sends i.frames)

      by : View (HandsOver (without_expired old t) i.reception) (without_expired old t) i.response.notes_taking i.response.taken →
          StepView (command.PollIngressSingle t) old told notes new
      by (NoFragment none still) =
          NoPart (λ frame key f is b. none key f (record { frame = frame; is = sym hands ∙ is; brings = to_live old t frame key f b }))
          (noted ∙ still.silent) (sent_still.slots ∙ still.slots)
      by (AFragment key f result o c) =
          APart t o.frame key f result refl (hands ∙ o.is) (unexpired old t o.frame key f o.brings) (rw (noted, sent_still.slots) c)

quiet_view : {c : Command} {H new : Host} {told : List Event} {notes : List Note} →
    handed_frames told ≡ [] → slot_notes notes ≡ [] → new.slots ≡ slots_then c H.slots → StepView c H told notes new
quiet_view h n s = NoPart (λ frame key f is b. none_handed frame (sym h ∙ is)) n s

updates_slots : {list : _} {answer : _} {old new : Host} → UpdatesIpAddrs list answer old new → new.slots ≡ old.slots
updates_slots (Accepted a r e) = ap (λ (K : Host). K.slots) e
updates_slots (Refused a r e) = ap (λ (K : Host). K.slots) e

sets_slots : {h : HardwareAddress} {answer : _} {old new : Host} → SetsHardwareAddr h answer old new → new.slots ≡ old.slots
sets_slots (step.Taken a of r e) = ap (λ (K : Host). K.slots) e
sets_slots (step.NotTaken error a r e) = ap (λ (K : Host). K.slots) e

timeout_slots : {timeout : ℕ} {answer : _} {old new : Host} → step.SetsReassemblyTimeout timeout answer old new → new.slots ≡ old.slots
timeout_slots (step.WithinDay l r e) = ap (λ (K : Host). K.slots) e
timeout_slots (step.OverDay l r e) = ap (λ (K : Host). K.slots) e

-- addresses and routes in line leave the slots
maintained_slots : (H : Host) (t : ℤ) (b : Bool) →
    (if b then with_slaac_applied (without_expired H t) else without_expired H t).slots ≡ live_at t H.slots
maintained_slots H t true = refl
maintained_slots H t false = refl

pub step_view : {c : Command} {answer : Answer} {old new : Host} {told : List Event} {acts : List Act} {notes : List Note} →
    IsSingle c → Step c answer old told acts notes new → StepView c old told notes new
step_view single (step.UpdatedIpAddrs u) = quiet_view refl refl (updates_slots u)
step_view single (step.PolledIngressSingle i) = ingress_view i
step_view single (step.PolledEgress e) = quiet_view (egress_hands_none e) (egress_still e).silent (egress_still e).slots
step_view single (step.Polled p) = absurd single
step_view single (step.PolledMaintenance {t} {old}) = quiet_view refl refl (maintained_slots old t (sync_required old.slaac t))
step_view single (step.JoinedGroup j) = quiet_view refl refl (ap (λ (K : Host). K.slots) (join_groups j).1)
step_view single (step.LeftGroup j) = quiet_view refl refl (ap (λ (K : Host). K.slots) (leave_groups j).1)
step_view single (step.TookHardwareAddr s) = quiet_view refl refl (sets_slots s)
step_view single (step.TookReassemblyTimeout s) = quiet_view refl refl (timeout_slots s)
step_view single other = quiet_view refl refl refl
