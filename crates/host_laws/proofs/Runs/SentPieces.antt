-- The frames that a run sends, and the pieces that it notes.
use Rattle.std.proofs.Common.{◌≡◌, ℕ, List, [], ◌∷◌, ◌++◌, length, refl, sym, ◌∙◌, ap, subst, Option, Some, None}
use Rattle.std.specs.Prelude.{ℤ, Bool, true, false, ◌/◌, ◌%◌, ◌^◌, if◌then◌else◌}
use Rattle.std.specs.FinMap as map
use Rattle.net_base.specs.Device.{Event, Reception, Frame, Nothing as NoFrame, Withheld, sent_frames}
use Rattle.ip_wire.specs.declared.arp.ArpRepr.{ArpRepr}
use Rattle.ip_wire.specs.declared.arp.ArpOperation.{ArpOperation}
use Rattle.ip_wire.specs.declared.arp.ArpOperation.TheVariants as operation
use Rattle.ip_address.specs.declared.cidr.IpCidr.{IpCidr}
use Rattle.ip_address.specs.declared.ethernet_address.EthernetAddress.{EthernetAddress}
use Rattle.ip_wire.specs.declared.ethernet.EthernetProtocol.{EthernetProtocol}
use Rattle.ip_wire.specs.declared.ethernet.EthernetProtocol.TheVariants as protocol
use Rattle.ip_address.specs.declared.hardware.HardwareAddress.{HardwareAddress}
use Rattle.ip_address.specs.declared.hardware.HardwareAddress.TheVariants as hardware
use Rattle.ip_address.specs.declared.ip.IpAddress.{IpAddress}
use Rattle.ip_address.specs.declared.ip.IpAddress.TheVariants as ip
use Rattle.ip_address.specs.declared.ipv4.Ipv4Address.{Ipv4Address}
use Rattle.ip_wire.specs.declared.ipv4_packet.Ipv4Repr.{Ipv4Repr}
use Rattle.ip_wire.specs.declared.ipv4_packet.Ipv4Fragment.{Ipv4Fragment}
use Rattle.ip_address.specs.Ipv4 as ipv4_address
use Rattle.ip_address.specs.Ipv6 as ipv6_address
use Rattle.ip_wire.specs.Arp.{arp_in}
use Rattle.iface_tables.specs.declared.neighbor.Neighbor.{Neighbor}
use Rattle.iface_tables.specs.declared.neighbor.Answer.TheVariants.{Found, NotFound, RateLimited}
use Rattle.iface_tables.specs.Neighbor.{answer_of, answer_from, answer_without_entry, is_before}
use Rattle.host_machine.specs.declared.command.Command.{Command}
use Rattle.host_machine.specs.declared.command.Answer.{Answer}
use Rattle.host_machine.specs.declared.results.PollIngressSingleResult.{PollIngressSingleResult}
use Rattle.fragmentation.specs.Fragments.{Fragment}
use Rattle.fragmentation.specs.declared.key.FragKey.{FragKey}
use Rattle.fragmentation.specs.Cuts.{Piece, pieces_of, HasForm}
use Rattle.host_machine.specs.Context.Note.{Note, OfDiscovery, OfIdentification, OfCuts, Ask, Identify, CutNote, Cut, PieceSent, cut_notes}
use Rattle.net_base.specs.declared.phy.DeviceCapabilities.{DeviceCapabilities}
use Rattle.net_base.specs.declared.phy.Medium.{Medium}
use Rattle.net_base.specs.declared.phy.Medium.TheVariants as medium
use Rattle.ip_address.specs.EthernetAddress.{broadcast}
use Rattle.host_laws.proofs.Multicast.GroupChanges.{join_groups, leave_groups}
use Rattle.iface_tables.specs.Slaac.{sync_required}
use Rattle.host_machine.specs.Context.Autoconfiguration.{with_slaac_applied}
use Rattle.host_machine.specs.Interface.Polling.{after_maintenance}
use Rattle.host_machine.specs.Context.Host.{Host, at, without_expired, with_left, with_neighbors, with_next_id}
use Rattle.host_machine.specs.Context.Addresses.{is_broadcast_v4}
use Rattle.host_machine.specs.Packet.Packet.{Packet, PacketV4, payload_of}
use Rattle.host_machine.specs.Receive.Reply.{Reply, Arp, Ip, IsDropped}
use Rattle.host_machine.specs.Packet.Frame.{arp_frame, ip_frame, piece_frame}
use Rattle.host_machine.specs.Discovery.Arp.{ProcessesArp, request_for, answer_by}
use Rattle.host_machine.specs.Discovery.Arp as arp
use Rattle.host_machine.specs.Receive.Reassembly.{TakesFragment}
use Rattle.host_machine.specs.Receive.Ipv4.{ProcessesDatagram, ProcessesPacket, ProcessesIpv4}
use Rattle.host_machine.specs.Receive.Ipv6.{ProcessesIpv6}
use Rattle.host_machine.specs.Receive.Ipv4 as ipv4
use Rattle.host_machine.specs.Receive.Ethernet.{ProcessesEthertype, ProcessesEthernet, ProcessesFrame}
use Rattle.host_machine.specs.Receive.Ethernet as ethernet
use Rattle.host_machine.specs.Send.Outcome.{Outcome}
use Rattle.host_machine.specs.Send.Dispatch.{Dispatches}
use Rattle.host_machine.specs.Send.Hops.{multicast_hardware_addr, group_address_v4}
use Rattle.host_machine.specs.Context.Pieces.{datagram_of}
use Rattle.host_machine.specs.Send.Requests.{with_silence}
use Rattle.host_machine.specs.Receive.Response.{Responds}
use Rattle.host_machine.specs.Interface.Ingress.{Takes, Ingress}
use Rattle.host_machine.specs.Interface.Step.{Act, Step, UpdatesIpAddrs}
use Rattle.host_machine.specs.Interface.Step as step
use Rattle.ip_address.specs.Hardware.{IsOf}
use Rattle.host_machine.specs.Context.Real.{IsReal}
use Rattle.host_laws.specs.Laws.Wire.{Shows, Nothing, OnePiece, OneCut, OtherFrame, FragmentsArePieces, StaysReal}
use Rattle.host_machine.specs.Interface.Run.{Transition, Run, Ends, Then, events_in, notes_in}
use Rattle.host_machine.specs.Interface.Parts.{Part}
use Rattle.host_laws.proofs.Context.NotesBySubject.{cut_notes-append, cut_notes-slots}
use Rattle.host_laws.proofs.Receive.Malformed.{sent_frames-sends}
use Rattle.host_laws.proofs.Interface.PollCalls.{polled}
use Rattle.host_laws.proofs.Context.MediumAddresses.{none_of, arp_source_of}
use Rattle.host_laws.proofs.Receive.FrameReading.{arp_other, whole_other}
use Rattle.host_laws.proofs.Context.UnchangedFields.{Keeps}
use Rattle.host_laws.proofs.Interface.OwnMessages.{is_own}
use Rattle.host_laws.proofs.Receive.PacketEffects.{IsByIp, whole_plain, ipv6_plain}
use Rattle.host_machine.proofs.Send.Reached.{Reached, ByNeighbor, ByGroup, WithoutAddresses}
use Rattle.host_laws.proofs.Runs.Walk.{sent_frames-append, dispatched, taken, egressed}
use Rattle.host_machine.proofs.Send.Reached.{reached_of}

shows_on : {m : Medium} {fs gs : List (List ℕ)} {xs ys : List CutNote} → Shows m fs xs → Shows m gs ys → Shows m (fs ++ gs) (xs ++ ys)
shows_on Nothing more = more
shows_on (OnePiece H p of s) more = OnePiece H p of (shows_on s more)
shows_on (OneCut d of s) more = OneCut d of (shows_on s more)
shows_on (OtherFrame frame other s) more = OtherFrame frame other (shows_on s more)

pub record Shown (old : Host) (frames : List (List ℕ)) (notes : List Note) (new : Host) : Type 0 where
  pub shows : Shows old.capabilities.medium frames (cut_notes notes)
  pub same : new.capabilities ≡ old.capabilities
  pub real : IsReal new

abbrev pub ShownOver : Host → List (List ℕ) → List Note → Host → Type 0
ShownOver old frames notes new = IsReal old → Shown old frames notes new

-- where the addresses stay
stays : (old : Host) (frames : List (List ℕ)) (notes : List Note) (new : Host) →
    Shows old.capabilities.medium frames (cut_notes notes) → new.capabilities ≡ old.capabilities → new.hardware_addr ≡ old.hardware_addr →
    new.neighbors.known ≡ old.neighbors.known → IsReal old → Shown old frames notes new
stays old frames notes new s c h n r = record {
  shows = s;
  same = c;
  real = record { own = rw (c, h) r.own; neighbors = rw (c, n) r.neighbors };
}

keeps : (old new : Host) → Keeps old new → ShownOver old [] [] new
keeps old new k = λ r. record { shows = Nothing; same = ap (λ (K : Host). K.capabilities) k.same; real = k.real r }

on : (a b c : Host) (fs gs : List (List ℕ)) (xs ys : List Note) → ShownOver a fs xs b → ShownOver b gs ys c → ShownOver a (fs ++ gs) (xs ++ ys) c
on a b c fs gs xs ys one two = λ r.
    let x = one r in
    let y = two x.real in
    let more : Shows a.capabilities.medium gs (cut_notes ys) = subst (λ (d : DeviceCapabilities). Shows d.medium gs (cut_notes ys)) x.same y.shows in
    record { shows = rw cut_notes-append (shows_on x.shows more); same = y.same ∙ x.same; real = y.real }

-- a request goes from the host's own address to all
of_all : (m : Medium) (own : EthernetAddress) → IsOf m (hardware.Ethernet own) → IsOf m (hardware.Ethernet broadcast)
of_all medium.Ethernet own of = refl
of_all medium.Ip own of = of

asked : (H : Host) (hop : IpAddress) → answer_of H.neighbors hop H.moment ≡ NotFound →
    ShownOver H [] (OfDiscovery (Ask H.moment) ∷ []) (with_neighbors H (with_silence H.neighbors H))
asked H hop unknown = λ r. stays H _ _ _ Nothing refl refl refl r

requests : (H : Host) (own : EthernetAddress) (source target : Ipv4Address) →
    H.hardware_addr ≡ hardware.Ethernet own → ShownOver H (arp_frame (request_for own source target) ∷ []) [] H
requests H own source target mine = λ r.
    let of : IsOf H.capabilities.medium (hardware.Ethernet own) = rw mine at r.own in
    stays H _ _ _ (OtherFrame (arp_frame (request_for own source target))
    (arp_other H.capabilities.medium (request_for own source target) of (of_all H.capabilities.medium own of)) Nothing) refl refl refl r

identifies : (H : Host) → ShownOver H [] (OfIdentification (Identify H.ipv4_id) ∷ []) (with_next_id H)
identifies H = λ r. stays H _ _ _ Nothing refl refl refl r

whole : (H : Host) (h : HardwareAddress) (p : Packet) → Reached H h → ShownOver H (ip_frame H h p ∷ []) [] H
whole H h p reached = λ r.
    stays H _ _ _ (OtherFrame (ip_frame H h p) (whole_other H.capabilities.medium H h p r.own (reached_of H h r reached)) Nothing) refl refl refl r

cuts : (H : Host) (h : HardwareAddress) (id : ℕ) (p : PacketV4) (first : Piece) (rest : List Piece) →
    pieces_of (datagram_of H h id p) ≡ first ∷ rest → HasForm (datagram_of H h id p) → Reached H h →
    ShownOver H (piece_frame H first ∷ []) (OfCuts (Cut (datagram_of H h id p)) ∷ OfCuts (PieceSent first) ∷ []) (with_left H rest)
cuts H h id p first rest e form reached = λ r.
    stays H _ _ _ (OneCut (datagram_of H h id p) (reached_of H h r reached) (OnePiece H first r.own Nothing)) refl refl refl r

sweeps : (H : Host) (t : ℤ) → ShownOver H [] [] (without_expired H t)
sweeps H t = λ r. stays H [] [] _ Nothing refl refl refl r

fragments : (H : Host) (key : FragKey) (f : Fragment) (result : Option (List ℕ)) (notes : List Note) (new : Host) →
    TakesFragment key f result H notes new → ShownOver H [] notes new
fragments H key f result notes new t = λ r. rw (t.noted, t.changed) (stays H [] _ _ (rw (cut_notes-slots t.slot_notes) Nothing) refl refl refl r)

pieces : (H : Host) (p : Piece) (rest : List Piece) →
    H.left ≡ p ∷ rest → ShownOver H (piece_frame H p ∷ []) (OfCuts (PieceSent p) ∷ []) (with_left H rest)
pieces H p rest e = λ r. stays H _ _ _ (OnePiece H p r.own Nothing) refl refl refl r

-- an ARP reply goes between addresses of the medium, and a packet has a message of the host's own
abbrev pub GoodReply : Medium → Option Reply → Type 0
GoodReply m None = Unit {0}
GoodReply m (Some (Ip p)) = is_own (payload_of p) ≡ true
GoodReply m (Some (Arp r)) = IsOf m (hardware.Ethernet r.source_hardware_addr)
    × IsOf m (hardware.Ethernet r.target_hardware_addr) × (r.operation ≡ operation.Reply)

module _ (kind : Medium) where
  no_reply : {reply : Option Reply} → reply ≡ None → GoodReply kind reply
  no_reply e = rw e tt

  drop_good : {H new : Host} {reply : Option Reply} {notes : List Note} → IsDropped H reply notes new → GoodReply kind reply
  drop_good d = no_reply d.silent

  -- no reply of IP is one of ARP
  ip_good : (reply : Option Reply) → IsByIp reply → GoodReply kind reply
  ip_good None i = tt
  ip_good (Some (Ip p)) i = i
  ip_good (Some (Arp r)) i = absurd i

  reply_good : (op : ArpOperation) (own : EthernetAddress) (r : ArpRepr) →
      IsOf kind (hardware.Ethernet own) → IsOf kind (hardware.Ethernet r.source_hardware_addr) → GoodReply kind (answer_by op own r)
  reply_good operation.Request own r s t = (s, t, refl)
  reply_good operation.Reply own r s t = tt

  arp_good : {own : EthernetAddress} {H new : Host} {payload : List ℕ} {reply : Option Reply} {notes : List Note} →
      IsOf kind (hardware.Ethernet own) → ProcessesArp own H payload reply notes new → GoodReply kind reply
  arp_good of (arp.Malformed m d) = drop_good d
  arp_good of (arp.NotForUs a l d) = drop_good d
  arp_good {own} {H} {new} {payload} of (arp.Learnt a l learns r n) =
      rw r (reply_good (arp_in payload).operation own (arp_in payload) of (arp_source_of kind own payload of a))

  whole_good : {source : HardwareAddress} {r : Ipv4Repr} {H new : Host} {payload : List ℕ} {reply : Option Reply} {notes : List Note} →
      ProcessesDatagram source r H payload reply notes new → GoodReply kind reply
  whole_good t = ip_good _ (whole_plain t).by_ip

  ipv6_good : {source : HardwareAddress} {H new : Host} {octets : List ℕ} {reply : Option Reply} {notes : List Note} →
      ProcessesIpv6 source H octets reply notes new → GoodReply kind reply
  ipv6_good t = ip_good _ (ipv6_plain t).by_ip

  packet_good : {source : HardwareAddress} {r : Ipv4Repr} {f : Ipv4Fragment} {H new : Host} {payload : List ℕ} {reply : Option Reply}
      {notes : List Note} → ProcessesPacket source r f H payload reply notes new → GoodReply kind reply
  packet_good (ipv4.FromNoHost s d) = drop_good d
  packet_good (ipv4.Part s g t e) = no_reply e
  packet_good (ipv4.Completed octets mid first rest s g t w n) = whole_good w
  packet_good (ipv4.Whole s g t) = whole_good t

  ipv4_good : {source : HardwareAddress} {H new : Host} {octets : List ℕ} {reply : Option Reply} {notes : List Note} →
      ProcessesIpv4 source H octets reply notes new → GoodReply kind reply
  ipv4_good (ipv4.Malformed m d) = drop_good d
  ipv4_good (ipv4.Read i t) = packet_good t

  payload_good : (own source : EthernetAddress) (H : Host) (p : EthernetProtocol) (payload : List ℕ) (reply : Option Reply) (notes : List Note)
      (new : Host) → IsOf kind (hardware.Ethernet own) →
      ProcessesEthertype own source H p payload reply notes new → GoodReply kind reply
  payload_good own source H protocol.Arp payload reply notes new of t = arp_good of t
  payload_good own source H protocol.Ipv4 payload reply notes new of t = ipv4_good t
  payload_good own source H protocol.Ipv6 payload reply notes new of t = ipv6_good t
  payload_good own source H (protocol.Unknown n) payload reply notes new of t = drop_good t

  ethernet_good : {own : EthernetAddress} {H new : Host} {frame : List ℕ} {reply : Option Reply} {notes : List Note} →
      IsOf kind (hardware.Ethernet own) → ProcessesEthernet own H frame reply notes new → GoodReply kind reply
  ethernet_good of (ethernet.Malformed m d) = drop_good d
  ethernet_good of (ethernet.NotForUs l f d) = drop_good d
  ethernet_good {own} {H} {new} {frame} {reply} {notes} of (ethernet.Accepted l f t) = payload_good own _ H _ _ reply notes new of t

  frame_good : (h : HardwareAddress) (H : Host) (frame : List ℕ) (reply : Option Reply) (notes : List Note) (new : Host) →
      IsOf kind h → ProcessesFrame h H frame reply notes new → GoodReply kind reply
  frame_good (hardware.Ethernet own) H frame reply notes new of t = ethernet_good of t
  frame_good hardware.Ip H frame reply notes new of (ethernet.Ipv4 v t) = ipv4_good t
  frame_good hardware.Ip H frame reply notes new of (ethernet.Ipv6 v t) = ipv6_good t
  frame_good hardware.Ip H frame reply notes new of (ethernet.OtherVersion v w d) = drop_good d

pub takes_good : (H : Host) (r : Reception) (reply : Option Reply) (notes : List Note) (new : Host) →
    IsReal H → Takes H r reply notes new → GoodReply H.capabilities.medium reply
takes_good H NoFrame reply notes new real t = drop_good H.capabilities.medium t
takes_good H Withheld reply notes new real t = drop_good H.capabilities.medium t
takes_good H (Frame []) reply notes new real t = drop_good H.capabilities.medium t
takes_good H (Frame (octet ∷ octets)) reply notes new real t =
    frame_good H.capabilities.medium H.hardware_addr H (octet ∷ octets) reply notes new real.own t

pub dispatch_real : {p : Packet} {outcome : Outcome} {H new : Host} {frames : List (List ℕ)} {notes : List Note} →
    Dispatches p outcome H frames notes new → ShownOver H frames notes new
dispatch_real d = dispatched ShownOver keeps on requests asked identifies whole cuts d

silent : {old new : Host} {frames : List (List ℕ)} {notes : List Note} → frames ≡ [] → notes ≡ [] → new ≡ old → ShownOver old frames notes new
silent {old} f n e = λ real. rw (f, n, e) (stays old [] [] old Nothing refl refl refl real)

responds : (reply : Option Reply) (H : Host) (frames : List (List ℕ)) (notes : List Note) (new : Host) →
    GoodReply H.capabilities.medium reply → Responds reply H frames notes new → ShownOver H frames notes new
responds None H frames notes new good r = silent r.0 r.1 r.2
responds (Some (Arp packet)) H frames notes new good r = λ real.
    rw (r.0, r.1, r.2)
    (stays H _ [] H (OtherFrame (arp_frame packet) (arp_other H.capabilities.medium packet good.0 good.1) Nothing) refl refl refl real)
responds (Some (Ip packet)) H frames notes new good r = dispatch_real r.1

-- what is taken leaves hardware addresses of the medium
pub takes_real : (H : Host) (r : Reception) (reply : Option Reply) (notes : List Note) (new : Host) →
    Takes H r reply notes new → ShownOver H [] notes new
takes_real H r reply notes new t = taken ShownOver keeps on fragments H r reply notes new t

ingress : {t : ℤ} {answer : PollIngressSingleResult} {old new : Host} {told : List Event} {notes : List Note} →
    Ingress t answer old told notes new → ShownOver old (sent_frames told) notes new
ingress {t} {answer} {old} {new} {told} {notes} i = λ real.
    let began = (sweeps old t real).real in
    let r = i.response in
    let first = takes_real (without_expired old t) i.reception r.reply r.notes_taking r.taken r.takes in
    let good = takes_good (without_expired old t) i.reception r.reply r.notes_taking r.taken began r.takes in
    let same = (first began).same in
    let second = responds r.reply r.taken i.frames r.notes_responding new
    (subst (λ (d : DeviceCapabilities). GoodReply d.medium r.reply) (sym same) good) r.responds in
    rw (i.events, r.all_notes, sent_frames-sends i.frames)
    (on old (without_expired old t) new [] i.frames [] (r.notes_taking ++ r.notes_responding) (sweeps old t)
    (on (without_expired old t) r.taken new [] i.frames r.notes_taking r.notes_responding first second) real)

updates : {list : List IpCidr} {answer : _} {old new : Host} → UpdatesIpAddrs list answer old new → ShownOver old [] [] new
updates {old = old} (step.Accepted a r e) = λ real.
    rw e (record { shows = Nothing; same = refl; real = record { own = real.own; neighbors = none_of old.capabilities.medium old.neighbors } })
updates (step.Refused a r e) = silent refl refl e

sets : {h : HardwareAddress} {answer : _} {old new : Host} → step.SetsHardwareAddr h answer old new → ShownOver old [] [] new
sets (step.Taken a of r e) = λ real. rw e (record { shows = Nothing; same = refl; real = record { own = of; neighbors = real.neighbors } })
sets (step.NotTaken error a r e) = silent refl refl e

lasts : {timeout : ℕ} {answer : _} {old new : Host} → step.SetsReassemblyTimeout timeout answer old new → ShownOver old [] [] new
lasts {old = old} (step.WithinDay l r e) = λ real. rw e (stays old [] [] _ Nothing refl refl refl real)
lasts (step.OverDay l r e) = silent refl refl e

-- addresses and routes in line with what was learnt
syncs : (H : Host) (b : Bool) → ShownOver H [] [] (if b then with_slaac_applied H else H)
syncs H true =
    λ real. record { shows = Nothing; same = refl; real = record { own = real.own; neighbors = none_of H.capabilities.medium H.neighbors } }
syncs H false = silent refl refl refl

pub maintains : (H : Host) (t : ℤ) → ShownOver H [] [] (after_maintenance (at H t))
maintains H t =
    on H (without_expired H t) (after_maintenance (at H t)) [] [] [] [] (sweeps H t) (syncs (without_expired H t) (sync_required H.slaac t))

-- over the calls of a poll
abbrev Told : Part
Told old told notes new = ShownOver old (sent_frames told) notes new

begins : (H : Host) → Told H [] [] H
begins H = λ real. stays H [] [] H Nothing refl refl refl real

follows : (a b c : Host) (ts us : List Event) (xs ys : List Note) → Told a ts xs b → Told b us ys c → Told a (ts ++ us) (xs ++ ys) c
follows a b c ts us xs ys one two = rw sent_frames-append (on a b c (sent_frames ts) (sent_frames us) xs ys one two)

pub stepped : {command : Command} {answer : Answer} {old new : Host} {told : List Event} {acts : List Act} {notes : List Note} →
    Step command answer old told acts notes new → IsReal old → Shown old (sent_frames told) notes new
stepped (step.UpdatedIpAddrs u) real = updates u real
stepped (step.PolledIngressSingle i) real = ingress i real
stepped (step.PolledEgress e) real = egressed ShownOver keeps on requests asked identifies whole cuts pieces e real
stepped (step.Polled {t} p) real = polled Told begins follows t (λ H. maintains H t) (λ answer old new told notes i. ingress i)
    (λ answer old new told notes e. egressed ShownOver keeps on requests asked identifies whole cuts pieces e) p real
stepped (step.PolledMaintenance {t} {old}) real = maintains old t real
stepped {old = old} (step.JoinedGroup j) real = let g = join_groups j in rw g.1 (stays old [] [] _ Nothing refl refl refl real)
stepped {old = old} (step.LeftGroup j) real = let g = leave_groups j in rw g.1 (stays old [] [] _ Nothing refl refl refl real)
stepped (step.TookHardwareAddr s) real = sets s real
stepped (step.TookReassemblyTimeout s) real = lasts s real
stepped {old = old} other real = stays old [] [] _ Nothing refl refl refl real

-- over a whole run
all_shown : {first last : Host} {transitions : List Transition} →
    Run first transitions last → IsReal first → Shown first (sent_frames (events_in transitions)) (notes_in transitions) last
all_shown {first} Ends real = stays first [] [] first Nothing refl refl refl real
all_shown (Then {told = told} {notes = notes} {transitions = ps} s r) real =
    rw sent_frames-append (on _ _ _ (sent_frames told) (sent_frames (events_in ps)) notes (notes_in ps) (λ x. stepped s x) (λ x. all_shown r x) real)

pub run_shows : FragmentsArePieces
run_shows first last transitions r real = (all_shown r real).shows

pub run_real : StaysReal
run_real first last transitions r real = let all = all_shown r real in (all.same, all.real)
