-- What UDP sockets get of another host was sent by a UDP socket of that.
use Rattle.std.proofs.Common.{inl, inr, ◌≡◌, ℕ, Bool, true, false, List, [], ◌∷◌, ◌++◌, refl, sym, ◌∙◌, ap, subst, Some}
use Rattle.std.specs.Prelude.{◌⊎◌, if◌then◌else◌}
use Rattle.std.specs.List.{AllByRecursion, Contains}
use Rattle.net_base.specs.Checksum.{is_rx}
use Rattle.net_base.specs.Device.{handed_frames, sent_frames}
use Rattle.net_base.specs.declared.phy.DeviceCapabilities.{DeviceCapabilities}
use Rattle.net_base.specs.declared.phy.Medium.{Medium}
use Rattle.ip_address.specs.declared.hardware.HardwareAddress.{HardwareAddress}
use Rattle.ip_address.specs.declared.ip.IpAddress.{IpAddress}
use Rattle.ip_address.specs.declared.ip.IpAddress.TheVariants as address
use Rattle.ip_address.specs.declared.protocol.IpProtocol.TheVariants as kind
use Rattle.ip_address.specs.Hardware.{IsOf}
use Rattle.ip_address.specs.Protocol.{number_of}
use Rattle.ip_wire.specs.declared.ip_packet.IpRepr.{IpRepr}
use Rattle.ip_wire.specs.declared.ip_packet.IpRepr.TheVariants as repr
use Rattle.ip_wire.specs.declared.udp.UdpRepr.{UdpRepr}
use Rattle.ip_wire.specs.IpPacket.{src_addr, dst_addr}
use Rattle.ip_wire.specs.Ipv4Packet.{IsIpv4, ipv4_in, is_fragment}
use Rattle.ip_wire.specs.Udp.{udp_in}
use Rattle.sockets.specs.declared.endpoint.IpEndpoint.{IpEndpoint}
use Rattle.iface_tables.specs.Slaac.{sync_required}
use Rattle.fragmentation.specs.declared.key.FragKey.{FragKey}
use Rattle.fragmentation.specs.Keys.{same_key}
use Rattle.fragmentation.specs.Cuts.{Datagram}
use Rattle.fragmentation.specs.Reassembly.{SlotNote, Take, Arrival, Rebuild}
use Rattle.host_machine.specs.declared.command.Command.{Command}
use Rattle.host_machine.specs.declared.command.Command.TheVariants as command
use Rattle.host_machine.specs.Context.Note.{cut_notes, slot_notes}
use Rattle.host_machine.specs.Context.Host.{Host, without_expired}
use Rattle.host_machine.specs.Context.Autoconfiguration.{with_slaac_applied}
use Rattle.host_machine.specs.Context.Addresses.{may_be_source}
use Rattle.host_machine.specs.Sockets.Offers.{packet_between}
use Rattle.host_machine.specs.Packet.Packet.{IpPayload, PacketV4, Udp}
use Rattle.host_machine.specs.Packet.Packet as packet
use Rattle.host_machine.specs.Packet.Frame.{ip_frame}
use Rattle.host_laws.specs.Laws.Frames.{Carries}
use Rattle.host_machine.specs.Context.Pieces.{datagram_of}
use Rattle.host_machine.specs.Receive.Ipv4.{key_in, fragment_in, datagram_header}
use Rattle.host_laws.specs.Laws.Arrivals.{rebuilt, slot_notes_in}
use Rattle.host_machine.specs.Context.Real.{IsReal, IsRegular}
use Rattle.host_machine.specs.Interface.Run.{Transition, Run, Ends, Then, events_in, notes_in}
use Rattle.host_laws.specs.Laws.TwoHosts.{WereSent, cuts, cuts_in, key_of_cut}
use Rattle.host_laws.proofs.Context.NotesBySubject.{cut_notes-append, slot_notes-append}
use Rattle.host_machine.proofs.Receive.Pieces.{IsIn, is_in, contains_in, in_left, in_right, in_either}
use Rattle.host_laws.proofs.Runs.ReassemblyOrigin.{test_same}
use Rattle.host_laws.proofs.Runs.SentPieces as shown
use Rattle.host_laws.proofs.Interface.Turns.{between_is}
use Rattle.host_laws.proofs.Runs.TwoHosts.{cuts-append, frame_is_cut, run_rebuilds}
use Rattle.host_laws.proofs.Receive.SlotEffects.{handed_frames-append}
use Rattle.host_laws.proofs.Runs.Walk.{sent_frames-append}
use Rattle.host_laws.specs.Deliveries.{Delivery, Deliver, NoFrame, OneGets, NoSocketGets, BringsPacket, BringsUdp, AtOnce, InFragments}
use Rattle.host_laws.specs.Departures.{Departure, Way, Dropped, InOneFrame, InPieces, HasDeparted, Departs, cuts_by, cuts_of, departs_from}
use Rattle.host_laws.specs.Departures as spec
use Rattle.host_laws.specs.Senders.{CarriesNoUdp, NoSocketWritesUdp, WentIn, ways}
use Rattle.host_laws.specs.Datagrams.{host_at_command}
use Rattle.host_laws.specs.EndToEnd.{GetWhatWasSent, LeaveQueues, MayRebuild, RunsGetWhatWasSent, WasSent, WasSentAt, WasSentSo, WereSentSo}
use Rattle.host_laws.proofs.ReadBack.{IsRead, read_payload, read_whole}
use Rattle.host_laws.proofs.RegularHosts.{SendsOver, all_send}

pub all_in : {X : Type 0} (P : X → Type 0) (xs : List X) (x : X) → AllByRecursion P xs → IsIn x xs → P x
all_in P [] x all i = absurd i
all_in P (y ∷ xs) x all (inl e) = rw e all.0
all_in P (y ∷ xs) x all (inr i) = all_in P xs x all.1 i

pub all_parted : {X : Type 0} (P : X → Type 0) (xs ys : List X) → AllByRecursion P (xs ++ ys) → AllByRecursion P xs × AllByRecursion P ys
all_parted P [] ys all = (tt, all)
all_parted P (x ∷ xs) ys all = let r = all_parted P xs ys all.1 in ((all.0, r.0), r.1)

-- where what is in all is in some place
pub record FrameAt (ps : List Transition) (frame : List ℕ) : Type 0 where
  pub place : Transition
  pub is_there : IsIn place ps
  pub sent_there : IsIn frame (sent_frames place.told)

pub frame_at : (ps : List Transition) (frame : List ℕ) → IsIn frame (sent_frames (events_in ps)) → FrameAt ps frame
frame_at [] frame i = absurd i
frame_at (p ∷ ps) frame i = by (λ j. frame_at ps frame j)
    (in_either (sent_frames p.told) (sent_frames (events_in ps)) frame (subst (IsIn frame) (sent_frames-append p.told (events_in ps)) i)) where
      by : (IsIn frame (sent_frames (events_in ps)) → FrameAt ps frame) →
          IsIn frame (sent_frames p.told) ⊎ IsIn frame (sent_frames (events_in ps)) → FrameAt (p ∷ ps) frame
      by later (inl j) = record { place = p; is_there = inl refl; sent_there = j }
      by later (inr j) = let r = later j in record { place = r.place; is_there = inr r.is_there; sent_there = r.sent_there }

record CutAt (ps : List Transition) (d : Datagram) : Type 0 where
  place : Transition
  is_there : IsIn place ps
  cut_there : IsIn d (cuts (cut_notes place.notes))

parted : (p : Transition) (ps : List Transition) → cuts_in (p ∷ ps) ≡ cuts (cut_notes p.notes) ++ cuts_in ps
parted p ps = ap cuts (cut_notes-append p.notes (notes_in ps)) ∙ cuts-append (cut_notes p.notes) (cut_notes (notes_in ps))

cut_at : (ps : List Transition) (d : Datagram) → IsIn d (cuts_in ps) → CutAt ps d
cut_at [] d i = absurd i
cut_at (p ∷ ps) d i = by (λ j. cut_at ps d j) (in_either (cuts (cut_notes p.notes)) (cuts_in ps) d (subst (IsIn d) (parted p ps) i)) where
  by : (IsIn d (cuts_in ps) → CutAt ps d) → IsIn d (cuts (cut_notes p.notes)) ⊎ IsIn d (cuts_in ps) → CutAt (p ∷ ps) d
  by later (inl j) = record { place = p; is_there = inl refl; cut_there = j }
  by later (inr j) = let r = later j in record { place = r.place; is_there = inr r.is_there; cut_there = r.cut_there }

-- the departure that went so
record WentSo (ds : List Departure) (w : Way) : Type 0 where
  departure : Departure
  is_there : IsIn departure ds
  way_is : departure.way ≡ w

went_so : (ds : List Departure) (w : Way) → IsIn w (ways ds) → WentSo ds w
went_so [] w i = absurd i
went_so (d ∷ ds) w (inl e) = record { departure = d; is_there = inl refl; way_is = sym e }
went_so (d ∷ ds) w (inr i) = let r = went_so ds w i in record { departure = r.departure; is_there = inr r.is_there; way_is = r.way_is }

record WasCut (ds : List Departure) (c : Datagram) : Type 0 where
  departure : Departure
  is_there : IsIn departure ds
  first : List ℕ
  way_is : departure.way ≡ InPieces c first

was_cut : (ds : List Departure) (c : Datagram) → IsIn c (cuts_of ds) → WasCut ds c
was_cut [] c i = absurd i
was_cut (d ∷ ds) c i = by (λ j. was_cut ds c j) d.way refl i where
  later : WasCut ds c → WasCut (d ∷ ds) c
  later r = record { departure = r.departure; is_there = inr r.is_there; first = r.first; way_is = r.way_is }

  by : (IsIn c (cuts_of ds) → WasCut ds c) → (w : Way) → d.way ≡ w → IsIn c (cuts_by w (cuts_of ds)) → WasCut (d ∷ ds) c
  by rest Dropped e j = later (rest j)
  by rest (InOneFrame to frame) e j = later (rest j)
  by rest (InPieces cut first) e (inl same) =
      record { departure = d; is_there = inl refl; first = first; way_is = e ∙ ap (λ x. InPieces x first) (sym same) }
  by rest (InPieces cut first) e (inr j) = later (rest j)

-- the ends of a packet of IPv4
ends_are : (src dst : IpAddress) (hop_limit : ℕ) (payload : IpPayload) (q : PacketV4) →
    packet_between src dst hop_limit payload ≡ Some (packet.Ipv4 q) → (src ≡ address.Ipv4 q.src_addr) × (dst ≡ address.Ipv4 q.dst_addr)
ends_are (address.Ipv4 a) (address.Ipv4 b) hop_limit payload q e =
    let is : record { src_addr = a; dst_addr = b; hop_limit = hop_limit; payload = payload } ≡ q = cc in
    (ap (λ (x : PacketV4). address.Ipv4 x.src_addr) is, ap (λ (x : PacketV4). address.Ipv4 x.dst_addr) is)
ends_are (address.Ipv4 a) (address.Ipv6 b) hop_limit payload q e = absurd cc
ends_are (address.Ipv6 a) (address.Ipv4 b) hop_limit payload q e = absurd cc
ends_are (address.Ipv6 a) (address.Ipv6 b) hop_limit payload q e = absurd cc

-- a departure that was read as a delivery was its sending
module _ (p : Transition) (d : Delivery) (departures : List Departure) (leave : LeaveQueues p departures) (departure : Departure)
    (one : Contains departures departure) (l : HasDeparted (host_at_command p.command p.before) departure) where
  abbrev B : Host
  B = host_at_command p.command p.before

  abbrev ports : UdpRepr
  ports = record { src_port = l.socket.endpoint.port; dst_port = departure.destination.port }

  sent_as : (header : IpRepr) (octets : List ℕ) (src : IpAddress) → departs_from B l.socket departure ≡ Some src → (departure.way ≡ Dropped → ⊥) →
      IsRead header octets src departure.destination.addr ports departure.payload →
      d.source ≡ record { addr = src_addr header; port = (udp_in octets).0.src_port } →
      d.destination ≡ record { addr = dst_addr header; port = (udp_in octets).0.dst_port } → d.payload ≡ (udp_in octets).1 → WasSentAt p d
  sent_as header octets src from went read source destination payload = record {
    departures = departures;
    leave = leave;
    departure = departure;
    is_one = one;
    left = l;
    went = went;
    destination = sym (destination ∙ ends (dst_addr header) departure.destination.addr _ departure.destination.port read.destination
        (ap (λ (x : UdpRepr × List ℕ). x.0.dst_port) read.values));
    payload = sym (payload ∙ ap (λ (x : UdpRepr × List ℕ). x.1) read.values);
    address = from ∙ ap (λ x. Some x) (sym (ap (λ (e : IpEndpoint). e.addr) source ∙ read.source));
    port = sym (ap (λ (e : IpEndpoint). e.port) source ∙ ap (λ (x : UdpRepr × List ℕ). x.0.src_port) read.values);
  } where
    ends : (a b : IpAddress) (x y : ℕ) → a ≡ b → x ≡ y → ◌≡◌ {A = IpEndpoint} (record { addr = a; port = x }) (record { addr = b; port = y })
    ends a b x y e f = rw (e, f) refl

  -- in one packet
  at_once : (m : Medium) (K : Host) (header : IpRepr) (octets : List ℕ) (h : HardwareAddress) (frame : List ℕ) →
      IsOf m B.hardware_addr → IsOf m h → IsOf m K.hardware_addr → departure.way ≡ InOneFrame h frame →
      BringsPacket K frame header octets → d.source ≡ record { addr = src_addr header; port = (udp_in octets).0.src_port } →
      d.destination ≡ record { addr = dst_addr header; port = (udp_in octets).0.dst_port } → d.payload ≡ (udp_in octets).1 → WasSentAt p d
  at_once m K header octets h frame own far mine way b source destination payload = by l.leaves where
    to_is : (a c : HardwareAddress) (f g : List ℕ) → InOneFrame a f ≡ InOneFrame c g → (a ≡ c) × (f ≡ g)
    to_is a c f g e = (cc, cc)

    not_dropped : departure.way ≡ Dropped → ⊥
    not_dropped e = let is : InOneFrame h frame ≡ Dropped = sym way ∙ e in cc

    by : Departs B l.socket departure → WasSentAt p d
    by (spec.GoesWhole src q to from is fits formed w) =
        let same = to_is h to frame (ip_frame B to q) (sym way ∙ w) in
        let brings : BringsPacket K (ip_frame B h q) header octets =
        subst (λ f. BringsPacket K f header octets) (same.1 ∙ ap (λ x. ip_frame B x q) (sym same.0)) b in
        sent_as header octets src from not_dropped
        (read_whole m B h own far K mine ports departure.payload l.socket.hop_limit src departure.destination.addr q is formed header octets brings)
        source destination payload
    by (spec.GoesInPieces src q to id first rest from is long may pieces formed w) = let other : InOneFrame h frame ≡ InPieces _ _ = sym way ∙ w in
        absurd cc
    by (spec.NoSource none w) = absurd (not_dropped w)
    by (spec.ToUnspecified nobody w) = absurd (not_dropped w)
    by (spec.TooLong src q from is long may w) = absurd (not_dropped w)

  -- in fragments
  in_fragments : (c : Datagram) (first octets : List ℕ) (header : IpRepr) → departure.way ≡ InPieces c first → octets ≡ c.payload →
      src_addr header ≡ address.Ipv4 c.header.src_addr → dst_addr header ≡ address.Ipv4 c.header.dst_addr →
      d.source ≡ record { addr = src_addr header; port = (udp_in octets).0.src_port } →
      d.destination ≡ record { addr = dst_addr header; port = (udp_in octets).0.dst_port } → d.payload ≡ (udp_in octets).1 → WasSentAt p d
  in_fragments c first octets header way same src_is dst_is source destination payload = by l.leaves where
    cut_is : (a e : Datagram) (f g : List ℕ) → InPieces a f ≡ InPieces e g → a ≡ e
    cut_is a e f g x = cc

    not_dropped : departure.way ≡ Dropped → ⊥
    not_dropped e = let is : InPieces c first ≡ Dropped = sym way ∙ e in cc

    by : Departs B l.socket departure → WasSentAt p d
    by (spec.GoesWhole src q to from is fits formed w) = let other : InPieces c first ≡ InOneFrame _ _ = sym way ∙ w in absurd cc
    by (spec.GoesInPieces src q to id one rest from is long may pieces formed w) =
        let it : c ≡ datagram_of B to id q = cut_is c (datagram_of B to id q) first _ (sym way ∙ w) in
        let carried : q.payload ≡ Udp ports departure.payload = between_is src departure.destination.addr l.socket.hop_limit _ (packet.Ipv4 q) is in
        let family = ends_are src departure.destination.addr l.socket.hop_limit _ q is in
        sent_as header octets src from not_dropped (record {
          source = src_is ∙ ap (λ (x : Datagram). address.Ipv4 x.header.src_addr) it ∙ sym family.0;
          destination = dst_is ∙ ap (λ (x : Datagram). address.Ipv4 x.header.dst_addr) it ∙ sym family.1;
          values = ap udp_in (same ∙ ap (λ (x : Datagram). x.payload) it) ∙ read_payload B q ports departure.payload carried formed;
        }) source destination payload
    by (spec.NoSource none w) = absurd (not_dropped w)
    by (spec.ToUnspecified nobody w) = absurd (not_dropped w)
    by (spec.TooLong src q from is long may w) = absurd (not_dropped w)

-- what is rebuilt is noted
rebuilt_in : (notes : List SlotNote) (key : FragKey) (octets : List ℕ) → IsIn (Rebuild key octets) notes → IsIn octets (rebuilt key notes)
rebuilt_in [] key octets i = absurd i
rebuilt_in (Take k ∷ notes) key octets (inl e) = absurd cc
rebuilt_in (Take k ∷ notes) key octets (inr i) = rebuilt_in notes key octets i
rebuilt_in (Arrival k f ∷ notes) key octets (inl e) = absurd cc
rebuilt_in (Arrival k f ∷ notes) key octets (inr i) = rebuilt_in notes key octets i
rebuilt_in (Rebuild k others ∷ notes) key octets (inl e) =
    let k_is : key ≡ k = cc in
    let same : octets ≡ others = cc in
    let test : same_key key k ≡ true = subst (λ x. same_key key x ≡ true) k_is (test_same key) in
    rw test (inl same)
rebuilt_in (Rebuild k others ∷ notes) key octets (inr i) = by (same_key key k) (rebuilt_in notes key octets i) where
  by : (b : Bool) → IsIn octets (rebuilt key notes) → IsIn octets (if b then others ∷ rebuilt key notes else rebuilt key notes)
  by true there = inr there
  by false there = there

-- a command begins on the host's medium
maintained_hardware : (H : Host) (b : Bool) → (if b then with_slaac_applied H else H).hardware_addr ≡ H.hardware_addr
maintained_hardware H true = refl
maintained_hardware H false = refl

begun_hardware : (c : Command) (H : Host) → (host_at_command c H).hardware_addr ≡ H.hardware_addr
begun_hardware (command.Poll t budget) H = maintained_hardware (without_expired H t) (sync_required H.slaac t)
begun_hardware other H = refl

pub begun_of : (m : Medium) (c : Command) (H : Host) → IsOf m H.hardware_addr → IsOf m (host_at_command c H).hardware_addr
begun_of m c H is = rw begun_hardware is

module _ (a a' : Host) (ps : List Transition) (ra : Run a ps a') (regular : IsRegular a)
    (nobody : AllByRecursion (λ p. NoSocketWritesUdp p.before) ps) where
  abbrev m : Medium
  m = a.capabilities.medium

  sends : AllByRecursion (SendsOver a.capabilities) ps
  sends = all_send ra regular nobody

  own_of : (p : Transition) → SendsOver a.capabilities p → IsOf m (host_at_command p.command p.before).hardware_addr
  own_of p s = begun_of m p.command p.before (subst (λ (c : DeviceCapabilities). IsOf c.medium p.before.hardware_addr) s.same s.real.own)

  -- of a frame that was handed over
  pub whole_sent : (K : Host) → IsOf m K.hardware_addr → (frame : List ℕ) →
      IsIn frame (sent_frames (events_in ps)) → (d : Delivery) (header : IpRepr) (octets : List ℕ) → BringsPacket K frame header octets →
      d.source ≡ record { addr = src_addr header; port = (udp_in octets).0.src_port } →
      d.destination ≡ record { addr = dst_addr header; port = (udp_in octets).0.dst_port } → d.payload ≡ (udp_in octets).1 → WasSent ps d
  whole_sent K mine frame i d header octets brings source destination payload =
      let f = frame_at ps frame i in
      let s = all_in (SendsOver a.capabilities) ps f.place sends f.is_there in
      let same : f.place.before.capabilities.medium ≡ m = ap (λ (c : DeviceCapabilities). c.medium) s.same in
      let carried = all_in (λ x. CarriesNoUdp f.place.before.capabilities.medium x ⊎ WentIn f.place.before.capabilities.medium s.sends.departures x)
      (sent_frames f.place.told) frame s.sends.only.frames_are f.sent_there in
      (f.place, contains_in ps f.place f.is_there, by f.place s same carried) where
        by : (p : Transition) (s : SendsOver a.capabilities p) → p.before.capabilities.medium ≡ m →
            CarriesNoUdp p.before.capabilities.medium frame ⊎ WentIn p.before.capabilities.medium s.sends.departures frame → WasSentAt p d
        by p s same (inl none) = absurd (none K header octets (rw same mine) brings)
        by p s same (inr w) =
            let g = went_so s.sends.departures (InOneFrame w.0 frame) (is_in (ways s.sends.departures) (InOneFrame w.0 frame) w.2) in
            let l = all_in (HasDeparted (host_at_command p.command p.before)) s.sends.departures g.departure s.sends.left g.is_there in
            at_once p d s.sends.departures s.sends.leave g.departure
            (contains_in s.sends.departures g.departure g.is_there) l m K header octets w.0 frame (own_of p s) (rw same at w.1)
            mine g.way_is brings source destination payload

module _ (a a' b b' : Host) (ps qs : List Transition) (ra : Run a ps a') (rb : Run b qs b') (regular : IsRegular a) (b_real : IsReal b)
    (medium_is : b.capabilities.medium ≡ a.capabilities.medium)
    (nobody : AllByRecursion (λ p. NoSocketWritesUdp p.before) ps) (were : WereSent ps qs) where
  -- of a fragment, where what is rebuilt is what was cut
  fragments_sent : (K : Host) → IsOf a.capabilities.medium K.hardware_addr → (frame packet : List ℕ) →
      Contains (sent_frames (events_in ps)) frame → (d : Delivery) (octets : List ℕ) → Carries K.hardware_addr frame packet →
      IsIpv4 (is_rx K.capabilities.checksum.ipv4) packet → may_be_source K.ip_addrs (ipv4_in packet).0.src_addr ≡ true →
      is_fragment (ipv4_in packet).1 ≡ true → (ipv4_in packet).0.next_header ≡ kind.Udp →
      IsIn (Rebuild (key_in (ipv4_in packet).0 (ipv4_in packet).1) octets) (slot_notes_in qs) → (header : IpRepr) →
      header ≡ repr.Ipv4 (datagram_header (ipv4_in packet).0 octets) →
      d.source ≡ record { addr = src_addr header; port = (udp_in octets).0.src_port } →
      d.destination ≡ record { addr = dst_addr header; port = (udp_in octets).0.dst_port } → d.payload ≡ (udp_in octets).1 →
      MayRebuild a b ps → WasSent ps d
  fragments_sent K mine frame packet there d octets c i s part next noted header header_is source destination payload may =
      let key = key_in (ipv4_in packet).0 (ipv4_in packet).1 in
      let f = fragment_in (ipv4_in packet).1 (ipv4_in packet).2 in
      let x = frame_is_cut a a' ps ra regular.real regular.mtu may.left K mine frame there key f
      (record { packet = packet; carried = c; ipv4 = i; source = s; part = part; key_is = refl; fragment_is = refl }) in
      let all = run_rebuilds a a' b b' ps qs ra rb
      (record { one_medium = medium_is; a_real = regular.real; b_real = b_real; mtu = regular.mtu; left = may.left }) were may.own may.free in
      let same : octets ≡ x.datagram.payload =
      all_in (λ o. o ≡ x.datagram.payload) (rebuilt (key_of_cut x.datagram) (slot_notes_in qs)) octets
      (all_in (λ e. AllByRecursion (λ o. o ≡ e.payload) (rebuilt (key_of_cut e) (slot_notes_in qs))) (cuts_in ps) x.datagram all x.is_there)
      (subst (λ k. IsIn octets (rebuilt k (slot_notes_in qs))) x.key_is (rebuilt_in (slot_notes_in qs) key octets noted)) in
      let number : number_of x.datagram.header.next_header ≡ 17 = sym (ap (λ (k : FragKey). k.protocol) x.key_is) ∙ ap number_of next in
      let at_place = cut_at ps x.datagram x.is_there in
      let sending = all_in (SendsOver a.capabilities) ps at_place.place (all_send ra regular nobody) at_place.is_there in
      let cut = all_in (λ e. number_of e.header.next_header ≡ 17 → Contains (cuts_of sending.sends.departures) e)
      (cuts (cut_notes at_place.place.notes)) x.datagram sending.sends.only.cuts_are at_place.cut_there number in
      let g = was_cut sending.sends.departures x.datagram (is_in (cuts_of sending.sends.departures) x.datagram cut) in
      let l = all_in (HasDeparted (host_at_command at_place.place.command at_place.place.before))
      sending.sends.departures g.departure sending.sends.left g.is_there in (
        at_place.place,
        contains_in ps at_place.place at_place.is_there,
        in_fragments at_place.place d sending.sends.departures sending.sends.leave g.departure
            (contains_in sending.sends.departures g.departure g.is_there) l x.datagram g.first octets header g.way_is same
            (ap src_addr header_is ∙ ap (λ (k : FragKey). address.Ipv4 k.src_addr) x.key_is)
            (ap dst_addr header_is ∙ ap (λ (k : FragKey). address.Ipv4 k.dst_addr) x.key_is) source destination payload,
      )

  last_in : (earlier : List SlotNote) (n : SlotNote) → IsIn n (earlier ++ n ∷ [])
  last_in earlier n = in_right earlier (n ∷ []) n (inl refl)

  -- what the frames of a place bring
  each_got : {K : Host} {frames : List (List ℕ)} {noted : List SlotNote} {ds : List Delivery} →
      IsOf a.capabilities.medium K.hardware_addr → AllByRecursion (Contains (sent_frames (events_in ps))) frames →
      ((n : SlotNote) → IsIn n noted → IsIn n (slot_notes_in qs)) → (g : Deliver K frames noted ds) → WereSentSo (MayRebuild a b ps) ps g
  each_got mine there notes NoFrame = tt
  each_got {K} mine there notes (OneGets {noted = noted} frame own d g rest) = (
    by g.header g.octets g.brought g.source_is g.destination_is g.payload_is,
    each_got mine there.1 (λ n i. notes n (in_right own noted n i)) rest,
  ) where
    by : (header : IpRepr) (octets : List ℕ) (brought : BringsUdp K frame own header octets) →
        d.source ≡ record { addr = src_addr header; port = (udp_in octets).0.src_port } →
        d.destination ≡ record { addr = dst_addr header; port = (udp_in octets).0.dst_port } → d.payload ≡ (udp_in octets).1 →
        WasSentSo (MayRebuild a b ps) ps d brought
    by header octets (AtOnce brings) source destination payload =
        whole_sent a a' ps ra regular nobody K mine frame (is_in (sent_frames (events_in ps)) frame there.0) d header octets brings source destination payload
    by header octets (InFragments packet earlier c i s part next last is) source destination payload = λ may.
        fragments_sent K mine frame packet there.0 d octets c i s part next
        (notes (Rebuild (key_in (ipv4_in packet).0 (ipv4_in packet).1) octets)
        (in_left own noted _ (subst (IsIn (Rebuild (key_in (ipv4_in packet).0 (ipv4_in packet).1) octets)) (sym last) (last_in earlier _))))
        header is source destination payload may
  each_got mine there notes (NoSocketGets {noted = noted} frame own rest) = each_got mine there.1 (λ n i. notes n (in_right own noted n i)) rest

  -- at each place from one on
  from : (K : Host) (last : Host) (rest : List Transition) → Run K rest last → IsReal K → K.capabilities.medium ≡ a.capabilities.medium →
      AllByRecursion (Contains (sent_frames (events_in ps))) (handed_frames (events_in rest)) →
      ((n : SlotNote) → IsIn n (slot_notes_in rest) → IsIn n (slot_notes_in qs)) → GetWhatWasSent a b ps rest
  from K last [] Ends real same there notes = tt
  from K last (q ∷ rest) (Then {mid = mid} {command = c} {told = told} {notes = noted} s r) real same there notes =
      let one = shown.stepped s real in
      let halves = all_parted (Contains (sent_frames (events_in ps))) (handed_frames told) (handed_frames (events_in rest))
      (subst (AllByRecursion (Contains (sent_frames (events_in ps)))) (handed_frames-append told (events_in rest)) there) in
      let mine : IsOf a.capabilities.medium (host_at_command c K).hardware_addr = begun_of a.capabilities.medium c K (rw same at real.own) in (
        (λ deliveries departures moves. each_got mine halves.0 (λ n i. notes n
            (subst (IsIn n) (sym (slot_notes-append noted (notes_in rest))) (in_left (slot_notes noted) (slot_notes_in rest) n i))) moves.came),
        from mid last rest r one.real (ap (λ (x : DeviceCapabilities). x.medium) one.same ∙ same) halves.1
            (λ n i. notes n (subst (IsIn n) (sym (slot_notes-append noted (notes_in rest))) (in_right (slot_notes noted) (slot_notes_in rest) n i))),
      )

pub runs_get_what_was_sent : RunsGetWhatWasSent
runs_get_what_was_sent a a' b b' ps qs ra rb regular b_real medium nobody were =
    from a a' b b' ps qs ra rb regular b_real medium nobody were b b' qs rb b_real medium were (λ n i. i)
