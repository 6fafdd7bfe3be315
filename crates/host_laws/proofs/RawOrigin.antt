-- What raw sockets get of several hosts was sent by a raw socket of one of them.
use Rattle.std.proofs.Common.{inl, inr, ◌≡◌, ℕ, true, false, List, [], ◌∷◌, refl, sym, ◌∙◌, ap, subst, Some}
use Rattle.std.specs.Prelude.{◌≢◌}
use Rattle.std.specs.Option.{option_and_then}
use Rattle.std.specs.List.{AllByRecursion, slice_get}
use Rattle.net_base.specs.Device.{handed_frames, sent_frames}
use Rattle.net_base.specs.declared.phy.DeviceCapabilities.{DeviceCapabilities}
use Rattle.net_base.specs.declared.phy.Medium.{Medium}
use Rattle.ip_address.specs.Hardware.{IsOf}
use Rattle.ip_address.specs.Protocol.{number_of}
use Rattle.ip_wire.specs.IpPacket.{next_header}
use Rattle.fragmentation.specs.Reassembly.{SlotNote}
use Rattle.host_machine.specs.Context.Host.{Host}
use Rattle.host_machine.specs.Context.Real.{IsReal, IsRegular}
use Rattle.host_machine.specs.Interface.Run.{Transition, Run, Ends, Then, events_in}
use Rattle.host_machine.proofs.Receive.Pieces.{IsIn, contains_in, is_in}
use Rattle.host_laws.proofs.Receive.SlotEffects.{handed_frames-append}
use Rattle.host_laws.proofs.Runs.SentPieces as shown
use Rattle.host_laws.specs.Datagrams.{host_at_command}
use Rattle.host_laws.specs.Network.{Runs, SentBySome}
use Rattle.host_laws.specs.RawArrivals.{RawArrival, Arrive, BringsRaw, OverIpv4, InFragments, OverIpv6, AfterOptions, NoFrame, OneBrings, NoneBrings}
use Rattle.host_laws.specs.RawPackets.{GetsRaw, IsLeftToSockets, LeavesSegments, RunsGetRawPacketsSent, SendsByRaw, WasSentIf}
use Rattle.host_laws.specs.RawPackets.{WasSentRaw, WasSentRawAt}
use Rattle.host_laws.proofs.DatagramOrigin.{all_in, all_parted, begun_of, frame_at}
use Rattle.host_laws.proofs.RawFrames.{Reads, raw_read, sent_whole}
use Rattle.host_laws.proofs.RawFrames as reads
use Rattle.host_laws.proofs.RawHandover.{raw_is, raw_of}
use Rattle.host_laws.proofs.RawSending.{IsQueued, Speaks}
use Rattle.host_laws.proofs.RawTraffic.{loses_front, step_gets, step_sends}
use Rattle.host_laws.proofs.Unspoken.{Unspoken, left_to_raw}

-- at each transition of a run the frames are of raw sockets, or carry none of the protocol
pub record SendsAt (u : Unspoken) (m : Medium) (p : Transition) : Type 0 where
  pub all : AllByRecursion (Speaks u m p.before.sockets p.after.sockets) (sent_frames p.told)

pub all_send : (u : Unspoken) {first last : Host} {ps : List Transition} → Run first ps last → IsRegular first → AllByRecursion u.Part first.left →
    AllByRecursion (λ p. u.Segments → LeavesSegments p.before (handed_frames p.told)) ps → AllByRecursion (SendsAt u first.capabilities.medium) ps
all_send u Ends r pending only = tt
all_send u {first} (Then {mid = mid} {transitions = ps} s run) r pending only =
    let x = step_sends u s r pending only.0 in (
      record { all = x.all },
      subst (λ (c : DeviceCapabilities). AllByRecursion (SendsAt u c.medium) ps) x.same (all_send u run x.regular x.pending only.1),
    )

-- a whole packet of the protocol is read so
reads_of : (n : ℕ) {K : Host} {frame : List ℕ} {noted : List SlotNote} {a : RawArrival} → n ≢ 0 → BringsRaw K frame noted a →
    a.is_reassembled ≡ false → number_of (next_header a.header) ≡ n → Reads n K.hardware_addr frame a.header a.payload
reads_of n options (OverIpv4 packet c i s g is) whole number =
    reads.OverIpv4 packet c g (sym (ap (λ (x : RawArrival). number_of (next_header x.header)) is) ∙ number)
    (ap (λ (x : RawArrival). x.header) is) (ap (λ (x : RawArrival). x.payload) is)
reads_of n options (InFragments packet octets earlier c i s g e is) whole number =
    let bad : true ≡ false = sym (ap (λ (x : RawArrival). x.is_reassembled) is) ∙ whole in absurd cc
reads_of n options (OverIpv6 packet c i u z for is) whole number =
    reads.OverIpv6 packet c (sym (ap (λ (x : RawArrival). number_of (next_header x.header)) is) ∙ number)
    (ap (λ (x : RawArrival). x.header) is) (ap (λ (x : RawArrival). x.payload) is)
reads_of n options (AfterOptions packet c i u z o skip for is) whole number =
    absurd (options (sym number ∙ ap (λ (x : RawArrival). number_of (next_header x.header)) is ∙ z))

-- whatever else was noted
brings_so : {K : Host} {frame : List ℕ} {noted : List SlotNote} {a : RawArrival} → a.is_reassembled ≡ false →
    BringsRaw K frame noted a → BringsRaw K frame [] a
brings_so whole (OverIpv4 packet c i s g is) = OverIpv4 packet c i s g is
brings_so whole (InFragments packet octets earlier c i s g e is) =
    let bad : true ≡ false = sym (ap (λ (x : RawArrival). x.is_reassembled) is) ∙ whole in absurd cc
brings_so whole (OverIpv6 packet c i u z for is) = OverIpv6 packet c i u z for is
brings_so whole (AfterOptions packet c i u z o skip for is) = AfterOptions packet c i u z o skip for is

module _ (n : ℕ) (left : IsLeftToSockets n) (hosts : List Host) (runs : Runs) (m : Medium)
    (may : (j : ℕ) (a : Host) → slice_get hosts j ≡ Some a → SendsByRaw n m a (runs j)) where
  -- of a frame that a raw socket sent
  sent_at : (K : Host) → IsOf m K.hardware_addr → (p : Transition) (frame : List ℕ) → IsIn frame (sent_frames p.told) →
      (a : RawArrival) → BringsRaw K frame [] a → Reads n K.hardware_addr frame a.header a.payload → IsQueued m p.before.sockets p.after.sockets frame →
      WasSentRawAt K p a
  sent_at K mine p frame there a brings reads q =
      let same = raw_read n m q.host q.far K.hardware_addr q.own_of q.far_of mine q.sent.header q.sent.payload
      (sent_whole q.socket q.octets q.sent q.is_read) q.formed a.header a.payload
      (subst (λ f. Reads n K.hardware_addr f a.header a.payload) q.frame_is reads) in
      record {
        index = q.index;
        socket = q.socket;
        there = raw_is p.before.sockets q.index ∙ ap (option_and_then raw_of) q.there;
        fronts = record {
          socket = q.after;
          there = raw_is p.after.sockets q.index ∙ ap (option_and_then raw_of) q.there_after;
          left = q.left;
          front = q.front;
        };
        octets = q.octets;
        has_left = contains_in q.left (tt, q.octets) q.has_left;
        is_read = q.is_read ∙ ap (λ h. Some (record { header = h; payload = q.sent.payload })) (sym same.header_is)
            ∙ ap (λ o. Some (record { header = a.header; payload = o })) (sym same.payload_is);
        frame = frame;
        went = contains_in (sent_frames p.told) frame there;
        brings = brings;
      }

  -- of a frame that one of the hosts sent
  some_sent : (K : Host) → IsOf m K.hardware_addr → (frame : List ℕ) (noted : List SlotNote) → SentBySome hosts runs frame → (a : RawArrival) →
      BringsRaw K frame noted a → WasSentIf n K hosts runs a
  some_sent K mine frame noted s a brings whole number =
      let x = may s.sender s.is_host.0 s.is_host.1 in
      let sends : AllByRecursion (SendsAt (left_to_raw n left) m) (runs s.sender) =
      subst (λ k. AllByRecursion (SendsAt (left_to_raw n left) k) (runs s.sender)) x.one_medium
      (all_send (left_to_raw n left) x.run x.regular x.pending x.only) in
      let f = frame_at (runs s.sender) frame (is_in (sent_frames (events_in (runs s.sender))) frame s.sent) in
      let at_place = all_in (SendsAt (left_to_raw n left) m) (runs s.sender) f.place sends f.is_there in
      let speaks = all_in (Speaks (left_to_raw n left) m f.place.before.sockets f.place.after.sockets)
      (sent_frames f.place.told) frame at_place.all f.sent_there in
      let read = reads_of n left.no_options brings whole number in
      let sent : WasSentRaw K (runs s.sender) a =
      (f.place, contains_in (runs s.sender) f.place f.is_there, by f.place f.sent_there read speaks) in
      record {
        sender = s.sender;
        is_host = s.is_host;
        sent = sent;
        by_owner = λ j owns. subst (λ k. WasSentRaw K (runs k) a) (owns s.sender a s.is_host sent refl) sent;
      } where
        by : (p : Transition) → IsIn frame (sent_frames p.told) → Reads n K.hardware_addr frame a.header a.payload →
            Speaks (left_to_raw n left) m p.before.sockets p.after.sockets frame → WasSentRawAt K p a
        by p there read (inl none) = absurd (none K.hardware_addr a.header a.payload mine read)
        by p there read (inr q) = sent_at K mine p frame there a (brings_so whole brings) read q

  -- what the frames of a transition bring
  each_sent : {K : Host} {frames : List (List ℕ)} {noted : List SlotNote} {cs : List RawArrival} →
      IsOf m K.hardware_addr → AllByRecursion (SentBySome hosts runs) frames → Arrive K frames noted cs → AllByRecursion (WasSentIf n K hosts runs) cs
  each_sent mine sent NoFrame = tt
  each_sent {K} mine sent (OneBrings frame own a brings rest) = (some_sent K mine frame own sent.0 a brings, each_sent mine sent.1 rest)
  each_sent mine sent (NoneBrings frame own rest) = each_sent mine sent.1 rest

  -- at each transition from one on
  from : (K last : Host) (rest : List Transition) → Run K rest last → IsReal K → K.capabilities.medium ≡ m →
      AllByRecursion (SentBySome hosts runs) (handed_frames (events_in rest)) → AllByRecursion (GetsRaw n hosts runs) rest
  from K last [] Ends real same sent = tt
  from K last (q ∷ rest) (Then {mid = mid} {command = c} {told = told} s r) real same sent =
      let one = shown.stepped s real in
      let halves = all_parted (SentBySome hosts runs) (handed_frames told) (handed_frames (events_in rest))
      (subst (AllByRecursion (SentBySome hosts runs)) (handed_frames-append told (events_in rest)) sent) in
      let mine : IsOf m (host_at_command c K).hardware_addr = begun_of m c K (rw same at real.own) in
      let g = step_gets (left_to_raw n left) s in (
        record {
          arrivals = g.arrivals;
          came = g.came;
          queues = g.queues;
          fronts = λ none. loses_front K.sockets mid.sockets (g.moves none);
          sent = each_sent mine halves.0 g.came;
        },
        from mid last rest r one.real (ap (λ (x : DeviceCapabilities). x.medium) one.same ∙ same) halves.1,
      )

pub runs_get_raw_packets_sent : RunsGetRawPacketsSent
runs_get_raw_packets_sent n hosts runs b b' qs left r real may sent = from n left hosts runs b.capabilities.medium may b b' qs r real refl sent
