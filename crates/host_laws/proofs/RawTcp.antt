-- Hosts that get frames of one another alone leave TCP to raw sockets, if they speak it by those.
use Rattle.std.proofs.Common.{inl, inr, ◌≡◌, ℕ, Bool, true, false, List, [], ◌∷◌, refl, sym, ◌∙◌, ap, subst, Option, Some, None}
use Rattle.std.specs.Prelude.{◌≢◌, ◌==◌, cond, ◌⊎◌}
use Rattle.std.specs.Option.{option_and_then}
use Rattle.std.specs.List.{AllByRecursion, slice_get}
use Rattle.std.proofs.lemmas.Bool.Decides.{Decides-eqb}
use Rattle.net_base.specs.Device.{handed_frames, sent_frames}
use Rattle.net_base.specs.declared.phy.DeviceCapabilities.{DeviceCapabilities}
use Rattle.net_base.specs.declared.phy.Medium.{Medium}
use Rattle.ip_address.specs.Hardware.{IsOf}
use Rattle.ip_address.specs.declared.protocol.IpVersion.TheVariants as version
use Rattle.ip_address.specs.Protocol.{number_of}
use Rattle.ip_wire.specs.IpPacket.{next_header}
use Rattle.sockets.specs.Raw.{RawSocket, Sent, if_spoken, packet_in}
use Rattle.host_machine.specs.Context.Host.{Host, SocketSet}
use Rattle.host_machine.specs.Context.Real.{IsReal}
use Rattle.host_machine.specs.Interface.Run.{Transition, Run, Ends, Then, events_in}
use Rattle.host_machine.specs.Packet.Packet.{payload_of}
use Rattle.host_machine.specs.Packet.Packet as packet
use Rattle.host_machine.proofs.Receive.Pieces.{is_in}
use Rattle.host_laws.proofs.Receive.SlotEffects.{handed_frames-append}
use Rattle.host_laws.proofs.Runs.SentPieces as shown
use Rattle.host_laws.specs.Network.{Runs, SentBySome}
use Rattle.host_laws.specs.RawArrivals.{raw_at}
use Rattle.host_laws.specs.RawPackets.{HasNoSegmentAfterOptions, HasRaw, LeavesSegments, OnlyRawSpeak, TakesSegments}
use Rattle.host_laws.specs.RawTcp.{NetworksSpeakTcpByRaw, SendsTcpByRaw, SpeaksTcpByRaw}
use Rattle.host_laws.proofs.DatagramOrigin.{all_in, all_parted, frame_at}
use Rattle.host_laws.proofs.RawFrames.{packet_for}
use Rattle.host_laws.proofs.RawHandover.{raw_is, raw_of}
use Rattle.host_laws.proofs.RawOrigin.{SendsAt, all_send}
use Rattle.host_laws.proofs.RawSending.{IsQueued, Speaks, raw_payload}
use Rattle.host_laws.proofs.Unspoken.{HasNone, all_unit, none_by_number, without_segments}

-- what a raw socket sends is of its protocol
number_is : (s : RawSocket) (o : Option Sent) (x : Sent) → option_and_then (if_spoken s) o ≡ Some x →
    number_of (next_header x.header) ≡ number_of s.protocol
number_is s None x e = absurd cc
number_is s (Some y) x e = by (number_of s.protocol == number_of (next_header y.header)) refl e where
  by : (b : Bool) → (number_of s.protocol == number_of (next_header y.header)) ≡ b → cond b (Some y) None ≡ Some x →
      number_of (next_header x.header) ≡ number_of s.protocol
  by true t q =
      let is : y ≡ x = cc in
      ap (λ (z : Sent). number_of (next_header z.header)) (sym is)
      ∙ sym ((Decides-eqb (number_of s.protocol) (number_of (next_header y.header))).0 t)
  by false t q = absurd cc

queued_has_none : (m : Medium) (sockets after : SocketSet) (frame : List ℕ) →
    ((i : ℕ) (s : RawSocket) → raw_at sockets i ≡ Some s → number_of s.protocol ≢ 0) → IsQueued m sockets after frame → HasNone m frame
queued_has_none m sockets after frame none q =
    let there : raw_at sockets q.index ≡ Some q.socket = raw_is sockets q.index ∙ ap (option_and_then raw_of) q.there in
    let number = number_is q.socket (packet_in q.socket.version q.octets) q.sent q.is_read in
    let protocol : number_of (packet.protocol_of (payload_of (packet_for q.sent))) ≡ number_of q.socket.protocol =
    ap (λ x. number_of (packet.protocol_of x)) (raw_payload q.sent) ∙ number in
    subst (HasNone m) (sym q.frame_is)
    (none_by_number m q.host q.far (packet_for q.sent) q.own_of q.far_of (λ e. none q.index q.socket there (sym protocol ∙ e)))

module _ (hosts : List Host) (runs : Runs) (m : Medium)
    (may : (j : ℕ) (a : Host) → slice_get hosts j ≡ Some a → SendsTcpByRaw hosts runs m a (runs j)) where
  -- no host sends a segment after options
  has_none : (frame : List ℕ) → SentBySome hosts runs frame → HasNone m frame
  has_none frame s =
      let a = s.is_host.0 in
      let x = may s.sender a s.is_host.1 in
      let sends : AllByRecursion (SendsAt without_segments m) (runs s.sender) =
      subst (λ k. AllByRecursion (SendsAt without_segments k) (runs s.sender)) x.one_medium
      (all_send without_segments x.run x.regular (all_unit a.left) (no_premise (runs s.sender))) in
      let f = frame_at (runs s.sender) frame (is_in (sent_frames (events_in (runs s.sender))) frame s.sent) in
      let at_place = all_in (SendsAt without_segments m) (runs s.sender) f.place sends f.is_there in
      let only = all_in SpeaksTcpByRaw (runs s.sender) f.place x.only f.is_there in
      by f.place only (all_in (Speaks without_segments m f.place.before.sockets f.place.after.sockets)
      (sent_frames f.place.told) frame at_place.all f.sent_there) where
        no_premise : (ps : List Transition) → AllByRecursion (λ p. ⊥ → LeavesSegments p.before (handed_frames p.told)) ps
        no_premise [] = tt
        no_premise (p ∷ ps) = ((λ bad. absurd bad), no_premise ps)

        by : (p : Transition) → SpeaksTcpByRaw p → Speaks without_segments m p.before.sockets p.after.sockets frame → HasNone m frame
        by p only (inl none) = none
        by p only (inr q) = queued_has_none m p.before.sockets p.after.sockets frame only.no_options q

  all_have_none : (H : Host) → IsOf m H.hardware_addr → (frames : List (List ℕ)) → AllByRecursion (SentBySome hosts runs) frames →
      AllByRecursion (HasNoSegmentAfterOptions H.hardware_addr) frames
  all_have_none H mine [] sent = tt
  all_have_none H mine (frame ∷ frames) sent = (has_none frame sent.0 H.hardware_addr mine, all_have_none H mine frames sent.1)

  -- so each of them leaves TCP to raw sockets
  taken_of : (H : Host) → IsOf m H.hardware_addr → (frames : List (List ℕ)) → AllByRecursion (SentBySome hosts runs) frames →
      (frames ≡ []) ⊎ (HasRaw version.Ipv4 6 H.sockets × HasRaw version.Ipv6 6 H.sockets) → (frames ≡ []) ⊎ TakesSegments H frames
  taken_of H mine frames sent (inl none) = inl none
  taken_of H mine frames sent (inr both) =
      inr (record { over_ipv4 = both.0; over_ipv6 = both.1; after_options = inr (all_have_none H mine frames sent) })

  from : (K last : Host) (rest : List Transition) → Run K rest last → IsReal K → K.capabilities.medium ≡ m →
      AllByRecursion SpeaksTcpByRaw rest → AllByRecursion (SentBySome hosts runs) (handed_frames (events_in rest)) →
      AllByRecursion (OnlyRawSpeak 6) rest
  from K last [] Ends real same only sent = tt
  from K last (q ∷ rest) (Then {mid = mid} {told = told} s r) real same only sent =
      let one = shown.stepped s real in
      let halves = all_parted (SentBySome hosts runs) (handed_frames told) (handed_frames (events_in rest))
      (subst (AllByRecursion (SentBySome hosts runs)) (handed_frames-append told (events_in rest)) sent) in
      let mine : IsOf m K.hardware_addr = rw same at real.own in (
        (λ six. record { no_socket = only.0.no_socket; taken = taken_of K mine (handed_frames told) halves.0 only.0.taken }),
        from mid last rest r one.real (ap (λ (x : DeviceCapabilities). x.medium) one.same ∙ same) only.1 halves.1,
      )

pub networks_speak_tcp_by_raw : NetworksSpeakTcpByRaw
networks_speak_tcp_by_raw hosts runs m may j a there =
    let x = may j a there in
    record {
      last = x.last;
      run = x.run;
      regular = x.regular;
      one_medium = x.one_medium;
      pending = x.pending;
      only = from hosts runs m may a x.last (runs j) x.run x.regular.real x.one_medium x.only x.received;
    }
