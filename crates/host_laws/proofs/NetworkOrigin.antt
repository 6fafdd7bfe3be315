-- What UDP sockets get of several hosts was sent by a UDP socket of one of them.
use Rattle.std.proofs.Common.{◌≡◌, ℕ, List, [], ◌∷◌, refl, ◌∙◌, ap, subst, Some}
use Rattle.std.specs.List.{AllByRecursion, slice_get}
use Rattle.net_base.specs.Device.{handed_frames, sent_frames}
use Rattle.net_base.specs.declared.phy.DeviceCapabilities.{DeviceCapabilities}
use Rattle.net_base.specs.declared.phy.Medium.{Medium}
use Rattle.ip_address.specs.Hardware.{IsOf}
use Rattle.ip_wire.specs.declared.ip_packet.IpRepr.{IpRepr}
use Rattle.ip_wire.specs.IpPacket.{src_addr, dst_addr}
use Rattle.ip_wire.specs.Udp.{udp_in}
use Rattle.fragmentation.specs.Reassembly.{SlotNote}
use Rattle.host_machine.specs.Context.Host.{Host}
use Rattle.host_machine.specs.Context.Real.{IsReal}
use Rattle.host_machine.specs.Interface.Run.{Transition, Run, Ends, Then, events_in}
use Rattle.host_machine.proofs.Receive.Pieces.{is_in}
use Rattle.host_laws.proofs.Receive.SlotEffects.{handed_frames-append}
use Rattle.host_laws.proofs.Runs.SentPieces as shown
use Rattle.host_laws.specs.Deliveries.{Delivery, Deliver, NoFrame, OneGets, NoSocketGets, BringsPacket, BringsUdp, AtOnce, InFragments}
use Rattle.host_laws.specs.Datagrams.{host_at_command}
use Rattle.host_laws.specs.EndToEnd.{WasSent}
use Rattle.host_laws.specs.Network.{GetWhatSomeSent, Runs, RunsGetWhatSomeSent, SendsBySockets, SentBySome, WasSentBySome}
use Rattle.host_laws.specs.Network.{WasSentWhole, WereSentWhole}
use Rattle.host_laws.proofs.DatagramOrigin.{all_parted, begun_of, whole_sent}

module _ (hosts : List Host) (runs : Runs) (m : Medium)
    (may : (j : ℕ) (a : Host) → slice_get hosts j ≡ Some a → SendsBySockets m a (runs j)) where
  -- of a frame that one of them sent
  some_sent : (K : Host) → IsOf m K.hardware_addr → (frame : List ℕ) → SentBySome hosts runs frame → (d : Delivery) (header : IpRepr)
      (octets : List ℕ) → BringsPacket K frame header octets → d.source ≡ record { addr = src_addr header; port = (udp_in octets).0.src_port } →
      d.destination ≡ record { addr = dst_addr header; port = (udp_in octets).0.dst_port } → d.payload ≡ (udp_in octets).1 →
      WasSentBySome hosts runs d
  some_sent K mine frame s d header octets brings source destination payload =
      let x = may s.sender s.is_host.0 s.is_host.1 in
      let sent : WasSent (runs s.sender) d =
      whole_sent s.is_host.0 x.last (runs s.sender) x.run x.regular x.nobody K (rw x.one_medium mine) frame
      (is_in (sent_frames (events_in (runs s.sender))) frame s.sent) d header octets brings source destination payload in record {
        sender = s.sender;
        is_host = s.is_host;
        sent = sent;
        by_owner = λ j owns. subst (λ k. WasSent (runs k) d) (owns s.sender d s.is_host sent refl) sent;
      }

  -- what the frames of a place bring
  each_got : {K : Host} {frames : List (List ℕ)} {noted : List SlotNote} {ds : List Delivery} →
      IsOf m K.hardware_addr → AllByRecursion (SentBySome hosts runs) frames → (g : Deliver K frames noted ds) → WereSentWhole hosts runs g
  each_got mine sent NoFrame = tt
  each_got {K} mine sent (OneGets frame own d g rest) =
      (by g.header g.octets g.brought g.source_is g.destination_is g.payload_is, each_got mine sent.1 rest) where
        by : (header : IpRepr) (octets : List ℕ) (brought : BringsUdp K frame own header octets) →
            d.source ≡ record { addr = src_addr header; port = (udp_in octets).0.src_port } →
            d.destination ≡ record { addr = dst_addr header; port = (udp_in octets).0.dst_port } → d.payload ≡ (udp_in octets).1 →
            WasSentWhole hosts runs d brought
        by header octets (AtOnce brings) source destination payload =
            some_sent K mine frame sent.0 d header octets brings source destination payload
        by header octets (InFragments packet earlier c i s part next last is) source destination payload = tt
  each_got mine sent (NoSocketGets frame own rest) = each_got mine sent.1 rest

  -- at each place from one on
  from : (K last : Host) (rest : List Transition) → Run K rest last → IsReal K → K.capabilities.medium ≡ m →
      AllByRecursion (SentBySome hosts runs) (handed_frames (events_in rest)) → GetWhatSomeSent hosts runs rest
  from K last [] Ends real same sent = tt
  from K last (q ∷ rest) (Then {mid = mid} {command = c} {told = told} s r) real same sent =
      let one = shown.stepped s real in
      let halves = all_parted (SentBySome hosts runs) (handed_frames told) (handed_frames (events_in rest))
      (subst (AllByRecursion (SentBySome hosts runs)) (handed_frames-append told (events_in rest)) sent) in
      let mine : IsOf m (host_at_command c K).hardware_addr = begun_of m c K (rw same at real.own) in (
        (λ deliveries departures moves. each_got mine halves.0 moves.came),
        from mid last rest r one.real (ap (λ (x : DeviceCapabilities). x.medium) one.same ∙ same) halves.1,
      )

pub runs_get_what_some_sent : RunsGetWhatSomeSent
runs_get_what_some_sent hosts runs b b' qs r real may sent = from hosts runs b.capabilities.medium may b b' qs r real refl sent
