-- What waits to be received was sent in a life, in a run.
use Rattle.std.proofs.Common.{◌≡◌, ◌∙◌, ℕ, Bool, true, false, List, [], ◌∷◌, ◌++◌, length, Option, Some, None, refl, sym, ap, subst, cond, option_map}
use Rattle.std.specs.Prelude.{◌==◌, ◌&&◌, if◌then◌else◌, slice_index}
use Rattle.std.specs.List.{AllByRecursion, slice_get}
use Rattle.std.proofs.lemmas.Bool.{false≢true}
use Rattle.net_base.specs.Checksum.{is_tx}
use Rattle.net_base.specs.Device.{handed_frames}
use Rattle.ip_address.specs.Protocol.{number_of}
use Rattle.ip_address.specs.declared.protocol.IpProtocol.{IpProtocol}
use Rattle.ip_address.specs.declared.protocol.IpVersion.{IpVersion}
use Rattle.ip_address.specs.declared.protocol.IpVersion.TheVariants as version
use Rattle.ip_wire.specs.declared.ip_packet.IpRepr.{IpRepr}
use Rattle.ip_wire.specs.declared.ip_packet.IpRepr.TheVariants as repr
use Rattle.ip_wire.specs.declared.ipv4_packet.Ipv4Repr.{Ipv4Repr}
use Rattle.ip_wire.specs.IpPacket.{version_of, next_header}
use Rattle.ip_wire.specs.Ipv4Packet as ipv4
use Rattle.ip_wire.specs.Ipv4Packet.{front, back, header_with}
use Rattle.ip_wire.specs.declared.ipv6_packet.Ipv6Repr.{Ipv6Repr}
use Rattle.ip_wire.specs.Ipv6Packet as ipv6
use Rattle.sockets.specs.Raw as raw
use Rattle.host_laws.proofs.Receive.FrameReading.{number_again}
use Rattle.sockets.specs.Raw.{RawSocket, Sent as Packet, packet_in, stored_packet, accepts, is_same_version, socket_after_delivery}
use Rattle.sockets.specs.Queue.{is_room}
use Rattle.fragmentation.specs.Reassembly.{SlotNote}
use Rattle.host_machine.specs.Context.Host.{Host, SocketSet}
use Rattle.host_machine.specs.Context.Note.{slot_notes}
use Rattle.host_machine.specs.Interface.Run.{Transition, Run, Ends, Then}
use Rattle.host_laws.specs.Datagrams.{host_at_command}
use Rattle.host_laws.specs.Network.{Runs}
use Rattle.host_laws.specs.RawArrivals.{RawArrival, raw_at, receiver_at, without_sending, with_arrivals, socket_after_arrival}
use Rattle.host_laws.specs.RawArrivals.{BringsRaw, OverIpv4, InFragments, OverIpv6, AfterOptions, Arrive, NoFrame, OneBrings, NoneBrings}
use Rattle.tcp_host_laws.specs.Turns.{WasSent, MovesIf}
use Rattle.tcp_host_laws.proofs.ReadingLemmas.{is_one, what_was_sent_is_read}
use Rattle.tcp_host_laws.specs.TcpNetworks.Stations.{Station, Turn, Polled, Called, Goes, Stops, Works, Acts}
use Rattle.tcp_host_laws.specs.TcpNetworks.Arrivals.{WasSentInLife, WasSentWhole, GetsFromLives}
use Rattle.tcp_host_laws.specs.TcpNetworks.Receptions.{BringsOfSome, IsBrought, WaitAsBrought, HasNoFragment, GetsNoFragment, IsNamed, QueuesHoldWhatIsBrought}
use Rattle.tcp_host_laws.proofs.ArrivalRuns.{packets_were_sent_in_lives}

-- no packet of TCP that arrives is reassembled
abbrev CameWhole : RawArrival → Type 0
CameWhole a = number_of (next_header a.header) ≡ 6 → a.is_reassembled ≡ false

came_whole : (H : Host) (frame : List ℕ) (noted : List SlotNote) (a : RawArrival) → HasNoFragment H frame → BringsRaw H frame noted a → CameWhole a
came_whole H frame noted a none (OverIpv4 packet c i s w is) six = ap (λ (x : RawArrival). x.is_reassembled) is
came_whole H frame noted a none (InFragments packet octets earlier c i s part n is) six =
    absurd (false≢true (sym (none packet c i (ap (λ (x : RawArrival). number_of (next_header x.header)) (sym is) ∙ six)) ∙ part))
came_whole H frame noted a none (OverIpv6 packet c i s n f is) six = ap (λ (x : RawArrival). x.is_reassembled) is
came_whole H frame noted a none (AfterOptions packet c i s n h k f is) six = ap (λ (x : RawArrival). x.is_reassembled) is

all_whole : (H : Host) (frames : List (List ℕ)) (noted : List SlotNote) (cs : List RawArrival) → Arrive H frames noted cs →
    AllByRecursion (HasNoFragment H) frames → AllByRecursion CameWhole cs
all_whole H _ _ _ NoFrame none = tt
all_whole H _ _ _ (OneBrings {frames = frames} {noted = noted} {cs = cs} frame own a brings rest) none =
    (came_whole H frame own a none.0 brings, all_whole H frames noted cs rest none.1)
all_whole H _ _ _ (NoneBrings {frames = frames} {noted = noted} {cs = cs} frame own rest) none = all_whole H frames noted cs rest none.1

-- a socket that accepts a packet speaks its version
accepted_version : (s : RawSocket) (v : IpVersion) (protocol : IpProtocol) → accepts s v protocol ≡ true → is_same_version s.version v ≡ true
accepted_version s v protocol e = front_of (is_same_version s.version v) (number_of s.protocol == number_of protocol) e where
  front_of : (a b : Bool) → a && b ≡ true → a ≡ true
  front_of true b e = refl
  front_of false b e = absurd cc

-- the protocol of a packet that is stored
module _ (summed : Bool) (payload : List ℕ) where
  octet_v4 : (r : Ipv4Repr) → slice_index (ipv4.header_text summed r ipv4.whole ++ payload) 9 ≡ number_of r.next_header
  unfolding front back header_with
  octet_v4 r = refl

  octet_v6 : (r : Ipv6Repr) → slice_index (ipv6.header_text r ++ payload) 6 ≡ number_of r.next_header
  unfolding ipv6.header_text
  octet_v6 r = refl

  some_is : (b : Bool) (x y : Packet) → cond b (Some x) None ≡ Some y → x ≡ y
  some_is true x y e = cc
  some_is false x y e = absurd cc

  number_in : (v : IpVersion) (h : IpRepr) (q : Packet) → is_same_version v (version_of h) ≡ true →
      packet_in v (stored_packet summed h payload) ≡ Some q → number_of (next_header q.header) ≡ number_of (next_header h)
  number_in version.Ipv4 (repr.Ipv4 r) q same e =
      let octets = ipv4.header_text summed r ipv4.whole ++ payload in
      ap (λ (x : Packet). number_of (next_header x.header)) (sym (some_is (raw.is_ipv4 octets) (raw.ipv4_in octets) q e))
      ∙ number_again (slice_index octets 9) ∙ octet_v4 r
  number_in version.Ipv4 (repr.Ipv6 r) q same e = absurd cc
  number_in version.Ipv6 (repr.Ipv4 r) q same e = absurd cc
  number_in version.Ipv6 (repr.Ipv6 r) q same e =
      let octets = ipv6.header_text r ++ payload in
      ap (λ (x : Packet). number_of (next_header x.header)) (sym (some_is (raw.is_ipv6 octets) (raw.ipv6_in octets) q e))
      ∙ number_again (slice_index octets 6) ∙ octet_v6 r

module _ (hosts : List Host) (runs : Runs) (first last : ℕ → Station)
    (named : (j : ℕ) (a : Host) → slice_get hosts j ≡ Some a → IsNamed (first j) (last j)) where
  abbrev AllBrought : IpVersion → List (Unit {0} × List ℕ) → Type 0
  AllBrought v packets = AllByRecursion (λ p. IsBrought hosts last v p.1) packets

  of_end : (v : IpVersion) (xs ys : List (Unit {0} × List ℕ)) → AllBrought v (xs ++ ys) → AllBrought v ys
  of_end v [] ys a = a
  of_end v (x ∷ xs) ys a = of_end v xs ys a.1

  one_more : (v : IpVersion) (xs : List (Unit {0} × List ℕ)) (octets : List ℕ) → AllBrought v xs → IsBrought hosts last v octets →
      AllBrought v (xs ++ (tt, octets) ∷ [])
  one_more v [] octets a b = (b, tt)
  one_more v (x ∷ xs) octets a b = (a.0, one_more v xs octets a.1 b)

  -- what is stored is read as what arrived
  stored : (summed : Bool) (v : IpVersion) (a : RawArrival) → WasSentInLife hosts first last a → (q : Packet) →
      packet_in v (stored_packet summed a.header a.payload) ≡ Some q → BringsOfSome hosts last q
  stored summed v a w q e =
      let host = w.is_host.0 in
      let n = named w.sender host w.is_host.1 in
      let p : Packet = record { header = a.header; payload = a.payload } in
      let sent : WasSent true (last w.sender).lives w.octets = subst (λ (b : Bool). WasSent b (last w.sender).lives w.octets) n.summed w.sent in
      let r = what_was_sent_is_read (last w.sender).lives w.octets w.version p n.ends sent w.is_read in
      let one = is_one (stored_packet summed a.header a.payload) w.version v p q (r.stored summed) e in
      subst (λ (x : Packet). BringsOfSome hosts last x) one.packet (record { sender = w.sender; is_host = w.is_host; brings = r.brings })

  put_if : (b : Bool) (v : IpVersion) (xs : List (Unit {0} × List ℕ)) (octets : List ℕ) → AllBrought v xs → IsBrought hosts last v octets →
      AllBrought v (cond b (xs ++ (tt, octets) ∷ []) xs)
  put_if true v xs octets a b = one_more v xs octets a b
  put_if false v xs octets a b = a

  -- a socket at which packets waited that were brought, after another one arrived
  abbrev HoldsBrought : RawSocket → Type 0
  HoldsBrought s = AllBrought s.version s.rx.packets

  delivered : (summed : Bool) (a : RawArrival) (s : RawSocket) → WasSentWhole hosts first last a → CameWhole a → HoldsBrought s →
      (b : Bool) → accepts s (version_of a.header) (next_header a.header) ≡ b →
      HoldsBrought (if b then socket_after_delivery summed a.header a.payload s else s)
  delivered summed a s sent whole h true accepted =
      let same = accepted_version s (version_of a.header) (next_header a.header) accepted in
      put_if (is_room s.rx (length (stored_packet summed a.header a.payload))) s.version s.rx.packets (stored_packet summed a.header a.payload) h
      (λ q e six.
      let is : number_of (next_header a.header) ≡ 6 = sym (number_in summed a.payload s.version a.header q same e) ∙ six in
      stored summed s.version a (sent (whole is) is) q e)
  delivered summed a s sent whole h false accepted = h

  arrived : (summed : Bool) (cs : List RawArrival) (s : RawSocket) → AllByRecursion (WasSentWhole hosts first last) cs →
      AllByRecursion CameWhole cs → HoldsBrought s → HoldsBrought (with_arrivals summed cs s)
  arrived summed [] s sent whole h = h
  arrived summed (a ∷ cs) s sent whole h =
      arrived summed cs (socket_after_arrival summed a s) sent.1 whole.1
      (delivered summed a s sent.0 whole.0 h (accepts s (version_of a.header) (next_header a.header)) refl)

  -- while the interface works
  module _ (q : Transition) (g : GetsFromLives hosts runs first last q) (none : q.acts ≡ []) (whole : GetsNoFragment q)
      (w : WaitAsBrought hosts last q.before.sockets) where
    abbrev checksum : Bool
    checksum = is_tx q.before.capabilities.checksum.ipv4

    abbrev took : RawSocket → RawSocket
    took s = with_arrivals checksum g.gets.arrivals s

    from_by : (i : ℕ) (r : RawSocket) → raw_at q.after.sockets i ≡ Some r → (o : Option RawSocket) →
        raw_at q.before.sockets i ≡ o → AllBrought r.version r.rx.packets
    from_by i r there None before =
        let one : option_map without_sending (raw_at q.after.sockets i) ≡ Some (without_sending r) =
        ap (λ (x : Option RawSocket). option_map without_sending x) there in
        let two : receiver_at q.after.sockets i ≡ None =
        g.gets.queues none i ∙ ap (λ (x : Option RawSocket). option_map took (option_map without_sending x)) before in
        absurd cc
    from_by i r there (Some s) before =
        let one : receiver_at q.after.sockets i ≡ Some (without_sending r) = ap (λ (x : Option RawSocket). option_map without_sending x) there in
        let two : receiver_at q.after.sockets i ≡ Some (took (without_sending s)) =
        g.gets.queues none i ∙ ap (λ (x : Option RawSocket). option_map took (option_map without_sending x)) before in
        let three : took (without_sending s) ≡ without_sending r = cc in
        let all = all_whole (host_at_command q.command q.before) (handed_frames q.told) (slot_notes q.notes) g.gets.arrivals g.gets.came whole in
        let held : HoldsBrought (took (without_sending s)) = arrived checksum g.gets.arrivals (without_sending s) g.sent all (w i s before) in
        subst (λ (x : RawSocket). HoldsBrought x) three held

    works : WaitAsBrought hosts last q.after.sockets
    works i r there = from_by i r there (raw_at q.before.sockets i) refl

  -- where the owner acts
  module _ (old new : Station) (before after : SocketSet) (w : WaitAsBrought hosts last before) where
    moved_by : (summed : Bool) (ls : _) (i : ℕ) (r : RawSocket) → raw_at after i ≡ Some r → (o : Option RawSocket) →
        raw_at before i ≡ o → MovesIf summed ls o (raw_at after i) → AllBrought r.version r.rx.packets
    moved_by summed ls i r there None at m = absurd cc
    moved_by summed ls i r there (Some s) at m =
        let here = m.1 in
        let same : m.0 ≡ r = cc in
        let front : AllBrought s.version (m.2.taken ++ m.0.rx.packets) =
        subst (λ (xs : List (Unit {0} × List ℕ)). AllBrought s.version xs) (sym m.2.front) (w i s at) in
        let rest : AllBrought s.version m.0.rx.packets = of_end s.version m.2.taken m.0.rx.packets front in
        subst (λ (x : RawSocket). AllBrought x.version x.rx.packets) same
        (subst (λ (v : IpVersion). AllBrought v m.0.rx.packets) (sym m.2.version) rest)

    turned : Turn old new before after → WaitAsBrought hosts last after
    turned (Polled own lived is) = λ i r there. moved_by _ _ i r there (raw_at before i) refl (lived.sockets i)
    turned (Called events call same is stays) = subst (λ (x : SocketSet). WaitAsBrought hosts last x) (sym stays) w

  walk : (a a' : Host) (ps : List Transition) (start stop : Station) → Run a ps a' → Goes start ps stop →
      AllByRecursion (GetsFromLives hosts runs first last) ps → AllByRecursion GetsNoFragment ps → WaitAsBrought hosts last a.sockets →
      AllByRecursion (λ q. WaitAsBrought hosts last q.before.sockets) ps × WaitAsBrought hosts last a'.sockets
  walk a a' [] start stop Ends Stops gets whole w = (tt, w)
  walk a a' (q ∷ ps) start stop (Then {mid = mid} step run) (Works none g) gets whole w =
      let rest = walk mid a' ps start stop run g gets.1 whole.1 (works q gets.0 none whole.0 w) in ((w, rest.0), rest.1)
  walk a a' (q ∷ ps) start stop (Then {mid = mid} step run) (Acts {mid = station} act one turn g) gets whole w =
      let rest = walk mid a' ps station stop run g gets.1 whole.1 (turned start station q.before.sockets q.after.sockets w turn) in
      ((w, rest.0), rest.1)

pub queues_hold_what_is_brought : QueuesHoldWhatIsBrought
queues_hold_what_is_brought hosts runs first last b b' qs start stop run goes real sends drives named received whole w =
    walk hosts runs first last named b b' qs start stop run goes
    (packets_were_sent_in_lives hosts runs first last b b' qs run real sends drives received) whole w
