-- How many octets a received frame brings.
use Rattle.std.proofs.Common.{◌≡◌, ◌⊎◌, ℕ, ◌+◌, ◌≤◌, List, [], ◌∷◌, length, take, drop, refl, sym, ◌∙◌, ap, subst, inl, inr}
use Rattle.std.proofs.Common.{Option, Some, None, arith}
use Rattle.std.proofs.lemmas.Bool.{cases_lt}
use Rattle.std.proofs.lemmas.List.{length-drop, length-take}
use Rattle.std.specs.Prelude.{ℤ, ◌-◌, ◌<◌, map, slice_range, true, false}
use Rattle.std.specs.List.{AllByRecursion, sum}
use Rattle.net_base.specs.Checksum.{is_rx}
use Rattle.net_base.specs.Device.{Event, sent_frames}
use Rattle.ip_address.specs.Hardware.{IsOf}
use Rattle.ip_address.specs.Ipv6.{solicited_node}
use Rattle.ip_address.specs.declared.ethernet_address.EthernetAddress.{EthernetAddress}
use Rattle.ip_address.specs.declared.hardware.HardwareAddress.{HardwareAddress}
use Rattle.ip_address.specs.declared.hardware.HardwareAddress.TheVariants as hardware
use Rattle.ip_address.specs.declared.ip.IpAddress.{IpAddress}
use Rattle.ip_address.specs.declared.protocol.IpProtocol.{IpProtocol}
use Rattle.ip_address.specs.declared.protocol.IpVersion.{IpVersion}
use Rattle.ip_wire.specs.declared.ipv4_packet.Ipv4Repr.{Ipv4Repr}
use Rattle.ip_wire.specs.Ipv4Packet.{IsIpv4, header_len, ipv4_in, is_fragment}
use Rattle.ip_wire.specs.Ipv4Packet as ipv4_packet
use Rattle.ip_wire.specs.HopByHop as hop_by_hop
use Rattle.ip_wire.specs.Ipv6Packet.{IsIpv6, end, ipv6_in}
use Rattle.ip_address.specs.AddressSelection.Ipv6.{source_v6}
use Rattle.control_wire.specs.declared.icmpv6.Icmpv6Repr.{Icmpv6Repr}
use Rattle.control_wire.specs.declared.icmpv6.Icmpv6Repr.TheVariants as v6
use Rattle.control_wire.specs.declared.ndisc.NdiscRepr.TheVariants.{NeighborAdvert, NeighborSolicit}
use Rattle.control_wire.specs.declared.router.RouterRepr.TheVariants.{RouterAdvert, RouterSolicit}
use Rattle.control_wire.specs.Icmpv6 as icmpv6
use Rattle.control_wire.specs.declared.mld.MldRepr.TheVariants.{Query, Report}
use Rattle.host_machine.specs.Context.Note.{Note}
use Rattle.host_machine.specs.Context.Host.{Host, with_next_id, without_expired}
use Rattle.host_machine.specs.Context.Pieces.{datagram_of}
use Rattle.host_machine.specs.Discovery.Arp.{request_for}
use Rattle.host_machine.specs.Discovery.Ndisc.{solicitation_for}
use Rattle.host_machine.specs.Packet.Packet.{IpPayload, Packet, PacketV4, header_of, payload_len, payload_of, total_len}
use Rattle.host_machine.specs.Packet.Packet as packet
use Rattle.host_machine.specs.Receive.Ethernet.{ProcessesFrame}
use Rattle.host_machine.specs.Receive.Ipv4.{ProcessesIpv4}
use Rattle.host_machine.specs.Receive.Ipv4 as ipv4
use Rattle.host_machine.specs.Receive.Ipv6.{ProcessesIpv6}
use Rattle.host_machine.specs.Receive.Ipv6 as ipv6
use Rattle.host_machine.specs.Receive.Reply.{Reply, Arp, Ip, IsDropped}
use Rattle.host_machine.specs.Send.Dispatch.{Dispatches, DispatchesByHop, DispatchesEthernet, Emits, SendsOver, destination_of}
use Rattle.host_machine.specs.Send.Dispatch as dispatch
use Rattle.host_machine.specs.Send.Hops.{group_address_v6}
use Rattle.host_machine.specs.Send.Outcome.{Outcome}
use Rattle.host_machine.specs.Send.Requests.{Discovers}
use Rattle.host_machine.specs.Send.Requests as requests
use Rattle.host_machine.specs.Context.Real.{IsReal}
use Rattle.host_laws.specs.Laws.Restraint.Readings.{CarriesV4, CarriesV6, Receives}
use Rattle.host_laws.specs.Laws.Restraint.Replies.{BringsSegment, BringsV4, BringsV6, GoesBack, HasReasonV6, HasSegmentCause}
use Rattle.host_laws.specs.Laws.Restraint.Replies as law
use Rattle.host_laws.specs.Laws.Restraint.ReplyLengths.{AreFewFor, CarriesNoFragment, RepliesAreShort}
use Rattle.host_laws.specs.Laws.Restraint.SentFrames.{IsOfPacket, IsOfReply, replying}
use Rattle.host_laws.specs.Laws.Restraint.SentFrames as frames
use Rattle.host_laws.proofs.Context.MediumAddresses.{arp_source_six, of_six}
use Rattle.host_laws.proofs.Discovery.NotedRequests.{pieces_go}
use Rattle.host_laws.proofs.Interface.OneFrameCalls.{single}
use Rattle.host_laws.proofs.Packet.FrameLengths.{IsSized, arp_len, first_few, icmpv6_len, link_room, ndisc_body, packet_len, piece_len}
use Rattle.host_laws.proofs.Receive.ReceivedFrames.{TakenV4, TakenV6, frame_of_call, taken_v4, taken_v6}
use Rattle.host_laws.proofs.Receive.ReplyLaws.{reply_origin}
use Rattle.host_laws.proofs.Receive.ReplyOrigins.{Origin, Silent, ByArp, ByAdvertisement, ByEcho, ByError}
use Rattle.host_laws.proofs.Receive.ReplyOrigins.{ByEchoV6, ByErrorV6, BySegment}
use Rattle.host_laws.proofs.Runs.FrameSizes.{one_frame, real_as, replies_real, reply_sized, six}
use Rattle.host_laws.proofs.Runs.FramesOfCalls.{ingress_frames}
use Rattle.host_machine.proofs.Send.Reached.{reached_of}
use Rattle.host_machine.proofs.Send.Reached.{ByGroup, ByNeighbor, WithoutAddresses}

exactly : {m n : ℕ} → m ≡ n → m ≤ n
exactly e = omega (arith, e)

at_most : {a b c : ℕ} → a ≤ b → b ≤ c → a ≤ c
at_most x y = omega (arith, x, y)

-- A dispatch of a packet sends at most n octets, if its own frame has at most so many, and a request for its hop, too
module _ (K new : Host) (frame : List ℕ) (n : ℕ) (real : IsReal K) (asked : 86 ≤ n) where
  abbrev Few : Type 0
  Few = length frame ≤ n

  some_sent : {A : Type 0} → frame ∷ [] ≡ [] → A
  some_sent e = absurd cc

  within : {m : ℕ} {sent : List ℕ} → frame ∷ [] ≡ sent ∷ [] → length sent ≤ m → m ≤ n → Few
  within {m} {sent} f l few = subst (λ x. length x ≤ n) (sym (one_frame f)) (at_most l few)

  emitted : {id : ℕ} {p : Packet} {h : HardwareAddress} {outcome : Outcome} {notes : List Note} → IsOf K.capabilities.medium h →
      IsSized K.capabilities p → link_room K.hardware_addr + total_len p ≤ n → Emits id p h outcome (with_next_id K) (frame ∷ []) notes new → Few
  emitted {p = p} {h = h} to sized few (dispatch.Whole fits formed o f m e) = within f (packet_len K h p real.own to sized) few
  emitted {id} {p} {h} to sized few (dispatch.InPieces q first rest is long short pieces fits formed o f m e) =
      let all : IsSized K.capabilities (packet.Ipv4 q) = subst (IsSized K.capabilities) is sized in
      let behind : length first.fragment.octets ≤ payload_len q.payload =
      at_most (first_few (datagram_of K h id q) first rest pieces) all.len in
      within f (piece_len K first (payload_len q.payload) real.own (pieces_go K.capabilities.medium (datagram_of K h id q) (first ∷ rest) pieces to).0 behind)
      (subst (λ x. link_room K.hardware_addr + total_len x ≤ n) is few)
  emitted to sized few (dispatch.TooLong long longer o u) = some_sent u.silent

  discovered : {own : EthernetAddress} {hop : IpAddress} {outcome : Outcome} {notes : List Note} → K.hardware_addr ≡ hardware.Ethernet own →
      Discovers own hop outcome (with_next_id K) (frame ∷ []) notes new → Few
  discovered {own} mine (requests.Asked target source h s o f m e) =
      let l = arp_len (request_for own source target) (six K.capabilities.medium own (rw mine at real.own)) refl in
      within f (exactly l) (omega (arith, asked))
  discovered mine (requests.NoSource target h s o u) = some_sent u.silent
  discovered {own} mine (requests.Solicited target h o f m e) =
      let o6 = six K.capabilities.medium own (rw mine at real.own) in
      let to : IsOf K.capabilities.medium (hardware.Ethernet (group_address_v6 (solicited_node target))) =
      of_six K.capabilities.medium own (group_address_v6 (solicited_node target)) (rw mine at real.own) refl in
      let len = icmpv6_len _ _ _ (v6.Ndisc (NeighborSolicit target (Some own))) [] refl (ndisc_body 1 target own o6) in
      let room : link_room K.hardware_addr ≡ 14 = ap link_room mine in
      within f (packet_len K (hardware.Ethernet (group_address_v6 (solicited_node target))) (solicitation_for own (source_v6 K.ip_addrs target) target)
      real.own to (record { len = exactly len })) (omega (arith, room, asked))

  by_hop : {id : ℕ} {own : EthernetAddress} {p : Packet} {hop : IpAddress} {outcome : Outcome} {notes : List Note} →
      K.hardware_addr ≡ hardware.Ethernet own → IsSized K.capabilities p → link_room K.hardware_addr + total_len p ≤ n →
      DispatchesByHop id own p hop outcome (with_next_id K) (frame ∷ []) notes new → Few
  by_hop {hop = hop} mine sized few (dispatch.Known h k e) = emitted (reached_of K h real (ByNeighbor hop k)) sized few e
  by_hop mine sized few (dispatch.Silent s o u) = some_sent u.silent
  by_hop mine sized few (dispatch.Unknown u d) = discovered mine d

  over_ethernet : {id : ℕ} {own : EthernetAddress} {p : Packet} {outcome : Outcome} {notes : List Note} →
      K.hardware_addr ≡ hardware.Ethernet own → IsSized K.capabilities p → link_room K.hardware_addr + total_len p ≤ n →
      DispatchesEthernet id own p outcome (with_next_id K) (frame ∷ []) notes new → Few
  over_ethernet {own = own} {p = p} mine sized few (dispatch.ToMulticast h m e) =
      emitted (reached_of K (hardware.Ethernet h) real (ByGroup own (destination_of p) h mine m refl)) sized few e
  over_ethernet mine sized few (dispatch.NoHop m k o u) = some_sent u.silent
  over_ethernet mine sized few (dispatch.ByHop hop m k s) = by_hop mine sized few s

  over : (id : ℕ) (h : HardwareAddress) (p : Packet) (outcome : Outcome) (notes : List Note) → K.hardware_addr ≡ h → IsSized K.capabilities p →
      link_room K.hardware_addr + total_len p ≤ n → SendsOver id h p outcome (with_next_id K) (frame ∷ []) notes new → Few
  over id (hardware.Ethernet own) p outcome notes mine sized few s = over_ethernet mine sized few s
  over id hardware.Ip p outcome notes mine sized few s = emitted (reached_of K hardware.Ip real (WithoutAddresses mine refl)) sized few s

  few_dispatched : {p : Packet} {outcome : Outcome} {notes : List Note} → IsSized K.capabilities p → link_room K.hardware_addr + total_len p ≤ n →
      Dispatches p outcome K (frame ∷ []) notes new → Few
  few_dispatched sized few (dispatch.ToUnspecified m o u) = some_sent u.silent
  few_dispatched {p} {outcome} sized few (dispatch.ToSpecified more s d m) = over K.ipv4_id K.hardware_addr p outcome more refl sized few d

-- What a frame has that brings a reply

few_in_range : (xs : List ℕ) (a b : ℕ) → length (slice_range xs a b) ≤ length xs - a
few_in_range xs a b = omega (arith, length-take (b - a) (drop a xs), length-drop a xs)

-- the packet in it, with a header
in_frame_v4 : (h : HardwareAddress) (frame octets : List ℕ) → CarriesV4 h frame octets → 1 ≤ length octets → link_room h + length octets ≤ length frame
in_frame_v4 (hardware.Ethernet own) frame octets c some =
    let l : length octets ≡ length frame - 14 = ap length c.1 ∙ length-drop 14 frame in omega (arith, l, some)
in_frame_v4 hardware.Ip frame octets c some = let l : length octets ≡ length frame = ap length c.1 in omega (arith, l)

in_frame_v6 : (h : HardwareAddress) (frame octets : List ℕ) → CarriesV6 h frame octets → 1 ≤ length octets → link_room h + length octets ≤ length frame
in_frame_v6 (hardware.Ethernet own) frame octets c some =
    let l : length octets ≡ length frame - 14 = ap length c.1 ∙ length-drop 14 frame in omega (arith, l, some)
in_frame_v6 hardware.Ip frame octets c some = let l : length octets ≡ length frame = ap length c.1 in omega (arith, l)

dropped : {A : Type 0} {H new : Host} {reply : Option Reply} {notes : List Note} {r : Reply} → reply ≡ Some r → IsDropped H reply notes new → A
dropped {reply = reply} {r = r} is d = let bad : None ≡ Some r = sym d.silent ∙ is in absurd cc

read_v4 : {source : HardwareAddress} {H new : Host} {octets : List ℕ} {reply : Option Reply} {notes : List Note} {r : Reply} →
    reply ≡ Some r → ProcessesIpv4 source H octets reply notes new → IsIpv4 (is_rx H.capabilities.checksum.ipv4) octets
read_v4 is (ipv4.Malformed m d) = dropped is d
read_v4 is (ipv4.Read whole p) = whole

read_v6 : {source : HardwareAddress} {H new : Host} {octets : List ℕ} {reply : Option Reply} {notes : List Note} {r : Reply} →
    reply ≡ Some r → ProcessesIpv6 source H octets reply notes new → IsIpv6 octets
read_v6 is (ipv6.Malformed m d) = dropped is d
read_v6 is (ipv6.Read whole p) = whole

enough_v4 : (room head payload all frame : ℕ) → room + all ≤ frame → payload ≤ all - head → 20 ≤ head → 20 ≤ all → room + (20 + payload) ≤ frame
enough_v4 room head payload all frame a b c d = omega (arith, a, b, c, d)

enough_v6 : (room payload all frame : ℕ) → room + all ≤ frame → payload ≤ all - 40 → 40 ≤ all → room + (40 + payload) ≤ frame
enough_v6 room payload all frame a b c = omega (arith, a, b, c)

module _ {t : ℤ} {frame : List ℕ} {old new : Host} {told : List Event} {notes : List Note} (w : Receives t frame old told notes new) where
  -- with the header of its packet, and the payload
  has_v4 : {r : Reply} (octets : List ℕ) → w.call.response.reply ≡ Some r → CarriesV4 old.hardware_addr frame octets →
      link_room old.hardware_addr + (20 + length (ipv4_in octets).2) ≤ length frame
  has_v4 {r} octets is c = by (whole (frame_of_call w)) where
    read : (TakenV4 (without_expired old t) octets w.call.response.reply w.call.response.notes_taking w.call.response.taken
        ⊎ IsDropped (without_expired old t) w.call.response.reply w.call.response.notes_taking w.call.response.taken) →
        IsIpv4 (is_rx old.capabilities.checksum.ipv4) octets
    read (inl k) = read_v4 is k.takes
    read (inr d) = dropped is d

    whole : (ProcessesFrame old.hardware_addr (without_expired old t) frame w.call.response.reply w.call.response.notes_taking w.call.response.taken
        ⊎ IsDropped (without_expired old t) w.call.response.reply w.call.response.notes_taking w.call.response.taken) →
        IsIpv4 (is_rx old.capabilities.checksum.ipv4) octets
    whole (inl p) = read (taken_v4 old.hardware_addr (without_expired old t) frame octets _ _ _ p c)
    whole (inr d) = dropped is d

    by : IsIpv4 (is_rx old.capabilities.checksum.ipv4) octets → link_room old.hardware_addr + (20 + length (ipv4_in octets).2) ≤ length frame
    by i =
        let all = in_frame_v4 old.hardware_addr frame octets c (omega (arith, i.whole)) in
        enough_v4 (link_room old.hardware_addr) (header_len octets) (length (ipv4_in octets).2) (length octets) (length frame) all
        (few_in_range octets (header_len octets) (ipv4_packet.total_len octets)) i.header i.whole

  has_v6 : {r : Reply} (octets : List ℕ) → w.call.response.reply ≡ Some r → CarriesV6 old.hardware_addr frame octets →
      link_room old.hardware_addr + (40 + length (ipv6_in octets).1) ≤ length frame
  has_v6 {r} octets is c = by (whole (frame_of_call w)) where
    read : (TakenV6 (without_expired old t) octets w.call.response.reply w.call.response.notes_taking w.call.response.taken
        ⊎ IsDropped (without_expired old t) w.call.response.reply w.call.response.notes_taking w.call.response.taken) →
        IsIpv6 octets
    read (inl k) = read_v6 is k.takes
    read (inr d) = dropped is d

    whole : (ProcessesFrame old.hardware_addr (without_expired old t) frame w.call.response.reply w.call.response.notes_taking w.call.response.taken
        ⊎ IsDropped (without_expired old t) w.call.response.reply w.call.response.notes_taking w.call.response.taken) →
        IsIpv6 octets
    whole (inl p) = read (taken_v6 old.hardware_addr (without_expired old t) frame octets _ _ _ p c)
    whole (inr d) = dropped is d

    by : IsIpv6 octets → link_room old.hardware_addr + (40 + length (ipv6_in octets).1) ≤ length frame
    by i =
        let all = in_frame_v6 old.hardware_addr frame octets c (omega (arith, i.whole)) in
        enough_v6 (link_room old.hardware_addr) (length (ipv6_in octets).1) (length octets) (length frame) all
        (few_in_range octets 40 (end octets)) i.whole

-- How long a packet in reply is

-- a whole packet brings its own payload
few_brought : {octets payload : List ℕ} {r : Ipv4Repr} → BringsV4 octets r payload → is_fragment (ipv4_in octets).1 ≡ false →
    length payload ≤ length (ipv4_in octets).2
few_brought (law.Whole whole r e) not = exactly (ap length e)
few_brought (law.Reassembled part r) not = let bad : true ≡ false = sym part ∙ not in absurd cc

few_brought_v6 : {octets payload : List ℕ} {p : IpProtocol} → BringsV6 octets p payload → length payload ≤ length (ipv6_in octets).1
few_brought_v6 (law.AfterHeader p e) = exactly (ap length e)
few_brought_v6 {octets} (law.AfterOptions p e) =
    less (hop_by_hop.header_len (ipv6_in octets).1) (ap length e ∙ length-drop (hop_by_hop.header_len (ipv6_in octets).1) (ipv6_in octets).1) where
      less : {a b : ℕ} (c : ℕ) → a ≡ b - c → a ≤ b
      less c l = omega (arith, l)

few_quoted : (n : ℕ) (xs ys : List ℕ) → xs ≡ take n ys → length xs ≤ length ys
few_quoted n xs ys e = let l = ap length e ∙ length-take n ys in omega (arith, l)

few_data : (xs ys : List ℕ) → xs ≡ drop 8 ys → length xs ≤ length ys
few_data xs ys e = let l = ap length e ∙ length-drop 8 ys in omega (arith, l)

few_reasons : {H : Host} {octets quoted : List ℕ} {m : Icmpv6Repr} → HasReasonV6 H octets m quoted → length quoted ≤ length (ipv6_in octets).1
few_reasons {quoted = quoted} (law.OfPayload p payload brings other untaken e) =
    at_most (few_quoted 1192 quoted payload e) (few_brought_v6 brings)
few_reasons {octets = octets} {quoted = quoted} (law.OfOption other e) = few_quoted 1192 quoted (ipv6_in octets).1 e

error_head : (m : Icmpv6Repr) → icmpv6.type_of m ≤ 4 → icmpv6.header_len m ≤ 48
error_head (v6.Ndisc (NeighborSolicit target lladdr)) few = absurd (omega (arith, few))
error_head (v6.Ndisc (NeighborAdvert flags target lladdr)) few = absurd (omega (arith, few))
error_head (v6.Router (RouterSolicit lladdr)) few = absurd (omega (arith, few))
error_head (v6.Router (RouterAdvert hop_limit flags lifetime lladdr prefix)) few = absurd (omega (arith, few))
error_head (v6.Mld (Query code group)) few = absurd (omega (arith, few))
error_head (v6.Mld (Report count)) few = absurd (omega (arith, few))
error_head others few = omega arith

same_packet : {p q : Packet} {reply : Option Reply} → reply ≡ Some (Ip p) → reply ≡ Some (Ip q) → p ≡ q
same_packet {p} {q} e f = let both : Some (Ip p) ≡ Some (Ip q) = sym e ∙ f in cc

module _ {t : ℤ} {frame : List ℕ} {old new : Host} {told : List Event} {notes : List Note} (w : Receives t frame old told notes new)
    (not : CarriesNoFragment old.hardware_addr frame) (p : Packet) (is : w.call.response.reply ≡ Some (Ip p)) where
  abbrev Short : Packet → Type 0
  Short q = link_room old.hardware_addr + total_len q ≤ length frame + 48

  back : {segment : List ℕ} {v : IpVersion} {next : IpProtocol} {sender receiver : ℕ} (q : Packet) → payload_len (payload_of q) ≡ 20 →
      BringsSegment (without_expired old t) frame segment v next sender receiver → GoesBack v sender receiver q → Short q
  back (packet.Ipv4 q) len (law.OverIpv4 octets r c brings next) goes = let f = has_v4 w octets is c in omega (arith, len, f)
  back (packet.Ipv6 q) len (law.OverIpv4 octets r c brings next) goes = absurd goes
  back (packet.Ipv4 q) len (law.OverIpv6 octets c brings) goes = absurd goes
  back (packet.Ipv6 q) len (law.OverIpv6 octets c brings) goes = let f = has_v6 w octets is c in omega (arith, len, f)

  short : Origin (without_expired old t) frame w.call.response.reply → Short p
  short (Silent e) = let bad : None ≡ Some (Ip p) = sym e ∙ is in absurd cc
  short (ByArp own r on e a) = let bad : Some (Arp r) ≡ Some (Ip p) = sym e ∙ is in absurd cc
  short (ByAdvertisement own q message on e c a) =
      let len : payload_len q.payload ≡ 32 = ap payload_len c ∙ ap (λ m. payload_len (packet.Icmpv6 (v6.Ndisc m) [])) a.message_is in
      let f = has_v6 w a.packet is a.carried in
      subst Short (same_packet e is) (omega (arith, len, f))
  short (ByEcho q ident seq_no octets e c s a) =
      let len : payload_len q.payload ≡ 8 + length octets = ap payload_len c in
      let f = has_v4 w a.packet is a.carried in
      let one = few_brought a.brings (not a.packet a.carried) in
      let two = few_data octets a.request a.data_is in
      subst Short (same_packet e is) (omega (arith, len, f, one, two))
  short (ByError q m octets e c a) =
      let len : payload_len q.payload ≡ 28 + length octets = ap payload_len c ∙ ap (λ x. payload_len (packet.Icmpv4 x octets)) a.quotes in
      let f = has_v4 w a.packet is a.carried in
      let one = few_brought a.brings (not a.packet a.carried) in
      let two = few_quoted 528 octets a.payload a.quotes_payload in
      subst Short (same_packet e is) (omega (arith, len, f, one, two))
  short (ByEchoV6 q ident seq_no octets e c s a) =
      let len : payload_len q.payload ≡ 8 + length octets = ap payload_len c in
      let f = has_v6 w a.packet is a.carried in
      let one = few_brought_v6 a.brings in
      let two = few_data octets a.request a.data_is in
      subst Short (same_packet e is) (omega (arith, len, f, one, two))
  short (ByErrorV6 q m octets e c few a s) =
      let len : payload_len q.payload ≡ icmpv6.header_len m + length octets = ap payload_len c in
      let head = error_head m few in
      let f = has_v6 w a.packet is a.carried in
      let one = few_reasons a.reason in
      subst Short (same_packet e is) (omega (arith, len, head, f, one))
  short (BySegment q header e c a) = subst Short (same_packet e is) (back q (ap payload_len c) a.brings a.goes_back)

-- The frames that are sent

-- of a frame, and of what a frame of an IPv4 packet may bring
few_for : (frame : List ℕ) (m : ℕ) → ((n : ℕ) → 86 ≤ n → length frame + 48 ≤ n → m ≤ n) → AreFewFor frame m
few_for frame m f = by (cases_lt (length frame) 38) where
  by : (length frame < 38) ⊎ (38 ≤ length frame) → AreFewFor frame m
  by (inl less) = inr (less, f 86 (omega arith) (omega (arith, less)))
  by (inr most) = inl (f (length frame + 48) (omega (arith, most)) (omega arith))

few_of_packet : {t : ℤ} {frame sent : List ℕ} {old new : Host} {told : List Event} {notes : List Note} (w : Receives t frame old told notes new)
    (p : Packet) → IsReal old → CarriesNoFragment old.hardware_addr frame → w.call.response.reply ≡ Some (Ip p) →
    IsOfPacket (replying t old new) p sent → AreFewFor frame (length sent)
few_of_packet {t} {frame} {sent} {old} w p real not is o =
    let began : IsReal (without_expired old t) = record { own = real.own; neighbors = real.neighbors } in
    let sized = reply_sized p began (reply_origin w) is in
    let room = short w not p is (reply_origin w) in
    few_for frame (length sent) (λ n asked all.
    few_dispatched o.before o.after sent n (real_as o.same (replies_real w.call real)) asked
    (subst (λ k. IsSized k p) (sym o.same.capabilities) sized)
    (subst (λ h. link_room h + total_len p ≤ n) (sym o.same.hardware_address) (omega (arith, room, all))) o.dispatched)

few_of_reply : {t : ℤ} {frame sent : List ℕ} {old new : Host} {told : List Event} {notes : List Note} (w : Receives t frame old told notes new) →
    IsReal old → CarriesNoFragment old.hardware_addr frame → IsOfReply t w.call.response.reply old told new sent → AreFewFor frame (length sent)
few_of_reply {frame = frame} {sent = sent} {old = old} {told = told} w real not (frames.OfArp own received r on took e a is) =
    let same : received ≡ frame = one_frame (sym took ∙ w.took) in
    let len : length sent ≡ 42 = ap length is ∙ arp_len r
    (ap (λ (x : EthernetAddress). length x.0) a.itself ∙ six old.capabilities.medium own (rw on at real.own))
    (ap (λ (x : EthernetAddress). length x.0) a.sender ∙ arp_source_six _ a.is_packet) in
    let long : length (drop 14 frame) ≡ length frame - 14 = length-drop 14 frame in
    let whole : 28 ≤ length (drop 14 frame) = subst (λ x. 28 ≤ length (drop 14 x)) same a.is_packet.whole in
    inl (omega (arith, len, long, whole))
few_of_reply w real not (frames.OfIp p e o) = few_of_packet w p real not e o

alone : (frame sent : List ℕ) → AreFewFor frame (length sent) → AreFewFor frame (sum (map length (sent ∷ [])))
alone frame sent (inl few) = inl (omega (arith, few))
alone frame sent (inr few) = let less = few.1 in inr (few.0, omega (arith, less))

pub replies_short : RepliesAreShort
replies_short t frame old new told notes w real not =
    by (sent_frames told) (single t w.answer old new told notes w.call).1 (ingress_frames t w.answer old new told notes w.call) where
      by : (sent : List (List ℕ)) → length sent ≤ 1 → AllByRecursion (IsOfReply t w.call.response.reply old told new) sent →
          AreFewFor frame (sum (map length sent))
      by [] one all = inl (omega arith)
      by (f ∷ []) one all = alone frame f (few_of_reply w real not all.0)
      by (f ∷ g ∷ fs) one all = absurd (omega (arith, one))
