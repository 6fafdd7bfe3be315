-- No frame of a run is longer than the device allows.
use Rattle.std.proofs.Common.{◌≡◌, ℕ, ◌+◌, ◌≤◌, Bool, true, false, List, [], ◌∷◌, ◌++◌, length, refl, sym, ◌∙◌, ap, subst, Option, Some, None, arith}
use Rattle.std.specs.Prelude.{ℤ, if◌then◌else◌}
use Rattle.std.specs.List.{AllByRecursion}
use Rattle.std.specs.FinMap as map
use Rattle.std.specs.Option.{option_map, option_and_then}
use Rattle.std.proofs.lemmas.Option.{option_and_then_some}
use Rattle.net_base.specs.Checksum.{ip_mtu_of}
use Rattle.net_base.specs.Device.{Event, sent_frames}
use Rattle.net_base.specs.declared.phy.DeviceCapabilities.{DeviceCapabilities}
use Rattle.net_base.specs.declared.phy.Medium.{Medium}
use Rattle.net_base.specs.declared.phy.Medium.TheVariants as medium
use Rattle.ip_address.specs.Hardware.{IsOf}
use Rattle.ip_address.specs.declared.cidr.IpCidr.{IpCidr}
use Rattle.ip_address.specs.declared.ethernet_address.EthernetAddress.{EthernetAddress}
use Rattle.ip_address.specs.declared.hardware.HardwareAddress.{HardwareAddress}
use Rattle.ip_address.specs.declared.hardware.HardwareAddress.TheVariants as hardware
use Rattle.ip_address.specs.declared.ip.IpAddress.{IpAddress}
use Rattle.ip_address.specs.declared.ip.IpAddress.TheVariants.{Ipv4, Ipv6}
use Rattle.ip_address.specs.declared.ipv4.Ipv4Address.{Ipv4Address}
use Rattle.ip_address.specs.declared.ipv6.Ipv6Address.{Ipv6Address}
use Rattle.ip_wire.specs.declared.ip_packet.IpRepr.{IpRepr}
use Rattle.ip_wire.specs.declared.ip_packet.IpRepr.TheVariants as repr
use Rattle.ip_wire.specs.declared.tcp.TcpRepr.{TcpRepr}
use Rattle.ip_wire.specs.IpPacket.{next_header}
use Rattle.ip_address.specs.Ipv6.{solicited_node}
use Rattle.ip_address.specs.AddressSelection.Ipv6.{source_v6}
use Rattle.host_machine.specs.Discovery.Arp.{request_for}
use Rattle.host_machine.specs.Discovery.Ndisc.{solicitation_for}
use Rattle.ip_address.specs.declared.protocol.IpProtocol.{IpProtocol}
use Rattle.control_wire.specs.declared.icmp.IcmpRepr.{IcmpRepr}
use Rattle.control_wire.specs.declared.icmp.IcmpRepr.TheVariants as icmp_repr
use Rattle.control_wire.specs.declared.icmpv4.Icmpv4Repr.{Icmpv4Repr}
use Rattle.control_wire.specs.declared.icmpv4.Icmpv4Repr.TheVariants as v4
use Rattle.control_wire.specs.declared.icmpv6.Icmpv6Repr.{Icmpv6Repr}
use Rattle.control_wire.specs.declared.icmpv6.Icmpv6Repr.TheVariants as v6
use Rattle.control_wire.specs.declared.ndisc.NdiscRepr.TheVariants.{NeighborAdvert, NeighborSolicit}
use Rattle.control_wire.specs.declared.router.RouterRepr.TheVariants.{RouterAdvert, RouterSolicit}
use Rattle.control_wire.specs.Icmpv6 as icmpv6
use Rattle.control_wire.specs.declared.igmp.IgmpRepr.{IgmpRepr}
use Rattle.control_wire.specs.declared.mld.MldRecordType.{MldRecordType}
use Rattle.control_wire.specs.declared.mld.MldRecordType.TheVariants.{ChangeToExclude, ChangeToInclude}
use Rattle.control_wire.specs.declared.mld.MldRepr.TheVariants.{Query, Report}
use Rattle.fragmentation.specs.Cuts.{HasForm, Piece, pieces_of}
use Rattle.iface_tables.specs.Slaac.{rs_required, sync_required}
use Rattle.sockets.specs.Kinds.{Offered, IcmpOffer, RawOffer, TcpOffer, UdpOffer, offered_packet}
use Rattle.host_machine.specs.declared.command.Command.{Command}
use Rattle.host_machine.specs.declared.command.Command.TheVariants.{Poll, PollEgress, PollIngressSingle}
use Rattle.host_machine.specs.declared.command.Answer.{Answer}
use Rattle.host_machine.specs.declared.results.PollIngressSingleResult.{PollIngressSingleResult}
use Rattle.host_machine.specs.declared.results.PollResult.{PollResult}
use Rattle.host_machine.specs.Context.Note.{Note, Cut, OfCuts, PieceSent}
use Rattle.host_machine.specs.Context.Host.{Host, Socket, at, with_left, without_expired, with_next_id}
use Rattle.host_machine.specs.Context.Addresses.{ipv4_addr, link_local_addr, source_for}
use Rattle.host_machine.specs.Receive.Reply.{Reply, Arp, Ip}
use Rattle.host_machine.specs.Send.Requests.{Discovers}
use Rattle.host_machine.specs.Send.Dispatch.{Dispatches, DispatchesByHop, DispatchesEthernet, Emits, SendsOver, destination_of}
use Rattle.host_machine.specs.Send.Outcome.{Outcome}
use Rattle.host_machine.specs.Context.Pieces.{datagram_of}
use Rattle.host_machine.specs.Send.Hops.{group_address_v6}
use Rattle.host_machine.specs.Send.Dispatch as dispatch
use Rattle.host_machine.specs.Send.Requests as requests
use Rattle.host_machine.specs.Interface.Egress.{Egress}
use Rattle.host_machine.specs.Sockets.Icmp.{echo_payload}
use Rattle.host_machine.specs.Sockets.Offers.{packet_between, packet_from, packet_of}
use Rattle.host_machine.specs.Packet.Frame.{payload_text, piece_frame}
use Rattle.host_machine.specs.Multicast.Igmp.{igmp_packet}
use Rattle.host_machine.specs.Multicast.Joins.{join_packet, leave_packet}
use Rattle.host_machine.specs.Multicast.Mld.{mld_report}
use Rattle.host_machine.specs.Packet.Packet.{IpPayload, Packet, PacketV4, header_of, payload_len, payload_of}
use Rattle.host_machine.specs.Packet.Packet as packet
use Rattle.host_machine.specs.Discovery.RouterSolicitation.{due_solicitation, router_solicitation, solicitation_by, solicitation_from}
use Rattle.host_machine.specs.Context.Autoconfiguration.{with_slaac_applied}
use Rattle.host_machine.specs.Interface.Ingress.{Ingress}
use Rattle.host_machine.specs.Interface.Run.{Transition, Run, Ends, Then, events_in}
use Rattle.host_machine.specs.Interface.Step.{Act, Step}
use Rattle.host_machine.specs.Interface.Step as step
use Rattle.host_laws.specs.Laws.Lengths.{Fits, FramesOfRunsFit, PiecesFit}
use Rattle.host_machine.specs.Context.Real.{IsPart, IsReal}
use Rattle.host_laws.specs.Laws.Restraint.SentFrames.{IsNextPiece, IsOfPacket, IsOfReply, SendsAs, SendsInOrder, replying}
use Rattle.host_laws.specs.Laws.Restraint.SentFrames as law
use Rattle.host_laws.specs.Laws.Unfolded.{IsSingle}
use Rattle.host_laws.proofs.Interface.SingleCalls.{run_unfolds}
use Rattle.host_machine.specs.Interface.Ingress.{Takes}
use Rattle.net_base.specs.Device.{Reception, Nothing, Withheld, Frame}
use Rattle.host_laws.proofs.Receive.ReplyOrigins.{Origin, Silent, ByArp, ByAdvertisement, ByEcho, ByError}
use Rattle.host_laws.proofs.Receive.ReplyOrigins.{ByEchoV6, ByErrorV6, BySegment, frame_origin}
use Rattle.host_laws.proofs.Runs.FramesOfCalls.{ingress_frames, sends_in_order}
use Rattle.host_machine.proofs.Send.Reached.{reached_of}
use Rattle.host_laws.proofs.Runs.SentPieces.{run_real}
use Rattle.host_machine.proofs.Send.Reached.{Reached, ByGroup, ByNeighbor, WithoutAddresses}
use Rattle.host_laws.proofs.Runs.Walk.{egressed, ingress, sent_frames-append}
use Rattle.host_laws.proofs.Multicast.GroupChanges.{join_groups, leave_groups}
use Rattle.host_laws.proofs.Packet.FrameLengths.{IsSized, arp_fits, cuts_fit, icmpv4_len, icmpv6_len, igmp_len, mld_len, ndisc_body, packet_fits}
use Rattle.host_laws.proofs.Packet.FrameLengths.{piece_fits, router_body, tcp_len, udp_len, v6_quoted}
use Rattle.host_laws.proofs.Discovery.NotedRequests.{pieces_go}
use Rattle.host_laws.proofs.Context.MediumAddresses.{arp_source_six, of_six}
use Rattle.host_laws.proofs.Context.UnchangedFields.{Keeps}

-- A host whose hardware addresses are of its medium, and whose pending fragments are for such addresses and fit
record IsGood (H : Host) : Type 0 where
  real : IsReal H
  left : AllByRecursion (λ p. IsOf H.capabilities.medium p.destination) H.left
  fit : PiecesFit H

record Goods (old new : Host) : Type 0 where
  same : new.capabilities ≡ old.capabilities
  good : IsGood new

abbrev GoodOver : Host → List (List ℕ) → List Note → Host → Type 0
GoodOver old frames notes new = 576 ≤ ip_mtu_of old.capabilities → IsGood old → Goods old new

good_by : (old new : Host) → new.capabilities ≡ old.capabilities → IsReal new → new.left ≡ old.left → IsGood old → Goods old new
good_by old new c real l g = record {
  same = c;
  good = record {
    real = real;
    left = subst (λ k. AllByRecursion (λ p. IsOf k.medium p.destination) new.left) (sym c)
        (subst (AllByRecursion (λ p. IsOf old.capabilities.medium p.destination)) (sym l) g.left);
    fit = subst (λ k. AllByRecursion (Fits k) new.left) (sym c) (subst (AllByRecursion (Fits old.capabilities)) (sym l) g.fit);
  };
}

good_still : (old new : Host) → new.capabilities ≡ old.capabilities → new.hardware_addr ≡ old.hardware_addr →
    new.neighbors.known ≡ old.neighbors.known → new.left ≡ old.left → IsGood old → Goods old new
good_still old new c h n l g =
    good_by old new c (record { own = rw (c, h) g.real.own; neighbors = rw (c, n) g.real.neighbors }) l g

good_keeps : (old new : Host) → Keeps old new → GoodOver old [] [] new
good_keeps old new k big g =
    good_by old new (ap (λ (K : Host). K.capabilities) k.same) (k.real g.real) (ap (λ (K : Host). K.left) k.same) g

good_on : (a b c : Host) (fs gs : List (List ℕ)) (xs ys : List Note) → GoodOver a fs xs b → GoodOver b gs ys c → GoodOver a (fs ++ gs) (xs ++ ys) c
good_on a b c fs gs xs ys one two big g =
    let x = one big g in
    let y = two (subst (λ k. 576 ≤ ip_mtu_of k) (sym x.same) big) x.good in
    record { same = y.same ∙ x.same; good = y.good }

good_cuts : (H : Host) (h : HardwareAddress) (id : ℕ) (p : PacketV4) (first : Piece) (rest : List Piece) →
    pieces_of (datagram_of H h id p) ≡ first ∷ rest → HasForm (datagram_of H h id p) → Reached H h →
    GoodOver H (piece_frame H first ∷ []) (OfCuts (Cut (datagram_of H h id p)) ∷ OfCuts (PieceSent first) ∷ []) (with_left H rest)
good_cuts H h id p first rest pieces form reached big g = record {
  same = refl;
  good = record {
    real = record { own = g.real.own; neighbors = g.real.neighbors };
    left = (pieces_go H.capabilities.medium (datagram_of H h id p) (first ∷ rest) pieces (reached_of H h g.real reached)).1;
    fit = (cuts_fit H.capabilities (datagram_of H h id p) (first ∷ rest) refl big pieces).1;
  };
}

good_pieces : (H : Host) (p : Piece) (rest : List Piece) →
    H.left ≡ p ∷ rest → GoodOver H (piece_frame H p ∷ []) (OfCuts (PieceSent p) ∷ []) (with_left H rest)
good_pieces H p rest e big g = record {
  same = refl;
  good = record {
    real = record { own = g.real.own; neighbors = g.real.neighbors };
    left = (subst (AllByRecursion (λ q. IsOf H.capabilities.medium q.destination)) e g.left).1;
    fit = (subst (AllByRecursion (Fits H.capabilities)) e g.fit).1;
  };
}

good_received : {t : ℤ} {answer : PollIngressSingleResult} {old new : Host} {told : List Event} {notes : List Note} →
    Ingress t answer old told notes new → GoodOver old (sent_frames told) notes new
good_received i = ingress GoodOver good_keeps good_on
    (λ H own source target mine. λ big g. good_still H H refl refl refl refl g)
    (λ H hop unknown. λ big g. good_still H _ refl refl refl refl g)
    (λ H. λ big g. good_still H _ refl refl refl refl g)
    (λ H h p reached. λ big g. good_still H H refl refl refl refl g)
    good_cuts
    (λ H t. λ big g. good_still H _ refl refl refl refl g)
    (λ H key f result notes new t. λ big g. good_still H new (ap (λ (K : Host). K.capabilities) t.changed) (ap (λ (K : Host). K.hardware_addr) t.changed)
    (ap (λ (K : Host). K.neighbors.known) t.changed) (ap (λ (K : Host). K.left) t.changed) g)
    good_pieces
    (λ H r. λ big g. good_still H H refl refl refl refl g)
    i

good_sent : {t : ℤ} {answer : PollResult} {old new : Host} {told : List Event} {notes : List Note} →
    Egress t answer old told notes new → GoodOver old (sent_frames told) notes new
good_sent e = egressed GoodOver good_keeps good_on
    (λ H own source target mine. λ big g. good_still H H refl refl refl refl g)
    (λ H hop unknown. λ big g. good_still H _ refl refl refl refl g)
    (λ H. λ big g. good_still H _ refl refl refl refl g)
    (λ H h p reached. λ big g. good_still H H refl refl refl refl g)
    good_cuts
    good_pieces
    e

-- A dispatch

pub six : (m : Medium) (own : EthernetAddress) → IsOf m (hardware.Ethernet own) → length own.0 ≡ 6
six medium.Ethernet own is = is
six medium.Ip own is = absurd is

pub one_frame : {f g : List ℕ} → f ∷ [] ≡ g ∷ [] → f ≡ g
one_frame e = cc

module _ (K new : Host) (frame : List ℕ) (real : IsReal K) (big : 576 ≤ ip_mtu_of K.capabilities) where
  abbrev Within : Type 0
  Within = length frame ≤ K.capabilities.max_transmission_unit

  some_sent : {A : Type 0} → frame ∷ [] ≡ [] → A
  some_sent e = absurd cc

  emitted : {id : ℕ} {p : Packet} {h : HardwareAddress} {outcome : Outcome} {notes : List Note} → IsOf K.capabilities.medium h →
      IsSized K.capabilities p → Emits id p h outcome (with_next_id K) (frame ∷ []) notes new → Within
  emitted {p = p} {h = h} of sized (dispatch.Whole fits formed o f n e) =
      subst (λ x. length x ≤ K.capabilities.max_transmission_unit) (sym (one_frame f)) (packet_fits K h p real.own of big fits sized)
  emitted {id} {p} {h} of sized (dispatch.InPieces q first rest is long short pieces fits formed o f n e) =
      subst (λ x. length x ≤ K.capabilities.max_transmission_unit) (sym (one_frame f))
      (piece_fits K first real.own (pieces_go K.capabilities.medium (datagram_of K h id q) (first ∷ rest) pieces of).0 big
      (cuts_fit K.capabilities (datagram_of K h id q) (first ∷ rest) refl big pieces).0)
  emitted of sized (dispatch.TooLong long longer o u) = some_sent u.silent

  discovered : {own : EthernetAddress} {hop : IpAddress} {outcome : Outcome} {notes : List Note} → K.hardware_addr ≡ hardware.Ethernet own →
      Discovers own hop outcome (with_next_id K) (frame ∷ []) notes new → Within
  discovered {own} mine (requests.Asked target source h s o f n e) =
      subst (λ x. length x ≤ K.capabilities.max_transmission_unit) (sym (one_frame f))
      (arp_fits K.capabilities (request_for own source target) (six K.capabilities.medium own (rw mine at real.own)) refl big)
  discovered mine (requests.NoSource target h s o u) = some_sent u.silent
  discovered {own} mine (requests.Solicited target h o f n e) =
      let o6 = six K.capabilities.medium own (rw mine at real.own) in
      let of : IsOf K.capabilities.medium (hardware.Ethernet (group_address_v6 (solicited_node target))) = of_six K.capabilities.medium own (group_address_v6 (solicited_node target)) (rw mine at real.own) refl in
      subst (λ x. length x ≤ K.capabilities.max_transmission_unit) (sym (one_frame f))
      (packet_fits K (hardware.Ethernet (group_address_v6 (solicited_node target))) (solicitation_for own (source_v6 K.ip_addrs target) target) real.own of big
      (omega (arith, big)) (record {
        len = by (icmpv6_len _ _ _ (v6.Ndisc (NeighborSolicit target (Some own))) []
            refl (ndisc_body 1 target own o6));
      })) where
        by : {m n : ℕ} → m ≡ n → m ≤ n
        by e = omega (arith, e)

  by_hop : {id : ℕ} {own : EthernetAddress} {p : Packet} {hop : IpAddress} {outcome : Outcome} {notes : List Note} →
      K.hardware_addr ≡ hardware.Ethernet own → IsSized K.capabilities p →
      DispatchesByHop id own p hop outcome (with_next_id K) (frame ∷ []) notes new → Within
  by_hop {hop = hop} mine sized (dispatch.Known h k e) = emitted (reached_of K h real (ByNeighbor hop k)) sized e
  by_hop mine sized (dispatch.Silent s o u) = some_sent u.silent
  by_hop mine sized (dispatch.Unknown u d) = discovered mine d

  over_ethernet : {id : ℕ} {own : EthernetAddress} {p : Packet} {outcome : Outcome} {notes : List Note} →
      K.hardware_addr ≡ hardware.Ethernet own → IsSized K.capabilities p →
      DispatchesEthernet id own p outcome (with_next_id K) (frame ∷ []) notes new → Within
  over_ethernet {own = own} {p = p} mine sized (dispatch.ToMulticast h m e) =
      emitted (reached_of K (hardware.Ethernet h) real (ByGroup own (destination_of p) h mine m refl)) sized e
  over_ethernet mine sized (dispatch.NoHop m n o u) = some_sent u.silent
  over_ethernet mine sized (dispatch.ByHop hop m n s) = by_hop mine sized s

  over : (id : ℕ) (h : HardwareAddress) (p : Packet) (outcome : Outcome) (notes : List Note) → K.hardware_addr ≡ h → IsSized K.capabilities p →
      SendsOver id h p outcome (with_next_id K) (frame ∷ []) notes new → Within
  over id (hardware.Ethernet own) p outcome notes mine sized s = over_ethernet mine sized s
  over id hardware.Ip p outcome notes mine sized s = emitted (reached_of K hardware.Ip real (WithoutAddresses mine refl)) sized s

  dispatched : {p : Packet} {outcome : Outcome} {notes : List Note} → IsSized K.capabilities p → Dispatches p outcome K (frame ∷ []) notes new → Within
  dispatched sized (dispatch.ToUnspecified n o u) = some_sent u.silent
  dispatched {p} {outcome} sized (dispatch.ToSpecified more s d n) = over K.ipv4_id K.hardware_addr p outcome more refl sized d

-- who sends as a host has hardware addresses of its medium, too
pub real_as : {H K : Host} → SendsAs H K → IsReal H → IsReal K
real_as {H} {K} s real =
    let c : K.capabilities ≡ H.capabilities = s.capabilities in record {
      own = rw (c, s.hardware_address) real.own;
      neighbors = λ a n is. subst (λ k. IsOf k.medium n.hardware_addr) (sym c)
          (real.neighbors a n (subst (λ k. map.get k a ≡ Some n) s.neighbors is));
    }

-- The frame of a packet
of_packet : {H : Host} {p : Packet} {frame : List ℕ} → IsReal H → 576 ≤ ip_mtu_of H.capabilities → IsSized H.capabilities p → IsOfPacket H p frame →
    length frame ≤ H.capabilities.max_transmission_unit
of_packet {H} {p} {frame} real big sized o =
    let c : o.before.capabilities ≡ H.capabilities = o.same.capabilities in
    let here : IsReal o.before = real_as o.same real in
    subst (λ k. length frame ≤ k.max_transmission_unit) c
    (dispatched o.before o.after frame here (subst (λ k. 576 ≤ ip_mtu_of k) (sym c) big) (subst (λ k. IsSized k p) (sym c) sized) o.dispatched)

-- Sizes of packets

exactly : {m n : ℕ} → m ≡ n → m ≤ n
exactly e = omega (arith, e)

sized_echo_v4 : (c : DeviceCapabilities) (p : Packet) (m : Icmpv4Repr) (octets : List ℕ) → payload_of p ≡ packet.Icmpv4 m octets → IsSized c p
sized_echo_v4 c p m octets e = record { len = subst (λ x. length (payload_text c (header_of p) x) ≤ payload_len x) (sym e) (exactly (icmpv4_len _ _ m octets)) }

sized_v6 : (c : DeviceCapabilities) (p : Packet) (m : Icmpv6Repr) (octets : List ℕ) → payload_of p ≡ packet.Icmpv6 m octets →
    length (icmpv6.rest_of m) ≡ 4 → 8 + length (icmpv6.body m) ≡ icmpv6.header_len m → IsSized c p
sized_v6 c p m octets e rest body =
    record { len = subst (λ x. length (payload_text c (header_of p) x) ≤ payload_len x) (sym e) (exactly (icmpv6_len _ _ _ m octets rest body)) }

sized_tcp : (c : DeviceCapabilities) (p : Packet) (r : TcpRepr) (octets : List ℕ) → payload_of p ≡ packet.Tcp r octets → IsSized c p
sized_tcp c p r octets e = record { len = subst (λ x. length (payload_text c (header_of p) x) ≤ payload_len x) (sym e) (exactly (tcp_len _ _ _ _ octets)) }

-- of the interface itself
module _ (H : Host) (real : IsReal H) where
  router_sized : (p : Packet) → due_solicitation H ≡ Some p → IsSized H.capabilities p
  router_sized p e = by (rs_required H.slaac H.moment) e where
    by_address : (h : HardwareAddress) → H.hardware_addr ≡ h → solicitation_by h H.ip_addrs ≡ Some p → IsSized H.capabilities p
    by_address hardware.Ip on q = absurd cc
    by_address (hardware.Ethernet own) on q = by_source (link_local_addr H.ip_addrs) q where
      by_source : (o : Option Ipv6Address) → option_and_then (λ s. Some (solicitation_from own s)) o ≡ Some p → IsSized H.capabilities p
      by_source None x = absurd cc
      by_source (Some a) x =
          let same : solicitation_from own a ≡ p = cc in
          sized_v6 H.capabilities p (v6.Router (RouterSolicit (Some own))) [] (sym (ap payload_of same)) refl
          (router_body own (six H.capabilities.medium own (rw on at real.own)))

    by_enabled : (b : Bool) → (if b then solicitation_by H.hardware_addr H.ip_addrs else None) ≡ Some p → IsSized H.capabilities p
    by_enabled true q = by_address H.hardware_addr refl q
    by_enabled false q = absurd cc

    by : (b : Bool) → (if b then router_solicitation H else None) ≡ Some p → IsSized H.capabilities p
    by true q = by_enabled H.slaac_enabled q
    by false q = absurd cc

igmp_sized : (c : DeviceCapabilities) (own : List IpCidr) (dst : Ipv4Address) (m : IgmpRepr) (p : Packet) → igmp_packet own dst m ≡ Some p → IsSized c p
igmp_sized c own dst m p e = by (ipv4_addr own) e where
  by : (o : Option Ipv4Address) →
      option_map (λ src. packet.Ipv4 (record { src_addr = src; dst_addr = dst; hop_limit = 1; payload = packet.Igmp m })) o ≡ Some p → IsSized c p
  by None q = absurd cc
  by (Some a) q =
      let same : packet.Ipv4 (record { src_addr = a; dst_addr = dst; hop_limit = 1; payload = packet.Igmp m }) ≡ p = cc in
      subst (IsSized c) same (record { len = exactly (igmp_len m) })

mld_sized : (c : DeviceCapabilities) (own : List IpCidr) (type : MldRecordType) (groups : List Ipv6Address) → IsSized c (mld_report own type groups)
mld_sized c own type groups = record { len = exactly (mld_len _ _ _ _ _) }

join_sized : (c : DeviceCapabilities) (own : List IpCidr) (group : IpAddress) (p : Packet) → join_packet own group ≡ Some p → IsSized c p
join_sized c own (Ipv4 a) p e = igmp_sized c own _ _ p e
join_sized c own (Ipv6 a) p e =
    let same : mld_report own ChangeToExclude (a ∷ []) ≡ p = cc in subst (IsSized c) same (mld_sized c own ChangeToExclude (a ∷ []))

leave_sized : (c : DeviceCapabilities) (own : List IpCidr) (group : IpAddress) (p : Packet) → leave_packet own group ≡ Some p → IsSized c p
leave_sized c own (Ipv4 a) p e = igmp_sized c own _ _ p e
leave_sized c own (Ipv6 a) p e =
    let same : mld_report own ChangeToInclude (a ∷ []) ≡ p = cc in subst (IsSized c) same (mld_sized c own ChangeToInclude (a ∷ []))

-- of a socket
between_has : (src dst : IpAddress) (hop_limit : ℕ) (payload : IpPayload) (p : Packet) → packet_between src dst hop_limit payload ≡ Some p →
    payload_of p ≡ payload
between_has (Ipv4 src) (Ipv4 dst) hop_limit payload p e =
    let same : packet.Ipv4 (record { src_addr = src; dst_addr = dst; hop_limit = hop_limit; payload = payload }) ≡ p = cc in sym (ap payload_of same)
between_has (Ipv4 src) (Ipv6 dst) hop_limit payload p e = absurd cc
between_has (Ipv6 src) (Ipv4 dst) hop_limit payload p e = absurd cc
between_has (Ipv6 src) (Ipv6 dst) hop_limit payload p e =
    let same : packet.Ipv6 (record { src_addr = src; dst_addr = dst; hop_limit = hop_limit; payload = payload }) ≡ p = cc in sym (ap payload_of same)

echo_sized : (c : DeviceCapabilities) (p : Packet) (m : IcmpRepr) (octets : List ℕ) (x : IpPayload) → echo_payload m octets ≡ Some x →
    payload_of p ≡ x → IsSized c p
echo_sized c p (icmp_repr.Ipv4 (v4.EchoRequest ident seq_no)) octets x e is =
    sized_echo_v4 c p (v4.EchoRequest ident seq_no) octets (is ∙ (let same : packet.Icmpv4 (v4.EchoRequest ident seq_no) octets ≡ x = cc in sym same))
echo_sized c p (icmp_repr.Ipv4 (v4.EchoReply ident seq_no)) octets x e is =
    sized_echo_v4 c p (v4.EchoReply ident seq_no) octets (is ∙ (let same : packet.Icmpv4 (v4.EchoReply ident seq_no) octets ≡ x = cc in sym same))
echo_sized c p (icmp_repr.Ipv4 (v4.DstUnreachable reason header)) octets x e is = absurd cc
echo_sized c p (icmp_repr.Ipv4 (v4.TimeExceeded code header)) octets x e is = absurd cc
echo_sized c p (icmp_repr.Ipv6 (v6.EchoRequest ident seq_no)) octets x e is =
    sized_v6 c p (v6.EchoRequest ident seq_no) octets (is ∙ (let same : packet.Icmpv6 (v6.EchoRequest ident seq_no) octets ≡ x = cc in sym same)) refl refl
echo_sized c p (icmp_repr.Ipv6 (v6.EchoReply ident seq_no)) octets x e is =
    sized_v6 c p (v6.EchoReply ident seq_no) octets (is ∙ (let same : packet.Icmpv6 (v6.EchoReply ident seq_no) octets ≡ x = cc in sym same)) refl refl
echo_sized c p (icmp_repr.Ipv6 (v6.DstUnreachable reason header)) octets x e is = absurd cc
echo_sized c p (icmp_repr.Ipv6 (v6.PktTooBig mtu header)) octets x e is = absurd cc
echo_sized c p (icmp_repr.Ipv6 (v6.TimeExceeded code header)) octets x e is = absurd cc
echo_sized c p (icmp_repr.Ipv6 (v6.ParamProblem reason pointer header)) octets x e is = absurd cc
echo_sized c p (icmp_repr.Ipv6 (v6.Ndisc message)) octets x e is = absurd cc
echo_sized c p (icmp_repr.Ipv6 (v6.Router message)) octets x e is = absurd cc
echo_sized c p (icmp_repr.Ipv6 (v6.Mld message)) octets x e is = absurd cc

raw_sized : (c : DeviceCapabilities) (r : IpRepr) (number : IpProtocol) (octets : List ℕ) (p : Packet) → packet.packet_with r (packet.Raw number octets) ≡ p → IsSized c p
raw_sized c r number octets p e = subst (IsSized c) e (by r) where
  by : (r : IpRepr) → IsSized c (packet.packet_with r (packet.Raw number octets))
  by (repr.Ipv4 r) = record { len = omega arith }
  by (repr.Ipv6 r) = record { len = omega arith }

offer_sized : (c : DeviceCapabilities) (offer : Offered) (p : Packet) → packet_of offer ≡ Some p → IsSized c p
offer_sized c (RawOffer s) p e =
    let same : packet.packet_with s.header (packet.Raw (next_header s.header) s.payload) ≡ p = cc in
    raw_sized c s.header (next_header s.header) s.payload p same
offer_sized c (IcmpOffer m) p e = option_and_then_some (packet_between m.src_addr m.dst_addr m.hop_limit) (echo_payload m.repr m.payload) p e
    (λ payload carries goes. echo_sized c p m.repr m.payload payload carries (between_has m.src_addr m.dst_addr m.hop_limit payload p goes))
offer_sized c (UdpOffer d) p e =
    let is = between_has d.src.addr d.dst.addr d.hop_limit _ p e in
    record { len = subst (λ x. length (payload_text c (header_of p) x) ≤ payload_len x) (sym is) (exactly (udp_len _ _ _ _ d.payload)) }
offer_sized c (TcpOffer s) p e = sized_tcp c p s.repr s.payload (between_has s.src_addr s.dst_addr s.hop_limit _ p e)

socket_sized : (H : Host) (s : Socket) (p : Packet) → packet_from H s ≡ Some p → IsSized H.capabilities p
socket_sized H s p e = option_and_then_some packet_of (offered_packet H.moment (source_for H.ip_addrs) s) p e
    (λ offer is made. offer_sized H.capabilities offer p made)

-- of an error
error_sized : (c : DeviceCapabilities) (p : Packet) (m : Icmpv6Repr) (octets : List ℕ) → payload_of p ≡ packet.Icmpv6 m octets →
    icmpv6.type_of m ≤ 4 → IsSized c p
error_sized c p (v6.DstUnreachable reason header) octets e few = sized_v6 c p _ octets e refl (v6_quoted header)
error_sized c p (v6.PktTooBig mtu header) octets e few = sized_v6 c p _ octets e refl (v6_quoted header)
error_sized c p (v6.TimeExceeded code header) octets e few = sized_v6 c p _ octets e refl (v6_quoted header)
error_sized c p (v6.ParamProblem reason pointer header) octets e few = sized_v6 c p _ octets e refl (v6_quoted header)
error_sized c p (v6.EchoRequest ident seq_no) octets e few = absurd (omega (arith, few))
error_sized c p (v6.EchoReply ident seq_no) octets e few = absurd (omega (arith, few))
error_sized c p (v6.Ndisc (NeighborSolicit target lladdr)) octets e few = absurd (omega (arith, few))
error_sized c p (v6.Ndisc (NeighborAdvert flags target lladdr)) octets e few = absurd (omega (arith, few))
error_sized c p (v6.Router (RouterSolicit lladdr)) octets e few = absurd (omega (arith, few))
error_sized c p (v6.Router (RouterAdvert hop_limit flags lifetime lladdr prefix)) octets e few = absurd (omega (arith, few))
error_sized c p (v6.Mld (Query code group)) octets e few = absurd (omega (arith, few))
error_sized c p (v6.Mld (Report count)) octets e few = absurd (omega (arith, few))

-- of a reply
same_packet : {p q : Packet} {reply : Option Reply} → reply ≡ Some (Ip p) → reply ≡ Some (Ip q) → p ≡ q
same_packet {p} {q} e f = let both : Some (Ip p) ≡ Some (Ip q) = sym e ∙ f in cc

pub reply_sized : {H : Host} {frame : List ℕ} {reply : Option Reply} (p : Packet) → IsReal H → Origin H frame reply → reply ≡ Some (Ip p) →
    IsSized H.capabilities p
reply_sized p real (Silent e) is = let bad : None ≡ Some (Ip p) = sym e ∙ is in absurd cc
reply_sized p real (ByArp own r on e a) is = let bad : Some (Arp r) ≡ Some (Ip p) = sym e ∙ is in absurd cc
reply_sized {H} p real (ByAdvertisement own q message on e c a) is =
    subst (IsSized H.capabilities) (same_packet e is)
    (sized_v6 H.capabilities (packet.Ipv6 q) (v6.Ndisc (NeighborAdvert a.flags a.target (Some own))) []
    (c ∙ ap (λ m. packet.Icmpv6 (v6.Ndisc m) []) a.message_is) refl
    (ndisc_body 2 a.target own (six H.capabilities.medium own (rw on at real.own))))
reply_sized {H} p real (ByEcho q ident seq_no octets e c s answers) is = subst (IsSized H.capabilities) (same_packet e is) (sized_echo_v4 H.capabilities _ _ octets c)
reply_sized {H} p real (ByError q m octets e c cause) is = subst (IsSized H.capabilities) (same_packet e is) (sized_echo_v4 H.capabilities _ m octets c)
reply_sized {H} p real (ByEchoV6 q ident seq_no octets e c s answers) is =
    subst (IsSized H.capabilities) (same_packet e is) (sized_v6 H.capabilities _ (v6.EchoReply ident seq_no) octets c refl refl)
reply_sized {H} p real (ByErrorV6 q m octets e c few cause s) is =
    subst (IsSized H.capabilities) (same_packet e is) (error_sized H.capabilities _ m octets c few)
reply_sized {H} p real (BySegment q header e c cause) is = subst (IsSized H.capabilities) (same_packet e is) (sized_tcp H.capabilities q header [] c)

-- a command that neither receives nor sends
abbrev IsOther : Command → Type 0
IsOther (PollIngressSingle t) = ⊥
IsOther (PollEgress t) = ⊥
IsOther (Poll t budget) = ⊥
IsOther others = Unit {0}

-- Calls

abbrev Short : Host → List ℕ → Type 0
Short H frame = length frame ≤ H.capabilities.max_transmission_unit

joined : (P : List ℕ → Type 0) (xs ys : List (List ℕ)) → AllByRecursion P xs → AllByRecursion P ys → AllByRecursion P (xs ++ ys)
joined P [] ys all more = more
joined P (x ∷ xs) ys all more = (all.0, joined P xs ys all.1 more)

each : (P Q : List ℕ → Type 0) (xs : List (List ℕ)) → ((x : List ℕ) → P x → Q x) → AllByRecursion P xs → AllByRecursion Q xs
each P Q [] f all = tt
each P Q (x ∷ xs) f all = (f x all.0, each P Q xs f all.1)

next_fits : {H : Host} {frame : List ℕ} → IsReal H → 576 ≤ ip_mtu_of H.capabilities → PiecesFit H → AllByRecursion (λ p. IsOf H.capabilities.medium p.destination) H.left →
    IsNextPiece H frame → Short H frame
next_fits {H} {frame} real big fit to n =
    subst (Short H) (sym n.is)
    (piece_fits H n.piece real.own (subst (AllByRecursion (λ p. IsOf H.capabilities.medium p.destination)) n.next to).0 big
    (subst (AllByRecursion (Fits H.capabilities)) n.next fit).0)

sending_fits : {H new : Host} {frames : List (List ℕ)} → IsReal H → 576 ≤ ip_mtu_of H.capabilities → PiecesFit H →
    AllByRecursion (λ p. IsOf H.capabilities.medium p.destination) H.left → SendsInOrder H frames new → AllByRecursion (Short H) frames
sending_fits {H} real big fit to s = subst (AllByRecursion (Short H)) (sym s.all)
    (joined (Short H) s.fragment _ (each _ _ s.fragment (λ frame x. next_fits real big fit to x) s.fragment_is)
    (joined (Short H) s.solicitation _
    (each _ _ s.solicitation (λ frame x. of_packet real big (router_sized H real x.packet x.due) x.sent) s.solicitation_is)
    (joined (Short H) s.joins _
    (each _ _ s.joins (λ frame x. of_packet real big (join_sized H.capabilities H.ip_addrs x.group x.packet x.report) x.sent) s.joins_are)
    (joined (Short H) s.leaves _
    (each _ _ s.leaves (λ frame x. of_packet real big (leave_sized H.capabilities H.ip_addrs x.group x.packet x.report) x.sent) s.leaves_are)
    (joined (Short H) s.answer _
    (each _ _ s.answer (λ frame x. of_packet real big (igmp_sized H.capabilities H.ip_addrs x.group _ x.packet x.report) x.sent) s.answer_is)
    (joined (Short H) s.answer_v6 _
    (each _ _ s.answer_v6 (λ frame x. of_packet real big (mld_sized H.capabilities H.ip_addrs _ x.groups) x.sent) s.answer_v6_is)
    (each _ _ s.packets (λ frame x. of_packet real big (socket_sized H x.socket x.packet x.offered) x.sent) s.packets_are)))))))

-- why a call that receives replies
pub origin_of : {t : ℤ} {answer : PollIngressSingleResult} {old new : Host} {told : List Event} {notes : List Note} (i : Ingress t answer old told notes new) →
    (frame : List ℕ) × Origin (without_expired old t) frame i.response.reply
origin_of {t} {answer} {old} i = by i.reception i.response.takes where
  by : (r : Reception) → Takes (without_expired old t) r i.response.reply i.response.notes_taking i.response.taken →
      (frame : List ℕ) × Origin (without_expired old t) frame i.response.reply
  by Nothing d = ([], Silent d.silent)
  by Withheld d = ([], Silent d.silent)
  by (Frame []) d = ([], Silent d.silent)
  by (Frame (octet ∷ octets)) p = (octet ∷ octets, frame_origin old.hardware_addr (without_expired old t) (octet ∷ octets) _ _ _ refl p)

reply_fits : {t : ℤ} {answer : PollIngressSingleResult} {old new : Host} {told : List Event} {notes : List Note} (i : Ingress t answer old told notes new)
    (frame : List ℕ) → IsReal old → IsReal (replying t old new) → 576 ≤ ip_mtu_of old.capabilities → IsOfReply t i.response.reply old told new frame →
    Short old frame
reply_fits {old = old} i frame real replies big (law.OfArp own received r on took e a is) =
    subst (Short old) (sym is) (arp_fits old.capabilities r (ap (λ (x : EthernetAddress). length x.0) a.itself ∙ six old.capabilities.medium own (rw on at real.own))
    (ap (λ (x : EthernetAddress). length x.0) a.sender ∙ arp_source_six _ a.is_packet) big)
reply_fits {t} {answer} {old} i frame real replies big (law.OfIp p e o) =
    let began : IsReal (without_expired old t) = record { own = real.own; neighbors = real.neighbors } in
    of_packet replies big (reply_sized p began (origin_of i).1 e) o

-- a host is one as it replies, too
pub replies_real : {t : ℤ} {answer : PollIngressSingleResult} {old new : Host} {told : List Event} {notes : List Note} →
    Ingress t answer old told notes new → IsReal old → IsReal (replying t old new)
replies_real {old = old} {new = new} {told = told} {notes = notes} i real =
    let stays = run_real old new (record {
      command = _;
      answer = _;
      told = told;
      acts = [];
      notes = notes;
      before = old;
      after = new;
    } ∷ []) (Then (step.PolledIngressSingle i) Ends) real in record {
      own = real.own;
      neighbors = λ a n is. subst (λ k. IsOf k.medium n.hardware_addr) stays.0 (stays.1.neighbors a n is);
    }

receiving_fits : {t : ℤ} {answer : PollIngressSingleResult} {old new : Host} {told : List Event} {notes : List Note} (i : Ingress t answer old told notes new) →
    IsReal old → 576 ≤ ip_mtu_of old.capabilities → AllByRecursion (Short old) (sent_frames told)
receiving_fits {t} {answer} {old} {new} {told} {notes} i real big =
    each _ _ (sent_frames told) (λ frame o. reply_fits i frame real (replies_real i real) big o) (ingress_frames t answer old new told notes i)

-- Steps

synced_left : (H : Host) (b : Bool) → (if b then with_slaac_applied H else H).left ≡ H.left
synced_left H true = refl
synced_left H false = refl

-- a step that neither receives nor sends leaves the pending fragments
others_left : {command : Command} {answer : Answer} {old new : Host} {told : List Event} {acts : List Act} {notes : List Note} →
    Step command answer old told acts notes new → IsOther command → (new.left ≡ old.left) × (told ≡ [])
others_left (step.UpdatedIpAddrs (step.Accepted a r e)) other = (ap (λ (K : Host). K.left) e, refl)
others_left (step.UpdatedIpAddrs (step.Refused a r e)) other = (ap (λ (K : Host). K.left) e, refl)
others_left (step.PolledIngressSingle i) other = absurd other
others_left (step.PolledEgress e) other = absurd other
others_left (step.Polled p) other = absurd other
others_left (step.PolledMaintenance {t} {old}) other = (synced_left (without_expired old t) (sync_required old.slaac t), refl)
others_left (step.JoinedGroup j) other = let g = join_groups j in (ap (λ (K : Host). K.left) g.1, refl)
others_left (step.LeftGroup j) other = let g = leave_groups j in (ap (λ (K : Host). K.left) g.1, refl)
others_left (step.TookHardwareAddr (step.Taken a of r e)) other = (ap (λ (K : Host). K.left) e, refl)
others_left (step.TookHardwareAddr (step.NotTaken error a r e)) other = (ap (λ (K : Host). K.left) e, refl)
others_left (step.TookReassemblyTimeout (step.WithinDay l r e)) other = (ap (λ (K : Host). K.left) e, refl)
others_left (step.TookReassemblyTimeout (step.OverDay l r e)) other = (ap (λ (K : Host). K.left) e, refl)
others_left others other = (refl, refl)

record StepFits (old : Host) (told : List Event) (new : Host) : Type 0 where
  short : AllByRecursion (Short old) (sent_frames told)
  goods : Goods old new

other_fits : {command : Command} {answer : Answer} {old new : Host} {told : List Event} {acts : List Act} {notes : List Note} →
    Step command answer old told acts notes new → IsOther command → 576 ≤ ip_mtu_of old.capabilities → IsGood old → StepFits old told new
other_fits {command} {answer} {old} {new} {told} {acts} {notes} s other big g =
    let x = others_left s other in
    let stays = run_real old new (record {
      command = command;
      answer = answer;
      told = told;
      acts = acts;
      notes = notes;
      before = old;
      after = new;
    } ∷ []) (Then s Ends) g.real in
    record { short = subst (λ es. AllByRecursion (Short old) (sent_frames es)) (sym x.1) tt; goods = good_by old new stays.0 stays.1 x.0 g }

step_fits : {command : Command} {answer : Answer} {old new : Host} {told : List Event} {acts : List Act} {notes : List Note} →
    Step command answer old told acts notes new → IsSingle command → 576 ≤ ip_mtu_of old.capabilities → IsGood old → StepFits old told new
step_fits (step.PolledIngressSingle i) single big g = record { short = receiving_fits i g.real big; goods = good_received i big g }
step_fits {old = old} {new = new} {told = told} {notes = notes} (step.PolledEgress {t = t} {result = result} e) single big g =
    let began : IsReal (at old t) = record { own = g.real.own; neighbors = g.real.neighbors } in
    record { short = sending_fits {H = at old t} began big g.fit g.left (sends_in_order t result old new told notes e).frames; goods = good_sent e big g }
step_fits (step.Polled p) single big g = absurd single
step_fits others single big g = other_fits others tt big g

-- Runs

record RunFits (first : Host) (ps : List Transition) (last : Host) : Type 0 where
  short : AllByRecursion (Short first) (sent_frames (events_in ps))
  goods : Goods first last

singles_fit : {first last : Host} {ps : List Transition} → Run first ps last → AllByRecursion (λ p. IsSingle p.command) ps →
    576 ≤ ip_mtu_of first.capabilities → IsGood first → RunFits first ps last
singles_fit Ends single big g = record { short = tt; goods = record { same = refl; good = g } }
singles_fit {first} (Then {mid = mid} {command = command} {told = told} {transitions = ps} s r) single big g =
    let one = step_fits s single.0 big g in
    let two = singles_fit r single.1 (subst (λ k. 576 ≤ ip_mtu_of k) (sym one.goods.same) big) one.goods.good in
    let rest : AllByRecursion (Short first) (sent_frames (events_in ps)) =
    each _ _ (sent_frames (events_in ps)) (λ frame l. subst (λ k. length frame ≤ k.max_transmission_unit) one.goods.same l) two.short in
    record {
      short = subst (AllByRecursion (Short first)) (sym (sent_frames-append told (events_in ps)))
          (joined (Short first) (sent_frames told) (sent_frames (events_in ps)) one.short rest);
      goods = record { same = two.goods.same ∙ one.goods.same; good = two.goods.good };
    }

destinations : (m : Medium) (ps : List Piece) → AllByRecursion (IsPart m) ps → AllByRecursion (λ p. IsOf m p.destination) ps
destinations m [] all = tt
destinations m (p ∷ ps) all = (all.0.destination, destinations m ps all.1)

pub run_frames_fit : FramesOfRunsFit
run_frames_fit first last transitions r regular fit =
    let u = run_unfolds r in
    let all = singles_fit u.run u.are_single regular.mtu
    (record { real = regular.real; left = destinations first.capabilities.medium first.left regular.left; fit = fit }) in
    (subst (λ es. AllByRecursion (Short first) (sent_frames es)) u.same_told all.short, all.goods.good.fit)
