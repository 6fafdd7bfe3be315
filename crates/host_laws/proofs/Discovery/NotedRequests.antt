-- The requests for hardware addresses among the frames of a dispatch are those that it notes.
use Rattle.std.proofs.Common.{◌≡◌, ℕ, ◌==◌, true, false, List, [], ◌∷◌, ◌++◌, length, refl, ap, ◌∙◌}
use Rattle.std.specs.Prelude.{map}
use Rattle.std.specs.FinMap as finite
use Rattle.std.specs.List.{AllByRecursion}
use Rattle.net_base.specs.Checksum.{is_tx}
use Rattle.net_base.specs.declared.phy.Medium.{Medium}
use Rattle.net_base.specs.declared.phy.Medium.TheVariants as medium
use Rattle.ip_address.specs.declared.ethernet_address.EthernetAddress.{EthernetAddress}
use Rattle.ip_address.specs.declared.hardware.HardwareAddress.{HardwareAddress}
use Rattle.ip_address.specs.declared.hardware.HardwareAddress.TheVariants as hardware
use Rattle.ip_address.specs.declared.ip.IpAddress.{IpAddress}
use Rattle.ip_address.specs.declared.ip.IpAddress.TheVariants as address
use Rattle.ip_address.specs.declared.ipv4.Ipv4Address.{Ipv4Address}
use Rattle.ip_address.specs.declared.ipv6.Ipv6Address.{Ipv6Address}
use Rattle.ip_address.specs.Hardware.{IsOf}
use Rattle.ip_address.specs.Ipv6.{solicited_node}
use Rattle.ip_address.specs.Protocol.{number_of}
use Rattle.ip_address.proofs.SixOctets.{six}
use Rattle.ip_wire.specs.declared.arp.ArpRepr.{ArpRepr}
use Rattle.ip_wire.specs.declared.arp.ArpOperation.TheVariants as operation
use Rattle.ip_wire.specs.declared.ethernet.EthernetProtocol.TheVariants as protocol
use Rattle.ip_wire.specs.Arp.{ipv4_over_ethernet}
use Rattle.ip_wire.specs.declared.ipv6_packet.Ipv6Repr.{Ipv6Repr}
use Rattle.ip_wire.specs.Ipv6Packet as ipv6_packet
use Rattle.control_wire.specs.declared.icmpv6.Icmpv6Repr.{Icmpv6Repr}
use Rattle.control_wire.specs.declared.icmpv6.Icmpv6Repr.TheVariants as v6
use Rattle.control_wire.specs.declared.ndisc.NdiscRepr.TheVariants.{NeighborSolicit, NeighborAdvert}
use Rattle.control_wire.specs.declared.router.RouterRepr.TheVariants.{RouterSolicit, RouterAdvert}
use Rattle.control_wire.specs.Icmpv6 as icmpv6
use Rattle.control_wire.specs.declared.mld.MldRepr.TheVariants.{Query, Report}
use Rattle.ip_address.specs.AddressSelection.Ipv6.{source_v6}
use Rattle.iface_tables.specs.Neighbor.{answer_of}
use Rattle.iface_tables.specs.declared.neighbor.Answer.TheVariants.{NotFound}
use Rattle.fragmentation.specs.Fragments.{Fragment}
use Rattle.fragmentation.specs.Cuts.{Datagram, Piece, piece_of, pieces_of}
use Rattle.host_machine.specs.Discovery.Ndisc.{solicitation_for}
use Rattle.host_machine.specs.Context.Note.{Note, asks, cut_notes}
use Rattle.host_machine.specs.Context.Host.{Host, with_next_id}
use Rattle.host_machine.specs.Packet.Packet.{Packet, IpPayload, payload_of}
use Rattle.host_machine.specs.Packet.Packet as packet
use Rattle.host_machine.specs.Discovery.Arp.{request_for}
use Rattle.host_machine.specs.Packet.Frame.{arp_frame, ip_frame, link_header, piece_frame, piece_text}
use Rattle.host_machine.specs.Send.Dispatch as dispatch
use Rattle.host_machine.specs.Send.Requests as requests_rules
use Rattle.host_machine.specs.Send.Outcome.{Outcome, IsUnsent}
use Rattle.host_machine.specs.Send.Dispatch.{Emits, DispatchesByHop, DispatchesEthernet, SendsOver, destination_of}
use Rattle.host_machine.specs.Send.Requests.{Discovers}
use Rattle.host_machine.specs.Send.Hops.{group_address_v6}
use Rattle.host_machine.specs.Context.Real.{IsReal}
use Rattle.host_laws.specs.Laws.Requests.{is_request, may_ask, may_ask_v6}
use Rattle.host_laws.specs.Laws.Steps.{SendsOneThing, Nothing, ThePacket, ItsFirstPiece, ARequest, DispatchesSendOneThing}
use Rattle.host_machine.proofs.Send.Reached.{reached_of}
use Rattle.host_laws.proofs.Runs.DiscoverySpacing.{silence_passed}
use Rattle.host_machine.proofs.Send.Reached.{Reached, ByNeighbor, ByGroup, WithoutAddresses}

-- a frame of IP asks for no hardware address
no_request : (H : Host) (own : EthernetAddress) (h : HardwareAddress) (text : List ℕ) →
    H.hardware_addr ≡ hardware.Ethernet own → length own.0 ≡ 6 → IsOf medium.Ethernet h →
    is_request medium.Ethernet (link_header H.hardware_addr h protocol.Ipv4 ++ text) ≡ false
no_request H own (hardware.Ethernet a) text is own_len len = let o6 = six own.0 own_len in let a6 = six a.0 len in rw (is, o6.is, a6.is) refl
no_request H own hardware.Ip text is own_len len = absurd len

no_request_v6 : (H : Host) (own : EthernetAddress) (h : HardwareAddress) (r : Ipv6Repr) (text : List ℕ) →
    H.hardware_addr ≡ hardware.Ethernet own → length own.0 ≡ 6 → IsOf medium.Ethernet h →
    (number_of r.next_header == 58) ≡ false →
    is_request medium.Ethernet (link_header H.hardware_addr h protocol.Ipv6 ++ (ipv6_packet.header_text r ++ text)) ≡ false
unfolding ipv6_packet.header_text
no_request_v6 H own (hardware.Ethernet a) r text is own_len len other = let o6 = six own.0 own_len in
    let a6 = six a.0 len in rw (is, o6.is, a6.is, other) refl
no_request_v6 H own hardware.Ip r text is own_len len other = absurd len

-- nor does a message of ICMPv6 of another type
no_solicitation : (H : Host) (own : EthernetAddress) (h : HardwareAddress) (r : Ipv6Repr) (m : Icmpv6Repr) (sum : ℕ) (body octets : List ℕ) →
    H.hardware_addr ≡ hardware.Ethernet own → length own.0 ≡ 6 →
    IsOf medium.Ethernet h → (number_of r.next_header == 58) ≡ true → (icmpv6.type_of m == 135) ≡ false →
    is_request medium.Ethernet
    (link_header H.hardware_addr h protocol.Ipv6 ++ (ipv6_packet.header_text r ++ ((icmpv6.head_with sum m ++ body) ++ octets))) ≡ false
unfolding ipv6_packet.header_text ipv6_packet.address_text icmpv6.head_with
no_solicitation H own (hardware.Ethernet a) r m sum body octets is own_len len icmp other = let o6 = six own.0 own_len in
    let a6 = six a.0 len in rw (is, o6.is, a6.is, icmp, other) refl
no_solicitation H own hardware.Ip r m sum body octets is own_len len icmp other = absurd len

other_type : (m : Icmpv6Repr) → may_ask_v6 m ≡ false → (icmpv6.type_of m == 135) ≡ false
other_type (v6.Ndisc (NeighborSolicit target lladdr)) e = absurd cc
other_type (v6.Ndisc (NeighborAdvert flags target lladdr)) e = refl
other_type (v6.Router (RouterSolicit lladdr)) e = refl
other_type (v6.Router (RouterAdvert hop_limit flags lifetime lladdr prefix)) e = refl
other_type (v6.Mld (Query code group)) e = refl
other_type (v6.Mld (Report count)) e = refl
other_type (v6.EchoRequest ident seq_no) e = refl
other_type (v6.EchoReply ident seq_no) e = refl
other_type (v6.DstUnreachable reason header) e = refl
other_type (v6.PktTooBig mtu header) e = refl
other_type (v6.TimeExceeded code header) e = refl
other_type (v6.ParamProblem reason pointer header) e = refl

quiet_v6 : (H : Host) (own : EthernetAddress) (h : HardwareAddress) (src dst : Ipv6Address) (hop_limit : ℕ) (payload : IpPayload) →
    H.hardware_addr ≡ hardware.Ethernet own → length own.0 ≡ 6 → IsOf medium.Ethernet h →
    may_ask payload ≡ false → is_request medium.Ethernet
    (ip_frame H h (packet.Ipv6 (record { src_addr = src; dst_addr = dst; hop_limit = hop_limit; payload = payload }))) ≡ false
quiet_v6 H own h src dst hop_limit (packet.Icmpv4 m octets) is len to none = no_request_v6 H own h _ _ is len to refl
quiet_v6 H own h src dst hop_limit (packet.Icmpv6 m octets) is len to none =
    no_solicitation H own h (packet.header_v6 (record { src_addr = src; dst_addr = dst; hop_limit = hop_limit; payload = packet.Icmpv6 m octets })) m
    (icmpv6.sum_of (is_tx H.capabilities.checksum.icmpv6) (address.Ipv6 src) (address.Ipv6 dst) m octets)
    (icmpv6.body m) octets is len to refl (other_type m none)
quiet_v6 H own h src dst hop_limit (packet.Udp header octets) is len to none = no_request_v6 H own h _ _ is len to refl
quiet_v6 H own h src dst hop_limit (packet.Tcp header octets) is len to none = no_request_v6 H own h _ _ is len to refl
quiet_v6 H own h src dst hop_limit (packet.Raw number octets) is len to none = no_request_v6 H own h _ _ is len to none
quiet_v6 H own h src dst hop_limit (packet.Igmp m) is len to none = no_request_v6 H own h _ _ is len to refl
quiet_v6 H own h src dst hop_limit (packet.Mld count records) is len to none = no_request_v6 H own h _ _ is len to refl

quiet_ethernet : (H : Host) (own : EthernetAddress) (h : HardwareAddress) (p : Packet) →
    H.hardware_addr ≡ hardware.Ethernet own → length own.0 ≡ 6 → IsOf medium.Ethernet h →
    may_ask (payload_of p) ≡ false → is_request medium.Ethernet (ip_frame H h p) ≡ false
quiet_ethernet H own h (packet.Ipv4 p) is len to none = no_request H own h _ is len to
quiet_ethernet H own h (packet.Ipv6 p) is len to none = quiet_v6 H own h p.src_addr p.dst_addr p.hop_limit p.payload is len to none

-- a packet that asks for no neighbour goes in a frame that doesn't; nor does a piece
pub quiet_packet : (m : Medium) (H : Host) (hw h : HardwareAddress) (p : Packet) →
    H.hardware_addr ≡ hw → IsOf m hw → IsOf m h → may_ask (payload_of p) ≡ false → is_request m (ip_frame H h p) ≡ false
quiet_packet medium.Ethernet H (hardware.Ethernet own) h p is len to none = quiet_ethernet H own h p is len to none
quiet_packet medium.Ethernet H hardware.Ip h p is len to none = absurd len
quiet_packet medium.Ip H hw h p is len to none = refl

pub quiet_piece : (m : Medium) (H : Host) (hw : HardwareAddress) (p : Piece) →
    H.hardware_addr ≡ hw → IsOf m hw → IsOf m p.destination → is_request m (piece_frame H p) ≡ false
quiet_piece medium.Ethernet H (hardware.Ethernet own) p is len to = no_request H own p.destination (piece_text H.capabilities p) is len to
quiet_piece medium.Ethernet H hardware.Ip p is len to = absurd len
quiet_piece medium.Ip H hw p is len to = refl

-- nor does an ARP reply
reply_of_arp : (r : ArpRepr) → length r.source_hardware_addr.0 ≡ 6 → length r.target_hardware_addr.0 ≡ 6 → r.operation ≡ operation.Reply →
    is_request medium.Ethernet (arp_frame r) ≡ false
unfolding ipv4_over_ethernet
reply_of_arp r own to reply = let o6 = six r.source_hardware_addr.0 own in let t6 = six r.target_hardware_addr.0 to in rw (o6.is, t6.is, reply) refl

pub quiet_reply : (m : Medium) (r : ArpRepr) → IsOf m (hardware.Ethernet r.source_hardware_addr) → IsOf m (hardware.Ethernet r.target_hardware_addr) →
    r.operation ≡ operation.Reply → is_request m (arp_frame r) ≡ false
quiet_reply medium.Ethernet r own to reply = reply_of_arp r own to reply
quiet_reply medium.Ip r own to reply = refl

-- the pieces of a packet go where it goes
destinations_are : (m : Medium) (d : Datagram) (fs : List Fragment) →
    IsOf m d.destination → AllByRecursion (λ (p : Piece). IsOf m p.destination) (map (piece_of d) fs)
destinations_are m d [] to = tt
destinations_are m d (f ∷ fs) to = (to, destinations_are m d fs to)

pub pieces_go : (m : Medium) (d : Datagram) (pieces : List Piece) →
    pieces_of d ≡ pieces → IsOf m d.destination → AllByRecursion (λ (p : Piece). IsOf m p.destination) pieces
pieces_go m d pieces is to = rw (← is) (destinations_are m d _ to)

-- the frame of a request does
a_request : (own : EthernetAddress) (source target : Ipv4Address) →
    length own.0 ≡ 6 → is_request medium.Ethernet (arp_frame (request_for own source target)) ≡ true
unfolding ipv4_over_ethernet
a_request own source target len = let o6 = six own.0 len in rw o6.is refl

a_solicitation : (H : Host) (own : EthernetAddress) (source target : Ipv6Address) → H.hardware_addr ≡ hardware.Ethernet own → length own.0 ≡ 6 →
    is_request medium.Ethernet (ip_frame H (hardware.Ethernet (group_address_v6 (solicited_node target))) (solicitation_for own source target)) ≡ true
unfolding ipv6_packet.header_text ipv6_packet.address_text icmpv6.head_with
a_solicitation H own source target is len = let o6 = six own.0 len in rw (is, o6.is) refl

-- an address of Ethernet has six octets on whatever medium
six_of : (m : Medium) (own : EthernetAddress) → IsOf m (hardware.Ethernet own) → length own.0 ≡ 6
six_of medium.Ethernet own is = is
six_of medium.Ip own is = absurd is

-- and it is one of Ethernet's medium
ethernet_is : (m : Medium) (own : EthernetAddress) → IsOf m (hardware.Ethernet own) → m ≡ medium.Ethernet
ethernet_is medium.Ethernet own is = refl
ethernet_is medium.Ip own is = absurd is

-- each dispatch sends one thing
one_unsent : {p : Packet} {outcome : Outcome} {H H' new : Host} {frames : List (List ℕ)} {notes : List Note} →
    IsUnsent H' frames notes new → SendsOneThing p outcome H frames notes
one_unsent u = Nothing u.silent (ap asks u.unnoted) (ap cut_notes u.unnoted)

module _ (p : Packet) (outcome : Outcome) (H new : Host) (frames : List (List ℕ)) (real : IsReal (with_next_id H)) where
  one_emitted : {h : HardwareAddress} {more : List Note} →
      Reached (with_next_id H) h → Emits H.ipv4_id p h outcome (with_next_id H) frames more new → SendsOneThing p outcome H frames more
  one_emitted {h} r (dispatch.Whole fits formed o f n e) = ThePacket h (reached_of (with_next_id H) h real r) o f (ap asks n) (ap cut_notes n)
  one_emitted {h} r (dispatch.InPieces q first rest of long short pieces fits formed o f n e) =
      ItsFirstPiece h q first rest (reached_of (with_next_id H) h real r) of pieces o f (ap asks n) (ap cut_notes n)
  one_emitted r (dispatch.TooLong long longer o u) = one_unsent u

  one_discovered : {own : EthernetAddress} {hop : IpAddress} {more : List Note} →
      H.hardware_addr ≡ hardware.Ethernet own → IsOf H.capabilities.medium (hardware.Ethernet own) → answer_of H.neighbors hop H.moment ≡ NotFound →
      Discovers own hop outcome (with_next_id H) frames more new → SendsOneThing p outcome H frames more
  one_discovered {own} {hop} mine is unknown (requests_rules.Asked target source h s o f n e) =
      let asks_it : is_request H.capabilities.medium (arp_frame (request_for own source target)) ≡ true =
      rw (ethernet_is H.capabilities.medium own is) (a_request own source target (six_of H.capabilities.medium own is)) in
      ARequest _ asks_it (silence_passed (finite.get H.neighbors.known hop) H.neighbors.silent_until H.moment unknown) o f
      (ap asks n) (ap cut_notes n)
  one_discovered mine is unknown (requests_rules.NoSource target h s o u) = one_unsent u
  one_discovered {own} {hop} mine is unknown (requests_rules.Solicited target h o f n e) =
      let asks_it : is_request H.capabilities.medium
      (ip_frame H (hardware.Ethernet (group_address_v6 (solicited_node target))) (solicitation_for own (source_v6 H.ip_addrs target) target)) ≡ true =
      rw (ethernet_is H.capabilities.medium own is)
      (a_solicitation H own (source_v6 H.ip_addrs target) target mine (six_of H.capabilities.medium own is)) in
      ARequest _ asks_it (silence_passed (finite.get H.neighbors.known hop) H.neighbors.silent_until H.moment unknown) o f
      (ap asks n) (ap cut_notes n)

  one_by_hop : {own : EthernetAddress} {hop : IpAddress} {more : List Note} →
      H.hardware_addr ≡ hardware.Ethernet own → IsOf H.capabilities.medium (hardware.Ethernet own) →
      DispatchesByHop H.ipv4_id own p hop outcome (with_next_id H) frames more new → SendsOneThing p outcome H frames more
  one_by_hop {own} {hop} mine is (dispatch.Known h k e) = one_emitted (ByNeighbor hop k) e
  one_by_hop mine is (dispatch.Silent s o u) = one_unsent u
  one_by_hop mine is (dispatch.Unknown u d) = one_discovered mine is u d

  one_ethernet : {own : EthernetAddress} {more : List Note} → H.hardware_addr ≡ hardware.Ethernet own →
      IsOf H.capabilities.medium (hardware.Ethernet own) → DispatchesEthernet H.ipv4_id own p outcome (with_next_id H) frames more new →
      SendsOneThing p outcome H frames more
  one_ethernet {own} mine is (dispatch.ToMulticast h m e) = one_emitted (ByGroup own (destination_of p) h mine m refl) e
  one_ethernet mine is (dispatch.NoHop m n o u) = one_unsent u
  one_ethernet mine is (dispatch.ByHop hop m n s) = one_by_hop mine is s

  one_over : (h : HardwareAddress) {more : List Note} → H.hardware_addr ≡ h → IsOf H.capabilities.medium h →
      SendsOver H.ipv4_id h p outcome (with_next_id H) frames more new → SendsOneThing p outcome H frames more
  one_over (hardware.Ethernet own) mine is s = one_ethernet mine is s
  one_over hardware.Ip mine is s = one_emitted (WithoutAddresses mine refl) s

-- the identification that it takes is noted before
one_identified : {p : Packet} {outcome : Outcome} {H : Host} {frames : List (List ℕ)} {notes more : List Note} →
    asks notes ≡ asks more → cut_notes notes ≡ cut_notes more → SendsOneThing p outcome H frames more → SendsOneThing p outcome H frames notes
one_identified a c (Nothing f x y) = Nothing f (a ∙ x) (c ∙ y)
one_identified a c (ThePacket h to o f x y) = ThePacket h to o f (a ∙ x) (c ∙ y)
one_identified a c (ItsFirstPiece h q first rest to of pieces o f x y) = ItsFirstPiece h q first rest to of pieces o f (a ∙ x) (c ∙ y)
one_identified a c (ARequest frame is silent o f x y) = ARequest frame is silent o f (a ∙ x) (c ∙ y)

pub sends_one : DispatchesSendOneThing
sends_one p outcome H new frames notes real (dispatch.ToUnspecified n o u) = one_unsent u
sends_one p outcome H new frames notes real (dispatch.ToSpecified more s d n) =
    one_identified (ap asks n) (ap cut_notes n)
    (one_over p outcome H new frames (record { own = real.own; neighbors = real.neighbors }) H.hardware_addr refl real.own d)
