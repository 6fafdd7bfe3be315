-- A law on what is noted, from the leaves of a step to whole runs.
use Rattle.std.proofs.Common.{◌≡◌, ℕ, List, [], ◌∷◌, ◌++◌, refl, ap, subst, Option, Some, None, arith}
use Rattle.std.proofs.lemmas.Bool.Decides.{nat_tests}
use Rattle.std.proofs.lemmas.List.{append-nil}
use Rattle.std.specs.Prelude.{ℤ, Bool, true, false, if◌then◌else◌}
use Rattle.net_base.specs.Device.{Event, Reception, Frame, Nothing, Withheld, Received, Asked, Sent, sent_frames}
use Rattle.ip_address.specs.declared.cidr.IpCidr.{IpCidr}
use Rattle.ip_address.specs.declared.ethernet_address.EthernetAddress.{EthernetAddress}
use Rattle.ip_wire.specs.declared.ethernet.EthernetProtocol.{EthernetProtocol}
use Rattle.ip_wire.specs.declared.ethernet.EthernetProtocol.TheVariants as protocol
use Rattle.ip_address.specs.declared.hardware.HardwareAddress.{HardwareAddress}
use Rattle.ip_address.specs.declared.hardware.HardwareAddress.TheVariants as hardware
use Rattle.host_machine.specs.declared.command.Command.{Command}
use Rattle.host_machine.specs.declared.command.Answer.{Answer}
use Rattle.ip_address.specs.declared.ip.IpAddress.{IpAddress}
use Rattle.ip_wire.specs.declared.ipv4_packet.Ipv4Repr.{Ipv4Repr}
use Rattle.ip_wire.specs.declared.ipv4_packet.Ipv4Fragment.{Ipv4Fragment}
use Rattle.iface_tables.specs.declared.neighbor.Answer.TheVariants.{Found, NotFound}
use Rattle.ip_address.specs.declared.ip.IpAddress.TheVariants.{Ipv6}
use Rattle.ip_address.specs.declared.ipv6.Ipv6Address.{Ipv6Address}
use Rattle.ip_address.specs.Ipv6 as ipv6
use Rattle.ip_address.specs.Ipv6.{solicited_node}
use Rattle.ip_address.specs.AddressSelection.Ipv6.{source_v6}
use Rattle.host_machine.specs.Discovery.Ndisc.{solicitation_for}
use Rattle.iface_tables.specs.Neighbor.{answer_of}
use Rattle.host_machine.specs.declared.results.PollIngressSingleResult.{PollIngressSingleResult}
use Rattle.host_machine.specs.declared.results.PollResult.{PollResult}
use Rattle.host_machine.specs.declared.results.Turn.{Turn}
use Rattle.ip_wire.specs.declared.arp.ArpRepr.{ArpRepr}
use Rattle.ip_address.specs.declared.ipv4.Ipv4Address.{Ipv4Address}
use Rattle.fragmentation.specs.Fragments.{Fragment}
use Rattle.fragmentation.specs.declared.key.FragKey.{FragKey}
use Rattle.fragmentation.specs.Cuts.{Piece, pieces_of, HasForm}
use Rattle.host_machine.specs.Receive.Reassembly.{TakesFragment}
use Rattle.ip_address.specs.Hardware.{IsOf}
use Rattle.host_laws.proofs.Context.MediumAddresses.{filled_of, arp_source_of}
use Rattle.host_machine.specs.Context.Note.{Note, OfDiscovery, OfIdentification, OfCuts, Ask, Identify, Cut, PieceSent}
use Rattle.iface_tables.specs.declared.groups.Group.{Group}
use Rattle.iface_tables.specs.declared.groups.GroupState.{GroupState}
use Rattle.host_machine.specs.Multicast.Joins as multicast
use Rattle.host_machine.specs.Context.Settings.{without_neighbors}
use Rattle.host_machine.specs.Multicast.Igmp as igmp
use Rattle.host_machine.specs.Multicast.Mld as mld
use Rattle.host_machine.specs.Multicast.Igmp.{IgmpEgress}
use Rattle.host_machine.specs.Multicast.Mld.{MldEgress}
use Rattle.host_machine.specs.Discovery.RouterSolicitation as slaac
use Rattle.host_machine.specs.Discovery.RouterSolicitation.{NdiscRsEgress}
use Rattle.host_machine.specs.Context.Autoconfiguration.{with_slaac_applied}
use Rattle.iface_tables.specs.Slaac.{sync_required}
use Rattle.host_laws.proofs.Multicast.GroupChanges.{join_groups, leave_groups}
use Rattle.host_machine.specs.Context.Host.{Host, Socket, at, without_expired, with_groups, with_left, with_neighbors, with_next_id}
use Rattle.host_machine.specs.Packet.Packet.{Packet, PacketV4}
use Rattle.host_machine.specs.Receive.Reply.{Reply, Arp, Ip, IsDropped}
use Rattle.host_machine.specs.Packet.Frame.{arp_frame, ip_frame, piece_frame}
use Rattle.host_machine.specs.Discovery.Arp.{ProcessesArp, request_for}
use Rattle.host_machine.specs.Discovery.Arp as arp
use Rattle.host_machine.specs.Receive.Ipv4.{ProcessesDatagram, ProcessesPacket, ProcessesIpv4}
use Rattle.host_machine.specs.Receive.Ipv6.{ProcessesIpv6}
use Rattle.host_machine.specs.Receive.Ipv4 as ipv4
use Rattle.host_machine.specs.Receive.Ethernet.{ProcessesEthertype, ProcessesEthernet, ProcessesFrame}
use Rattle.host_machine.specs.Receive.Ethernet as ethernet
use Rattle.host_machine.specs.Send.Outcome.{Outcome, IsUnsent}
use Rattle.host_machine.specs.Send.Dispatch.{Emits, DispatchesByHop, DispatchesEthernet, SendsOver, Dispatches, destination_of}
use Rattle.host_machine.specs.Send.Requests.{Discovers, with_silence}
use Rattle.host_machine.specs.Send.Hops.{group_address_v6, multicast_hardware_addr}
use Rattle.host_machine.specs.Context.Pieces.{datagram_of}
use Rattle.host_machine.specs.Send.Dispatch as dispatch
use Rattle.host_machine.specs.Send.Requests as requests_rules
use Rattle.host_machine.specs.Receive.Response.{Responds}
use Rattle.host_machine.specs.Interface.Ingress.{Takes, Ingress}
use Rattle.host_machine.specs.Sockets.Turns.{SocketTurn, Serves, Walks, SocketEgress}
use Rattle.host_machine.specs.Send.Fragments.{Ipv4Egress}
use Rattle.host_machine.specs.Interface.Egress.{Round, Egress}
use Rattle.host_machine.specs.Interface.Parts.{Part}
use Rattle.host_machine.specs.Interface.Polling.{Polls, after_maintenance}
use Rattle.host_laws.proofs.Receive.Malformed.{sent_frames-sends}
use Rattle.host_laws.proofs.Context.UnchangedFields.{Keeps, emptied, rest_of, kept, kept_by, unread}
use Rattle.host_laws.proofs.Receive.PacketEffects.{IsPlain, whole_plain, ipv6_plain}
use Rattle.host_laws.proofs.Interface.PollCalls.{both, polled}
use Rattle.host_machine.specs.Sockets.Turns as turns
use Rattle.host_machine.specs.Send.Fragments as fragments_rules
use Rattle.host_machine.specs.Interface.Step.{Act, Step, Accepted, Refused, Taken, NotTaken, WithinDay, OverDay}
use Rattle.host_machine.specs.Interface.Step as step
use Rattle.host_machine.specs.Interface.Run.{Transition, Run, Ends, Then, notes_in, events_in}
use Rattle.host_machine.proofs.Send.Reached.{Reached, ByNeighbor, ByGroup, WithoutAddresses}

-- a solicited-node group is one of many
pub solicited_multicast : (own : List IpCidr) (target : Ipv6Address) →
    multicast_hardware_addr own (Ipv6 (solicited_node target)) ≡ Some (group_address_v6 (solicited_node target))
solicited_multicast own target =
    let group : ipv6.is_multicast (solicited_node target) ≡ true = grind (arith, nat_tests) in
    rw group refl

pub sent_frames-append : (xs ys : List Event) → sent_frames (xs ++ ys) ≡ sent_frames xs ++ sent_frames ys
sent_frames-append [] ys = refl
sent_frames-append (Received t r ∷ xs) ys = sent_frames-append xs ys
sent_frames-append (Asked t b ∷ xs) ys = sent_frames-append xs ys
sent_frames-append (Sent id f ∷ xs) ys = ap (λ fs. f ∷ fs) (sent_frames-append xs ys)

-- A law on the frames that are sent and on what is noted is given by its leaves. Of each: where what it reads stays, and nothing is
-- sent or noted; and where one part follows another.
module _ (Law : Host → List (List ℕ) → List Note → Host → Type 0)
    (keeps : (old new : Host) → Keeps old new → Law old [] [] new)
    (on : (a b c : Host) (fs gs : List (List ℕ)) (xs ys : List Note) → Law a fs xs b → Law b gs ys c → Law a (fs ++ gs) (xs ++ ys) c) where
  keeping : {old new : Host} {frames : List (List ℕ)} {notes : List Note} → frames ≡ [] → notes ≡ [] → Keeps old new → Law old frames notes new
  keeping {old} {new} f e k = rw (f, e) (keeps old new k)

  -- a step after one that keeps what the law reads, and before one
  after : {old mid new : Host} {frames : List (List ℕ)} {notes : List Note} → Keeps old mid → Law mid frames notes new → Law old frames notes new
  after {old} {mid} {new} {frames} {notes} k law = on old mid new [] frames [] notes (keeps old mid k) law

  before : {old mid new : Host} {frames : List (List ℕ)} {notes : List Note} → Law old frames notes mid → Keeps mid new → Law old frames notes new
  before {old} {mid} {new} {frames} {notes} law k =
      subst (λ ns. Law old frames ns new) (append-nil notes)
      (subst (λ fs. Law old fs (notes ++ []) new) (append-nil frames) (on old mid new frames [] notes [] law (keeps mid new k)))

  -- the same by what the device tells
  abbrev EventLaw : Part
  EventLaw old told notes new = Law old (sent_frames told) notes new

  begins : (H : Host) → EventLaw H [] [] H
  begins H = keeping refl refl (kept refl)

  follows : (a b c : Host) (ts us : List Event) (xs ys : List Note) → EventLaw a ts xs b → EventLaw b us ys c → EventLaw a (ts ++ us) (xs ++ ys) c
  follows a b c ts us xs ys one two = rw sent_frames-append (on a b c (sent_frames ts) (sent_frames us) xs ys one two)

  pub dropped : {H new : Host} {reply : Option Reply} {notes : List Note} → IsDropped H reply notes new → Law H [] notes new
  dropped d = keeping refl d.unnoted (kept d.unchanged)

  pub arp_taken : {own : EthernetAddress} {H new : Host} {payload : List ℕ} {reply : Option Reply} {notes : List Note} →
      H.hardware_addr ≡ hardware.Ethernet own → ProcessesArp own H payload reply notes new → Law H [] notes new
  arp_taken mine (arp.Malformed m d) = dropped d
  arp_taken mine (arp.NotForUs a l d) = dropped d
  arp_taken {own = own} {H = H} {payload = payload} mine (arp.Learnt a l learns r n) = keeping refl n (kept_by learns.same (record {
    same = ap (λ n. rest_of (record H { neighbors = n })) (emptied learns.filled);
    real = λ r.
        let there : IsOf H.capabilities.medium (hardware.Ethernet own) = rw mine at r.own in
        record {
          own = r.own;
          neighbors = filled_of H.capabilities.medium _ _ _ _ (arp_source_of H.capabilities.medium own payload there a) learns.filled r.neighbors;
        };
  }))

  -- what is plain
  plain : {H new : Host} {reply : Option Reply} {notes : List Note} → IsPlain H reply notes new → Law H [] notes new
  plain p = keeping refl p.unnoted p.keeps

  pub whole_taken : {source : HardwareAddress} {r : Ipv4Repr} {H new : Host} {payload : List ℕ} {reply : Option Reply} {notes : List Note} →
      ProcessesDatagram source r H payload reply notes new → Law H [] notes new
  whole_taken t = plain (whole_plain t)

  pub ipv6_taken : {source : HardwareAddress} {H new : Host} {octets : List ℕ} {reply : Option Reply} {notes : List Note} →
      ProcessesIpv6 source H octets reply notes new → Law H [] notes new
  ipv6_taken t = plain (ipv6_plain t)

  -- of receiving: where a fragment comes
  module _ (fragments : (H : Host) (key : FragKey) (f : Fragment) (result : Option (List ℕ)) (notes : List Note) (new : Host) →
      TakesFragment key f result H notes new → Law H [] notes new) where
    packet_taken : {source : HardwareAddress} {r : Ipv4Repr} {f : Ipv4Fragment} {H new : Host} {payload : List ℕ}
        {reply : Option Reply} {notes : List Note} →
        ProcessesPacket source r f H payload reply notes new → Law H [] notes new
    packet_taken (ipv4.FromNoHost s d) = dropped d
    packet_taken {source} {r} {f} {H} {new} {payload} {reply} {notes} (ipv4.Part s g t e) = fragments H _ _ None notes new t
    packet_taken {source} {r} {f} {H} {new} {payload} {reply} {notes} (ipv4.Completed octets mid first rest s g t w n) =
        rw n (on H mid new [] [] first rest (fragments H _ _ (Some octets) first mid t) (whole_taken w))
    packet_taken (ipv4.Whole s g t) = whole_taken t

    ipv4_taken : {source : HardwareAddress} {H new : Host} {octets : List ℕ} {reply : Option Reply} {notes : List Note} →
        ProcessesIpv4 source H octets reply notes new → Law H [] notes new
    ipv4_taken (ipv4.Malformed m d) = dropped d
    ipv4_taken (ipv4.Read i t) = packet_taken t

    payload_taken : (own source : EthernetAddress) (H : Host) (p : EthernetProtocol) (payload : List ℕ)
        (reply : Option Reply) (notes : List Note) (new : Host) →
        H.hardware_addr ≡ hardware.Ethernet own → ProcessesEthertype own source H p payload reply notes new → Law H [] notes new
    payload_taken own source H protocol.Arp payload reply notes new mine t = arp_taken mine t
    payload_taken own source H protocol.Ipv4 payload reply notes new mine t = ipv4_taken t
    payload_taken own source H protocol.Ipv6 payload reply notes new mine t = ipv6_taken t
    payload_taken own source H (protocol.Unknown n) payload reply notes new mine t = dropped t

    ethernet_taken : {own : EthernetAddress} {H new : Host} {frame : List ℕ} {reply : Option Reply} {notes : List Note} →
        H.hardware_addr ≡ hardware.Ethernet own → ProcessesEthernet own H frame reply notes new → Law H [] notes new
    ethernet_taken mine (ethernet.Malformed m d) = dropped d
    ethernet_taken mine (ethernet.NotForUs l f d) = dropped d
    ethernet_taken {own} {H} {new} {frame} {reply} {notes} mine (ethernet.Accepted l f t) = payload_taken own _ H _ _ reply notes new mine t

    frame_taken : (h : HardwareAddress) (H : Host) (frame : List ℕ) (reply : Option Reply) (notes : List Note) (new : Host) →
        H.hardware_addr ≡ h → ProcessesFrame h H frame reply notes new → Law H [] notes new
    frame_taken (hardware.Ethernet own) H frame reply notes new mine t = ethernet_taken mine t
    frame_taken hardware.Ip H frame reply notes new mine (ethernet.Ipv4 v t) = ipv4_taken t
    frame_taken hardware.Ip H frame reply notes new mine (ethernet.Ipv6 v t) = ipv6_taken t
    frame_taken hardware.Ip H frame reply notes new mine (ethernet.OtherVersion v w d) = dropped d

    pub taken : (H : Host) (r : Reception) (reply : Option Reply) (notes : List Note) (new : Host) → Takes H r reply notes new → Law H [] notes new
    taken H Nothing reply notes new t = dropped t
    taken H Withheld reply notes new t = dropped t
    taken H (Frame []) reply notes new t = dropped t
    taken H (Frame (octet ∷ octets)) reply notes new t = frame_taken H.hardware_addr H (octet ∷ octets) reply notes new refl t

  -- of sending: where an unknown neighbour is asked for; where an identification is taken; where a packet goes whole; and where one is cut
  module _ (requests : (H : Host) (own : EthernetAddress) (source target : Ipv4Address) →
      H.hardware_addr ≡ hardware.Ethernet own → Law H (arp_frame (request_for own source target) ∷ []) [] H)
      (asked : (H : Host) (hop : IpAddress) → answer_of H.neighbors hop H.moment ≡ NotFound →
      Law H [] (OfDiscovery (Ask H.moment) ∷ []) (with_neighbors H (with_silence H.neighbors H)))
      (identifies : (H : Host) → Law H [] (OfIdentification (Identify H.ipv4_id) ∷ []) (with_next_id H))
      (whole : (H : Host) (h : HardwareAddress) (p : Packet) → Reached H h → Law H (ip_frame H h p ∷ []) [] H)
      (cuts : (H : Host) (h : HardwareAddress) (id : ℕ) (p : PacketV4) (first : Piece) (rest : List Piece) →
      pieces_of (datagram_of H h id p) ≡ first ∷ rest → HasForm (datagram_of H h id p) → Reached H h →
      Law H (piece_frame H first ∷ []) (OfCuts (Cut (datagram_of H h id p)) ∷ OfCuts (PieceSent first) ∷ []) (with_left H rest)) where
    unsent : {H new : Host} {frames : List (List ℕ)} {notes : List Note} → IsUnsent H frames notes new → Law H frames notes new
    unsent u = keeping u.silent u.unnoted (kept u.unchanged)

    emitted : {id : ℕ} {p : Packet} {h : HardwareAddress} {outcome : Outcome} {H new : Host} {frames : List (List ℕ)} {notes : List Note} →
        Reached H h → Emits id p h outcome H frames notes new → Law H frames notes new
    emitted {id} {p} {h} {outcome} {H} {new} {frames} {notes} r (dispatch.Whole fits formed o f n e) = rw (f, n, e) (whole H h p r)
    emitted {id} {p} {h} {outcome} {H} {new} {frames} {notes} r (dispatch.InPieces q first rest is long fits pieces form formed o f n e) =
        rw (f, n, e) (cuts H h id q first rest pieces form r)
    emitted r (dispatch.TooLong long longer o u) = unsent u

    abbrev solicitation : Host → EthernetAddress → Ipv6Address → List ℕ
    solicitation H own target =
        ip_frame H (hardware.Ethernet (group_address_v6 (solicited_node target))) (solicitation_for own (source_v6 H.ip_addrs target) target)

    to_group : (H : Host) (own : EthernetAddress) (target : Ipv6Address) →
        H.hardware_addr ≡ hardware.Ethernet own → Reached (with_next_id H) (hardware.Ethernet (group_address_v6 (solicited_node target)))
    to_group H own target mine =
        ByGroup own (Ipv6 (solicited_node target)) (group_address_v6 (solicited_node target)) mine (solicited_multicast H.ip_addrs target) refl

    discovered : {own : EthernetAddress} {hop : IpAddress} {outcome : Outcome} {H new : Host} {frames : List (List ℕ)} {notes : List Note} →
        H.hardware_addr ≡ hardware.Ethernet own → answer_of H.neighbors hop H.moment ≡ NotFound →
        Discovers own hop outcome H frames notes new → Law H frames notes new
    discovered {own} {hop} {outcome} {H} {new} {frames} {notes} mine unknown (requests_rules.Asked target source h s o f n e) =
        rw (f, n, e) (on H H (with_neighbors H (with_silence H.neighbors H)) (arp_frame (request_for own source target) ∷ []) [] []
        (OfDiscovery (Ask H.moment) ∷ []) (requests H own source target mine) (asked H hop unknown))
    discovered mine unknown (requests_rules.NoSource target h s o u) = unsent u
    discovered {own} {hop} {outcome} {H} {new} {frames} {notes} mine unknown (requests_rules.Solicited target h o f n e) =
        rw (f, n, e) (on H (with_next_id H) (with_neighbors (with_next_id H) (with_silence H.neighbors H)) [] (solicitation H own target ∷ [])
        (OfIdentification (Identify H.ipv4_id) ∷ []) (OfDiscovery (Ask H.moment) ∷ []) (identifies H)
        (on (with_next_id H) (with_next_id H) (with_neighbors (with_next_id H) (with_silence H.neighbors H))
        (solicitation H own target ∷ []) [] [] (OfDiscovery (Ask H.moment) ∷ [])
        (whole (with_next_id H) (hardware.Ethernet (group_address_v6 (solicited_node target)))
        (solicitation_for own (source_v6 H.ip_addrs target) target) (to_group H own target mine)) (asked (with_next_id H) hop unknown)))

    sent_by_hop : {id : ℕ} {own : EthernetAddress} {p : Packet} {hop : IpAddress} {outcome : Outcome} {H new : Host}
        {frames : List (List ℕ)} {notes : List Note} →
        H.hardware_addr ≡ hardware.Ethernet own → DispatchesByHop id own p hop outcome H frames notes new → Law H frames notes new
    sent_by_hop {hop = hop} mine (dispatch.Known h k e) = emitted (ByNeighbor hop k) e
    sent_by_hop mine (dispatch.Silent s o u) = unsent u
    sent_by_hop mine (dispatch.Unknown u d) = discovered mine u d

    sent_over_ethernet : {id : ℕ} {own : EthernetAddress} {p : Packet} {outcome : Outcome} {H new : Host}
        {frames : List (List ℕ)} {notes : List Note} →
        H.hardware_addr ≡ hardware.Ethernet own → DispatchesEthernet id own p outcome H frames notes new → Law H frames notes new
    sent_over_ethernet {own = own} {p = p} mine (dispatch.ToMulticast h m e) = emitted (ByGroup own (destination_of p) h mine m refl) e
    sent_over_ethernet mine (dispatch.NoHop m n o u) = unsent u
    sent_over_ethernet mine (dispatch.ByHop hop m n s) = sent_by_hop mine s

    sent_over : (id : ℕ) (h : HardwareAddress) (p : Packet) (outcome : Outcome) (H : Host) (frames : List (List ℕ)) (notes : List Note) (new : Host) →
        H.hardware_addr ≡ h → SendsOver id h p outcome H frames notes new → Law H frames notes new
    sent_over id (hardware.Ethernet own) p outcome H frames notes new mine s = sent_over_ethernet mine s
    sent_over id hardware.Ip p outcome H frames notes new mine s = emitted (WithoutAddresses mine refl) s

    pub dispatched : {p : Packet} {outcome : Outcome} {H new : Host} {frames : List (List ℕ)} {notes : List Note} →
        Dispatches p outcome H frames notes new → Law H frames notes new
    dispatched (dispatch.ToUnspecified n o u) = unsent u
    dispatched {p} {outcome} {H} {new} {frames} {notes} (dispatch.ToSpecified more s d n) =
        rw n (on H (with_next_id H) new [] frames (OfIdentification (Identify H.ipv4_id) ∷ []) more (identifies H)
        (sent_over H.ipv4_id H.hardware_addr p outcome (with_next_id H) frames more new refl d))

    -- of a call that sends: where a piece that was left goes
    module _ (pieces : (H : Host) (p : Piece) (rest : List Piece) →
        H.left ≡ p ∷ rest → Law H (piece_frame H p ∷ []) (OfCuts (PieceSent p) ∷ []) (with_left H rest)) where
      had_turn : {s s' : Socket} {turn : Turn} {H new : Host} {told : List Event} {notes : List Note} →
          SocketTurn s turn s' H told notes new → Law H (sent_frames told) notes new
      had_turn (turns.Silent p t o n e r) = keeping (ap sent_frames o) n (kept e)
      had_turn (turns.Refused p q t o n e r) = keeping (ap sent_frames o) n (kept e)
      had_turn (turns.Sent p outcome frames q d t o r) = rw (o, sent_frames-sends frames) (dispatched d)

      served : {i : ℕ} {turn : Turn} {H new : Host} {told : List Event} {notes : List Note} →
          Serves i turn H told notes new → Law H (sent_frames told) notes new
      served (turns.Free s t o n e) = keeping (ap sent_frames o) n (kept e)
      served (turns.Waits s known h k p t o n e) = keeping (ap sent_frames o) n (kept e)
      served {i} {turn} {H} {new} {told} {notes} (turns.Served s s' known mid h k p t e) =
          before (had_turn t) (kept_by e (unread refl refl))

      walked : {old new : Host} {n : ℕ} {granted changed : Bool} {told : List Event} {notes : List Note} →
          Walks old n granted changed told notes new → Law old (sent_frames told) notes new
      walked turns.Begins = keeping refl refl (kept refl)
      walked {old} {new} (turns.Goes {told_so = told_so} {notes_so = so} {mid = mid} turn told notes _ w s t) =
          rw sent_frames-append (on old mid new (sent_frames told_so) (sent_frames told) so notes (walked w) (served s))
      walked {old} {new} (turns.Stops {told_so = told_so} {notes_so = so} {mid = mid} turn told notes _ w s t) =
          rw sent_frames-append (on old mid new (sent_frames told_so) (sent_frames told) so notes (walked w) (served s))

      sockets_sent : {old new : Host} {changed : Bool} {told : List Event} {notes : List Note} →
          SocketEgress old changed told notes new → Law old (sent_frames told) notes new
      sockets_sent (turns.Whole w) = walked w
      sockets_sent (turns.Stopped n w) = walked w

      piece_sent : {H new : Host} {told : List Event} {notes : List Note} → Ipv4Egress H told notes new → Law H (sent_frames told) notes new
      piece_sent (fragments_rules.NoPiece l t n e) = keeping (ap sent_frames t) n (kept e)
      piece_sent (fragments_rules.NotGranted piece rest l t n e) = keeping (ap sent_frames t) n (kept e)
      piece_sent {H} {new} {told} {notes} (fragments_rules.PieceGoes piece rest l t n e) = rw (t, n, e) (pieces H piece rest l)

      -- groups that are told of
      groups_reported : {state : GroupState} {packet_for : List IpCidr → IpAddress → Option Packet}
          {after_report : List Group → IpAddress → List Group} {old new : Host} {granted : Bool} {told : List Event} {notes : List Note} →
          multicast.ReportsEach state packet_for after_report old granted told notes new → Law old (sent_frames told) notes new
      groups_reported multicast.Begins = keeping refl refl (kept refl)
      groups_reported (multicast.Silently a w f p) = before (groups_reported w) (unread refl refl)
      groups_reported (multicast.Refused {told = told} a p w f q) = rw (sent_frames-append, append-nil) (groups_reported w)
      groups_reported {after_report = after_report} {old = old}
          (multicast.Reported {told = told} {notes = notes} {mid = mid} a p outcome frames more new w f q d) =
          rw (sent_frames-append, sent_frames-sends frames) (on old mid (with_groups new (after_report new.groups a))
          (sent_frames told) frames notes more (groups_reported w) (before (dispatched d) (unread refl refl)))

      all_told : {state : GroupState} {packet_for : List IpCidr → IpAddress → Option Packet} {after_report : List Group → IpAddress → List Group}
          {old new : Host} {told : List Event} {notes : List Note} →
          multicast.ReportsAll state packet_for after_report old told notes new → Law old (sent_frames told) notes new
      all_told (multicast.All w n) = groups_reported w
      all_told (multicast.UpToRefusal w) = groups_reported w

      igmp_sent : {H new : Host} {told : List Event} {notes : List Note} → IgmpEgress H told notes new → Law H (sent_frames told) notes new
      igmp_sent (igmp.NotDue h t n e) = keeping (ap sent_frames t) n (kept e)
      igmp_sent (igmp.NoFurtherGroup h g t n e) = keeping (ap sent_frames t) n (kept_by e (unread refl refl))
      igmp_sent (igmp.NoAddress next h g a t n e) = keeping (ap sent_frames t) n (kept e)
      igmp_sent (igmp.NotGranted p h r t n e) = keeping (ap sent_frames t) n (kept e)
      igmp_sent (igmp.Sent p outcome frames mid h r d t e) =
          rw (t, sent_frames-sends frames) (before (dispatched d) (kept_by e (unread refl refl)))

      routers_solicited : {H new : Host} {told : List Event} {notes : List Note} → NdiscRsEgress H told notes new → Law H (sent_frames told) notes new
      routers_solicited (slaac.NotDue d t n e) = keeping (ap sent_frames t) n (kept e)
      routers_solicited (slaac.NotGranted p d t n e) = keeping (ap sent_frames t) n (kept e)
      routers_solicited (slaac.Goes p outcome frames mid h d t e) =
          rw (t, sent_frames-sends frames) (before (dispatched d) (kept_by e (unread refl refl)))

      mld_sent : {H new : Host} {told : List Event} {notes : List Note} → MldEgress H told notes new → Law H (sent_frames told) notes new
      mld_sent (mld.NotYet h t n e) = keeping (ap sent_frames t) n (kept e)
      mld_sent (mld.GivenUp h t n e) = keeping (ap sent_frames t) n (kept_by e (unread refl refl))
      mld_sent (mld.ReportGoes outcome frames mid h d t e) =
          rw (t, sent_frames-sends frames) (before (dispatched d) (kept_by e (unread refl refl)))

      -- each part of a round, in order
      round : {changed : Bool} {old new : Host} {told : List Event} {notes : List Note} →
          Round changed old told notes new → Law old (sent_frames told) notes new
      round {changed} {old} {new} {told} {notes} r = both EventLaw begins follows (λ o n t ns p. piece_sent p)
          (both EventLaw begins follows (λ o n t ns p. routers_solicited p)
          (both EventLaw begins follows (λ o n t ns p. all_told p)
          (both EventLaw begins follows (λ o n t ns p. all_told p)
          (both EventLaw begins follows (λ o n t ns p. igmp_sent p)
          (both EventLaw begins follows (λ o n t ns p. mld_sent p) (λ o n t ns p. sockets_sent p)))))) old new told notes r

      pub egressed : {t : ℤ} {answer : PollResult} {old new : Host} {told : List Event} {notes : List Note} →
          Egress t answer old told notes new → Law old (sent_frames told) notes new
      egressed e = after (unread refl refl) (round e.round)

    -- of a call that polls: where slots that have ended are dropped; and where an ARP reply goes
    module _ (sweeps : (H : Host) (t : ℤ) → Law H [] [] (without_expired H t))
        (fragments : (H : Host) (key : FragKey) (f : Fragment) (result : Option (List ℕ)) (notes : List Note) (new : Host) →
        TakesFragment key f result H notes new → Law H [] notes new)
        (pieces : (H : Host) (p : Piece) (rest : List Piece) →
        H.left ≡ p ∷ rest → Law H (piece_frame H p ∷ []) (OfCuts (PieceSent p) ∷ []) (with_left H rest))
        (answers : (H : Host) (r : ArpRepr) → Law H (arp_frame r ∷ []) [] H) where
      responded : (reply : Option Reply) (H : Host) (frames : List (List ℕ)) (notes : List Note) (new : Host) →
          Responds reply H frames notes new → Law H frames notes new
      responded None H frames notes new r = keeping r.0 r.1 (kept r.2)
      responded (Some (Arp packet)) H frames notes new r = rw (r.0, r.1, r.2) (answers H packet)
      responded (Some (Ip packet)) H frames notes new r = dispatched r.1

      pub ingress : {t : ℤ} {answer : PollIngressSingleResult} {old new : Host} {told : List Event} {notes : List Note} →
          Ingress t answer old told notes new → Law old (sent_frames told) notes new
      ingress {t} {answer} {old} {new} {told} {notes} i =
          let r = i.response in
          rw (i.events, r.all_notes, sent_frames-sends i.frames)
          (on old (without_expired old t) new [] i.frames [] (r.notes_taking ++ r.notes_responding) (sweeps old t)
          (on (without_expired old t) r.taken new [] i.frames r.notes_taking r.notes_responding
          (taken fragments (without_expired old t) i.reception r.reply r.notes_taking r.taken r.takes)
          (responded r.reply r.taken i.frames r.notes_responding new r.responds)))

      -- of whole runs: where the host gets another hardware address; where it gets other addresses, and forgets its neighbours; and where
      -- it gets another timeout
      module _ (sets : (H : Host) (h : HardwareAddress) → Law H [] [] (record H { hardware_addr = h }))
          (moves : (H : Host) (list : List IpCidr) → Law H [] [] (record H { ip_addrs = list; neighbors = without_neighbors H.neighbors }))
          (lasts : (H : Host) (timeout : ℕ) → Law H [] [] (record H { reassembly_timeout = timeout })) where
        same : {old new : Host} → rest_of new ≡ rest_of old → new.neighbors ≡ old.neighbors → Law old [] [] new
        same e n = keeping refl refl (unread e n)

        syncs : (H : Host) (b : Bool) → Law H [] [] (if b then with_slaac_applied H else H)
        syncs H true = before (moves H _) (unread refl refl)
        syncs H false = begins H

        maintains : (H : Host) (t : ℤ) → Law H [] [] (after_maintenance (at H t))
        maintains H t =
            on H (without_expired H t) (after_maintenance (at H t)) [] [] [] [] (sweeps H t) (syncs (without_expired H t) (sync_required H.slaac t))

        polls : {t : ℤ} {budget : ℕ} {answer : PollResult} {old new : Host} {told : List Event} {notes : List Note} →
            Polls t budget answer old told notes new → Law old (sent_frames told) notes new
        polls {t} p = polled EventLaw begins follows t (λ H. maintains H t) (λ answer old new told notes i. ingress i)
            (λ answer old new told notes e. egressed pieces e) p

        pub stepped : {command : Command} {answer : Answer} {old new : Host} {told : List Event} {acts : List Act} {notes : List Note} →
            Step command answer old told acts notes new → Law old (sent_frames told) notes new
        stepped {old = old} (step.UpdatedIpAddrs {list = list} (Accepted a r e)) = rw e (before (moves old list.items) (unread refl refl))
        stepped (step.UpdatedIpAddrs (Refused a r e)) = keeping refl refl (kept e)
        stepped (step.PolledIngressSingle i) = ingress i
        stepped (step.PolledEgress e) = egressed pieces e
        stepped (step.Polled p) = polls p
        stepped (step.PolledMaintenance {t} {old}) = maintains old t
        stepped (step.JoinedGroup j) = let g = join_groups j in rw g.1 (same refl refl)
        stepped (step.LeftGroup j) = let g = leave_groups j in rw g.1 (same refl refl)
        stepped {old = old} (step.TookHardwareAddr {h = h} (Taken a of r e)) = rw e (sets old h)
        stepped (step.TookHardwareAddr (NotTaken error a r e)) = keeping refl refl (kept e)
        stepped {old = old} (step.TookReassemblyTimeout {timeout = timeout} (WithinDay l r e)) = rw e (lasts old timeout)
        stepped (step.TookReassemblyTimeout (OverDay l r e)) = keeping refl refl (kept e)
        stepped other = same refl refl

        pub walk : {first last : Host} {transitions : List Transition} →
            Run first transitions last → Law first (sent_frames (events_in transitions)) (notes_in transitions) last
        walk Ends = keeping refl refl (kept refl)
        walk (Then {told = told} {notes = notes} {transitions = ps} s r) =
            rw sent_frames-append (on _ _ _ (sent_frames told) (sent_frames (events_in ps)) notes (notes_in ps) (stepped s) (walk r))
