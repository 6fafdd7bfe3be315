-- A law on what the device tells and on what is noted, from whole dispatches to whole steps.
use Rattle.std.proofs.Common.{◌≡◌, ℕ, List, [], ◌∷◌, ◌++◌, refl, sym, ◌∙◌, ap, subst, Option, Some, None}
use Rattle.std.proofs.lemmas.List.{append-nil}
use Rattle.std.proofs.lemmas.Bool.Decides.{nat_tests}
use Rattle.std.specs.Prelude.{ℤ, Bool, true, false, ◌==◌, cond, slice_get, slice_set, if◌then◌else◌}
use Rattle.std.specs.Option.{option_and_then, option_map}
use Rattle.std.proofs.Common.{arith}
use Rattle.net_base.specs.Device.{Event, Asked}
use Rattle.ip_address.specs.declared.cidr.IpCidr.{IpCidr}
use Rattle.ip_address.specs.declared.ethernet_address.EthernetAddress.{EthernetAddress}
use Rattle.ip_address.specs.declared.hardware.HardwareAddress.{HardwareAddress}
use Rattle.ip_address.specs.declared.hardware.HardwareAddress.TheVariants as hardware
use Rattle.ip_address.specs.Hardware.{IsOf}
use Rattle.ip_address.specs.declared.ip.IpAddress.{IpAddress}
use Rattle.ip_address.specs.declared.ip.IpAddress.TheVariants as address
use Rattle.ip_address.specs.declared.ipv4.Ipv4Address.{Ipv4Address}
use Rattle.ip_address.specs.declared.ipv6.Ipv6Address.{Ipv6Address}
use Rattle.ip_address.specs.Protocol.{number_of}
use Rattle.ip_address.specs.declared.protocol.IpProtocol.{IpProtocol}
use Rattle.ip_wire.specs.declared.ip_packet.IpRepr.{IpRepr}
use Rattle.ip_wire.specs.declared.ip_packet.IpRepr.TheVariants as repr
use Rattle.ip_wire.specs.IpPacket.{next_header}
use Rattle.control_wire.specs.declared.icmp.IcmpRepr.{IcmpRepr}
use Rattle.control_wire.specs.declared.icmp.IcmpRepr.TheVariants as icmp
use Rattle.control_wire.specs.declared.icmpv4.Icmpv4Repr.TheVariants as v4
use Rattle.control_wire.specs.declared.icmpv6.Icmpv6Repr.TheVariants as v6
use Rattle.control_wire.specs.declared.igmp.IgmpRepr.{IgmpRepr}
use Rattle.control_wire.specs.declared.igmp.IgmpVersion.{IgmpVersion}
use Rattle.iface_tables.specs.declared.groups.Group.{Group}
use Rattle.iface_tables.specs.declared.groups.GroupState.{GroupState}
use Rattle.sockets.specs.declared.socket.SocketOf.TheVariants.{Raw, Icmp, Udp, Tcp}
use Rattle.sockets.specs.Kinds.{RawOffer, IcmpOffer, UdpOffer, TcpOffer}
use Rattle.sockets.specs.Queue.{first_of}
use Rattle.sockets.specs.Raw.{RawSocket, Sent, if_spoken, packet_in}
use Rattle.sockets.specs.Raw as raw
use Rattle.sockets.specs.Icmp as icmp_socket
use Rattle.sockets.specs.Udp as udp_socket
use Rattle.sockets.specs.Tcp as tcp_socket
use Rattle.fragmentation.specs.Cuts.{Piece}
use Rattle.host_machine.specs.declared.command.Command.{Command}
use Rattle.host_machine.specs.declared.command.Answer.{Answer}
use Rattle.host_machine.specs.declared.results.PollIngressSingleResult.{PollIngressSingleResult}
use Rattle.host_machine.specs.declared.results.PollResult.{PollResult}
use Rattle.host_machine.specs.declared.results.Turn.{Turn}
use Rattle.iface_tables.specs.Slaac.{sync_required, rs_required, rs_sent}
use Rattle.host_machine.specs.Context.Addresses.{ipv4_addr, link_local_addr, source_for}
use Rattle.host_machine.specs.Context.Note.{Note, OfCuts, PieceSent}
use Rattle.host_machine.specs.Context.Host.{Host, Socket, SocketSet, at, without_expired, with_left, with_groups, with_next_id, with_slaac}
use Rattle.host_machine.specs.Packet.Packet.{Packet, IpPayload, packet_with, payload_of}
use Rattle.host_machine.specs.Packet.Packet as packet
use Rattle.host_machine.specs.Packet.Frame.{piece_frame, sends}
use Rattle.host_machine.specs.Send.Outcome.{Outcome, IsUnsent}
use Rattle.host_machine.specs.Send.Dispatch.{Emits, DispatchesByHop, DispatchesEthernet, SendsOver, Dispatches}
use Rattle.host_machine.specs.Send.Requests.{Discovers}
use Rattle.host_machine.specs.Send.Dispatch as dispatch
use Rattle.host_machine.specs.Send.Requests as requests
use Rattle.host_machine.specs.Interface.Ingress.{Ingress}
use Rattle.host_machine.specs.Multicast.Igmp as igmp_rules
use Rattle.host_machine.specs.Multicast.Joins as joins
use Rattle.host_machine.specs.Context.Settings.{without_neighbors}
use Rattle.host_machine.specs.Multicast.Igmp.{igmp_packet, IgmpEgress, next_group, next_report}
use Rattle.host_machine.specs.Multicast.Joins.{join_packet, leave_packet}
use Rattle.host_machine.specs.Multicast.Igmp as igmp_rules
use Rattle.host_machine.specs.Multicast.Mld as mld
use Rattle.host_machine.specs.Multicast.Mld.{MldEgress}
use Rattle.host_machine.specs.Discovery.RouterSolicitation as slaac
use Rattle.host_machine.specs.Discovery.RouterSolicitation.{NdiscRsEgress, due_solicitation, router_solicitation, solicitation_by, solicitation_from}
use Rattle.host_machine.specs.Context.Autoconfiguration.{with_slaac_applied}
use Rattle.host_machine.specs.Sockets.Turns.{SocketTurn, Serves, Walks, SocketEgress}
use Rattle.host_machine.specs.Send.Fragments.{Ipv4Egress}
use Rattle.host_machine.specs.Interface.Egress.{Round, Egress}
use Rattle.host_machine.specs.Sockets.Offers.{packet_between, packet_of, packet_from}
use Rattle.host_machine.specs.Sockets.Icmp.{echo_payload}
use Rattle.host_machine.specs.Sockets.Turns as turns
use Rattle.host_machine.specs.Send.Fragments as fragments
use Rattle.host_machine.specs.Interface.Parts.{Part}
use Rattle.host_machine.specs.Interface.Polling.{after_maintenance}
use Rattle.host_laws.specs.Laws.Requests.{may_ask, speaks_icmpv6, NoSocketSpeaks}
use Rattle.host_machine.specs.Interface.Step.{Step, Accepted, Refused, Taken, NotTaken, WithinDay, OverDay}
use Rattle.host_machine.specs.Interface.Step as step
use Rattle.host_laws.proofs.Multicast.GroupChanges.{join_groups, leave_groups}
use Rattle.host_laws.proofs.Context.SolicitationCount.{count_of}
use Rattle.host_laws.proofs.Context.UnchangedFields.{Keeps, kept, kept_by, unread}
use Rattle.host_laws.proofs.Interface.PollCalls.{both, polled}
use Rattle.host_laws.proofs.Interface.OwnMessages.{is_own, is_usual, may_solicit, own_asks, usual_own, usual_quiet}
use Rattle.host_laws.proofs.Sockets.RawProtocols.{NoSpeaker, speaks, get_speaks, set_speaks, asked_speaks, told_speaks}

-- the number of ICMPv6
abbrev icmpv6 : ℕ → Bool
icmpv6 n = n == 58

-- where a packet comes from that a host dispatches by itself: it has a message of the host's own, or a socket offers it; or it is the
-- solicitation of routers that is due
pub data IsUsual (H : Host) (p : Packet) : Type 0 where
  OfItsOwn : is_usual (payload_of p) ≡ true → IsUsual H p
  Offers : (i : ℕ) (s : Socket) → slice_get H.sockets.places i ≡ Some (Some s) → packet_from H s ≡ Some p → IsUsual H p

pub data MaySend (H : Host) (p : Packet) : Type 0 where
  Usually : IsUsual H p → MaySend H p
  ToRouters : due_solicitation H ≡ Some p → MaySend H p

-- a packet between two addresses carries what it is to
pub between_is : (a b : IpAddress) (hop_limit : ℕ) (payload : IpPayload) (p : Packet) →
    packet_between a b hop_limit payload ≡ Some p → payload_of p ≡ payload
between_is (address.Ipv4 a) (address.Ipv4 b) hop_limit payload p e =
    let same : packet.Ipv4 (record { src_addr = a; dst_addr = b; hop_limit = hop_limit; payload = payload }) ≡ p = cc in rw (← same) refl
between_is (address.Ipv4 a) (address.Ipv6 b) hop_limit payload p e = absurd cc
between_is (address.Ipv6 a) (address.Ipv4 b) hop_limit payload p e = absurd cc
between_is (address.Ipv6 a) (address.Ipv6 b) hop_limit payload p e =
    let same : packet.Ipv6 (record { src_addr = a; dst_addr = b; hop_limit = hop_limit; payload = payload }) ≡ p = cc in rw (← same) refl

-- what ICMP and TCP sockets offer is a usual message of the host's own
echo_is : (m : IcmpRepr) (octets : List ℕ) (payload : IpPayload) → echo_payload m octets ≡ Some payload → is_usual payload ≡ true
echo_is (icmp.Ipv4 (v4.EchoRequest ident seq_no)) octets payload e = let same : packet.Icmpv4 (v4.EchoRequest ident seq_no) octets ≡ payload = cc in
    rw (← same) refl
echo_is (icmp.Ipv4 (v4.EchoReply ident seq_no)) octets payload e = let same : packet.Icmpv4 (v4.EchoReply ident seq_no) octets ≡ payload = cc in
    rw (← same) refl
echo_is (icmp.Ipv4 (v4.DstUnreachable reason header)) octets payload e = absurd cc
echo_is (icmp.Ipv4 (v4.TimeExceeded code header)) octets payload e = absurd cc
echo_is (icmp.Ipv6 (v6.EchoRequest ident seq_no)) octets payload e = let same : packet.Icmpv6 (v6.EchoRequest ident seq_no) octets ≡ payload = cc in
    rw (← same) refl
echo_is (icmp.Ipv6 (v6.EchoReply ident seq_no)) octets payload e = let same : packet.Icmpv6 (v6.EchoReply ident seq_no) octets ≡ payload = cc in
    rw (← same) refl
echo_is (icmp.Ipv6 (v6.DstUnreachable reason header)) octets payload e = absurd cc
echo_is (icmp.Ipv6 (v6.PktTooBig mtu header)) octets payload e = absurd cc
echo_is (icmp.Ipv6 (v6.TimeExceeded code header)) octets payload e = absurd cc
echo_is (icmp.Ipv6 (v6.ParamProblem reason pointer header)) octets payload e = absurd cc
echo_is (icmp.Ipv6 (v6.Ndisc message)) octets payload e = absurd cc
echo_is (icmp.Ipv6 (v6.Router message)) octets payload e = absurd cc
echo_is (icmp.Ipv6 (v6.Mld message)) octets payload e = absurd cc

icmp_between : (m : icmp_socket.Sent) (o : Option IpPayload) (p : Packet) → ((payload : IpPayload) → o ≡ Some payload → is_usual payload ≡ true) →
    option_and_then (packet_between m.src_addr m.dst_addr m.hop_limit) o ≡ Some p → is_usual (payload_of p) ≡ true
icmp_between m None p all e = absurd cc
icmp_between m (Some payload) p all e = rw (between_is m.src_addr m.dst_addr m.hop_limit payload p e) (all payload refl)

icmp_usual : (o : Option icmp_socket.Sent) (p : Packet) → option_and_then packet_of (option_map IcmpOffer o) ≡ Some p → is_usual (payload_of p) ≡ true
icmp_usual None p e = absurd cc
icmp_usual (Some m) p e = icmp_between m (echo_payload m.repr m.payload) p (λ payload is. echo_is m.repr m.payload payload is) e

tcp_usual : (o : Option tcp_socket.Sent) (p : Packet) → option_and_then packet_of (option_map TcpOffer o) ≡ Some p → is_usual (payload_of p) ≡ true
tcp_usual None p e = absurd cc
tcp_usual (Some s) p e = rw (between_is s.src_addr s.dst_addr s.hop_limit _ p e) refl

pub icmp_is : (o : Option icmp_socket.Sent) (p : Packet) → option_and_then packet_of (option_map IcmpOffer o) ≡ Some p → is_own (payload_of p) ≡ true
icmp_is o p e = usual_own (payload_of p) (icmp_usual o p e)

pub tcp_is : (o : Option tcp_socket.Sent) (p : Packet) → option_and_then packet_of (option_map TcpOffer o) ≡ Some p → is_own (payload_of p) ≡ true
tcp_is o p e = usual_own (payload_of p) (tcp_usual o p e)

udp_is : (o : Option udp_socket.Datagram) (p : Packet) → option_and_then packet_of (option_map UdpOffer o) ≡ Some p → may_ask (payload_of p) ≡ false
udp_is None p e = absurd cc
udp_is (Some d) p e = rw (between_is d.src.addr d.dst.addr d.hop_limit _ p e) refl

udp_quiet : (o : Option udp_socket.Datagram) (p : Packet) → option_and_then packet_of (option_map UdpOffer o) ≡ Some p →
    may_solicit (payload_of p) ≡ false
udp_quiet None p e = absurd cc
udp_quiet (Some d) p e = rw (between_is d.src.addr d.dst.addr d.hop_limit _ p e) refl

-- what a raw socket offers is of its protocol
pub record IsRaw (s : RawSocket) (p : Packet) : Type 0 where
  pub protocol : IpProtocol
  pub octets : List ℕ
  pub is : payload_of p ≡ packet.Raw protocol octets
  pub same : number_of protocol ≡ number_of s.protocol

raw_is : (h : IpRepr) (octets : List ℕ) → payload_of (packet_with h (packet.Raw (next_header h) octets)) ≡ packet.Raw (next_header h) octets
raw_is (repr.Ipv4 h) octets = refl
raw_is (repr.Ipv6 h) octets = refl

spoken_is : (s : RawSocket) (x : Sent) (p : Packet) → option_and_then packet_of (option_map RawOffer (if_spoken s x)) ≡ Some p → IsRaw s p
spoken_is s x p e = by (number_of s.protocol == number_of (next_header x.header)) refl e where
  by : (b : Bool) → (number_of s.protocol == number_of (next_header x.header)) ≡ b →
      option_and_then packet_of (option_map RawOffer (cond b (Some x) None)) ≡ Some p → IsRaw s p
  by true test q =
      let same : packet_with x.header (packet.Raw (next_header x.header) x.payload) ≡ p = cc in
      let number : number_of s.protocol ≡ number_of (next_header x.header) = grind (arith, nat_tests) in
      record { protocol = next_header x.header; octets = x.payload; is = ap payload_of (sym same) ∙ raw_is x.header x.payload; same = sym number }
  by false test q = absurd cc

parsed_is : (s : RawSocket) (o : Option Sent) (p : Packet) →
    option_and_then packet_of (option_map RawOffer (option_and_then (if_spoken s) o)) ≡ Some p → IsRaw s p
parsed_is s None p e = absurd cc
parsed_is s (Some x) p e = spoken_is s x p e

pub first_is : (s : RawSocket) (o : Option (Unit {0} × List ℕ)) (p : Packet) →
    option_and_then packet_of (option_map RawOffer (option_and_then (λ q. raw.packet_to_send s q.1) o)) ≡ Some p → IsRaw s p
first_is s None p e = absurd cc
first_is s (Some q) p e = parsed_is s (packet_in s.version q.1) p e

-- what sockets offer asks for no neighbour, but for raw sockets that speak ICMPv6
offered_is : (H : Host) (s : Socket) (p : Packet) → packet_from H s ≡ Some p → speaks_icmpv6 (Some s) ≡ false → may_ask (payload_of p) ≡ false
offered_is H (Raw s) p e other = let r = first_is s (first_of s.tx.packets) p e in rw (r.is, r.same) other
offered_is H (Icmp s) p e other = own_asks (payload_of p) (icmp_is (icmp_socket.offered_packet (source_for H.ip_addrs) s) p e)
offered_is H (Udp s) p e other = udp_is (udp_socket.offered_packet (source_for H.ip_addrs) s) p e
offered_is H (Tcp s) p e other = own_asks (payload_of p) (tcp_is (tcp_socket.offered_packet H.moment (source_for H.ip_addrs) s) p e)

-- nor does it solicit a router
offered_quiet : (H : Host) (s : Socket) (p : Packet) → packet_from H s ≡ Some p → speaks_icmpv6 (Some s) ≡ false → may_solicit (payload_of p) ≡ false
offered_quiet H (Raw s) p e other = let r = first_is s (first_of s.tx.packets) p e in rw (r.is, r.same) other
offered_quiet H (Icmp s) p e other = usual_quiet (payload_of p) (icmp_usual (icmp_socket.offered_packet (source_for H.ip_addrs) s) p e)
offered_quiet H (Udp s) p e other = udp_quiet (udp_socket.offered_packet (source_for H.ip_addrs) s) p e
offered_quiet H (Tcp s) p e other = usual_quiet (payload_of p) (tcp_usual (tcp_socket.offered_packet H.moment (source_for H.ip_addrs) s) p e)

usual_is : (H : Host) (p : Packet) → NoSocketSpeaks H → IsUsual H p → may_ask (payload_of p) ≡ false
usual_is H p none (OfItsOwn is) = own_asks (payload_of p) (usual_own (payload_of p) is)
usual_is H p none (Offers i s there offers) = offered_is H s p offers (get_speaks icmpv6 H.sockets.places i (Some s) there none)

pub sent_quiet : (H : Host) (p : Packet) → NoSocketSpeaks H → IsUsual H p → may_solicit (payload_of p) ≡ false
sent_quiet H p none (OfItsOwn is) = usual_quiet (payload_of p) is
sent_quiet H p none (Offers i s there offers) = offered_quiet H s p offers (get_speaks icmpv6 H.sockets.places i (Some s) there none)

-- reports of groups are usual messages of the host's own
igmp_usual : (own : List IpCidr) (dst : Ipv4Address) (m : IgmpRepr) (p : Packet) → igmp_packet own dst m ≡ Some p → is_usual (payload_of p) ≡ true
igmp_usual own dst m p e = by (ipv4_addr own) e where
  by : (o : Option Ipv4Address) →
      option_map (λ src. packet.Ipv4 (record { src_addr = src; dst_addr = dst; hop_limit = 1; payload = packet.Igmp m })) o ≡ Some p →
      is_usual (payload_of p) ≡ true
  by None q = absurd cc
  by (Some src) q = let same : packet.Ipv4 (record { src_addr = src; dst_addr = dst; hop_limit = 1; payload = packet.Igmp m }) ≡ p = cc in
      rw (← same) refl

same_test : (test : IpPayload → Bool) (p q : Packet) → test (payload_of p) ≡ true → Some p ≡ Some q → test (payload_of q) ≡ true
same_test test p q is e = let same : p ≡ q = cc in rw (← same) is

join_usual : (own : List IpCidr) (a : IpAddress) (p : Packet) → join_packet own a ≡ Some p → is_usual (payload_of p) ≡ true
join_usual own (address.Ipv4 a) p e = igmp_usual own a _ p e
join_usual own (address.Ipv6 a) p e = same_test is_usual _ p refl e

leave_usual : (own : List IpCidr) (a : IpAddress) (p : Packet) → leave_packet own a ≡ Some p → is_usual (payload_of p) ≡ true
leave_usual own (address.Ipv4 a) p e = igmp_usual own igmp_rules.all_routers _ p e
leave_usual own (address.Ipv6 a) p e = same_test is_usual _ p refl e

report_usual : (H : Host) (p : Packet) → next_report H ≡ Some p → is_usual (payload_of p) ≡ true
report_usual H p e = by (next_group H H.igmp_report) e where
  by : (o : Option (IgmpVersion × Ipv4Address)) →
      option_and_then (λ n. igmp_rules.igmp_report H.ip_addrs n.0 n.1) o ≡ Some p → is_usual (payload_of p) ≡ true
  by None q = absurd cc
  by (Some n) q = igmp_usual H.ip_addrs n.1 _ p q

pub join_is : (own : List IpCidr) (a : IpAddress) (p : Packet) → join_packet own a ≡ Some p → is_own (payload_of p) ≡ true
join_is own a p e = usual_own (payload_of p) (join_usual own a p e)

pub leave_is : (own : List IpCidr) (a : IpAddress) (p : Packet) → leave_packet own a ≡ Some p → is_own (payload_of p) ≡ true
leave_is own a p e = usual_own (payload_of p) (leave_usual own a p e)

pub report_is : (H : Host) (p : Packet) → next_report H ≡ Some p → is_own (payload_of p) ≡ true
report_is H p e = usual_own (payload_of p) (report_usual H p e)

-- a solicitation of routers is of the host's own, too
pub solicitation_is : (H : Host) (p : Packet) → due_solicitation H ≡ Some p → is_own (payload_of p) ≡ true
solicitation_is H p e = due (rs_required H.slaac H.moment) e where
  from : (own : EthernetAddress) (o : Option Ipv6Address) →
      option_and_then (λ source. Some (solicitation_from own source)) o ≡ Some p → is_own (payload_of p) ≡ true
  from own None q = absurd cc
  from own (Some source) q = same_test is_own (solicitation_from own source) p refl q

  on_medium : (h : HardwareAddress) → solicitation_by h H.ip_addrs ≡ Some p → is_own (payload_of p) ≡ true
  on_medium (hardware.Ethernet own) q = from own (link_local_addr H.ip_addrs) q
  on_medium hardware.Ip q = absurd cc

  enabled : (b : Bool) → (if b then solicitation_by H.hardware_addr H.ip_addrs else None) ≡ Some p → is_own (payload_of p) ≡ true
  enabled true q = on_medium H.hardware_addr q
  enabled false q = absurd cc

  due : (b : Bool) → (if b then router_solicitation H else None) ≡ Some p → is_own (payload_of p) ≡ true
  due true q = enabled H.slaac_enabled q
  due false q = absurd cc

pub sent_is : (H : Host) (p : Packet) → NoSocketSpeaks H → MaySend H p → may_ask (payload_of p) ≡ false
sent_is H p none (Usually usual) = usual_is H p none usual
sent_is H p none (ToRouters due) = own_asks (payload_of p) (solicitation_is H p due)

-- a dispatch leaves the sockets
unsent_sockets : {H new : Host} {frames : List (List ℕ)} {notes : List Note} → IsUnsent H frames notes new → new.sockets ≡ H.sockets
unsent_sockets u = ap (λ (K : Host). K.sockets) u.unchanged

emitted_sockets : {id : ℕ} {p : Packet} {h : HardwareAddress} {outcome : Outcome} {H new : Host} {frames : List (List ℕ)} {notes : List Note} →
    Emits id p h outcome H frames notes new → new.sockets ≡ H.sockets
emitted_sockets (dispatch.Whole fits formed o f n e) = ap (λ (K : Host). K.sockets) e
emitted_sockets (dispatch.InPieces q first rest is long short pieces fits formed o f n e) = ap (λ (K : Host). K.sockets) e
emitted_sockets (dispatch.TooLong long longer o u) = unsent_sockets u

discovered_sockets : {own : EthernetAddress} {hop : IpAddress} {outcome : Outcome} {H new : Host} {frames : List (List ℕ)} {notes : List Note} →
    Discovers own hop outcome H frames notes new → new.sockets ≡ H.sockets
discovered_sockets (requests.Asked target source h s o f n e) = ap (λ (K : Host). K.sockets) e
discovered_sockets (requests.NoSource target h s o u) = unsent_sockets u
discovered_sockets (requests.Solicited target h o f n e) = ap (λ (K : Host). K.sockets) e

by_hop_sockets : {id : ℕ} {own : EthernetAddress} {p : Packet} {hop : IpAddress} {outcome : Outcome} {H new : Host}
    {frames : List (List ℕ)} {notes : List Note} →
    DispatchesByHop id own p hop outcome H frames notes new → new.sockets ≡ H.sockets
by_hop_sockets (dispatch.Known h k e) = emitted_sockets e
by_hop_sockets (dispatch.Silent s o u) = unsent_sockets u
by_hop_sockets (dispatch.Unknown u d) = discovered_sockets d

ethernet_sockets : {id : ℕ} {own : EthernetAddress} {p : Packet} {outcome : Outcome} {H new : Host} {frames : List (List ℕ)} {notes : List Note} →
    DispatchesEthernet id own p outcome H frames notes new → new.sockets ≡ H.sockets
ethernet_sockets (dispatch.ToMulticast h m e) = emitted_sockets e
ethernet_sockets (dispatch.NoHop m n o u) = unsent_sockets u
ethernet_sockets (dispatch.ByHop hop m n s) = by_hop_sockets s

over_sockets : (id : ℕ) (h : HardwareAddress) (p : Packet) (outcome : Outcome) (H : Host) (frames : List (List ℕ)) (notes : List Note) (new : Host) →
    SendsOver id h p outcome H frames notes new → new.sockets ≡ H.sockets
over_sockets id (hardware.Ethernet own) p outcome H frames notes new s = ethernet_sockets s
over_sockets id hardware.Ip p outcome H frames notes new s = emitted_sockets s

pub dispatched_sockets : {p : Packet} {outcome : Outcome} {H new : Host} {frames : List (List ℕ)} {notes : List Note} →
    Dispatches p outcome H frames notes new → new.sockets ≡ H.sockets
dispatched_sockets (dispatch.ToUnspecified n o u) = unsent_sockets u
dispatched_sockets {p} {outcome} {H} {new} {frames} {notes} (dispatch.ToSpecified more s d n) =
    over_sockets H.ipv4_id H.hardware_addr p outcome (with_next_id H) frames more new d

-- and a turn leaves what its socket speaks
pub turn_sockets : {s s' : Socket} {turn : Turn} {H new : Host} {told_it : List Event} {notes : List Note} →
    SocketTurn s turn s' H told_it notes new → new.sockets ≡ H.sockets
turn_sockets (turns.Silent p t o n e r) = ap (λ (K : Host). K.sockets) e
turn_sockets (turns.Refused p q t o n e r) = ap (λ (K : Host). K.sockets) e
turn_sockets (turns.Sent p outcome frames q d t o r) = dispatched_sockets d

turn_speaks : (spoken : ℕ → Bool) {s s' : Socket} {turn : Turn} {H new : Host} {told_it : List Event} {notes : List Note} →
    SocketTurn s turn s' H told_it notes new →
    speaks spoken (Some s') ≡ speaks spoken (Some s)
turn_speaks spoken {s} {s'} {turn} {H} (turns.Silent p t o n e r) = rw r (asked_speaks spoken H.moment (source_for H.ip_addrs) s)
turn_speaks spoken {s} {s'} {turn} {H} (turns.Refused p q t o n e r) = rw r (asked_speaks spoken H.moment (source_for H.ip_addrs) s)
turn_speaks spoken {s} {s'} {turn} {H} (turns.Sent p outcome frames q d t o r) =
    rw (r, told_speaks spoken) (asked_speaks spoken H.moment (source_for H.ip_addrs) s)

pub served_speaks : (spoken : ℕ → Bool) (i : ℕ) {s s' : Socket} {turn : Turn} {H mid : Host} {told_it : List Event} {notes : List Note} →
    slice_get H.sockets.places i ≡ Some (Some s) →
    SocketTurn s turn s' H told_it notes mid → NoSpeaker spoken mid.sockets.places → NoSpeaker spoken (slice_set mid.sockets.places i (Some s'))
served_speaks spoken i {s} {s'} {turn} {H} {mid} there t none =
    let at_mid : slice_get mid.sockets.places i ≡ Some (Some s) = rw (turn_sockets t) there in
    set_speaks spoken mid.sockets.places i (Some s') (rw (turn_speaks spoken t) (get_speaks spoken mid.sockets.places i (Some s) at_mid none)) none

-- A law is given by its leaves. Of each: where what it reads stays, and nothing is told or noted; where one part follows another; where leave is
-- refused; where a packet is dispatched; where the solicitation of routers that is due is, and counts as sent; and where a piece that was left
-- goes.
module _ (Law : Part)
    (keeps : (old new : Host) → Keeps old new → count_of new ≡ count_of old → (NoSocketSpeaks old → NoSocketSpeaks new) → Law old [] [] new)
    (on : (a b c : Host) (ts us : List Event) (xs ys : List Note) → Law a ts xs b → Law b us ys c → Law a (ts ++ us) (xs ++ ys) c)
    (refused : (H : Host) → Law H (Asked H.moment false ∷ []) [] H)
    (dispatches : (p : Packet) (outcome : Outcome) (H new : Host) (frames : List (List ℕ)) (notes : List Note) →
    IsUsual H p → Dispatches p outcome H frames notes new →
    Law H (Asked H.moment true ∷ sends frames) notes new)
    (solicits : (p : Packet) (outcome : Outcome) (H mid : Host) (frames : List (List ℕ)) (notes : List Note) →
    due_solicitation H ≡ Some p → Dispatches p outcome H frames notes mid →
    Law H (Asked H.moment true ∷ sends frames) notes (with_slaac mid (rs_sent mid.slaac mid.moment)))
    (pieces : (H : Host) (p : Piece) (rest : List Piece) →
    H.left ≡ p ∷ rest → Law H (Asked H.moment true ∷ sends (piece_frame H p ∷ [])) (OfCuts (PieceSent p) ∷ []) (with_left H rest)) where
  keeping : {old new : Host} {told : List Event} {notes : List Note} →
      told ≡ [] → notes ≡ [] → Keeps old new → count_of new ≡ count_of old → (NoSocketSpeaks old → NoSocketSpeaks new) → Law old told notes new
  keeping {old} {new} t n k c s = rw (t, n) (keeps old new k c s)

  still : {H new : Host} {told : List Event} {notes : List Note} → told ≡ [] → notes ≡ [] → new ≡ H → Law H told notes new
  still t n e = keeping t n (kept e) (ap count_of e) (λ none. rw e none)

  not_given : {H new : Host} {told : List Event} {notes : List Note} → told ≡ Asked H.moment false ∷ [] → notes ≡ [] → new ≡ H → Law H told notes new
  not_given {H} t n e = rw (t, n, e) (refused H)

  before : {old mid new : Host} {told : List Event} {notes : List Note} →
      Law old told notes mid → Keeps mid new → count_of new ≡ count_of mid → (NoSocketSpeaks mid → NoSocketSpeaks new) → Law old told notes new
  before {old} {mid} {new} {told} {notes} law k c s =
      subst (λ ns. Law old told ns new) (append-nil notes)
      (subst (λ ts. Law old ts (notes ++ []) new) (append-nil told) (on old mid new told [] notes [] law (keeps mid new k c s)))

  pub begins : (H : Host) → Law H [] [] H
  begins H = still refl refl refl

  had_turn : (i : ℕ) {s s' : Socket} {turn : Turn} {H new : Host} {told : List Event} {notes : List Note} →
      slice_get H.sockets.places i ≡ Some (Some s) → SocketTurn s turn s' H told notes new →
      Law H told notes new
  had_turn i there (turns.Silent p t o n e r) = still o n e
  had_turn i there (turns.Refused p q t o n e r) = not_given o n e
  had_turn i {s} {s'} {turn} {H} {new} {told} {notes} there (turns.Sent p outcome frames q d t o r) =
      rw o (dispatches p outcome H new frames notes (Offers i s there q) d)

  served : {i : ℕ} {turn : Turn} {H new : Host} {told : List Event} {notes : List Note} → Serves i turn H told notes new → Law H told notes new
  served (turns.Free s t o n e) = still o n e
  served (turns.Waits s known h k p t o n e) = still o n e
  served {i} (turns.Served s s' known mid h k p t e) =
      before (had_turn i h t) (kept_by e (unread refl refl)) (ap count_of e) (λ none. rw e (served_speaks icmpv6 i h t none))

  walked : {old new : Host} {n : ℕ} {granted changed : Bool} {told : List Event} {notes : List Note} →
      Walks old n granted changed told notes new → Law old told notes new
  walked turns.Begins = still refl refl refl
  walked {old} {new} (turns.Goes {told_so = told_so} {notes_so = so} {mid = mid} turn told notes _ w s t) =
      on old mid new told_so told so notes (walked w) (served s)
  walked {old} {new} (turns.Stops {told_so = told_so} {notes_so = so} {mid = mid} turn told notes _ w s t) =
      on old mid new told_so told so notes (walked w) (served s)

  sockets_sent : {old new : Host} {changed : Bool} {told : List Event} {notes : List Note} →
      SocketEgress old changed told notes new → Law old told notes new
  sockets_sent (turns.Whole w) = walked w
  sockets_sent (turns.Stopped n w) = walked w

  piece_sent : {H new : Host} {told : List Event} {notes : List Note} → Ipv4Egress H told notes new → Law H told notes new
  piece_sent (fragments.NoPiece l t n e) = still t n e
  piece_sent (fragments.NotGranted piece rest l t n e) = not_given t n e
  piece_sent {H} {new} {told} {notes} (fragments.PieceGoes piece rest l t n e) = rw (t, n, e) (pieces H piece rest l)

  -- groups that are told of
  module _ {packet_for : List IpCidr → IpAddress → Option Packet}
      (plain : (own : List IpCidr) (a : IpAddress) (p : Packet) → packet_for own a ≡ Some p → is_usual (payload_of p) ≡ true) where
    groups_reported : {state : GroupState} {after_report : List Group → IpAddress → List Group} {old new : Host}
        {granted : Bool} {told : List Event} {notes : List Note} →
        joins.ReportsEach state packet_for after_report old granted told notes new → Law old told notes new
    groups_reported joins.Begins = still refl refl refl
    groups_reported (joins.Silently a w f p) = before (groups_reported w) (unread refl refl) refl (λ none. none)
    groups_reported {old = old} (joins.Refused {told = told} {notes = notes} {mid = mid} a p w f q) =
        subst (λ ns. Law old (told ++ Asked mid.moment false ∷ []) ns mid) (append-nil notes)
        (on old mid mid told (Asked mid.moment false ∷ []) notes [] (groups_reported w) (refused mid))
    groups_reported {after_report = after_report} {old = old}
        (joins.Reported {told = told} {notes = notes} {mid = mid} a p outcome frames more new w f q d) =
        on old mid (with_groups new (after_report new.groups a)) told (Asked mid.moment true ∷ sends frames) notes more (groups_reported w)
        (before (dispatches p outcome mid new frames more (OfItsOwn (plain mid.ip_addrs a p q)) d) (unread refl refl) refl (λ none. none))

    all_reported : {state : GroupState} {after_report : List Group → IpAddress → List Group}
        {old new : Host} {told : List Event} {notes : List Note} →
        joins.ReportsAll state packet_for after_report old told notes new → Law old told notes new
    all_reported (joins.All w n) = groups_reported w
    all_reported (joins.UpToRefusal w) = groups_reported w

  igmp_sent : {H new : Host} {told : List Event} {notes : List Note} → IgmpEgress H told notes new → Law H told notes new
  igmp_sent (igmp_rules.NotDue h t n e) = still t n e
  igmp_sent (igmp_rules.NoFurtherGroup h g t n e) = keeping t n (kept_by e (unread refl refl)) (ap count_of e) (λ none. rw e none)
  igmp_sent (igmp_rules.NoAddress next h g a t n e) = still t n e
  igmp_sent (igmp_rules.NotGranted p h r t n e) = not_given t n e
  igmp_sent {H} {new} {told} {notes} (igmp_rules.Sent p outcome frames mid h r d t e) =
      rw t (before (dispatches p outcome H mid frames notes (OfItsOwn (report_usual H p r)) d)
      (kept_by e (unread refl refl)) (ap count_of e) (λ none. rw e none))

  routers_solicited : {H new : Host} {told : List Event} {notes : List Note} → NdiscRsEgress H told notes new → Law H told notes new
  routers_solicited (slaac.NotDue d t n e) = still t n e
  routers_solicited (slaac.NotGranted p d t n e) = not_given t n e
  routers_solicited {H} {new} {told} {notes} (slaac.Goes p outcome frames mid h d t e) =
      rw (t, e) (solicits p outcome H mid frames notes h d)

  mld_sent : {H new : Host} {told : List Event} {notes : List Note} → MldEgress H told notes new → Law H told notes new
  mld_sent (mld.NotYet h t n e) = still t n e
  mld_sent {H} (mld.GivenUp h t n e) = rw (t, n) (before (refused H) (kept_by e (unread refl refl)) (ap count_of e) (λ none. rw e none))
  mld_sent {H} {new} {told} {notes} (mld.ReportGoes outcome frames mid h d t e) =
      rw t (before (dispatches _ outcome H mid frames notes (OfItsOwn refl) d) (kept_by e (unread refl refl)) (ap count_of e) (λ none. rw e none))

  -- each part of a round, in order
  round : {changed : Bool} {old new : Host} {told : List Event} {notes : List Note} → Round changed old told notes new → Law old told notes new
  round {changed} {old} {new} {told} {notes} r = both Law begins on (λ o n t ns p. piece_sent p)
      (both Law begins on (λ o n t ns p. routers_solicited p)
      (both Law begins on (λ o n t ns p. all_reported join_usual p)
      (both Law begins on (λ o n t ns p. all_reported leave_usual p)
      (both Law begins on (λ o n t ns p. igmp_sent p)
      (both Law begins on (λ o n t ns p. mld_sent p) (λ o n t ns p. sockets_sent p)))))) old new told notes r

  egressed : {t : ℤ} {answer : PollResult} {old new : Host} {told : List Event} {notes : List Note} →
      Egress t answer old told notes new → Law old told notes new
  egressed {t} {answer} {old} {new} {told} {notes} e =
      on old (at old t) new [] told [] notes (keeps old (at old t) (unread refl refl) refl (λ none. none)) (round e.round)

  -- of whole steps: where a frame is taken; where slots that have ended are dropped; where the host gets other addresses, and forgets its
  -- neighbours; where it gets another hardware address; and where it gets another timeout
  module _ (ingress : (t : ℤ) (answer : PollIngressSingleResult) (old new : Host) (told : List Event) (notes : List Note) →
      Ingress t answer old told notes new → Law old told notes new)
      (sweeps : (H : Host) (t : ℤ) → Law H [] [] (without_expired H t))
      (moves : (H : Host) (list : List IpCidr) → Law H [] [] (record H { ip_addrs = list; neighbors = without_neighbors H.neighbors }))
      (sets : (H : Host) (h : HardwareAddress) → IsOf H.capabilities.medium h → Law H [] [] (record H { hardware_addr = h }))
      (lasts : (H : Host) (timeout : ℕ) → Law H [] [] (record H { reassembly_timeout = timeout })) where
    syncs : (H : Host) (b : Bool) → Law H [] [] (if b then with_slaac_applied H else H)
    syncs H true = before (moves H _) (unread refl refl) refl (λ none. none)
    syncs H false = begins H

    maintains : (H : Host) (t : ℤ) → Law H [] [] (after_maintenance (at H t))
    maintains H t =
        on H (without_expired H t) (after_maintenance (at H t)) [] [] [] [] (sweeps H t) (syncs (without_expired H t) (sync_required H.slaac t))

    same : {old new : Host} → Keeps old new → count_of new ≡ count_of old → (NoSocketSpeaks old → NoSocketSpeaks new) → Law old [] [] new
    same {old} {new} k c s = keeps old new k c s

    -- what the owner of the sockets does is told apart: who speaks may change
    module _ (StepLaw : Part)
        (weaker : (old new : Host) (told : List Event) (notes : List Note) → Law old told notes new → StepLaw old told notes new)
        (acts : (H : Host) (sockets : SocketSet) → StepLaw H [] [] (record H { sockets = sockets })) where
      pub counted : {command : Command} {answer : Answer} {old new : Host} {told : List Event} {acts : List step.Act} {notes : List Note} →
          Step command answer old told acts notes new → StepLaw old told notes new
      counted {old = old} (step.UpdatedIpAddrs {list = list} (Accepted a r e)) =
          rw e (weaker _ _ _ _ (before (moves old list.items) (unread refl refl) refl (λ none. none)))
      counted (step.UpdatedIpAddrs (Refused a r e)) = weaker _ _ _ _ (still refl refl e)
      counted (step.PolledIngressSingle i) = weaker _ _ _ _ (ingress _ _ _ _ _ _ i)
      counted (step.PolledEgress e) = weaker _ _ _ _ (egressed e)
      counted (step.Polled {t} p) = weaker _ _ _ _ (polled Law begins on t (λ H. maintains H t)
          (λ answer old new told notes i. ingress t answer old new told notes i) (λ answer old new told notes e. egressed e) p)
      counted (step.PolledMaintenance {t} {old}) = weaker _ _ _ _ (maintains old t)
      counted (step.JoinedGroup j) = let g = join_groups j in rw g.1 (weaker _ _ _ _ (same (unread refl refl) refl (λ none. none)))
      counted (step.LeftGroup j) = let g = leave_groups j in rw g.1 (weaker _ _ _ _ (same (unread refl refl) refl (λ none. none)))
      counted {old = old} (step.TookHardwareAddr {h = h} (Taken a of r e)) = rw e (weaker _ _ _ _ (sets old h of))
      counted (step.TookHardwareAddr (NotTaken error a r e)) = weaker _ _ _ _ (still refl refl e)
      counted {old = old} (step.TookReassemblyTimeout {timeout = timeout} (WithinDay l r e)) = rw e (weaker _ _ _ _ (lasts old timeout))
      counted (step.TookReassemblyTimeout (OverDay l r e)) = weaker _ _ _ _ (still refl refl e)
      counted {old = old} (step.OwnerActed sockets) = acts old sockets
      counted other = weaker _ _ _ _ (same (unread refl refl) refl (λ none. none))

-- The same of a law that doesn't count solicitations: for it that of routers is a packet among others
module _ (Law : Part)
    (keeps : (old new : Host) → Keeps old new → (NoSocketSpeaks old → NoSocketSpeaks new) → Law old [] [] new)
    (on : (a b c : Host) (ts us : List Event) (xs ys : List Note) → Law a ts xs b → Law b us ys c → Law a (ts ++ us) (xs ++ ys) c)
    (refused : (H : Host) → Law H (Asked H.moment false ∷ []) [] H)
    (dispatches : (p : Packet) (outcome : Outcome) (H new : Host) (frames : List (List ℕ)) (notes : List Note) →
    MaySend H p → Dispatches p outcome H frames notes new →
    Law H (Asked H.moment true ∷ sends frames) notes new)
    (pieces : (H : Host) (p : Piece) (rest : List Piece) →
    H.left ≡ p ∷ rest → Law H (Asked H.moment true ∷ sends (piece_frame H p ∷ [])) (OfCuts (PieceSent p) ∷ []) (with_left H rest))
    (ingress : (t : ℤ) (answer : PollIngressSingleResult) (old new : Host) (told : List Event) (notes : List Note) →
    Ingress t answer old told notes new → Law old told notes new)
    (sweeps : (H : Host) (t : ℤ) → Law H [] [] (without_expired H t))
    (moves : (H : Host) (list : List IpCidr) → Law H [] [] (record H { ip_addrs = list; neighbors = without_neighbors H.neighbors }))
    (sets : (H : Host) (h : HardwareAddress) → IsOf H.capabilities.medium h → Law H [] [] (record H { hardware_addr = h }))
    (lasts : (H : Host) (timeout : ℕ) → Law H [] [] (record H { reassembly_timeout = timeout }))
    (StepLaw : Part)
    (weaker : (old new : Host) (told : List Event) (notes : List Note) → Law old told notes new → StepLaw old told notes new)
    (acts : (H : Host) (sockets : SocketSet) → StepLaw H [] [] (record H { sockets = sockets })) where
  solicited : (p : Packet) (outcome : Outcome) (H mid : Host) (frames : List (List ℕ)) (notes : List Note) →
      due_solicitation H ≡ Some p → Dispatches p outcome H frames notes mid →
      Law H (Asked H.moment true ∷ sends frames) notes (with_slaac mid (rs_sent mid.slaac mid.moment))
  solicited p outcome H mid frames notes due d =
      let next = with_slaac mid (rs_sent mid.slaac mid.moment) in
      let told = Asked H.moment true ∷ sends frames in
      subst (λ ns. Law H told ns next) (append-nil notes)
      (subst (λ ts. Law H ts (notes ++ []) next) (append-nil told)
      (on H mid next told [] notes [] (dispatches p outcome H mid frames notes (ToRouters due) d) (keeps mid next (unread refl refl) (λ none. none))))

  pub stepped : {command : Command} {answer : Answer} {old new : Host} {told : List Event} {acts : List step.Act} {notes : List Note} →
      Step command answer old told acts notes new → StepLaw old told notes new
  stepped s = counted Law (λ old new k c none. keeps old new k none) on refused
      (λ p outcome H new frames notes usual d. dispatches p outcome H new frames notes (Usually usual) d) solicited pieces
      ingress sweeps moves sets lasts StepLaw weaker acts s
