-- A socket that is due still, behind a call that sends and is given each leave, has one packet less to send.
use Rattle.std.proofs.Common.{◌≡◌, ℕ, ◌+◌, ◌<◌, ◌==◌, Bool, true, false, List, [], ◌∷◌, length, refl, sym, ◌∙◌, ap, subst, Option, Some, None, arith}
use Rattle.std.proofs.lemmas.Int.{ints}
use Rattle.std.proofs.lemmas.List.{get_or-set_same}
use Rattle.std.specs.Prelude.{ℤ, pos, ◌+ℤ◌, ◌≤ℤ◌, ◌<ℤ◌, ◌&&◌, ◌||◌, cond, drop, is_none, is_ok, nat_le, nat_lt, slice_get, Ok, Err, if◌then◌else◌}
use Rattle.std.specs.Cmp.{int_cmp_is, int_ranks}
use Rattle.std.specs.FinMap as map
use Rattle.std.specs.Option.{option_and_then, option_map}
use Rattle.std.specs.Ordering.{int_cmp, is_ge, is_lt, MatchOrdering}
use Rattle.std.specs.declared.cmp.Ordering.{Ordering}
use Rattle.std.specs.declared.cmp.Ordering.TheVariants.{Less, Equal, Greater}
use Rattle.net_base.specs.Device.{Event}
use Rattle.net_base.specs.Time.{silence_from}
use Rattle.ip_wire.specs.Octets.{u16_at}
use Rattle.ip_address.specs.declared.ethernet_address.EthernetAddress.{EthernetAddress}
use Rattle.ip_address.specs.declared.hardware.HardwareAddress.{HardwareAddress}
use Rattle.ip_address.specs.declared.hardware.HardwareAddress.TheVariants as hardware
use Rattle.ip_address.specs.declared.ip.IpAddress.{IpAddress}
use Rattle.ip_address.specs.declared.ip.IpAddress.TheVariants.{Ipv4, Ipv6}
use Rattle.control_wire.specs.Icmpv4.{type_in, code_in, icmpv4_in}
use Rattle.control_wire.specs.declared.icmp.IcmpRepr.{IcmpRepr}
use Rattle.control_wire.specs.declared.icmp.IcmpRepr.TheVariants as icmp
use Rattle.control_wire.specs.declared.icmpv4.Icmpv4Repr.TheVariants as v4
use Rattle.control_wire.specs.Icmpv6.{icmpv6_in}
use Rattle.control_wire.specs.declared.icmpv6.Icmpv6Repr.TheVariants as v6
use Rattle.iface_tables.specs.declared.neighbor.Neighbor.{Neighbor}
use Rattle.iface_tables.specs.declared.neighbor.Answer.TheVariants.{Found, NotFound, RateLimited}
use Rattle.iface_tables.specs.Neighbor.{answer_from, is_before, is_found}
use Rattle.sockets.specs.Queue.{first_of}
use Rattle.sockets.specs.Source.{of_family, source_of}
use Rattle.sockets.specs.declared.poll_at.PollAt.{PollAt}
use Rattle.sockets.specs.declared.poll_at.PollAt.TheVariants as poll
use Rattle.sockets.specs.declared.endpoint.IpEndpoint.{IpEndpoint}
use Rattle.sockets.specs.declared.tcp.Segment.{Segment}
use Rattle.socket_set.specs.SocketMeta.{Wait, IsAnswerFor, is_permitted, after_asking, poll_at}
use Rattle.socket_set.specs.SocketSet.{wait_at}
use Rattle.sockets.specs.declared.socket.SocketOf.TheVariants.{Raw, Icmp, Udp, Tcp}
use Rattle.sockets.specs.Kinds.{RawOffer, IcmpOffer, UdpOffer, TcpOffer, socket_after_told}
use Rattle.sockets.specs.Kinds as kinds
use Rattle.sockets.specs.Raw as raw
use Rattle.sockets.specs.Icmp as icmp_socket
use Rattle.sockets.specs.Udp as udp
use Rattle.sockets.specs.Tcp as tcp
use Rattle.host_machine.specs.declared.results.DispatchError.{DispatchError}
use Rattle.host_machine.specs.declared.results.Turn.{Turn}
use Rattle.host_machine.specs.Context.Note.{Note}
use Rattle.host_machine.specs.Context.Host.{Host, Socket, with_next_id}
use Rattle.host_machine.specs.Context.Addresses.{source_for}
use Rattle.host_machine.specs.Packet.Packet.{IpPayload, Packet}
use Rattle.host_machine.specs.Packet.Packet as packet
use Rattle.host_machine.specs.Send.Outcome.{Outcome}
use Rattle.host_machine.specs.Send.Hops.{IsNextHop, HasNeighbor, OfNoHost, OfHost, is_known_hop}
use Rattle.host_machine.specs.Send.Dispatch.{Emits, DispatchesByHop, DispatchesEthernet, SendsOver, Dispatches, destination_of}
use Rattle.host_machine.specs.Send.Dispatch as dispatch
use Rattle.host_machine.specs.Sockets.Polling.{SocketDue, instant_of}
use Rattle.host_machine.specs.Sockets.Turns.{SocketTurn, Serves, turn_of, wait_after}
use Rattle.host_machine.specs.Sockets.Offers.{socket_after_asking, packet_between, packet_from, packet_of}
use Rattle.host_machine.specs.Sockets.Icmp.{echo_payload}
use Rattle.host_machine.specs.Sockets.Turns as egress
use Rattle.host_laws.specs.Laws.Service.{all_granted, waiting_in}
use Rattle.host_machine.proofs.Interface.EarliestInstant.{hop_is_one, known_is_one}
use Rattle.host_laws.proofs.Receive.FrameReplies.{clash, hop_as}
use Rattle.host_laws.proofs.Interface.GrantedEgress.{SameAt, sans, there, turn_way}

-- What a socket offers is a packet

both_families : (a b : IpAddress) (source : IpAddress) (hop_limit : ℕ) (payload : IpPayload) →
    of_family a b ≡ Some source → packet_between source a hop_limit payload ≡ None → ⊥
both_families (Ipv4 a) (Ipv4 b) source hop_limit payload is none = let same : Ipv4 b ≡ source = cc in
    absurd (let bad = subst (λ s. packet_between s (Ipv4 a) hop_limit payload ≡ None) (sym same) none in cc)
both_families (Ipv4 a) (Ipv6 b) source hop_limit payload is none = absurd cc
both_families (Ipv6 a) (Ipv4 b) source hop_limit payload is none = absurd cc
both_families (Ipv6 a) (Ipv6 b) source hop_limit payload is none = let same : Ipv6 b ≡ source = cc in
    absurd (let bad = subst (λ s. packet_between s (Ipv6 a) hop_limit payload ≡ None) (sym same) none in cc)

one_family : (choose : IpAddress → Option IpAddress) (own : Option IpAddress) (peer source : IpAddress) (hop_limit : ℕ) (payload : IpPayload) →
    source_of choose own peer ≡ Some source →
    packet_between source peer hop_limit payload ≡ None → ⊥
one_family choose (Some a) peer source hop_limit payload is none = both_families peer a source hop_limit payload is none
one_family choose None peer source hop_limit payload is none = by (choose peer) is where
  by : (o : Option IpAddress) → option_and_then (of_family peer) o ≡ Some source → ⊥
  by None e = absurd cc
  by (Some a) e = both_families peer a source hop_limit payload e none

quad : (a b c d : Bool) → (a && b && c && d) ≡ true → c ≡ true
quad true true true true e = refl
quad true true true false e = absurd cc
quad true true false d e = absurd cc
quad true false c d e = absurd cc
quad false b c d e = absurd cc

echo_is_v4 : (octets : List ℕ) → icmp_socket.is_echo 8 0 octets ≡ true → echo_payload (icmp.Ipv4 (icmpv4_in octets).0) (icmpv4_in octets).1 ≡ None → ⊥
echo_is_v4 octets is none = by (type_in octets == 8) (type_in octets == 0) refl refl
    (quad (nat_le 8 (length octets)) (nat_lt (length octets) 65536) ((type_in octets == 8) || (type_in octets == 0)) (code_in octets == 0) is) where
      by : (b c : Bool) → (type_in octets == 8) ≡ b → (type_in octets == 0) ≡ c → (b || c) ≡ true → ⊥
      by true c e f either =
          let it : icmpv4_in octets ≡ (v4.EchoRequest (u16_at octets 4) (u16_at octets 6), drop 8 octets) = rw e refl in
          let bad = sym (ap (λ m. echo_payload (icmp.Ipv4 m.0) m.1) it) ∙ none in absurd cc
      by false true e f either =
          let it : icmpv4_in octets ≡ (v4.EchoReply (u16_at octets 4) (u16_at octets 6), drop 8 octets) = rw (e, f) refl in
          let bad = sym (ap (λ m. echo_payload (icmp.Ipv4 m.0) m.1) it) ∙ none in absurd cc
      by false false e f either = absurd cc

echo_is_v6 : (octets : List ℕ) → icmp_socket.is_echo 128 129 octets ≡ true →
    echo_payload (icmp.Ipv6 (icmpv6_in octets).0) (icmpv6_in octets).1 ≡ None → ⊥
echo_is_v6 octets is none = by (type_in octets == 128) (type_in octets == 129) refl refl (quad (nat_le 8 (length octets))
    (nat_lt (length octets) 65536) ((type_in octets == 128) || (type_in octets == 129)) (code_in octets == 0) is) where
      by : (b c : Bool) → (type_in octets == 128) ≡ b → (type_in octets == 129) ≡ c → (b || c) ≡ true → ⊥
      by true c e f either =
          let it : icmpv6_in octets ≡ (v6.EchoRequest (u16_at octets 4) (u16_at octets 6), drop 8 octets) = rw e refl in
          let bad = sym (ap (λ m. echo_payload (icmp.Ipv6 m.0) m.1) it) ∙ none in absurd cc
      by false true e f either =
          let it : icmpv6_in octets ≡ (v6.EchoReply (u16_at octets 4) (u16_at octets 6), drop 8 octets) = rw (e, f) refl in
          let bad = sym (ap (λ m. echo_payload (icmp.Ipv6 m.0) m.1) it) ∙ none in absurd cc
      by false false e f either = absurd cc

-- a socket that has no packet offers nothing
none_raw : (o : Option raw.Sent) → option_and_then packet_of (option_map RawOffer o) ≡ None → o ≡ None
none_raw None e = refl
none_raw (Some s) e = absurd cc

none_udp : (choose : IpAddress → Option IpAddress) (s : udp.UdpSocket) →
    option_and_then packet_of (option_map UdpOffer (udp.offered_packet choose s)) ≡ None → udp.offered_packet choose s ≡ None
none_udp choose s none = by (first_of s.tx.packets) none where
  by : (o : Option (IpEndpoint × List ℕ)) → option_and_then packet_of
      (option_map UdpOffer (option_and_then (λ p. option_map (udp.datagram s p) (source_of choose s.endpoint.addr p.0.addr)) o)) ≡ None →
      option_and_then (λ p. option_map (udp.datagram s p) (source_of choose s.endpoint.addr p.0.addr)) o ≡ None
  by None e = refl
  by (Some p) e = from (source_of choose s.endpoint.addr p.0.addr) refl e where
    from : (o : Option IpAddress) → source_of choose s.endpoint.addr p.0.addr ≡ o →
        option_and_then packet_of (option_map UdpOffer (option_map (udp.datagram s p) o)) ≡ None → option_map (udp.datagram s p) o ≡ None
    from None f g = refl
    from (Some a) f g = absurd
        (one_family choose s.endpoint.addr p.0.addr a s.hop_limit (packet.Udp (record { src_port = s.endpoint.port; dst_port = p.0.port }) p.1) f g)

none_tcp : (choose : IpAddress → Option IpAddress) (s : tcp.TcpSocket) →
    option_and_then packet_of (option_map TcpOffer (tcp.first choose s)) ≡ None → tcp.first choose s ≡ None
none_tcp choose s none = by (first_of s.tx.packets) none where
  by : (o : Option (Segment × List ℕ)) → option_and_then packet_of
      (option_map TcpOffer (option_and_then (λ p. option_map (tcp.packet_to_send s p) (source_of choose s.local.addr p.0.remote.addr)) o)) ≡ None →
      option_and_then (λ p. option_map (tcp.packet_to_send s p) (source_of choose s.local.addr p.0.remote.addr)) o ≡ None
  by None e = refl
  by (Some p) e = from (source_of choose s.local.addr p.0.remote.addr) refl e where
    from : (o : Option IpAddress) → source_of choose s.local.addr p.0.remote.addr ≡ o →
        option_and_then packet_of (option_map TcpOffer (option_map (tcp.packet_to_send s p) o)) ≡ None → option_map (tcp.packet_to_send s p) o ≡ None
    from None f g = refl
    from (Some a) f g = absurd (one_family choose s.local.addr p.0.remote.addr a s.hop_limit (packet.Tcp (tcp.repr_of s.local.port p.0) p.1) f g)

-- an echo message to a peer from a source
between_then : (source peer : IpAddress) (hop_limit : ℕ) (o : Option IpPayload) →
    (o ≡ None → ⊥) → ((payload : IpPayload) → packet_between source peer hop_limit payload ≡ None → ⊥) →
    option_and_then (packet_between source peer hop_limit) o ≡ None → ⊥
between_then source peer hop_limit None some all e = some refl
between_then source peer hop_limit (Some payload) some all e = all payload e

echo_to_is : (peer : IpAddress) (octets : List ℕ) (m : IcmpRepr × List ℕ) → icmp_socket.echo_to peer octets ≡ Some m → echo_payload m.0 m.1 ≡ None → ⊥
echo_to_is (Ipv4 a) octets m is none = by (icmp_socket.is_echo 8 0 octets) refl is where
  by : (b : Bool) → icmp_socket.is_echo 8 0 octets ≡ b → cond b (Some (icmp.Ipv4 (icmpv4_in octets).0, (icmpv4_in octets).1)) None ≡ Some m → ⊥
  by true e f = let same : (icmp.Ipv4 (icmpv4_in octets).0, (icmpv4_in octets).1) ≡ m = cc in
      echo_is_v4 octets e (ap (λ x. echo_payload x.0 x.1) same ∙ none)
  by false e f = absurd cc
echo_to_is (Ipv6 a) octets m is none = by (icmp_socket.is_echo 128 129 octets) refl is where
  by : (b : Bool) → icmp_socket.is_echo 128 129 octets ≡ b → cond b (Some (icmp.Ipv6 (icmpv6_in octets).0, (icmpv6_in octets).1)) None ≡ Some m → ⊥
  by true e f = let same : (icmp.Ipv6 (icmpv6_in octets).0, (icmpv6_in octets).1) ≡ m = cc in
      echo_is_v6 octets e (ap (λ x. echo_payload x.0 x.1) same ∙ none)
  by false e f = absurd cc

none_icmp : (choose : IpAddress → Option IpAddress) (s : icmp_socket.IcmpSocket) →
    option_and_then packet_of (option_map IcmpOffer (icmp_socket.offered_packet choose s)) ≡ None → icmp_socket.offered_packet choose s ≡ None
none_icmp choose s none = by (first_of s.tx.packets) none where
  by : (o : Option (IpAddress × List ℕ)) → option_and_then packet_of (option_map IcmpOffer (option_and_then (icmp_socket.sent_if choose s) o))
      ≡ None → option_and_then (icmp_socket.sent_if choose s) o ≡ None
  by None e = refl
  by (Some p) e = message (icmp_socket.echo_to p.0 p.1) refl e where
    message : (o : Option (IcmpRepr × List ℕ)) → icmp_socket.echo_to p.0 p.1 ≡ o →
        option_and_then packet_of
        (option_map IcmpOffer (option_and_then (λ m. option_map (icmp_socket.packet_to_send s p.0 m) (source_of choose None p.0)) o)) ≡ None →
        option_and_then (λ m. option_map (icmp_socket.packet_to_send s p.0 m) (source_of choose None p.0)) o ≡ None
    message None f g = refl
    message (Some m) f g = from (source_of choose None p.0) refl g where
      from : (o : Option IpAddress) → source_of choose None p.0 ≡ o →
          option_and_then packet_of (option_map IcmpOffer (option_map (icmp_socket.packet_to_send s p.0 m) o)) ≡ None →
          option_map (icmp_socket.packet_to_send s p.0 m) o ≡ None
      from None h k = refl
      from (Some a) h k = absurd (between_then a p.0 s.hop_limit (echo_payload m.0 m.1) (λ e. echo_to_is p.0 p.1 m f e)
          (λ payload e. one_family choose None p.0 a s.hop_limit payload h e) k)

-- One packet less

-- a queue without its first packet has one less, if it had one
popped_less : {A : Type 0} (ps : List A) → (ps ≡ [] → ⊥) → length (drop 1 ps) + 1 ≡ length ps
popped_less [] some = absurd (some refl)
popped_less (p ∷ ps) some = omega arith

-- a socket that was asked in vain has lost its first packet; if it is due still it had one
pub idle_less : (H : Host) (s : Socket) (x : ℤ) → packet_from H s ≡ None → instant_of (kinds.poll_at (socket_after_asking H s)) ≡ Some x →
    x ≤ℤ H.moment → waiting_in (socket_after_asking H s) + 1 ≡ waiting_in s
idle_less H (Raw s) x none due le = by (raw.offered_packet s) (none_raw (raw.offered_packet s) none) due where
  ended : (ps : List (Unit {0} × List ℕ)) →
      instant_of (raw.poll_at (record s { tx = record s.tx { packets = drop 1 ps } })) ≡ Some x → length (drop 1 ps) + 1 ≡ length ps
  ended [] e = absurd cc
  ended (p ∷ ps) e = omega arith

  by : (o : Option raw.Sent) → o ≡ None → instant_of (raw.poll_at (cond (is_none o) (raw.without_first_to_send s) s)) ≡ Some x →
      waiting_in (Raw (cond (is_none o) (raw.without_first_to_send s) s)) + 1 ≡ length s.tx.packets
  by None e f = ended s.tx.packets f
  by (Some p) e f = absurd cc
idle_less H (Icmp s) x none due le = by (icmp_socket.offered_packet (source_for H.ip_addrs) s) (none_icmp (source_for H.ip_addrs) s none) due where
  ended : (ps : List (IpAddress × List ℕ)) →
      instant_of (icmp_socket.poll_at (record s { tx = record s.tx { packets = drop 1 ps } })) ≡ Some x → length (drop 1 ps) + 1 ≡ length ps
  ended [] e = absurd cc
  ended (p ∷ ps) e = omega arith

  by : (o : Option icmp_socket.Sent) → o ≡ None → instant_of (icmp_socket.poll_at (cond (is_none o) (icmp_socket.without_first_to_send s) s))
      ≡ Some x → waiting_in (Icmp (cond (is_none o) (icmp_socket.without_first_to_send s) s)) + 1 ≡ length s.tx.packets
  by None e f = ended s.tx.packets f
  by (Some p) e f = absurd cc
idle_less H (Udp s) x none due le = by (udp.offered_packet (source_for H.ip_addrs) s) (none_udp (source_for H.ip_addrs) s none) due where
  ended : (ps : List (IpEndpoint × List ℕ)) →
      instant_of (udp.poll_at (record s { tx = record s.tx { packets = drop 1 ps } })) ≡ Some x → length (drop 1 ps) + 1 ≡ length ps
  ended [] e = absurd cc
  ended (p ∷ ps) e = omega arith

  by : (o : Option udp.Datagram) → o ≡ None → instant_of (udp.poll_at (cond (is_none o) (udp.without_first_to_send s) s)) ≡ Some x →
      waiting_in (Udp (cond (is_none o) (udp.without_first_to_send s) s)) + 1 ≡ length s.tx.packets
  by None e f = ended s.tx.packets f
  by (Some p) e f = absurd cc
idle_less H (Tcp s) x none due le = held (tcp.is_held H.moment s) refl none due where
  ended : (ps : List (Segment × List ℕ)) →
      instant_of (tcp.poll_at (record s { tx = record s.tx { packets = drop 1 ps } })) ≡ Some x → length (drop 1 ps) + 1 ≡ length ps
  ended [] e = absurd cc
  ended (p ∷ ps) e = omega arith

  by : (o : Option tcp.Sent) → o ≡ None → instant_of (tcp.poll_at (cond (is_none o) (tcp.without_first_to_send s) s)) ≡ Some x →
      waiting_in (Tcp (cond (is_none o) (tcp.without_first_to_send s) s)) + 1 ≡ length s.tx.packets
  by None e f = ended s.tx.packets f
  by (Some p) e f = absurd cc

  lt_of : (t y : ℤ) → is_lt (int_cmp t y) ≡ true → t <ℤ y
  lt_of t y = ordered (int_cmp t y) (int_ranks t y) where
    ordered : (o : Ordering) → MatchOrdering o (t <ℤ y) (t ≡ y) (y <ℤ t) → is_lt o ≡ true → t <ℤ y
    ordered Less m e = m
    ordered Equal m e = absurd cc
    ordered Greater m e = absurd cc

  hold_is : (o : Bool) → instant_of (cond o poll.Ingress (poll.Time s.hold)) ≡ Some x → s.hold ≡ x
  hold_is true e = absurd cc
  hold_is false e = cc

  held : (b : Bool) →
      tcp.is_held H.moment s ≡ b → option_and_then packet_of (option_map TcpOffer (cond b None (tcp.first (source_for H.ip_addrs) s))) ≡ None →
      instant_of (tcp.poll_at (cond b s (cond (is_none (tcp.first (source_for H.ip_addrs) s)) (tcp.without_first_to_send s) s))) ≡ Some x →
      waiting_in (Tcp (cond b s (cond (is_none (tcp.first (source_for H.ip_addrs) s)) (tcp.without_first_to_send s) s))) + 1 ≡ length s.tx.packets
  held true e n d =
      let at : s.hold ≡ x = hold_is (is_none (first_of s.tx.packets)) d in
      let later : H.moment <ℤ s.hold = lt_of H.moment s.hold e in
      absurd (omega (arith, ints, at, later, le))
  held false e n d = by (tcp.first (source_for H.ip_addrs) s) (none_tcp (source_for H.ip_addrs) s n) d

-- a socket whose packet is gone has one less
pub sent_less : (H : Host) (s : Socket) (p : Packet) →
    packet_from H s ≡ Some p → waiting_in (socket_after_told true (socket_after_asking H s)) + 1 ≡ waiting_in s
sent_less H (Raw s) p is = ap (λ k. waiting_in (socket_after_told true (Raw k)) + 1) (stays (raw.offered_packet s) is)
    ∙ popped_less s.tx.packets empty where
      stays : (o : Option raw.Sent) → option_and_then packet_of (option_map RawOffer o) ≡ Some p →
          cond (is_none o) (raw.without_first_to_send s) s ≡ s
      stays None e = absurd cc
      stays (Some x) e = refl

      empty : s.tx.packets ≡ [] → ⊥
      empty e = let bad : None ≡ Some p =
          sym (ap (λ ps. option_and_then packet_of (option_map RawOffer (option_and_then (λ q. raw.packet_to_send s q.1) (first_of ps)))) e) ∙ is in
          absurd cc
sent_less H (Icmp s) p is =
    ap (λ k. waiting_in (socket_after_told true (Icmp k)) + 1) (stays (icmp_socket.offered_packet (source_for H.ip_addrs) s) is)
    ∙ popped_less s.tx.packets empty where
      stays : (o : Option icmp_socket.Sent) → option_and_then packet_of (option_map IcmpOffer o) ≡ Some p →
          cond (is_none o) (icmp_socket.without_first_to_send s) s ≡ s
      stays None e = absurd cc
      stays (Some x) e = refl

      empty : s.tx.packets ≡ [] → ⊥
      empty e = let bad : None ≡ Some p = sym
          (ap
          (λ ps. option_and_then packet_of (option_map IcmpOffer (option_and_then (icmp_socket.sent_if (source_for H.ip_addrs) s) (first_of ps)))) e)
          ∙ is in absurd cc
sent_less H (Udp s) p is = ap (λ k. waiting_in (socket_after_told true (Udp k)) + 1) (stays (udp.offered_packet (source_for H.ip_addrs) s) is)
    ∙ popped_less s.tx.packets empty where
      stays : (o : Option udp.Datagram) → option_and_then packet_of (option_map UdpOffer o) ≡ Some p →
          cond (is_none o) (udp.without_first_to_send s) s ≡ s
      stays None e = absurd cc
      stays (Some x) e = refl

      empty : s.tx.packets ≡ [] → ⊥
      empty e =
          let bad : None ≡ Some p =
          sym (ap (λ ps. option_and_then packet_of (option_map UdpOffer
          (option_and_then (λ q. option_map (udp.datagram s q) (source_of (source_for H.ip_addrs) s.endpoint.addr q.0.addr)) (first_of ps)))) e)
          ∙ is in
          absurd cc
sent_less H (Tcp s) p is =
    ap (λ k. waiting_in (socket_after_told true (Tcp k)) + 1) (stays (tcp.is_held H.moment s) (tcp.first (source_for H.ip_addrs) s) is)
    ∙ popped_less s.tx.packets empty where
      stays : (b : Bool) (o : Option tcp.Sent) → option_and_then packet_of (option_map TcpOffer (cond b None o)) ≡ Some p →
          cond b s (cond (is_none o) (tcp.without_first_to_send s) s) ≡ s
      stays true o e = absurd cc
      stays false None e = absurd cc
      stays false (Some x) e = refl

      of_none : (b : Bool) → option_and_then packet_of (option_map TcpOffer (cond b None None)) ≡ None
      of_none true = refl
      of_none false = refl

      empty : s.tx.packets ≡ [] → ⊥
      empty e =
          let bad : None ≡ Some p =
          sym (ap (λ ps. option_and_then packet_of (option_map TcpOffer (cond (tcp.is_held H.moment s) None
          (option_and_then (λ q. option_map (tcp.packet_to_send s q) (source_of (source_for H.ip_addrs) s.local.addr q.0.remote.addr))
          (first_of ps))))) e
          ∙ of_none (tcp.is_held H.moment s)) ∙ is in
          absurd cc

-- Whom a packet that isn't gone waits for

emitted_ok : {id : ℕ} {p : Packet} {h : HardwareAddress} {error : DispatchError} {H new : Host} {frames : List (List ℕ)} {notes : List Note} →
    Emits id p h (Err error) H frames notes new → ⊥
emitted_ok (dispatch.Whole fits formed o f n e) = absurd cc
emitted_ok (dispatch.InPieces q first rest is long short pieces fits formed o f n e) = absurd cc
emitted_ok (dispatch.TooLong long longer o u) = absurd cc

no_hop : {H : Host} {a : IpAddress} {known : Bool} (hop : Option IpAddress) →
    IsNextHop H a hop → is_known_hop H hop ≡ false → HasNeighbor H a known → known ≡ false
no_hop hop is unknown (OfNoHost one e) = e
no_hop {H} hop is unknown (OfHost other one next e) = e ∙ ap (is_known_hop H) (hop_is_one next is) ∙ unknown

by_hop_unknown : {id : ℕ} {own : EthernetAddress} {p : Packet} {hop : IpAddress} {error : DispatchError} {H new : Host}
    {frames : List (List ℕ)} {notes : List Note} →
    DispatchesByHop id own p hop (Err error) H frames notes new → is_known_hop H (Some hop) ≡ false
by_hop_unknown (dispatch.Known h k e) = absurd (emitted_ok e)
by_hop_unknown (dispatch.Silent s o u) = ap is_found s
by_hop_unknown (dispatch.Unknown u d) = ap is_found u

ethernet_unknown : {id : ℕ} {own : EthernetAddress} {p : Packet} {error : DispatchError} {H new : Host}
    {frames : List (List ℕ)} {notes : List Note} {known : Bool} →
    DispatchesEthernet id own p (Err error) H frames notes new → HasNeighbor H (destination_of p) known → known ≡ false
ethernet_unknown (dispatch.ToMulticast h m e) k = absurd (emitted_ok e)
ethernet_unknown (dispatch.NoHop m n o u) k = no_hop None n refl k
ethernet_unknown (dispatch.ByHop hop m n s) k = no_hop (Some hop) n (by_hop_unknown s) k

over_unknown : (id : ℕ) (h : HardwareAddress) (p : Packet) (error : DispatchError) (H : Host) (frames : List (List ℕ))
    (notes : List Note) (new : Host) {known : Bool} →
    SendsOver id h p (Err error) H frames notes new → HasNeighbor H (destination_of p) known → known ≡ false
over_unknown id (hardware.Ethernet own) p error H frames notes new s k = ethernet_unknown s k
over_unknown id hardware.Ip p error H frames notes new s k = absurd (emitted_ok s)

-- what is told of a destination, where the way is the same; the silence isn't looked at
found_alike : (o : Option Neighbor) (silent silent' t : ℤ) → is_found (answer_from o silent t) ≡ is_found (answer_from o silent' t)
found_alike None silent silent' t = by (is_before t silent) (is_before t silent') where
  by : (b c : Bool) → is_found (if b then RateLimited else NotFound) ≡ is_found (if c then RateLimited else NotFound)
  by true true = refl
  by true false = refl
  by false true = refl
  by false false = refl
found_alike (Some n) silent silent' t = by (is_before t n.expires_at) (is_before t silent) (is_before t silent') where
  by : (a b c : Bool) → is_found (if a then Found n.hardware_addr else (if b then RateLimited else NotFound))
      ≡ is_found (if a then Found n.hardware_addr else (if c then RateLimited else NotFound))
  by true b c = refl
  by false true true = refl
  by false true false = refl
  by false false true = refl
  by false false false = refl

hop_alike : (H K : Host) → sans K ≡ sans H → (hop : Option IpAddress) → is_known_hop H hop ≡ is_known_hop K hop
hop_alike H K e None = refl
hop_alike H K e (Some a) =
    sym (ap (λ m. is_found (answer_from (map.get m a) K.neighbors.silent_until K.moment)) (ap (λ (x : Host). x.neighbors.known) e)
    ∙ ap (λ t. is_found (answer_from (map.get H.neighbors.known a) K.neighbors.silent_until t)) (ap (λ (x : Host). x.moment) e)
    ∙ found_alike (map.get H.neighbors.known a) K.neighbors.silent_until H.neighbors.silent_until H.moment)

known_as : (H K : Host) {a : IpAddress} {known : Bool} → sans K ≡ sans H → HasNeighbor H a known → HasNeighbor K a known
known_as H K e (OfNoHost one f) = OfNoHost one f
known_as H K e (OfHost hop one next f) =
    OfHost hop one (hop_as {H = H} {K = K} (ap (λ (x : Host). x.ip_addrs) e) (ap (λ (x : Host). x.routes) e) (ap (λ (x : Host). x.moment) e) next)
    (f ∙ hop_alike H K e hop)

told_as : (H K : Host) (w : Wait) (known : Bool) → sans K ≡ sans H → IsAnswerFor (HasNeighbor H) w known → IsAnswerFor (HasNeighbor K) w known
told_as H K None known e t = tt
told_as H K (Some w) known e t = known_as H K e t

unsent_unknown : {q : Packet} {error : DispatchError} {H new : Host} {frames : List (List ℕ)} {notes : List Note} {known : Bool} →
    Dispatches q (Err error) H frames notes new →
    HasNeighbor H (destination_of q) known → known ≡ false
unsent_unknown (dispatch.ToUnspecified n o u) k = absurd cc
unsent_unknown {q} {error} {H} {new} {frames} {notes} (dispatch.ToSpecified more s d n) k =
    over_unknown H.ipv4_id H.hardware_addr q error (with_next_id H) frames more new d (known_as H (with_next_id H) refl k)

-- what is due at a moment that has come is so by the socket's own answer

or_false : (a b : Bool) → (a || b) ≡ false → b ≡ false
or_false true b e = absurd cc
or_false false b e = e

not_ge : (t end : ℤ) → is_ge (int_cmp t end) ≡ false → t <ℤ end
not_ge t end = by (int_cmp t end) (int_ranks t end) where
  by : (o : Ordering) → MatchOrdering o (t <ℤ end) (t ≡ end) (end <ℤ t) → is_ge o ≡ false → t <ℤ end
  by Less m e = m
  by Equal m e = absurd cc
  by Greater m e = absurd cc

record IsOwn (w : Wait) (known : Bool) (t : ℤ) (own : PollAt) (x : ℤ) : Type 0 where
  may : is_permitted w known t ≡ true
  due : instant_of own ≡ Some x

own_due : (w : Wait) (known : Bool) (t : ℤ) (own : PollAt) (x : ℤ) → instant_of (poll_at w known t own) ≡ Some x → x ≤ℤ t → IsOwn w known t own x
own_due None known t own x e le = record { may = refl; due = e }
own_due (Some w) known t own x e le = by (known || is_ge (int_cmp t w.1)) refl e where
  by : (b : Bool) → (known || is_ge (int_cmp t w.1)) ≡ b → instant_of (if b then own else poll.Time w.1) ≡ Some x → IsOwn (Some w) known t own x
  by true f g = record { may = f; due = g }
  by false f g =
      let same : w.1 ≡ x = cc in
      let later : t <ℤ w.1 = not_ge t w.1 (or_false known (is_ge (int_cmp t w.1)) f) in
      absurd (omega (arith, ints, same, later, le))

permit_same : (H : Host) (w : Wait) (known known' : Bool) (t : ℤ) → IsAnswerFor (HasNeighbor H) w known → IsAnswerFor (HasNeighbor H) w known' →
    is_permitted w known t ≡ is_permitted w known' t
permit_same H None known known' t a b = refl
permit_same H (Some w) known known' t a b = ap (λ k. is_permitted (Some w) k t) (known_is_one a b)

-- a second later is later
silent_still : (a : IpAddress) (t : ℤ) (known : Bool) → known ≡ false → is_permitted (Some (a, silence_from t)) known t ≡ false
silent_still a t true e = absurd cc
silent_still a t false e = let before : t <ℤ (t +ℤ pos 1000000) = omega (arith, ints) in rw (← int_cmp_is t (t +ℤ pos 1000000) Less before) refl

-- The turn

pub record OneLess (i : ℕ) (old new : Host) : Type 0 where
  pub before : Socket
  pub after : Socket
  pub was : slice_get old.sockets.places i ≡ Some (Some before)
  pub is : slice_get new.sockets.places i ≡ Some (Some after)
  pub less : waiting_in after + 1 ≡ waiting_in before

-- behind the turn of a socket that had a packet
sent_case : {H mid N : Host} {q : Packet} {frames : List (List ℕ)} {notes : List Note} (s s' : Socket) (turn : Turn) (i : ℕ) (first : Wait)
    (x : ℤ) (o : Outcome) → packet_from H s ≡ Some q →
    Dispatches q o H frames notes mid → turn ≡ turn_of q o → s' ≡ socket_after_told (is_ok o) (socket_after_asking H s) → sans N ≡ sans H →
    (d : SocketDue N i x) → wait_at N.sockets i ≡ wait_after turn H.moment first →
    is_permitted (wait_at N.sockets i) d.known H.moment ≡ true → waiting_in s' + 1 ≡ waiting_in s
sent_case {H} {q = q} s s' turn i first x (Ok u) some g t z e d w may = ap (λ k. waiting_in k + 1) z ∙ sent_less H s q some
sent_case {H} {mid} {N} {q} s s' turn i first x (Err error) some g t z e d w may =
    let waits : wait_at N.sockets i ≡ Some (destination_of q, silence_from H.moment) = w ∙ ap (λ k. wait_after k H.moment first) t in
    let knows : HasNeighbor N (destination_of q) d.known = subst (λ k. IsAnswerFor (HasNeighbor N) k d.known) waits d.told in
    let unknown : d.known ≡ false = unsent_unknown g (known_as N H (sym e) knows) in
    absurd (clash (ap (λ k. is_permitted k d.known H.moment) (sym waits) ∙ may) (silent_still (destination_of q) H.moment d.known unknown))

turn_less : {H mid N : Host} {told_it : List Event} {notes : List Note} (s s' : Socket) (turn : Turn) (i : ℕ) (first : Wait) (x : ℤ) →
    SocketTurn s turn s' H told_it notes mid → all_granted told_it ≡ true →
    sans N ≡ sans H → (d : SocketDue N i x) → wait_at N.sockets i ≡ wait_after turn H.moment first →
    is_permitted (wait_at N.sockets i) d.known H.moment ≡ true →
    instant_of (kinds.poll_at s') ≡ Some x → x ≤ℤ H.moment → waiting_in s' + 1 ≡ waiting_in s
turn_less {H} s s' turn i first x (egress.Silent none t o n y z) all e d w may due le =
    ap (λ k. waiting_in k + 1) z ∙ idle_less H s x none (sym (ap (λ k. instant_of (kinds.poll_at k)) z) ∙ due) le
turn_less s s' turn i first x (egress.Refused q some t o n y z) all e d w may due le = absurd (clash all (ap all_granted o))
turn_less s s' turn i first x (egress.Sent q outcome frames some g t o z) all e d w may due le =
    sent_case s s' turn i first x outcome some g t z e d w may

pub served_less : {i : ℕ} {turn : Turn} {H A : Host} {told_it : List Event} {notes : List Note} (N : Host) (x : ℤ) →
    Serves i turn H told_it notes A → all_granted told_it ≡ true → i < length H.sockets.waits →
    sans N ≡ sans H → SameAt i A N → SocketDue N i x → x ≤ℤ H.moment → OneLess i H A
served_less {i} {turn} {H} {A} N x (egress.Free f t o n y) all within e same d le =
    let bad : Some None ≡ Some (Some d.socket) = sym f ∙ sym (ap (λ (K : Host). slice_get K.sockets.places i) y) ∙ sym same.place ∙ d.here in
    absurd cc
served_less {i} {turn} {H} {A} N x (egress.Waits s known f l w t o n y) all within e same d le =
    let moment : N.moment ≡ H.moment = ap (λ (K : Host). K.moment) e in
    let own = own_due (wait_at N.sockets i) d.known N.moment (kinds.poll_at d.socket) x d.instant (subst (λ m. x ≤ℤ m) (sym moment) le) in
    let waits : wait_at N.sockets i ≡ wait_at H.sockets i = same.wait ∙ ap (λ (K : Host). wait_at K.sockets i) y in
    let may : is_permitted (wait_at H.sockets i) d.known H.moment ≡ true =
    sym (ap (λ k. is_permitted k d.known N.moment) waits ∙ ap (λ m. is_permitted (wait_at H.sockets i) d.known m) moment) ∙ own.may in
    let told_it_is : IsAnswerFor (HasNeighbor H) (wait_at H.sockets i) d.known =
    subst (λ k. IsAnswerFor (HasNeighbor H) k d.known) waits (told_as N H (wait_at N.sockets i) d.known (sym e) d.told) in
    absurd (clash (permit_same H (wait_at H.sockets i) known d.known H.moment l told_it_is ∙ may) w)
served_less {i} {turn} {H} {A} N x (egress.Served s s' known mid f l w z y) all within e same d le =
    let moment : N.moment ≡ H.moment = ap (λ (K : Host). K.moment) e in
    let own = own_due (wait_at N.sockets i) d.known N.moment (kinds.poll_at d.socket) x d.instant (subst (λ m. x ≤ℤ m) (sym moment) le) in
    let at_mid : slice_get mid.sockets.places i ≡ Some (Some s) = ap (λ (K : Host). slice_get K.sockets.places i) (turn_way z) ∙ f in
    let here : slice_get A.sockets.places i ≡ Some (Some s') = ap (λ (K : Host). slice_get K.sockets.places i) y
    ∙ there mid.sockets.places i (Some s) (Some s') at_mid in
    let both : Some (Some d.socket) ≡ Some (Some s') = sym d.here ∙ same.place ∙ here in
    let socket : d.socket ≡ s' = cc in
    let waits_mid : length mid.sockets.waits ≡ length H.sockets.waits = ap (λ (K : Host). length K.sockets.waits) (turn_way z) in
    let wait : wait_at N.sockets i ≡ wait_after turn H.moment (after_asking (wait_at H.sockets i) known) =
    same.wait ∙ ap (λ (K : Host). wait_at K.sockets i) y ∙ get_or-set_same mid.sockets.waits i
    (wait_after turn H.moment (after_asking (wait_at H.sockets i) known)) None (omega (arith, waits_mid, within)) in
    let may : is_permitted (wait_at N.sockets i) d.known H.moment ≡ true =
    sym (ap (λ m. is_permitted (wait_at N.sockets i) d.known m) moment) ∙ own.may in
    record {
      before = s;
      after = s';
      was = f;
      is = here;
      less = turn_less s s' turn i (after_asking (wait_at H.sockets i) known) x z all e d wait may
          (sym (ap (λ k. instant_of (kinds.poll_at k)) socket) ∙ own.due) le;
    }
