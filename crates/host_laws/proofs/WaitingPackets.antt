-- What asking a socket for a packet, and telling it what came of it, leaves of the packets that it has to send.
use Rattle.std.proofs.Common.{◌≡◌, ◌⊎◌, inl, inr, ℕ, ◌+◌, Bool, true, false, List, [], ◌∷◌, length, refl, sym, ◌∙◌}
use Rattle.std.proofs.Common.{ap, Option, Some, None, arith}
use Rattle.std.specs.Prelude.{cond, drop, is_none}
use Rattle.std.specs.Option.{option_and_then, option_map}
use Rattle.sockets.specs.Queue.{first_of}
use Rattle.sockets.specs.Source.{source_of}
use Rattle.sockets.specs.declared.socket.SocketOf.TheVariants.{Raw, Icmp, Udp, Tcp}
use Rattle.sockets.specs.Kinds.{RawOffer, IcmpOffer, UdpOffer, TcpOffer, socket_after_told}
use Rattle.sockets.specs.Raw as raw
use Rattle.sockets.specs.Icmp as icmp_socket
use Rattle.sockets.specs.Udp as udp
use Rattle.sockets.specs.Tcp as tcp
use Rattle.host_machine.specs.Context.Host.{Host, Socket}
use Rattle.host_machine.specs.Context.Addresses.{source_for}
use Rattle.host_machine.specs.Packet.Packet.{Packet}
use Rattle.host_machine.specs.Sockets.Offers.{socket_after_asking, packet_from, packet_of}
use Rattle.host_laws.specs.Laws.Service.{waiting_in}

-- the same number, or one less
abbrev pub IsSameOrLess : ℕ → ℕ → Type 0
IsSameOrLess new old = (new ≡ old) ⊎ (new + 1 ≡ old)

popped : {A : Type 0} (ps : List A) → IsSameOrLess (length (drop 1 ps)) (length ps)
popped [] = inl refl
popped (p ∷ ps) = inr (omega arith)

popped_less : {A : Type 0} (ps : List A) → (ps ≡ [] → ⊥) → length (drop 1 ps) + 1 ≡ length ps
popped_less [] some = absurd (some refl)
popped_less (p ∷ ps) some = omega arith

-- a socket that is asked loses at most its first packet
pub asked : (H : Host) (s : Socket) → IsSameOrLess (waiting_in (socket_after_asking H s)) (waiting_in s)
asked H (Raw s) = by (is_none (raw.offered_packet s)) where
  by : (b : Bool) → IsSameOrLess (waiting_in (Raw (cond b (raw.without_first_to_send s) s))) (length s.tx.packets)
  by true = popped s.tx.packets
  by false = inl refl
asked H (Icmp s) = by (is_none (icmp_socket.offered_packet (source_for H.ip_addrs) s)) where
  by : (b : Bool) → IsSameOrLess (waiting_in (Icmp (cond b (icmp_socket.without_first_to_send s) s))) (length s.tx.packets)
  by true = popped s.tx.packets
  by false = inl refl
asked H (Udp s) = by (is_none (udp.offered_packet (source_for H.ip_addrs) s)) where
  by : (b : Bool) → IsSameOrLess (waiting_in (Udp (cond b (udp.without_first_to_send s) s))) (length s.tx.packets)
  by true = popped s.tx.packets
  by false = inl refl
asked H (Tcp s) = by (tcp.is_held H.moment s) (is_none (tcp.first (source_for H.ip_addrs) s)) where
  by : (b c : Bool) → IsSameOrLess (waiting_in (Tcp (cond b s (cond c (tcp.without_first_to_send s) s)))) (length s.tx.packets)
  by true c = inl refl
  by false true = popped s.tx.packets
  by false false = inl refl

-- a socket whose packet wasn't sent keeps it
pub untold : (s : Socket) → waiting_in (socket_after_told false s) ≡ waiting_in s
untold (Raw s) = refl
untold (Icmp s) = refl
untold (Udp s) = refl
untold (Tcp s) = refl

-- a socket whose packet was sent has one less
pub sent_less : (H : Host) (s : Socket) (p : Packet) →
    packet_from H s ≡ Some p → waiting_in (socket_after_told true (socket_after_asking H s)) + 1 ≡ waiting_in s
sent_less H (Raw s) p is = ap (λ k. waiting_in (socket_after_told true (Raw k)) + 1) (stays (raw.offered_packet s) is)
    ∙ popped_less s.tx.packets empty where
      stays : (o : Option raw.Sent) → option_and_then packet_of (option_map RawOffer o) ≡ Some p →
          cond (is_none o) (raw.without_first_to_send s) s ≡ s
      stays None e = absurd cc
      stays (Some x) e = refl

      empty : s.tx.packets ≡ [] → ⊥
      empty e = let bad : None ≡ Some p =
          sym (ap (λ ps. option_and_then packet_of (option_map RawOffer (option_and_then (λ q. raw.packet_to_send s q.1) (first_of ps)))) e) ∙ is in
          absurd cc
sent_less H (Icmp s) p is =
    ap (λ k. waiting_in (socket_after_told true (Icmp k)) + 1) (stays (icmp_socket.offered_packet (source_for H.ip_addrs) s) is)
    ∙ popped_less s.tx.packets empty where
      stays : (o : Option icmp_socket.Sent) → option_and_then packet_of (option_map IcmpOffer o) ≡ Some p →
          cond (is_none o) (icmp_socket.without_first_to_send s) s ≡ s
      stays None e = absurd cc
      stays (Some x) e = refl

      empty : s.tx.packets ≡ [] → ⊥
      empty e = let bad : None ≡ Some p = sym
          (ap
          (λ ps. option_and_then packet_of (option_map IcmpOffer (option_and_then (icmp_socket.sent_if (source_for H.ip_addrs) s) (first_of ps)))) e)
          ∙ is in absurd cc
sent_less H (Udp s) p is = ap (λ k. waiting_in (socket_after_told true (Udp k)) + 1) (stays (udp.offered_packet (source_for H.ip_addrs) s) is)
    ∙ popped_less s.tx.packets empty where
      stays : (o : Option udp.Datagram) → option_and_then packet_of (option_map UdpOffer o) ≡ Some p →
          cond (is_none o) (udp.without_first_to_send s) s ≡ s
      stays None e = absurd cc
      stays (Some x) e = refl

      empty : s.tx.packets ≡ [] → ⊥
      empty e =
          let bad : None ≡ Some p =
          sym (ap (λ ps. option_and_then packet_of (option_map UdpOffer
          (option_and_then (λ q. option_map (udp.datagram s q) (source_of (source_for H.ip_addrs) s.endpoint.addr q.0.addr)) (first_of ps)))) e)
          ∙ is in
          absurd cc
sent_less H (Tcp s) p is =
    ap (λ k. waiting_in (socket_after_told true (Tcp k)) + 1) (stays (tcp.is_held H.moment s) (tcp.first (source_for H.ip_addrs) s) is)
    ∙ popped_less s.tx.packets empty where
      stays : (b : Bool) (o : Option tcp.Sent) → option_and_then packet_of (option_map TcpOffer (cond b None o)) ≡ Some p →
          cond b s (cond (is_none o) (tcp.without_first_to_send s) s) ≡ s
      stays true o e = absurd cc
      stays false None e = absurd cc
      stays false (Some x) e = refl

      of_none : (b : Bool) → option_and_then packet_of (option_map TcpOffer (cond b None None)) ≡ None
      of_none true = refl
      of_none false = refl

      empty : s.tx.packets ≡ [] → ⊥
      empty e =
          let bad : None ≡ Some p =
          sym (ap (λ ps. option_and_then packet_of (option_map TcpOffer (cond (tcp.is_held H.moment s) None
          (option_and_then (λ q. option_map (tcp.packet_to_send s q) (source_of (source_for H.ip_addrs) s.local.addr q.0.remote.addr))
          (first_of ps))))) e
          ∙ of_none (tcp.is_held H.moment s)) ∙ is in
          absurd cc
