-- The polls of a host with queued datagrams to a neighbour that it knows.
use Rattle.std.proofs.Common.{◌≡◌, ◌∙◌, ℕ, ◌+◌, ◌%◌, ◌^◌, true, false, List, [], ◌∷◌, refl, ap, None, Ok, lit≤, arith}
use Rattle.std.specs.Prelude.{ℤ, pos}
use Rattle.std.specs.FinMap as map
use Rattle.std.specs.FinMap.{get-insert, get-empty, same_map}
use Rattle.net_base.specs.Device.{Received, Nothing, Asked, Sent}
use Rattle.ip_wire.specs.Checksum.{word_sum}
use Rattle.ip_wire.specs.Pseudo.{pseudo}
use Rattle.ip_wire.specs.Udp as udp
use Rattle.ip_wire.specs.Ipv4Packet as ipv4
use Rattle.iface_tables.specs.declared.neighbor.Answer.TheVariants.{Found}
use Rattle.iface_tables.specs.declared.neighbor.Neighbor.{Neighbor}
use Rattle.iface_tables.specs.Neighbor.{answer_of}
use Rattle.iface_tables.proofs.NeighborLemmas.{address_total}
use Rattle.fragmentation.specs.Slots.{free_slots, held_at, live_at}
use Rattle.sockets.specs.declared.endpoint.IpEndpoint.{IpEndpoint}
use Rattle.sockets.specs.declared.socket.SocketOf.TheVariants as kind
use Rattle.host_machine.specs.declared.results.PollIngressSingleResult.TheVariants as ingress
use Rattle.host_machine.specs.declared.results.PollResult.TheVariants as poll
use Rattle.host_machine.specs.declared.results.Turn.TheVariants.{Done}
use Rattle.host_machine.specs.Context.Note.{OfIdentification, Identify}
use Rattle.host_machine.specs.Packet.Packet.{Ipv4, Udp}
use Rattle.host_machine.specs.Send.Dispatch.{ToSpecified, ByHop, Known, Whole}
use Rattle.host_machine.specs.Send.Hops.{OnLink}
use Rattle.host_machine.specs.Interface.Egress.{Egress}
use Rattle.host_machine.specs.Sockets.Turns as egress
use Rattle.host_machine.specs.Interface.Ingress.{Ingress}
use Rattle.host_machine.specs.Interface.Polling.{Polls}
use Rattle.host_machine.specs.Interface.Polling as polling
use Rattle.host_machine.specs.Examples.ArpAndEcho as example
use Rattle.host_machine.proofs.Interface.RoundWithoutPieces.{no_piece}
use Rattle.host_machine.proofs.Receive.Keys.{get-live_at, key_exact, key_total}
use Rattle.host_laws.specs.TwoPolls.{datagram, frame, with_queue, with_queued}

is_known : answer_of example.neighbors_with_sender example.sender (pos 0) ≡ Found example.sender_hardware
is_known =
    let entry : Neighbor = record { hardware_addr = example.sender_hardware; expires_at = pos 60000000 } in
    rw (get-insert address_total map.empty example.sender entry example.sender) refl

none_held : (t : ℤ) → held_at t map.empty ≡ map.empty
none_held t = same_map key_total key_exact (held_at t map.empty) map.empty (λ q. get-live_at t (free_slots 2) q ∙ rw get-empty refl)

pub no_slots : (t : ℤ) → live_at t (free_slots 2) ≡ free_slots 2
no_slots t = ap (λ held. record (free_slots 2) { held = held }) (none_held t)

nothing_taken : (id : ℕ) (packets : List (IpEndpoint × List ℕ)) →
    Ingress (pos 0) ingress.None (with_queued id packets) (Received (pos 0) Nothing ∷ []) [] (with_queued id packets)
nothing_taken id packets = record {
  reception = Nothing;
  frames = [];
  response = record {
    reply = None;
    taken = with_queued id packets;
    notes_taking = [];
    notes_responding = [];
    takes = rw (no_slots (pos 0)) (record { silent = refl; unnoted = refl; unchanged = refl });
    responds = (refl, refl, refl);
    all_notes = refl;
  };
  events = refl;
  answers = refl;
}

one_sent : (id : ℕ) (rest : List (IpEndpoint × List ℕ)) →
    Egress (pos 0) poll.SocketStateChanged (with_queued id (datagram ∷ rest)) (Asked (pos 0) true ∷ Sent 0 frame ∷ [])
    (OfIdentification (Identify id) ∷ []) (with_queued ((id + 1) % 2 ^ 16) rest)
unfolding word_sum pseudo udp.header_with ipv4.header_with ipv4.front ipv4.back
one_sent id rest = record {
  changed = true;
  round = no_piece refl refl refl refl refl refl (egress.Whole (egress.Goes Done _ _ _ egress.Begins
      (egress.Served (kind.Udp (with_queue (datagram ∷ rest))) (kind.Udp (with_queue rest)) false (with_queued ((id + 1) % 2 ^ 16) (datagram ∷ rest))
      refl tt refl
      (egress.Sent (Ipv4 (record {
        src_addr = record { bits = 0xc0a84501 };
        dst_addr = record { bits = 0xc0a84564 };
        hop_limit = 64;
        payload = Udp (record { src_port = 6969; dst_port = 5000 }) (0x68 ∷ 0x69 ∷ []);
      }))
      (Ok tt) (frame ∷ []) refl
      (ToSpecified [] refl (ByHop example.sender refl (OnLink refl refl)
      (Known example.sender_hardware is_known (Whole (lit≤ tt) (record {
        source = lit≤ tt;
        destination = lit≤ tt;
        len = lit≤ tt;
        ports = (lit≤ tt, lit≤ tt);
      }) refl refl refl refl))) refl)
      refl refl refl)
      refl)
      refl));
  answers = refl;
}

pub one_polled : (id : ℕ) (rest : List (IpEndpoint × List ℕ)) →
    Polls (pos 0) 1 poll.SocketStateChanged (with_queued id (datagram ∷ rest)) (Received (pos 0) Nothing ∷ Asked (pos 0) true ∷ Sent 0 frame ∷ [])
    (OfIdentification (Identify id) ∷ []) (with_queued ((id + 1) % 2 ^ 16) rest)
one_polled id rest = record {
  mid = with_queued id (datagram ∷ rest);
  received = false;
  went = true;
  told_receiving = Received (pos 0) Nothing ∷ [];
  told_sending = Asked (pos 0) true ∷ Sent 0 frame ∷ [];
  notes_receiving = [];
  notes_sending = OfIdentification (Identify id) ∷ [];
  receives = rw (no_slots (pos 0))
      (polling.Done 0 [] (Received (pos 0) Nothing ∷ []) [] [] _ (omega arith) polling.Begins (nothing_taken id (datagram ∷ rest)) refl refl);
  sends = polling.Spent (polling.Again poll.SocketStateChanged _ _ _ polling.Begins (one_sent id rest) (λ same. absurd cc));
  events = refl;
  all_notes = refl;
  answers = refl;
}
