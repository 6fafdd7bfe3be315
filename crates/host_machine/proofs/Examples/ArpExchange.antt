-- The worked exchange of an ARP request.
use Rattle.std.proofs.Common.{[], ◌∷◌, drop, refl, inl, arith, Some, None, false, lit≤}
use Rattle.std.specs.Prelude.{pos}
use Rattle.ip_wire.specs.Arp.{ipv4_over_ethernet, arp_in}
use Rattle.host_machine.specs.Receive.Reply.{Arp}
use Rattle.host_machine.specs.Discovery.Arp.{Learnt, reply_to}
use Rattle.host_machine.specs.Receive.Ethernet.{Accepted}
use Rattle.std.specs.FinMap.{len-empty}
use Rattle.net_base.specs.Device.{Frame, Nothing, Received}
use Rattle.ip_address.specs.Ip.{address_cmp}
use Rattle.iface_tables.specs.declared.neighbor.Neighbor.{Neighbor}
use Rattle.host_machine.specs.Examples.ArpAndEcho as example
use Rattle.host_machine.specs.declared.results.PollIngressSingleResult.TheVariants as ingress
use Rattle.host_machine.specs.declared.results.PollResult.TheVariants as poll
use Rattle.host_machine.specs.Interface.Ingress.{Ingress}
use Rattle.host_machine.specs.Interface.Egress.{Egress}
use Rattle.host_machine.specs.Sockets.Turns.{Begins, Whole}
use Rattle.host_machine.specs.Examples.ArpAndEcho.{RequestIsAnswered}
use Rattle.host_machine.proofs.Examples.Exchange.{no_slots}
use Rattle.host_machine.proofs.Interface.RoundWithoutPieces.{no_piece}

pub request_answered : RequestIsAnswered
unfolding ipv4_over_ethernet
request_answered = record {
  reception = Frame example.request;
  frames = example.reply ∷ [];
  response = record {
    reply = Some (Arp (reply_to (record { 0 = 2 ∷ 0 ∷ 0 ∷ 0 ∷ 0 ∷ 1 ∷ [] }) (arp_in (drop 14 example.request))));
    taken = example.host 0x1405 example.neighbors_with_sender;
    notes_taking = [];
    notes_responding = [];
    takes = rw (no_slots (pos 0)) (Accepted (lit≤ tt) refl (Learnt
        (record { whole = lit≤ tt; hardware = refl; protocol = refl; hardware_len = refl; protocol_len = refl; operation = inl refl })
        refl
        (record {
          neighbors = example.neighbors_with_sender;
          filled = record {
            puts = record { there = λ h. refl; room = λ h. refl; full = λ none many. absurd (omega (arith, len-empty address_cmp Neighbor)) };
            room = refl;
            silence = refl;
          };
          same = refl;
        })
        refl refl));
    responds = (refl, refl, refl);
    all_notes = refl;
  };
  events = refl;
  answers = refl;
}

-- the host that it leads to takes nothing where there is no frame, and has nothing to send
pub nothing_taken : Ingress (pos 0) ingress.None (example.host 0x1405 example.neighbors_with_sender)
    (Received (pos 0) Nothing ∷ []) [] (example.host 0x1405 example.neighbors_with_sender)
nothing_taken = record {
  reception = Nothing;
  frames = [];
  response = record {
    reply = None;
    taken = example.host 0x1405 example.neighbors_with_sender;
    notes_taking = [];
    notes_responding = [];
    takes = rw (no_slots (pos 0)) (record { silent = refl; unnoted = refl; unchanged = refl });
    responds = (refl, refl, refl);
    all_notes = refl;
  };
  events = refl;
  answers = refl;
}

pub nothing_sent :
    Egress (pos 0) poll.None (example.host 0x1405 example.neighbors_with_sender) [] [] (example.host 0x1405 example.neighbors_with_sender)
nothing_sent = record { changed = false; round = no_piece refl refl refl refl refl refl (Whole Begins); answers = refl }
