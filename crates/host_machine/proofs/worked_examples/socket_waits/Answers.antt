use Rattle.std.proofs.Common.{[], ◌∷◌, false, refl, Some, None, Err}
use Rattle.std.specs.Prelude.{pos}
use Rattle.ip_wire.specs.Arp.{ipv4_over_ethernet}
use Rattle.sockets.specs.declared.socket.SocketOf.TheVariants as kind
use Rattle.host_machine.specs.declared.results.DispatchError.TheVariants.{NeighborPending}
use Rattle.host_machine.specs.declared.results.Turn.TheVariants.{Idle, Deferred}
use Rattle.host_machine.specs.Packet.Packet.{Ipv4, Udp}
use Rattle.host_machine.specs.Send.Dispatch.{ToSpecified, ByHop, Unknown}
use Rattle.host_machine.specs.Send.Hops.{OfHost, OnLink}
use Rattle.host_machine.specs.Send.Requests.{Asked}
use Rattle.host_machine.specs.Sockets.Turns.{Begins, Goes, Sent, Served, Waits, Whole}
use Rattle.host_machine.specs.Examples.ArpAndEcho as example
use Rattle.host_machine.specs.Examples.Sockets.{sending, with_sending}
use Rattle.host_machine.specs.Context.Note.{OfDiscovery, Ask}
use Rattle.host_machine.proofs.Interface.RoundWithoutPieces.{no_piece}
use Rattle.host_machine.proofs.Examples.Exchange.{is_silent, is_unknown, is_unknown_later}
use Rattle.host_machine.proofs.worked_examples.socket_waits.Goals as goal

pub returns : goal.returns
unfolding ipv4_over_ethernet
returns c = record {
  asked = record {
    changed = false;
    round = no_piece refl refl refl refl refl refl (Whole (Goes (Deferred example.sender) _ _ _ Begins
        (Served (kind.Udp sending) (kind.Udp sending) false (with_sending None (pos 0) 0x1406 (pos 1000000)) refl tt refl
        (Sent (Ipv4 (record {
          src_addr = record { bits = 0xc0a84501 };
          dst_addr = record { bits = 0xc0a84564 };
          hop_limit = 64;
          payload = Udp (record { src_port = 6969; dst_port = 5000 }) (0x68 ∷ 0x69 ∷ []);
        }))
        (Err NeighborPending) (example.discovery ∷ []) refl
        (ToSpecified (OfDiscovery (Ask (pos 0)) ∷ []) refl (ByHop example.sender refl (OnLink refl refl)
        (Unknown is_unknown (Asked (record { bits = 0xc0a84564 }) (record { bits = 0xc0a84501 }) refl refl refl refl refl refl))) refl)
        refl refl refl)
        refl)
        refl));
    answers = refl;
  };
  waits = record {
    changed = false;
    round = no_piece refl refl refl refl refl refl (Whole (Goes Idle _ _ _ Begins
        (Waits (kind.Udp sending) false refl (OfHost (Some example.sender) refl (OnLink refl refl) (rw is_silent refl)) refl refl refl refl refl)
        refl));
    answers = refl;
  };
  asked_again = record {
    changed = false;
    round = no_piece refl refl refl refl refl refl (Whole (Goes (Deferred example.sender) _ _ _ Begins
        (Served (kind.Udp sending)
        (kind.Udp sending) false (with_sending (Some (example.sender, pos 1000000)) (pos 1000000) 0x1407 (pos 2000000)) refl
        (OfHost (Some example.sender) refl (OnLink refl refl) (rw is_unknown_later refl)) refl
        (Sent (Ipv4 (record {
          src_addr = record { bits = 0xc0a84501 };
          dst_addr = record { bits = 0xc0a84564 };
          hop_limit = 64;
          payload = Udp (record { src_port = 6969; dst_port = 5000 }) (0x68 ∷ 0x69 ∷ []);
        }))
        (Err NeighborPending) (example.discovery ∷ []) refl
        (ToSpecified (OfDiscovery (Ask (pos 1000000)) ∷ []) refl (ByHop example.sender refl (OnLink refl refl)
        (Unknown is_unknown_later (Asked (record { bits = 0xc0a84564 }) (record { bits = 0xc0a84501 }) refl refl refl refl refl refl))) refl)
        refl refl refl)
        refl)
        refl));
    answers = refl;
  };
}
