use Rattle.std.proofs.Common.{[], ◌∷◌, false, refl, lit≤}
use Rattle.ip_wire.specs.Checksum.{word_sum}
use Rattle.ip_wire.specs.Ipv4Packet.{header_with, front, back}
use Rattle.fragmentation.specs.Cuts.{piece_of}
use Rattle.host_machine.specs.Context.Note.{OfCuts, Cut, PieceSent}
use Rattle.host_machine.specs.Send.Dispatch.{ToSpecified, ByHop, Known, InPieces}
use Rattle.host_machine.specs.Send.Hops.{OnLink}
use Rattle.host_machine.specs.Send.Fragments.{NotGranted, PieceGoes}
use Rattle.host_machine.specs.Sockets.Turns.{Begins, Whole}
use Rattle.host_machine.specs.Examples.ArpAndEcho as host
use Rattle.host_machine.specs.Examples.Fragments as example
use Rattle.host_machine.proofs.Interface.RoundWithoutPieces.{no_groups}
use Rattle.host_machine.proofs.Examples.Exchange.{is_known}
use Rattle.host_machine.proofs.worked_examples.packet_goes_in_pieces.Goals as goal

pub returns : goal.returns
unfolding word_sum header_with front back
returns c = record {
  first = ToSpecified (OfCuts (Cut example.datagram) ∷ OfCuts (PieceSent (piece_of example.datagram example.one)) ∷ [])
      refl (ByHop host.sender refl (OnLink refl refl)
      (Known host.sender_hardware is_known
      (InPieces example.ten_to_another (piece_of example.datagram example.one) (piece_of example.datagram example.two ∷ []) refl (lit≤ tt) refl refl
      (record {
        source_addr = lit≤ tt;
        destination_addr = lit≤ tt;
        identification = lit≤ tt;
        payload = lit≤ tt;
      }) (record { source = lit≤ tt; destination = lit≤ tt; len = lit≤ tt; ports = tt }) refl refl refl refl))) refl;
  waits = record {
    changed = false;
    round = record {
      mid = example.half_sent;
      told_one = _;
      told_two = [];
      notes_one = [];
      notes_two = [];
      begins = NotGranted (piece_of example.datagram example.two) [] refl refl refl refl;
      ends = no_groups refl refl refl refl refl (Whole Begins);
      events = refl;
      all_notes = refl;
    };
    answers = refl;
  };
  last = record {
    changed = false;
    round = record {
      mid = example.narrow_host 8;
      told_one = _;
      told_two = [];
      notes_one = OfCuts (PieceSent (piece_of example.datagram example.two)) ∷ [];
      notes_two = [];
      begins = PieceGoes (piece_of example.datagram example.two) [] refl refl refl refl;
      ends = no_groups refl refl refl refl refl (Whole Begins);
      events = refl;
      all_notes = refl;
    };
    answers = refl;
  };
}
