use Rattle.std.proofs.Common.{false, refl, arith, Some, None}
use Rattle.std.proofs.lemmas.Int.{ints}
use Rattle.std.specs.Prelude.{pos}
use Rattle.sockets.specs.declared.socket.SocketOf.TheVariants as kind
use Rattle.host_machine.specs.Send.Hops.{OfHost, OnLink}
use Rattle.host_machine.specs.Interface.Due.{Passed, Left}
use Rattle.host_machine.specs.Examples.ArpAndEcho as example
use Rattle.host_machine.specs.Examples.Sockets.{sending, with_sending}
use Rattle.host_machine.proofs.Examples.Exchange.{is_silent, is_unknown_later}
use Rattle.host_machine.proofs.Interface.EarliestInstant.{below_none, below_more, due_least, socket_least}
use Rattle.host_machine.proofs.worked_examples.wait_is_due.Goals as goal

pub returns : goal.returns
returns c = record {
  waiting =
      let H = with_sending (Some (example.sender, pos 1000000)) (pos 999999) 0x1406 (pos 1000000) in
      due_least H (Some (pos 1000000)) (below_more H 0 None (Some (pos 1000000)) (below_none H)
      (socket_least H 0 (kind.Udp sending) false refl (OfHost (Some example.sender) refl (OnLink refl refl) (rw is_silent refl))));
  rest = Left refl;
  passed =
      let H = with_sending (Some (example.sender, pos 1000000)) (pos 1000000) 0x1406 (pos 1000000) in
      due_least H (Some (pos 0)) (below_more H 0 None (Some (pos 0)) (below_none H)
      (socket_least H 0 (kind.Udp sending) false refl (OfHost (Some example.sender) refl (OnLink refl refl) (rw is_unknown_later refl))));
  without_rest = Passed (omega (arith, ints));
  never = due_least (example.host 0x1405 example.neighbors_with_sender) None (below_none (example.host 0x1405 example.neighbors_with_sender));
}
