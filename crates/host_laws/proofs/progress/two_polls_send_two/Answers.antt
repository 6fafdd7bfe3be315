use Rattle.std.proofs.Common.{[], ◌∷◌, false, refl, Some, None}
use Rattle.std.specs.Prelude.{pos}
use Rattle.sockets.specs.declared.socket.SocketOf.TheVariants as kind
use Rattle.host_machine.proofs.Interface.EarliestInstant.{below_none, below_more, due_least, socket_least}
use Rattle.host_laws.specs.TwoPolls.{datagram, with_queue, with_queued}
use Rattle.host_laws.proofs.QueuedExample.{one_polled}
use Rattle.host_laws.proofs.progress.two_polls_send_two.Goals as goal

pub returns : goal.returns
returns c = record {
  first = one_polled 0x1405 (datagram ∷ []);
  still_due =
      let H = with_queued 0x1406 (datagram ∷ []) in
      due_least H (Some (pos 0)) (below_more H 0 None (Some (pos 0)) (below_none H)
      (socket_least H 0 (kind.Udp (with_queue (datagram ∷ []))) false refl tt));
  second = one_polled 0x1406 [];
  at_rest =
      let H = with_queued 0x1407 [] in
      due_least H None (below_more H 0 None None (below_none H) (socket_least H 0 (kind.Udp (with_queue [])) false refl tt));
  work_at_first = refl;
  work_between = refl;
  work_at_last = refl;
}
