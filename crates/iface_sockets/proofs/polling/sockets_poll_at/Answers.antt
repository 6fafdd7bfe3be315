use Rattle.std.proofs.Common.{◌≡◌, None, arith, length}
use Rattle.host_machine.proofs.Interface.EarliestInstant.{below_none, sockets_least}
use Rattle.iface_context.specs.Stands.{host_in}
use Rattle.iface_sockets.proofs.IdleSockets.{below_passed}
use Rattle.iface_sockets.proofs.polling.sockets_poll_at.Goals as goal

pub least_from-requires-clause-idle : goal.least_from-requires-clause-idle
least_from-requires-clause-idle c = λ slots.
    let H = host_in c.args.context.now slots c.args.sockets.now in
    below_passed H 0 c.next_busy-first.result None (omega arith) c.next_busy-first.ensures.idle (below_none H)

pub returns-then-first-places : goal.returns-then-first-places
returns-then-first-places c = λ slots.
    let H = host_in c.args.context.now slots c.args.sockets.now in
    let all : c.next_busy-first.result ≡ length c.args.sockets.now.places = omega arith in
    sockets_least H None (rw all at (below_passed H 0 c.next_busy-first.result None (omega arith) c.next_busy-first.ensures.idle (below_none H)))
