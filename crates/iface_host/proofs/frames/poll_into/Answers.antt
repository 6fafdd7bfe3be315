use Rattle.std.proofs.Common.{refl, rules}
use Rattle.iface_host.proofs.FrameCalls.{at_the_end}
use Rattle.iface_host.proofs.frames.poll_into.Goals as goal

pub returns : goal.returns
returns c =
    at_the_end c.args.now c.poll_over-answer.result _ _ c.len_or_zero.ensures c.args.out.now _ _ (search rules) c.args.outbox.now
    _ _ (search rules) c.args.interface.now c.poll_over-answer.new.interface c.args.sockets.now c.poll_over-answer.new.sockets
    (c.poll_over-answer.ensures.polled refl)
