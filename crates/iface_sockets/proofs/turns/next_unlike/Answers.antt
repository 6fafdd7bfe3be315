use Rattle.std.proofs.Common.{◌+◌, arith}
use Rattle.iface_sockets.proofs.PassedSockets.{then_idle}
use Rattle.iface_sockets.proofs.turns.next_unlike.Goals as goal

pub returns-in_default-clause-passed : goal.returns-in_default-clause-passed
returns-in_default-clause-passed c = λ slots.
    then_idle c.args.context.now slots c.args.sockets.now c.args.served (c.args.served + 1) c.next_busy.result c.next_busy.ensures.within
    (λ i after before. absurd (omega (arith, after, before))) c.next_busy.ensures.idle
