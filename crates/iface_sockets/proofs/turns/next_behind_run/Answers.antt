use Rattle.std.proofs.Common.{◌∙◌, ap, arith}
use Rattle.std.specs.Prelude.{not}
use Rattle.iface_context.specs.Stands.{host_in}
use Rattle.iface_sockets.proofs.PassedSockets.{then_idle, waits_more}
use Rattle.iface_sockets.proofs.turns.next_behind_run.Goals as goal

pub loop-index-init : goal.loop-index-init
loop-index-init c = λ slots i after before. absurd (omega (arith, after, before))

pub loop-index-preserved : goal.loop-index-preserved
loop-index-preserved c = λ slots.
    waits_more (host_in c.args.context.now slots c.args.sockets.now) c.args.served c.loop-index.index (c.requires.unknown slots)
    (rw (c.waits_like.ensures, c.now-now.ensures) at (c.is_none.ensures ∙ ap not c.if-is_none.false)) (c.loop-index.invariant slots)

pub returns-then-is_none-clause-passed : goal.returns-then-is_none-clause-passed
returns-then-is_none-clause-passed c = λ slots.
    then_idle c.args.context.now slots c.args.sockets.now c.args.served c.loop-index.index c.next_busy.result c.next_busy.ensures.within
    (c.loop-index.invariant slots) c.next_busy.ensures.idle

pub returns-clause-passed : goal.returns-clause-passed
returns-clause-passed c = λ slots i after before. c.loop-index.invariant slots i after (omega (arith, before))
