use Rattle.std.proofs.Common.{◌≡◌, arith, length}
use Rattle.host_machine.specs.Sockets.Polling.{instant_of}
use Rattle.host_machine.proofs.Interface.EarliestInstant.{own_least, below_more, sockets_least}
use Rattle.iface_context.specs.Stands.{host_in}
use Rattle.iface_sockets.proofs.IdleSockets.{below_passed}
use Rattle.iface_sockets.proofs.polling.least_from.Goals as goal

pub loop-index-init : goal.loop-index-init
loop-index-init c = (c.requires.idle, c.requires.within)

pub loop-index-preserved : goal.loop-index-preserved
loop-index-preserved c =
    let idle = c.next_busy-index.ensures in
    let passed = c.pass_alike-next.ensures in (
      λ slots.
          let H = host_in c.args.context.now slots c.args.sockets.now in
          below_passed H c.pass_alike-next.result.0 c.next_busy-index.result c.pass_alike-next.result.1 (idle.after passed.within) idle.idle
          (passed.least slots (rw (c.earlier_of-least.ensures, c.instant_of.ensures)
          (below_more H c.loop-index.index c.loop-index.least (instant_of c.poll_at-own.result) (c.loop-index.invariant.0 slots)
          (own_least H c.loop-index.index c.poll_at-own.result _ (λ a known is. is.1 slots c.args.sockets.now)
          (rw c.now-now.ensures at c.poll_at-own.ensures.socket) c.poll_at-own.ensures.nobody)))),
      idle.within,
    )

pub returns : goal.returns
returns c = λ slots.
    let all : c.loop-index.index ≡ length c.args.sockets.now.places = omega (arith, c.loop-index.invariant.1) in
    sockets_least (host_in c.args.context.now slots c.args.sockets.now) c.loop-index.least (rw all at (c.loop-index.invariant.0 slots))
