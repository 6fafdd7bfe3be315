use Rattle.std.proofs.Common.{◌≡◌, ◌∙◌, arith, length, sym}
use Rattle.socket_set.specs.SocketSet.{socket_at}
use Rattle.host_machine.specs.Sockets.Raw.{takes}
use Rattle.host_machine.proofs.Sockets.SocketIteration.{one_meets}
use Rattle.host_machine.proofs.Sockets.OtherPorts.{nobody, none_passed, not_raw, one_passed}
use Rattle.iface_sockets.proofs.raw.is_accepted.Goals as goal

pub loop-index-init : goal.loop-index-init
loop-index-init c =
    let test = takes c.args.header.now in
    let set = c.args.sockets.now in
    let next = c.next_at-index.ensures in (
      next.within,
      none_passed test set.places c.next_at-index.result (λ k from to. not_raw c.args.header.now (socket_at set k) (next.passed k from to)),
    )

pub loop-index-preserved : goal.loop-index-preserved
loop-index-preserved c =
    let test = takes c.args.header.now in
    let set = c.args.sockets.now in
    let next = c.next_at-index-in-loop-index.ensures in (
      next.within,
      one_passed test set.places c.loop-index.index c.next_at-index-in-loop-index.result c.loop-index.invariant.1
          (sym c.accepts_at.ensures ∙ c.if-accepts_at.false)
          (λ k from to. not_raw c.args.header.now (socket_at set k) (next.passed k from to)),
    )

pub returns-then-accepts_at : goal.returns-then-accepts_at
returns-then-accepts_at c =
    sym (one_meets _ c.args.sockets.now.places c.loop-index.index (omega arith) (sym c.accepts_at.ensures ∙ c.if-accepts_at.true))

pub returns : goal.returns
returns c =
    let all : c.loop-index.index ≡ length c.args.sockets.now.places = omega (arith, c.loop-index.invariant.0) in
    sym (nobody _ c.args.sockets.now.places c.loop-index.index all c.loop-index.invariant.1)
