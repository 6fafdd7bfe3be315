use Rattle.std.proofs.Common.{◌∙◌, sym, arith}
use Rattle.socket_set.specs.SocketSet.{socket_at}
use Rattle.host_machine.specs.Sockets.Tcp.{accepts}
use Rattle.host_machine.proofs.Sockets.OtherPorts.{none_passed, one_passed}
use Rattle.iface_sockets.proofs.PayloadRules.{elsewhere, is_within}
use Rattle.iface_sockets.proofs.tcp.is_for_nobody.Goals as goal

pub loop-index-init : goal.loop-index-init
loop-index-init c =
    let set = c.args.sockets.now in
    let next = c.next_at-index.ensures in (
      next.within,
      λ r t is. none_passed (accepts r t) set.places c.next_at-index.result
          (λ k from to. elsewhere r t c.u16_at.result (socket_at set k) (is ∙ sym c.u16_at.ensures) (next.passed k from to)),
    )

pub loop-index-preserved : goal.loop-index-preserved
loop-index-preserved c =
    let set = c.args.sockets.now in
    let next = c.next_at-index-in-loop-index.ensures in (
      next.within,
      λ r t is. one_passed (accepts r t) set.places c.loop-index.index c.next_at-index-in-loop-index.result (c.loop-index.invariant.1 r t is)
          (c.is_tcp_at.ensures c.if-is_tcp_at.false r t)
          (λ k from to. elsewhere r t c.u16_at.result (socket_at set k) (is ∙ sym c.u16_at.ensures) (next.passed k from to)),
    )

pub returns : goal.returns
returns c = λ yes r t is k other here.
    let within = is_within c.args.sockets.now.places k other here in
    let all = c.places.ensures in
    let past = c.loop-index-test.false in
    c.loop-index.invariant.1 r t is k other (omega (arith, within, all, past)) here
