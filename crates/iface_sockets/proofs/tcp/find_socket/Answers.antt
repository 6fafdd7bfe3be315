use Rattle.std.proofs.Common.{◌∙◌, sym}
use Rattle.socket_set.specs.SocketSet.{socket_at}
use Rattle.host_machine.specs.Sockets.Tcp.{accepts}
use Rattle.host_machine.proofs.Sockets.OtherPorts.{none_passed, not_tcp, one_passed}
use Rattle.iface_sockets.proofs.tcp.find_socket.Goals as goal

pub loop-index-init : goal.loop-index-init
loop-index-init c =
    let test = accepts c.args.header.now c.args.repr.now in
    let set = c.args.sockets.now in
    let next = c.next_at-index.ensures in (
      next.within,
      none_passed test set.places c.next_at-index.result
          (λ k from to. not_tcp c.args.header.now c.args.repr.now (socket_at set k) (next.passed k from to)),
    )

pub loop-index-preserved : goal.loop-index-preserved
loop-index-preserved c =
    let test = accepts c.args.header.now c.args.repr.now in
    let set = c.args.sockets.now in
    let next = c.next_at-index-in-loop-index.ensures in (
      next.within,
      one_passed test set.places c.loop-index.index c.next_at-index-in-loop-index.result c.loop-index.invariant.1
          (sym c.accepts_at.ensures ∙ c.if-accepts_at.false)
          (λ k from to. not_tcp c.args.header.now c.args.repr.now (socket_at set k) (next.passed k from to)),
    )
