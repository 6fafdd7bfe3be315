use Rattle.std.proofs.Common.{◌∙◌, sym}
use Rattle.socket_set.specs.SocketSet.{socket_at}
use Rattle.host_machine.specs.Context.Host.{no_sockets}
use Rattle.host_machine.specs.Sockets.Udp.{accepts}
use Rattle.iface_context.specs.Stands.{host_of}
use Rattle.host_machine.proofs.Sockets.OtherPorts.{none_passed, not_udp, one_passed}
use Rattle.iface_sockets.proofs.udp.find_among_several.Goals as goal

pub loop-index-init : goal.loop-index-init
loop-index-init c =
    let own = (host_of c.args.context.now no_sockets).ip_addrs in
    let test = accepts own c.args.header.now c.args.ports.now in
    let set = c.args.sockets.now in
    let next = c.next_at-index.ensures in (
      next.within,
      none_passed test set.places c.next_at-index.result
          (λ k from to. not_udp own c.args.header.now c.args.ports.now (socket_at set k) (next.passed k from to)),
    )

pub loop-index-preserved : goal.loop-index-preserved
loop-index-preserved c =
    let own = (host_of c.args.context.now no_sockets).ip_addrs in
    let test = accepts own c.args.header.now c.args.ports.now in
    let set = c.args.sockets.now in
    let next = c.next_at-index-in-loop-index.ensures in (
      next.within,
      one_passed test set.places c.loop-index.index c.next_at-index-in-loop-index.result c.loop-index.invariant.1
          (sym c.accepts_at.ensures ∙ c.if-accepts_at.false)
          (λ k from to. not_udp own c.args.header.now c.args.ports.now (socket_at set k) (next.passed k from to)),
    )
