use Rattle.socket_set.specs.SocketSet.{socket_at}
use Rattle.host_machine.specs.Icmp.Delivery.{accepts}
use Rattle.host_machine.proofs.Sockets.SocketIteration.{set_kept}
use Rattle.host_machine.proofs.Sockets.OtherPorts.{none_accepts_at_all, not_icmp}
use Rattle.iface_icmp.proofs.delivery.deliver.Goals as goal

pub returns-then-not-may_have_portless : goal.returns-then-not-may_have_portless
returns-then-not-may_have_portless c =
    let ported = c.may_have_portless.ensures c.if-not-may_have_portless.true in
    let test = accepts c.args.message.now c.args.contents.now in
    set_kept _ _ c.args.sockets.now
    (none_accepts_at_all test c.args.sockets.now (λ k. not_icmp c.args.message.now c.args.contents.now (socket_at c.args.sockets.now k) (ported k)))
