use Rattle.sockets.specs.Kinds.{down_icmp}
use Rattle.sockets.specs.Icmp as socket
use Rattle.host_machine.specs.Icmp.Delivery.{storage_after_delivery}
use Rattle.host_machine.proofs.Sockets.SocketIteration.{not_accepted}
use Rattle.iface_icmp.proofs.delivery.deliver_at.Goals as goal

pub returns-in_default-clause-heard : goal.returns-in_default-clause-heard
returns-in_default-clause-heard c =
    not_accepted down_icmp (λ s. socket.accepts s c.args.message.now c.args.contents.now) (storage_after_delivery c.args.remote c.args.octets.now)
    c.args.sockets.now c.args.index c.in_default.ensures.value
