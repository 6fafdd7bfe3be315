use Rattle.iface_sockets.proofs.SocketTurns.{decided}
use Rattle.iface_sockets.proofs.turns.is_permitted.Goals as goal

pub returns : goal.returns
returns c =
    decided c.args.context.now c.args.sockets.now c.egress_permitted.new.sockets c.args.index c.egress_permitted.result
    (λ slots a k is. is.1 slots c.args.sockets.now) (rw c.now.ensures at c.egress_permitted.ensures.socket) c.egress_permitted.ensures.nobody
