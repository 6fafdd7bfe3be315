use Rattle.iface_sockets.proofs.SocketTurns.{idle_served}
use Rattle.iface_sockets.proofs.turns.serve.Goals as goal

pub returns-then-rest-clause-told : goal.returns-then-rest-clause-told
returns-then-rest-clause-told g c = λ slots.
    rw c.rest.ensures.unchanged (idle_served c.args.context.now slots c.args.sockets.now c.args.index
    (g.met.D.Device.tells_nothing c.args.device.now) c.requires (c.rest.ensures.idle c.if-rest.true))
