use Rattle.std.proofs.Common.{refl}
use Rattle.iface_sockets.proofs.SocketTurns.{no_packet}
use Rattle.iface_sockets.proofs.offers.send_if.Goals as goal

pub returns-in-None : goal.returns-in-None
returns-in-None g c = no_packet c.args.context.now (g.met.D.Device.tells_nothing c.args.device.now) (rw c.in-None.is refl)
