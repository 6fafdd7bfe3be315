use Rattle.std.proofs.Common.{refl}
use Rattle.iface_sockets.proofs.SocketTurns.{no_packet}
use Rattle.iface_sockets.proofs.udp.send_datagram.Goals as goal

pub returns-in_default : goal.returns-in_default
returns-in_default g c =
    no_packet c.args.context.now (g.met.D.Device.tells_nothing c.args.device.now) (rw (c.in_default.is-0, c.in_default.is-1) refl)

pub returns-in_default-2 : goal.returns-in_default-2
returns-in_default-2 g c =
    no_packet c.args.context.now (g.met.D.Device.tells_nothing c.args.device.now) (rw (c.in_default.is-0, c.in_default.is-1) refl)
