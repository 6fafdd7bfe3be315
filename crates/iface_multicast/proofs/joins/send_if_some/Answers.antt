use Rattle.std.proofs.Common.{refl}
use Rattle.iface_send.proofs.Offered.{no_packet}
use Rattle.iface_multicast.proofs.joins.send_if_some.Goals as goal

pub returns-in-None-clause-told : goal.returns-in-None-clause-told
returns-in-None-clause-told g c = no_packet c.args.context.now (g.met.D.Device.tells_nothing c.args.device.now) (rw c.in-None.is refl) refl
