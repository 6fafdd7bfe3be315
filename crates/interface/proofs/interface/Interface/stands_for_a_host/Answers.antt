use Rattle.std.proofs.Common.{refl}
use Rattle.iface_context.specs.Stands.{host_in}
use Rattle.interface.proofs.interface.Interface.stands_for_a_host.Goals as goal

pub returns : goal.returns
returns c = λ sockets.
    let slots = c.stands_for_slots.ensures in
    (host_in c.args.self.now.context slots.0 sockets, record { slots = slots.0; stand = slots.1; same = refl })
