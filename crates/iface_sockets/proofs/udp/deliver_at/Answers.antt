use Rattle.std.proofs.Common.{◌∙◌}
use Rattle.host_machine.specs.Context.Host.{no_sockets}
use Rattle.iface_context.specs.Stands.{host_of}
use Rattle.iface_sockets.proofs.UdpDelivery.{accepted_at}
use Rattle.iface_sockets.proofs.udp.deliver_at.Goals as goal

pub returns-clause-accepted : goal.returns-clause-accepted
returns-clause-accepted c =
    c.process_udp.ensures.there
    ∙ accepted_at (host_of c.args.context.now no_sockets).ip_addrs c.args.header.now c.args.ports.now c.args.sockets.now.places c.args.index c.requires.found
