use Rattle.host_machine.specs.Context.Host.{no_sockets}
use Rattle.iface_host.proofs.host.IfaceHost.has_group.Goals as goal

pub returns : goal.returns
returns c = rw c.deref.ensures at (c.has_multicast_group.ensures no_sockets)
