use Rattle.host_machine.specs.Context.Host.{no_sockets}
use Rattle.iface_host.proofs.host.IfaceHost.any_ip.Goals as goal

pub returns : goal.returns
returns c = rw c.deref.ensures at (c.any_ip.ensures no_sockets)
