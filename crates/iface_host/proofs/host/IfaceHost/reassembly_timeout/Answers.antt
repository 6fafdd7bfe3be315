use Rattle.host_machine.specs.Context.Host.{no_sockets}
use Rattle.iface_host.proofs.host.IfaceHost.reassembly_timeout.Goals as goal

pub returns : goal.returns
returns c = rw c.deref.ensures at (c.reassembly_timeout.ensures no_sockets)
