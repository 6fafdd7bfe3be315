use Rattle.host_machine.specs.Context.Host.{no_sockets}
use Rattle.iface_host.proofs.host.IfaceHost.source_for.Goals as goal

pub returns : goal.returns
returns c = rw c.deref.ensures at (c.get_source_address.ensures no_sockets)
