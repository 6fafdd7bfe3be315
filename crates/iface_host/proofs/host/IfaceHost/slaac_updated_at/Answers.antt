use Rattle.host_machine.specs.Context.Host.{no_sockets}
use Rattle.iface_host.proofs.host.IfaceHost.slaac_updated_at.Goals as goal

pub returns : goal.returns
returns c = rw c.deref.ensures at (c.slaac_updated_at.ensures no_sockets)
