use Rattle.host_laws.proofs.Interface.Configured.{begins_with_nothing}
use Rattle.host_laws.proofs.laws.hosts_begin_with_nothing.Goals as goal

pub returns : goal.returns
returns c = begins_with_nothing
