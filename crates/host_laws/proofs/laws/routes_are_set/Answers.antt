use Rattle.host_laws.proofs.Interface.Configured.{routes_set}
use Rattle.host_laws.proofs.laws.routes_are_set.Goals as goal

pub returns : goal.returns
returns c = routes_set
