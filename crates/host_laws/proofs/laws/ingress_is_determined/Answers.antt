use Rattle.host_laws.proofs.Interface.CallDeterminism.{ingress_once}
use Rattle.host_laws.proofs.laws.ingress_is_determined.Goals as goal

pub returns : goal.returns
returns c = ingress_once
