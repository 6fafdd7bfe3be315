use Rattle.host_laws.proofs.Interface.EgressDeterminism.{egress_once}
use Rattle.host_laws.proofs.laws.egress_is_determined.Goals as goal

pub returns : goal.returns
returns c = egress_once
