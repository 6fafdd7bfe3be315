use Rattle.host_laws.proofs.Interface.OneFrameCalls.{single}
use Rattle.host_laws.proofs.laws.ingress_is_single.Goals as goal

pub returns : goal.returns
returns c = single
