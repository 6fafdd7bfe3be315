use Rattle.host_laws.proofs.Interface.CallDeterminism.{poll_once}
use Rattle.host_laws.proofs.laws.poll_is_determined.Goals as goal

pub returns : goal.returns
returns c = poll_once
