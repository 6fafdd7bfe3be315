use Rattle.host_laws.proofs.Send.DispatchDeterminism.{dispatches_once}
use Rattle.host_laws.proofs.laws.dispatch_is_determined.Goals as goal

pub returns : goal.returns
returns c = dispatches_once
