use Rattle.host_laws.proofs.Receive.ReceiveDeterminism.{received_once}
use Rattle.host_laws.proofs.laws.reception_is_determined.Goals as goal

pub returns : goal.returns
returns c = received_once
