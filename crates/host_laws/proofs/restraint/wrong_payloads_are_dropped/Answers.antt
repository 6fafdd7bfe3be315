use Rattle.host_laws.proofs.Receive.WrongSums.{payloads_dropped}
use Rattle.host_laws.proofs.restraint.wrong_payloads_are_dropped.Goals as goal

pub returns : goal.returns
returns c = payloads_dropped
