use Rattle.host_laws.proofs.Receive.WrongSums.{payloads_v6_dropped}
use Rattle.host_laws.proofs.restraint.wrong_payloads_v6_are_dropped.Goals as goal

pub returns : goal.returns
returns c = payloads_v6_dropped
