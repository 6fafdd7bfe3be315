use Rattle.host_laws.proofs.Receive.WrongRebuilt.{rebuilt_dropped}
use Rattle.host_laws.proofs.restraint.wrong_rebuilt_payloads_are_dropped.Goals as goal

pub returns : goal.returns
returns c = rebuilt_dropped
