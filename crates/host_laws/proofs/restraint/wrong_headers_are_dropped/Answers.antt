use Rattle.host_laws.proofs.Receive.WrongSums.{headers_dropped}
use Rattle.host_laws.proofs.restraint.wrong_headers_are_dropped.Goals as goal

pub returns : goal.returns
returns c = headers_dropped
