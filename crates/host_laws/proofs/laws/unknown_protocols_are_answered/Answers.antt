use Rattle.host_laws.proofs.Receive.UnknownProtocols.{unknown_told}
use Rattle.host_laws.proofs.laws.unknown_protocols_are_answered.Goals as goal

pub returns : goal.returns
returns c = unknown_told
