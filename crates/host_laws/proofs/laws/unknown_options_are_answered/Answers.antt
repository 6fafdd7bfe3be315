use Rattle.host_laws.proofs.Receive.UnknownProtocols.{options_told}
use Rattle.host_laws.proofs.laws.unknown_options_are_answered.Goals as goal

pub returns : goal.returns
returns c = options_told
