use Rattle.tcp_laws.proofs.Restraints.{closed_is_silent}
use Rattle.tcp_laws.proofs.closed_is_silent.Goals as goal

pub returns : goal.returns
returns c = closed_is_silent
