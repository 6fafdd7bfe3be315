use Rattle.tcp_laws.proofs.Restraints.{outside_changes_nothing}
use Rattle.tcp_laws.proofs.outside_changes_nothing.Goals as goal

pub returns : goal.returns
returns c = outside_changes_nothing
