use Rattle.tcp_laws.proofs.Restraints.{other_resets_change_nothing, early_resets_change_nothing}
use Rattle.tcp_laws.proofs.other_resets_change_nothing.Goals as goal

pub returns-clause-known : goal.returns-clause-known
returns-clause-known c = other_resets_change_nothing

pub returns-clause-early : goal.returns-clause-early
returns-clause-early c = early_resets_change_nothing
