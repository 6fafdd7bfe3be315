use Rattle.iface_host.proofs.ErrorExamples as examples
use Rattle.iface_host.proofs.errors.worked_examples.Goals as goal

pub returns-clause-told : goal.returns-clause-told
returns-clause-told c = examples.told

pub returns-clause-nothing : goal.returns-clause-nothing
returns-clause-nothing c = examples.nothing

pub returns-clause-told_v6 : goal.returns-clause-told_v6
returns-clause-told_v6 c = examples.told_v6

pub returns-clause-nothing_v6 : goal.returns-clause-nothing_v6
returns-clause-nothing_v6 c = examples.nothing_v6
