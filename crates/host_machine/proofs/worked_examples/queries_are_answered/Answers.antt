use Rattle.std.proofs.Common.{refl}
use Rattle.host_machine.proofs.worked_examples.queries_are_answered.Goals as goal

pub returns : goal.returns
returns c = record { all = refl; version_one = refl; one = refl; of_another = refl; without_groups = refl }
