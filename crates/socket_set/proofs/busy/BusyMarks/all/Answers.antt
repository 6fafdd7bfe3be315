use Rattle.std.proofs.Common.{refl, rules}
use Rattle.socket_set.proofs.BusyLemmas.{none_clear}
use Rattle.socket_set.proofs.busy.BusyMarks.all.Goals as goal

pub returns : goal.returns
returns c = λ i. none_clear _ i (search rules) refl
