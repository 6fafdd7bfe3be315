use Rattle.network.proofs.NetworkSteps.{joined}
use Rattle.network.proofs.network.networks_join.Goals as goal

pub returns : goal.returns
returns g c = λ a b d calls more answers more_answers first second. joined g.O.Owner.did a b d calls more answers more_answers first second
