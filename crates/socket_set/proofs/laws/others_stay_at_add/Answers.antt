use Rattle.socket_set.proofs.SocketSetLemmas.{others_stay_at_add}
use Rattle.socket_set.proofs.laws.others_stay_at_add.Goals as goal

pub returns : goal.returns
returns g c = others_stay_at_add
