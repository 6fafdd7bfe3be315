use Rattle.socket_set.proofs.KeyLemmas.{all_unknown}
use Rattle.socket_set.proofs.keys.Keys.unknown.Goals as goal

pub returns : goal.returns
returns c = λ i. all_unknown 1024 i
