use Rattle.tcp_host_laws.proofs.PairLemmas as lemmas
use Rattle.tcp_host_laws.proofs.lives_keep.Goals as goal

pub returns : goal.returns
returns c = lemmas.lives_keep
