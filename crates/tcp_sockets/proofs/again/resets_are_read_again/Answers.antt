use Rattle.tcp_sockets.proofs.ResetLemmas as lemmas
use Rattle.tcp_sockets.proofs.again.resets_are_read_again.Goals as goal

pub returns : goal.returns
returns c = lemmas.resets_are_read_again
