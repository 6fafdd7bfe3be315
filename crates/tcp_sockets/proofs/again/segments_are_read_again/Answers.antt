use Rattle.tcp_sockets.proofs.AgainLemmas as lemmas
use Rattle.tcp_sockets.proofs.again.segments_are_read_again.Goals as goal

pub returns : goal.returns
returns c = lemmas.segments_are_read_again
