use Rattle.tcp_laws.proofs.SentAgain.{retransmissions_wait}
use Rattle.tcp_laws.proofs.retransmissions_wait.Goals as goal

pub returns : goal.returns
returns c = retransmissions_wait
