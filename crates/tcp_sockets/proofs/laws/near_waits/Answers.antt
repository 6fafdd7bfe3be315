use Rattle.tcp_sockets.proofs.LawLemmas.{near_waits}
use Rattle.tcp_sockets.proofs.laws.near_waits.Goals as goal

pub returns : goal.returns
returns g c = λ place now own m e v st ends version. near_waits place now own m e v st ends version
