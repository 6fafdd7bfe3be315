use Rattle.host_laws.proofs.Sockets.ManyPackets.{many_go}
use Rattle.host_laws.proofs.laws.datagrams_to_many_go.Goals as goal

pub returns : goal.returns
returns c = many_go
