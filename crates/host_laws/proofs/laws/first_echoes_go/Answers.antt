use Rattle.host_laws.proofs.Sockets.FirstPackets.{first_echoes_go}
use Rattle.host_laws.proofs.laws.first_echoes_go.Goals as goal

pub returns : goal.returns
returns c = first_echoes_go
