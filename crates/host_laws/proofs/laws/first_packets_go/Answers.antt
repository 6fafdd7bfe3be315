use Rattle.host_laws.proofs.Sockets.FirstPackets.{first_packets_go}
use Rattle.host_laws.proofs.laws.first_packets_go.Goals as goal

pub returns : goal.returns
returns c = first_packets_go
