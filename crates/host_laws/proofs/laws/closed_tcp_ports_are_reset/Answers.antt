use Rattle.host_laws.proofs.Sockets.ClosedTcpPorts.{ports_reset}
use Rattle.host_laws.proofs.laws.closed_tcp_ports_are_reset.Goals as goal

pub returns : goal.returns
returns c = ports_reset
