use Rattle.tcp_wire.proofs.TcpAgain as again
use Rattle.tcp_wire.proofs.tcp.read_again.Goals as goal

pub returns : goal.returns
returns c = again.read_again
