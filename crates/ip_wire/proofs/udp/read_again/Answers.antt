use Rattle.ip_wire.proofs.UdpAgain as again
use Rattle.ip_wire.proofs.udp.read_again.Goals as goal

pub returns : goal.returns
returns c = again.read_again
