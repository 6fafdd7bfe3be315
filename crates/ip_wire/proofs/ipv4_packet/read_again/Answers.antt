use Rattle.ip_wire.proofs.Ipv4Again as again
use Rattle.ip_wire.proofs.ipv4_packet.read_again.Goals as goal

pub returns : goal.returns
returns c = again.read_again
