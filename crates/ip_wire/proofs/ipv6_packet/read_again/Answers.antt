use Rattle.ip_wire.proofs.Ipv6Again as again
use Rattle.ip_wire.proofs.ipv6_packet.read_again.Goals as goal

pub returns : goal.returns
returns c = again.read_again
