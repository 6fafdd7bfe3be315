use Rattle.ip_wire.proofs.ArpAgain as again
use Rattle.ip_wire.proofs.arp.read_again.Goals as goal

pub returns : goal.returns
returns c = again.read_again
