use Rattle.ip_wire.proofs.ArpAgain as again
use Rattle.ip_wire.proofs.arp.written_again.Goals as goal

pub returns : goal.returns
returns c = again.written_again
