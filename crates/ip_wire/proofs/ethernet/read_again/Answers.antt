use Rattle.ip_wire.proofs.EthernetAgain as again
use Rattle.ip_wire.proofs.ethernet.read_again.Goals as goal

pub returns : goal.returns
returns c = again.read_again
