use Rattle.ip_wire.proofs.HopByHopAgain as again
use Rattle.ip_wire.proofs.hop_by_hop.read_again.Goals as goal

pub returns : goal.returns
returns c = again.read_again
