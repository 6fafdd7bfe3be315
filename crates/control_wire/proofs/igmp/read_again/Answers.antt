use Rattle.control_wire.proofs.IgmpAgain as again
use Rattle.control_wire.proofs.igmp.read_again.Goals as goal

pub returns : goal.returns
returns c = again.read_again
