use Rattle.control_wire.proofs.MldAgain as again
use Rattle.control_wire.proofs.mld.read_again.Goals as goal

pub returns : goal.returns
returns c = again.read_again
