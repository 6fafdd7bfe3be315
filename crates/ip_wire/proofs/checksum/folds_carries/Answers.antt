use Rattle.ip_wire.proofs.Sums as sums
use Rattle.ip_wire.proofs.checksum.folds_carries.Goals as goal

pub returns : goal.returns
returns c = sums.folds_carries
