use Rattle.host_laws.proofs.Runs.TwoHosts.{pieces_read}
use Rattle.host_laws.proofs.laws.pieces_are_read.Goals as goal

pub returns : goal.returns
returns c = pieces_read
