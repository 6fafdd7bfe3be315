use Rattle.host_laws.proofs.Runs.FragmentArrivals.{pieces_rebuilt}
use Rattle.host_laws.proofs.laws.pieces_are_rebuilt.Goals as goal

pub returns : goal.returns
returns c = pieces_rebuilt
