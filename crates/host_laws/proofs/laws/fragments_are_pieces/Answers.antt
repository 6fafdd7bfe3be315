use Rattle.host_laws.proofs.Runs.SentPieces.{run_shows}
use Rattle.host_laws.proofs.laws.fragments_are_pieces.Goals as goal

pub returns : goal.returns
returns c = run_shows
