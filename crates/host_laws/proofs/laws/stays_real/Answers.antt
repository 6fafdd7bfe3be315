use Rattle.host_laws.proofs.Runs.SentPieces.{run_real}
use Rattle.host_laws.proofs.laws.stays_real.Goals as goal

pub returns : goal.returns
returns c = run_real
