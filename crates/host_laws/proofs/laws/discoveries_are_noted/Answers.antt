use Rattle.host_laws.proofs.Runs.RunRequests.{run_asks}
use Rattle.host_laws.proofs.laws.discoveries_are_noted.Goals as goal

pub returns : goal.returns
returns c = run_asks
