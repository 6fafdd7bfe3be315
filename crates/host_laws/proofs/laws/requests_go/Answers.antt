use Rattle.host_laws.proofs.Runs.RequestsWhileWaiting.{requests_go}
use Rattle.host_laws.proofs.laws.requests_go.Goals as goal

pub returns : goal.returns
returns c = requests_go
