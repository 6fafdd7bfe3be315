use Rattle.host_laws.proofs.PingsBack.{runs_return}
use Rattle.host_laws.proofs.pings.runs_return_pings.Goals as goal

pub returns : goal.returns
returns c = runs_return
