use Rattle.host_laws.proofs.Runs.RouterSolicitations.{run_solicits}
use Rattle.host_laws.proofs.restraint.solicitations_are_few.Goals as goal

pub returns : goal.returns
returns c = run_solicits
