use Rattle.host_laws.proofs.Runs.TwoHosts.{run_rebuilds}
use Rattle.host_laws.proofs.laws.rebuilds_what_was_cut.Goals as goal

pub returns : goal.returns
returns c = run_rebuilds
