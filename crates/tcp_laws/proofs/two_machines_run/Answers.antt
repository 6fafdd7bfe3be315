use Rattle.tcp_laws.proofs.MachinesRun.{two_machines_run}
use Rattle.tcp_laws.proofs.two_machines_run.Goals as goal

pub returns : goal.returns
returns c = two_machines_run
