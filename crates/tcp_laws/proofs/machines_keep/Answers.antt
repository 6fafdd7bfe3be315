use Rattle.tcp_laws.proofs.MachineRuns.{machines_keep}
use Rattle.tcp_laws.proofs.machines_keep.Goals as goal

pub returns : goal.returns
returns c = machines_keep
