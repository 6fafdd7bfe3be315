use Rattle.tcp_laws.proofs.MachineSegments.{segments_hold}
use Rattle.tcp_laws.proofs.segments_hold.Goals as goal

pub returns : goal.returns
returns c = segments_hold
