use Rattle.host_laws.proofs.Receive.ForeignFrames.{foreign_dropped}
use Rattle.host_laws.proofs.restraint.foreign_packets_are_dropped.Goals as goal

pub returns : goal.returns
returns c = foreign_dropped
