use Rattle.host_laws.proofs.Receive.ForeignFrames.{foreign_v6_dropped}
use Rattle.host_laws.proofs.restraint.foreign_packets_v6_are_dropped.Goals as goal

pub returns : goal.returns
returns c = foreign_v6_dropped
