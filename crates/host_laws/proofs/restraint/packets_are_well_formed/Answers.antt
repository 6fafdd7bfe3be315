use Rattle.host_laws.proofs.Packet.WellFormed.{well_formed}
use Rattle.host_laws.proofs.restraint.packets_are_well_formed.Goals as goal

pub returns : goal.returns
returns c = well_formed
