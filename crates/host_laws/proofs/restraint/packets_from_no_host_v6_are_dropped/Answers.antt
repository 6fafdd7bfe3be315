use Rattle.host_laws.proofs.Receive.ForeignFrames.{unheard_v6}
use Rattle.host_laws.proofs.restraint.packets_from_no_host_v6_are_dropped.Goals as goal

pub returns : goal.returns
returns c = unheard_v6
