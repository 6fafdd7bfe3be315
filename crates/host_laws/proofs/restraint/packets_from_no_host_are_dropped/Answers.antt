use Rattle.host_laws.proofs.Receive.ForeignFrames.{unheard}
use Rattle.host_laws.proofs.restraint.packets_from_no_host_are_dropped.Goals as goal

pub returns : goal.returns
returns c = unheard
