use Rattle.host_laws.proofs.Sockets.DatagramDelivery.{ports_told}
use Rattle.host_laws.proofs.laws.closed_ports_are_answered.Goals as goal

pub returns : goal.returns
returns c = ports_told
