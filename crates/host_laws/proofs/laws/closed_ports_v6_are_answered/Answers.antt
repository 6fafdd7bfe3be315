use Rattle.host_laws.proofs.Sockets.DatagramDeliveryV6.{ports_v6_told}
use Rattle.host_laws.proofs.laws.closed_ports_v6_are_answered.Goals as goal

pub returns : goal.returns
returns c = ports_v6_told
