use Rattle.tcp_host_laws.proofs.MoveWalk as lemmas
use Rattle.tcp_host_laws.proofs.tcp_networks.networks_order.Goals as goal

pub returns : goal.returns
returns c = lemmas.networks_order
