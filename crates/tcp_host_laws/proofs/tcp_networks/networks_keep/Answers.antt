use Rattle.tcp_host_laws.proofs.Readings as lemmas
use Rattle.tcp_host_laws.proofs.tcp_networks.networks_keep.Goals as goal

pub returns : goal.returns
returns c = lemmas.networks_keep
