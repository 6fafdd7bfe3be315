use Rattle.tcp_host_laws.proofs.Prefixes as lemmas
use Rattle.tcp_host_laws.proofs.tcp_networks.networks_bring.Goals as goal

pub returns : goal.returns
returns c = lemmas.networks_bring
