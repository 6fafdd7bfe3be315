use Rattle.tcp_host_laws.proofs.Comings as lemmas
use Rattle.tcp_host_laws.proofs.tcp_networks.segments_come_from_lives.Goals as goal

pub returns : goal.returns
returns c = lemmas.segments_come_from_lives
