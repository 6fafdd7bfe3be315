use Rattle.tcp_host_laws.proofs.ArrivalRuns as lemmas
use Rattle.tcp_host_laws.proofs.tcp_networks.packets_were_sent_in_lives.Goals as goal

pub returns : goal.returns
returns c = lemmas.packets_were_sent_in_lives
