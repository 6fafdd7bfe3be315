use Rattle.tcp_host_laws.proofs.ReceptionRuns as lemmas
use Rattle.tcp_host_laws.proofs.tcp_networks.queues_hold_what_is_brought.Goals as goal

pub returns : goal.returns
returns c = lemmas.queues_hold_what_is_brought
