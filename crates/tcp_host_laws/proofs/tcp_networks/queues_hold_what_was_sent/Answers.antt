use Rattle.tcp_host_laws.proofs.QueueRuns as lemmas
use Rattle.tcp_host_laws.proofs.tcp_networks.queues_hold_what_was_sent.Goals as goal

pub returns : goal.returns
returns c = lemmas.queues_hold_what_was_sent
