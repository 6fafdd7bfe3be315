use Rattle.tcp_host_laws.proofs.ReadingLemmas as lemmas
use Rattle.tcp_host_laws.proofs.what_was_sent_is_read.Goals as goal

pub returns : goal.returns
returns c = lemmas.what_was_sent_is_read
