use Rattle.tcp_laws.proofs.SendsAtOnce as sends
use Rattle.tcp_laws.proofs.what_may_be_sent_is_sent.Goals as goal

pub returns-clause-octets : goal.returns-clause-octets
returns-clause-octets c = sends.what_may_be_sent_is_sent

pub returns-clause-end : goal.returns-clause-end
returns-clause-end c = sends.the_end_follows
