use Rattle.tcp_laws.proofs.SendsAtOnce as sends
use Rattle.tcp_laws.proofs.handshakes_end.Goals as goal

pub returns-clause-answered : goal.returns-clause-answered
returns-clause-answered c = sends.syns_are_answered

pub returns-clause-ended : goal.returns-clause-ended
returns-clause-ended c = sends.handshakes_end
