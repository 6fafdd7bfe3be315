use Rattle.tcp_laws.proofs.Recoveries as recoveries
use Rattle.tcp_laws.proofs.holes_go_once.Goals as goal

pub returns-clause-once : goal.returns-clause-once
returns-clause-once c = recoveries.nothing_goes_twice

pub returns-clause-told : goal.returns-clause-told
returns-clause-told c = recoveries.nothing_beyond_what_is_told
