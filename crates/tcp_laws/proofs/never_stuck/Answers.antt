use Rattle.tcp_laws.proofs.Waits as waits
use Rattle.tcp_laws.proofs.never_stuck.Goals as goal

pub returns : goal.returns
returns c = waits.never_stuck
