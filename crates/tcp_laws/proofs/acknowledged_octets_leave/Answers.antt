use Rattle.tcp_laws.proofs.Serves as serves
use Rattle.tcp_laws.proofs.acknowledged_octets_leave.Goals as goal

pub returns-clause-leave : goal.returns-clause-leave
returns-clause-leave c = serves.acknowledged_octets_leave

pub returns-clause-above : goal.returns-clause-above
returns-clause-above c = serves.nothing_above_is_believed
