use Rattle.host_laws.proofs.Multicast.ReportTimes.{joins_once}
use Rattle.host_laws.proofs.restraint.joins_are_told_once.Goals as goal

pub returns : goal.returns
returns c = joins_once
