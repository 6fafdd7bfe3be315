use Rattle.host_laws.proofs.Multicast.ReportTimes.{reports_wait}
use Rattle.host_laws.proofs.restraint.reports_wait.Goals as goal

pub returns : goal.returns
returns c = reports_wait
