use Rattle.host_laws.proofs.Runs.DueReports.{due_reports_go}
use Rattle.host_laws.proofs.laws.due_reports_go.Goals as goal

pub returns : goal.returns
returns c = due_reports_go
