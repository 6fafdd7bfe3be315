use Rattle.host_laws.proofs.Receive.SettingChanges.{reports_asked}
use Rattle.host_laws.proofs.restraint.reports_are_asked.Goals as goal

pub returns : goal.returns
returns c = reports_asked
