use Rattle.host_laws.proofs.Receive.SettingChanges.{frames_keep}
use Rattle.host_laws.proofs.restraint.frames_keep_settings.Goals as goal

pub returns : goal.returns
returns c = frames_keep
