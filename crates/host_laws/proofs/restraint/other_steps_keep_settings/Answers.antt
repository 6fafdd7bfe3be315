use Rattle.host_laws.proofs.Interface.OtherSteps.{keep_settings}
use Rattle.host_laws.proofs.restraint.other_steps_keep_settings.Goals as goal

pub returns : goal.returns
returns c = keep_settings
