use Rattle.host_laws.proofs.Interface.SettledFields.{sending_settled}
use Rattle.host_laws.proofs.restraint.sending_keeps_settings.Goals as goal

pub returns : goal.returns
returns c = sending_settled
