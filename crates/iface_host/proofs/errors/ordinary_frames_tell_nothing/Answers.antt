use Rattle.iface_host.proofs.ErrorLaws.{ordinary}
use Rattle.iface_host.proofs.errors.ordinary_frames_tell_nothing.Goals as goal

pub returns : goal.returns
returns c = ordinary
