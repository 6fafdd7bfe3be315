use Rattle.host_laws.proofs.Receive.ForeignFrames.{frames_for_others_dropped}
use Rattle.host_laws.proofs.restraint.frames_for_others_are_dropped.Goals as goal

pub returns : goal.returns
returns c = frames_for_others_dropped
