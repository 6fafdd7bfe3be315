use Rattle.net_base.proofs.KeptFrames.{frames_are_kept}
use Rattle.net_base.proofs.memory_device.frames_are_kept.Goals as goal

pub returns : goal.returns
returns c = frames_are_kept
