use Rattle.host_laws.proofs.Receive.ForeignFrames.{own_taken}
use Rattle.host_laws.proofs.restraint.own_frames_are_taken.Goals as goal

pub returns : goal.returns
returns c = own_taken
