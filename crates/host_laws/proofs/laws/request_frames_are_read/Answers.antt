use Rattle.host_laws.proofs.Receive.FrameReplies.{request_frames_read}
use Rattle.host_laws.proofs.laws.request_frames_are_read.Goals as goal

pub returns : goal.returns
returns c = request_frames_read
