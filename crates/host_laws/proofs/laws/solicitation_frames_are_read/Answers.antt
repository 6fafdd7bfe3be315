use Rattle.host_laws.proofs.Receive.RequestReading.{solicitations_read}
use Rattle.host_laws.proofs.laws.solicitation_frames_are_read.Goals as goal

pub returns : goal.returns
returns c = solicitations_read
