use Rattle.host_laws.proofs.Receive.RequestReading.{pings_read}
use Rattle.host_laws.proofs.laws.ping_frames_are_read.Goals as goal

pub returns : goal.returns
returns c = pings_read
