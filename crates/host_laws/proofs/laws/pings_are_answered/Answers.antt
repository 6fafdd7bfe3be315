use Rattle.host_laws.proofs.Receive.FrameReplies.{pings_served}
use Rattle.host_laws.proofs.laws.pings_are_answered.Goals as goal

pub returns : goal.returns
returns c = pings_served
