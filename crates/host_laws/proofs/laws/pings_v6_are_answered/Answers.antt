use Rattle.host_laws.proofs.Receive.FrameRepliesV6.{pings_v6_served}
use Rattle.host_laws.proofs.laws.pings_v6_are_answered.Goals as goal

pub returns : goal.returns
returns c = pings_v6_served
