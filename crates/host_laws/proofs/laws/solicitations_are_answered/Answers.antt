use Rattle.host_laws.proofs.Receive.FrameRepliesV6.{solicitations_served}
use Rattle.host_laws.proofs.laws.solicitations_are_answered.Goals as goal

pub returns : goal.returns
returns c = solicitations_served
