use Rattle.host_laws.proofs.Receive.FrameReplies.{arp_served}
use Rattle.host_laws.proofs.laws.arp_requests_are_answered.Goals as goal

pub returns : goal.returns
returns c = arp_served
