use Rattle.host_laws.proofs.Receive.FrameReplies.{arp_teaches}
use Rattle.host_laws.proofs.laws.arp_senders_are_learnt.Goals as goal

pub returns : goal.returns
returns c = arp_teaches
