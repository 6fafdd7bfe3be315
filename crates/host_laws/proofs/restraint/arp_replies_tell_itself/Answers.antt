use Rattle.host_laws.proofs.Receive.ReplyLaws.{arp_told}
use Rattle.host_laws.proofs.restraint.arp_replies_tell_itself.Goals as goal

pub returns : goal.returns
returns c = arp_told
