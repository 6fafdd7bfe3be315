use Rattle.host_laws.proofs.Receive.ReplyOctets.{arp_by_octets}
use Rattle.host_laws.proofs.laws.arp_requests_are_answered_by_octets.Goals as goal

pub returns : goal.returns
returns c = arp_by_octets
