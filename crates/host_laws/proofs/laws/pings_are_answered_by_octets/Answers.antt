use Rattle.host_laws.proofs.Receive.ReplyOctets.{pings_by_octets}
use Rattle.host_laws.proofs.laws.pings_are_answered_by_octets.Goals as goal

pub returns : goal.returns
returns c = pings_by_octets
