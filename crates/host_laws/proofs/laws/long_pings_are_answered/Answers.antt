use Rattle.host_laws.proofs.Icmp.RebuiltPings.{long_pings_served}
use Rattle.host_laws.proofs.laws.long_pings_are_answered.Goals as goal

pub returns : goal.returns
returns c = long_pings_served
