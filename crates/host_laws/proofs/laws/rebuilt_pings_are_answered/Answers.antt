use Rattle.host_laws.proofs.Icmp.RebuiltPings.{rebuilt_pings_served}
use Rattle.host_laws.proofs.laws.rebuilt_pings_are_answered.Goals as goal

pub returns : goal.returns
returns c = rebuilt_pings_served
