use Rattle.egress_schedule.proofs.Apart.{long_packets_apart}
use Rattle.egress_schedule.proofs.laws.long_packets_apart.Goals as goal

pub returns : goal.returns
returns c = long_packets_apart
