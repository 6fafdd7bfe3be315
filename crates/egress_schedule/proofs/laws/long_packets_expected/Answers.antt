use Rattle.egress_schedule.proofs.Expected.{long_packets_expected}
use Rattle.egress_schedule.proofs.laws.long_packets_expected.Goals as goal

pub returns : goal.returns
returns c = long_packets_expected
