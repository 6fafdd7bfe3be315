use Rattle.host_laws.proofs.RawOrigin.{runs_get_raw_packets_sent}
use Rattle.host_laws.proofs.raw_packets.runs_get_raw_packets_sent.Goals as goal

pub returns : goal.returns
returns c = λ n hosts runs b b' qs left r real may sent. runs_get_raw_packets_sent n hosts runs b b' qs left r real may sent
