use Rattle.host_laws.proofs.RawTcp.{networks_speak_tcp_by_raw}
use Rattle.host_laws.proofs.raw_packets.networks_speak_tcp_by_raw.Goals as goal

pub returns : goal.returns
returns c = λ hosts runs m may j a there. networks_speak_tcp_by_raw hosts runs m may j a there
