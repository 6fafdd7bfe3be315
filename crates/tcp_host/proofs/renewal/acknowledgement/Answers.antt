use Rattle.std.proofs.Common.{refl}
use Rattle.tcp_machine.specs.Outgoing.{SendAck}
use Rattle.tcp_host.proofs.renewal.acknowledgement.Goals as goal

pub returns : goal.returns
returns c = c.header.ensures SendAck refl
