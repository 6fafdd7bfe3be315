use Rattle.control_wire.proofs.Icmpv6Again.{read_again as message_again}
use Rattle.control_wire.proofs.icmpv6.read_again.Goals as goal

pub returns : goal.returns
returns c = message_again
