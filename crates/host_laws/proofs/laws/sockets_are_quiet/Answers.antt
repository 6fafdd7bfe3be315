use Rattle.host_machine.proofs.Sockets.QuietSockets.{sockets_quiet}
use Rattle.host_laws.proofs.laws.sockets_are_quiet.Goals as goal

pub returns : goal.returns
returns c = sockets_quiet
