use Rattle.std.proofs.Common.{sym}
use Rattle.socket_set.specs.SocketSet.{socket_at}
use Rattle.iface_sockets.proofs.PayloadRules.{no_tcp}
use Rattle.iface_sockets.proofs.tcp.is_tcp_at.Goals as goal

pub returns-in-None : goal.returns-in-None
returns-in-None c = λ is r t. no_tcp r t (socket_at c.args.sockets.now c.args.index) (sym c.in-None.ensures)
