use Rattle.tcp_sockets.specs.Polls.{Begins, Goes, state}
use Rattle.tcp_sockets.proofs.tcp_sockets.TcpSockets.hear_family.Goals as goal

pub loop-init : goal.loop-init
loop-init g c = Begins

pub loop-preserved : goal.loop-preserved
loop-preserved g c =
    Goes c.loop.counter (state c.loop.self c.loop.host c.loop.sockets) (state c.hear.new.self c.hear.new.host c.hear.new.sockets)
    c.loop.invariant c.hear.ensures
