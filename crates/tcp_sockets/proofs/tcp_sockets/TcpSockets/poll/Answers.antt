use Rattle.tcp_sockets.specs.Polls.{NoneIsKnown, state}
use Rattle.tcp_sockets.proofs.PollLemmas.{polls_as}
use Rattle.tcp_sockets.proofs.tcp_sockets.TcpSockets.poll.Goals as goal

pub returns : goal.returns
returns g c =
    polls_as _ NoneIsKnown c.args.now c.args.own.now (state c.args.self.now c.args.host.now c.args.sockets.now)
    (state c.poll_with_neighbors.new.self c.poll_with_neighbors.new.host c.poll_with_neighbors.new.sockets)
    c.poll_with_neighbors.ensures (λ a known is. is.1)
