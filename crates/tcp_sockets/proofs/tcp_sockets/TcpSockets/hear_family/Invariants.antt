use Rattle.tcp_sockets.specs.Polls.{HearsEach, state}
use Rattle.tcp_sockets.proofs.tcp_sockets.TcpSockets.hear_family.Given as goal

abbrev pub invariant-loop : goal.invariant-loop
invariant-loop g l =
    HearsEach (goal.F-post g l.has_neighbor) l.version l.pair.near l.now l.own (state l.fn.self l.fn.host l.fn.sockets) l.counter (state l.self l.host l.sockets)
