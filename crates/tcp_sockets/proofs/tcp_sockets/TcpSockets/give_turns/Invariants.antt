use Rattle.tcp_sockets.specs.Polls.{Turns, state}
use Rattle.tcp_sockets.proofs.tcp_sockets.TcpSockets.give_turns.Given as goal

abbrev pub invariant-loop : goal.invariant-loop
invariant-loop g l = Turns (goal.F-post g l.has_neighbor) l.now l.own (state l.fn.self l.fn.host l.fn.sockets) l.counter (state l.self l.host l.sockets)
