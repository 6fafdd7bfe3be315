use Rattle.tcp_sockets.specs.Polls.{First, Next, AllGiven, state}
use Rattle.tcp_sockets.proofs.tcp_sockets.TcpSockets.give_turns.Goals as goal

pub loop-init : goal.loop-init
loop-init g c = First

pub returns-then-not-give_turn : goal.returns-then-not-give_turn
returns-then-not-give_turn g c =
    AllGiven c.loop.counter (state c.loop.self c.loop.host c.loop.sockets) c.loop.invariant c.if-not-give_turn.ensures

pub loop-preserved : goal.loop-preserved
loop-preserved g c =
    Next c.loop.counter (state c.loop.self c.loop.host c.loop.sockets) (state c.give_turn.new.self c.give_turn.new.host c.give_turn.new.sockets)
    c.loop.invariant c.if-not-give_turn.ensures
