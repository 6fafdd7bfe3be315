use Rattle.iface_sockets.proofs.SocketTurns.{not_asked, was_served}
use Rattle.iface_sockets.proofs.turns.serve_busy.Goals as goal

pub returns-then-not-is_permitted-clause-told : goal.returns-then-not-is_permitted-clause-told
returns-then-not-is_permitted-clause-told g c = λ slots.
    not_asked c.args.context.now slots c.args.sockets.now c.is_permitted.new.sockets c.args.index c.is_permitted.result
    (g.met.D.Device.tells_nothing c.args.device.now) c.requires c.if-not-is_permitted.true c.is_permitted.ensures

pub returns-clause-told : goal.returns-clause-told
returns-clause-told g c = λ slots.
    was_served c.args.context.now c.give_turn-turn.new.context c.give_turn-turn.result slots c.args.sockets.now c.is_permitted.new.sockets
    c.give_turn-turn.new.sockets c.wait_for_neighbor.new.sockets c.args.index
    c.is_permitted.result c.if-not-is_permitted.false c.is_permitted.ensures c.give_turn-turn.ensures
    (rw c.now-now.ensures at c.wait_for_neighbor.ensures)
