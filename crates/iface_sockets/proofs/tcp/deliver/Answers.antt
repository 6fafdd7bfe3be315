use Rattle.std.proofs.Common.{refl, sym, ◌∙◌}
use Rattle.host_machine.specs.Sockets.Tcp.{accepts}
use Rattle.host_machine.proofs.Sockets.SocketIteration.{met_within}
use Rattle.iface_sockets.proofs.PayloadRules.{segment_taken}
use Rattle.iface_sockets.proofs.tcp.deliver.Goals as goal

pub returns-clause-taken : goal.returns-clause-taken
returns-clause-taken c = λ e.
    segment_taken c.args.header.now c.args.repr.now c.args.payload.now c.args.sockets.now.places c.args.sockets.now.places
    c.deliver_at.new.sockets.places c.find_socket-index.result
    c.deliver_at.result.0 c.deliver_at.result.1 refl (met_within (accepts c.args.header.now c.args.repr.now)
    c.args.sockets.now.places c.find_socket-index.result refl (sym c.deliver_at.ensures.accepted ∙ e))
    c.find_socket-index.ensures.none_before c.deliver_at.ensures.accepted e (c.deliver_at.ensures.delivered e) (c.deliver_at.ensures.replied e)
