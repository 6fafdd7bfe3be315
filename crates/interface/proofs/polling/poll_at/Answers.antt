use Rattle.host_machine.proofs.Interface.EarliestInstant.{soonest_least}
use Rattle.iface_context.specs.Stands.{host_in}
use Rattle.interface.proofs.polling.poll_at.Goals as goal

pub returns : goal.returns
returns c = λ slots.
    rw (c.earlier_of.ensures, c.piece_poll_at.ensures, c.routers_poll_at-of_routers.ensures, c.groups_poll_at.ensures)
    (soonest_least (host_in c.args.context.now slots c.args.sockets.now) c.sockets_poll_at-of_sockets.result
    (c.sockets_poll_at-of_sockets.ensures slots))
