use Rattle.std.proofs.Common.{refl}
use Rattle.host_machine.specs.Send.Hops.{ByRouter}
use Rattle.iface_send.proofs.hops.next_hop_by_route.Goals as goal

pub returns-in_err-router-clause-hop : goal.returns-in_err-router-clause-hop
returns-in_err-router-clause-hop c = λ slots sockets. ByRouter c.lookup.result
    c.requires.far (rw (c.routes.ensures.items, c.now.ensures) at c.lookup.ensures) (rw (c.in_err-router.was) c.from_residual.ensures)

pub returns-then-is_unicast-clause-hop : goal.returns-then-is_unicast-clause-hop
returns-then-is_unicast-clause-hop c = λ slots sockets. ByRouter c.lookup.result
    c.requires.far (rw (c.routes.ensures.items, c.now.ensures) at c.lookup.ensures) (rw (c.in_ok-router.was, ← c.if-is_unicast.ensures) refl)

pub returns-else-is_unicast-clause-hop : goal.returns-else-is_unicast-clause-hop
returns-else-is_unicast-clause-hop c = λ slots sockets. ByRouter c.lookup.result
    c.requires.far (rw (c.routes.ensures.items, c.now.ensures) at c.lookup.ensures) (rw (c.in_ok-router.was, ← c.if-is_unicast.ensures) refl)
