use Rattle.iface_dhcp.specs.Apply.{PutsRoute}
use Rattle.iface_dhcp.proofs.Routing.{next, over}
use Rattle.iface_dhcp.proofs.apply.put_routes.Goals as goal

pub loop-route-preserved : goal.loop-route-preserved
loop-route-preserved c = λ host rest. c.loop-route.invariant host
    (next PutsRoute c.loop-route.rest.now c.in-Some.route.now c.in-Some.others.now c.loop-route.host c.put_route.new.host host c.in-Some.ensures.cases.0
    c.put_route.ensures rest)

pub returns : goal.returns
returns c = c.loop-route.invariant c.loop-route.host (over PutsRoute c.loop-route.rest.now c.loop-route.host c.in_default.ensures.cases)
