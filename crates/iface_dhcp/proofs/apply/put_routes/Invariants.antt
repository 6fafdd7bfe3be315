use Rattle.std.proofs.Common.{length}
use Rattle.iface_host.specs.declared.host.IfaceHost.{IfaceHost}
use Rattle.iface_dhcp.specs.Apply.{GoesOver, PutsRoute}
use Rattle.iface_dhcp.proofs.apply.put_routes.Given as goal

-- whatever the others lead to, all lead to
abbrev pub invariant-loop-route : goal.invariant-loop-route
invariant-loop-route l = (host : IfaceHost) → GoesOver PutsRoute l.rest l.host host → GoesOver PutsRoute l.routes l.initial.host host

abbrev pub decreases-loop-route : goal.decreases-loop-route
decreases-loop-route l = length l.rest
