use Rattle.std.proofs.Common.{sym, ◌∙◌}
use Rattle.iface_tables.specs.Route.{ipv4_gateway, ipv6_gateway, is_ipv4_gateway, is_ipv6_gateway, with_default}
use Rattle.host_machine.specs.Context.Host.{Host as Machine}
use Rattle.host_machine.specs.Context.Host.{no_sockets}
use Rattle.iface_host.proofs.RefusalCalls.{default_told}
use Rattle.iface_host.specs.Calls.{route_room_of, routes_of}
use Rattle.iface_host.proofs.RuleCalls.{changed, default_stays}
use Rattle.iface_host.proofs.host.IfaceHost.set_default_route.Goals as goal

pub returns-in-Ok-clause-set : goal.returns-in-Ok-clause-set
returns-in-Ok-clause-set c = rw c.in-Ipv4.is
    (changed c.args.self.now _ (λ (H : Machine). record H { routes = with_default H.route_room is_ipv4_gateway H.routes (ipv4_gateway c.in-Ipv4.gateway) })
    (rw c.deref_mut.ensures.value at c.add_default_ipv4_route.ensures.table))

pub returns-in-Err-clause-refused : goal.returns-in-Err-clause-refused
returns-in-Err-clause-refused c = default_stays c.args.self.now _ is_ipv4_gateway (ipv4_gateway c.in-Ipv4.gateway) c.in-Err.field-0
    (λ sockets. sym c.in-Err.is ∙ (rw c.deref_mut.ensures.value at (c.add_default_ipv4_route.ensures.answer sockets)))
    (rw c.deref_mut.ensures.value at c.add_default_ipv4_route.ensures.table)

pub returns-in-Ok-add_default_ipv6_route-clause-set : goal.returns-in-Ok-add_default_ipv6_route-clause-set
returns-in-Ok-add_default_ipv6_route-clause-set c =
    rw c.in-Ipv6.is
    (changed c.args.self.now _ (λ (H : Machine). record H { routes = with_default H.route_room is_ipv6_gateway H.routes (ipv6_gateway c.in-Ipv6.gateway) })
    (rw c.deref_mut-in-Ipv6.ensures.value at c.add_default_ipv6_route.ensures.table))

pub returns-in-Err-add_default_ipv6_route-clause-refused : goal.returns-in-Err-add_default_ipv6_route-clause-refused
returns-in-Err-add_default_ipv6_route-clause-refused c =
    default_stays c.args.self.now _ is_ipv6_gateway (ipv6_gateway c.in-Ipv6.gateway) c.in-Err-add_default_ipv6_route.field-0
    (λ sockets. sym c.in-Err-add_default_ipv6_route.is ∙ (rw c.deref_mut-in-Ipv6.ensures.value at (c.add_default_ipv6_route.ensures.answer sockets)))
    (rw c.deref_mut-in-Ipv6.ensures.value at c.add_default_ipv6_route.ensures.table)

pub returns-in-Ok-clause-why : goal.returns-in-Ok-clause-why
returns-in-Ok-clause-why c =
    rw c.in-Ipv4.is (rw c.in-Ok.is at
    (default_told (route_room_of c.args.self.now) is_ipv4_gateway (routes_of c.args.self.now) _ (rw c.deref_mut.ensures.value at (c.add_default_ipv4_route.ensures.answer no_sockets))))

pub returns-in-Err-clause-why : goal.returns-in-Err-clause-why
returns-in-Err-clause-why c =
    rw c.in-Ipv4.is (rw c.in-Err.is at
    (default_told (route_room_of c.args.self.now) is_ipv4_gateway (routes_of c.args.self.now) _ (rw c.deref_mut.ensures.value at (c.add_default_ipv4_route.ensures.answer no_sockets))))

pub returns-in-Ok-add_default_ipv6_route-clause-why : goal.returns-in-Ok-add_default_ipv6_route-clause-why
returns-in-Ok-add_default_ipv6_route-clause-why c =
    rw c.in-Ipv6.is (rw c.in-Ok-add_default_ipv6_route.is at
    (default_told (route_room_of c.args.self.now) is_ipv6_gateway (routes_of c.args.self.now) _ (rw c.deref_mut-in-Ipv6.ensures.value at (c.add_default_ipv6_route.ensures.answer no_sockets))))

pub returns-in-Err-add_default_ipv6_route-clause-why : goal.returns-in-Err-add_default_ipv6_route-clause-why
returns-in-Err-add_default_ipv6_route-clause-why c =
    rw c.in-Ipv6.is (rw c.in-Err-add_default_ipv6_route.is at
    (default_told (route_room_of c.args.self.now) is_ipv6_gateway (routes_of c.args.self.now) _ (rw c.deref_mut-in-Ipv6.ensures.value at (c.add_default_ipv6_route.ensures.answer no_sockets))))
