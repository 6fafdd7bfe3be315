use Rattle.host_machine.specs.Context.Host.{no_sockets}
use Rattle.iface_host.proofs.RuleCalls.{put, put_refused}
use Rattle.iface_host.proofs.addresses.put_addresses.Goals as goal

pub returns-in-Ok-clause-set : goal.returns-in-Ok-clause-set
returns-in-Ok-clause-set c = put c.args.interface.now c.set_ip_addrs.new.self c.args.list.now (rw c.in-Ok.is at c.set_ip_addrs.ensures.set)

pub returns-in-Err-clause-set : goal.returns-in-Err-clause-set
returns-in-Err-clause-set c =
    put_refused c.args.interface.now c.set_ip_addrs.new.self c.args.list.now c.in-Err.field-0 c.requires (rw c.in-Err.is at c.set_ip_addrs.ensures.set)

pub returns-in-Ok-clause-routes : goal.returns-in-Ok-clause-routes
returns-in-Ok-clause-routes c = (c.set_ip_addrs.ensures.routes no_sockets).0

pub returns-in-Ok-clause-route_room : goal.returns-in-Ok-clause-route_room
returns-in-Ok-clause-route_room c = (c.set_ip_addrs.ensures.routes no_sockets).1

pub returns-in-Err-clause-routes : goal.returns-in-Err-clause-routes
returns-in-Err-clause-routes c = (c.set_ip_addrs.ensures.routes no_sockets).0

pub returns-in-Err-clause-route_room : goal.returns-in-Err-clause-route_room
returns-in-Err-clause-route_room c = (c.set_ip_addrs.ensures.routes no_sockets).1
