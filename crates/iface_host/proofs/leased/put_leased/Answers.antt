use Rattle.iface_host.proofs.LeasedCalls.{kept, replaced}
use Rattle.iface_host.proofs.leased.put_leased.Goals as goal

pub put_router-requires : goal.put_router-requires
put_router-requires c = rw (← c.put_addresses.ensures.routes, ← c.put_addresses.ensures.route_room) at c.requires.routes

pub returns-in-Ok : goal.returns-in-Ok
returns-in-Ok c = replaced c.args.interface.now c.put_addresses.new.interface c.put_router.new.interface c.args.addresses.now
    c.args.old.now c.args.new.now (rw c.in-Ok.is at c.put_addresses.ensures.set) c.put_router.ensures

pub returns-in-Err : goal.returns-in-Err
returns-in-Err c = kept c.args.interface.now c.put_addresses.new.interface c.args.addresses.now c.args.old.now c.args.new.now c.in-Err.error
    (rw c.in-Err.is at c.put_addresses.ensures.set)
