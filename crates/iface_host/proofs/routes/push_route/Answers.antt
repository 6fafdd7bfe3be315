use Rattle.host_machine.specs.Context.Host.{no_sockets}
use Rattle.iface_host.proofs.RuleCalls.{pushed_if, unpushed_if}
use Rattle.iface_host.proofs.routes.push_route.Goals as goal

pub returns-clause-pushed : goal.returns-clause-pushed
returns-clause-pushed c = pushed_if c.args.interface.now c.routes_mut.result.now c.push.new.self c.args.route c.push.result
    c.routes_mut.ensures.items c.routes_mut.ensures.room c.push.ensures.pushed

pub returns-clause-refused : goal.returns-clause-refused
returns-clause-refused c = rw (c.routes_mut.ensures.items no_sockets, c.routes_mut.ensures.room no_sockets) at c.push.ensures.refused

pub returns-clause-kept : goal.returns-clause-kept
returns-clause-kept c = unpushed_if c.args.interface.now c.routes_mut.result.now c.push.new.self c.push.result
    c.routes_mut.ensures.items c.routes_mut.ensures.room c.push.ensures.kept
