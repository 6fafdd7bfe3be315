use Rattle.std.proofs.Common.{◌≡◌, [], ◌∷◌, ◌++◌, rules}
use Rattle.host_machine.specs.Context.Host.{Host as Machine}
use Rattle.iface_host.proofs.RuleCalls.{changed, same_host, untouched_if}
use Rattle.iface_host.specs.Calls.{route_to}
use Rattle.iface_host.proofs.host.IfaceHost.add_route.Goals as goal

pub returns-in_err-expires_at-clause-refused : goal.returns-in_err-expires_at-clause-refused
returns-in_err-expires_at-clause-refused c = untouched_if c.from_residual.result c.args.self.now

pub returns-in-Ok-clause-added : goal.returns-in-Ok-clause-added
returns-in-Ok-clause-added c =
    let end : c.in_ok-expires_at.expires_at ≡ c.args.end = search rules in
    changed c.args.self.now _ (λ (H : Machine). record H { routes = H.routes ++ route_to c.args.cidr c.args.via_router c.args.end ∷ [] })
    (rw (c.in-Ok.is, c.deref_mut.ensures.value, end) at c.push_route.ensures.pushed)

pub returns-in-Err-clause-refused : goal.returns-in-Err-clause-refused
returns-in-Err-clause-refused c = same_host c.args.self.now c.push_route.new.interface (rw (c.in-Err.is, c.deref_mut.ensures.value) at c.push_route.ensures.kept)
