use Rattle.host_machine.specs.Context.Host.{Host as Machine}
use Rattle.iface_host.proofs.RuleCalls.{changed}
use Rattle.iface_host.proofs.host.IfaceHost.set_any_ip.Goals as goal

pub returns : goal.returns
returns c = changed c.args.self.now _ (λ (H : Machine). record H { any_ip = c.args.on }) (rw c.deref_mut.ensures.value at c.set_any_ip.ensures)
