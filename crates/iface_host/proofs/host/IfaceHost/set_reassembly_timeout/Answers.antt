use Rattle.host_machine.specs.Context.Host.{Host as Machine}
use Rattle.iface_host.proofs.RuleCalls.{changed_if, same_if}
use Rattle.iface_host.proofs.host.IfaceHost.set_reassembly_timeout.Goals as goal

pub returns-clause-set : goal.returns-clause-set
returns-clause-set c = changed_if c.args.self.now c.let_fragments_wait.new.interface
    (λ (H : Machine). record H { reassembly_timeout = c.args.timeout }) c.let_fragments_wait.result
    (rw c.deref_mut.ensures.value at c.let_fragments_wait.ensures.waits)

pub returns-clause-refused : goal.returns-clause-refused
returns-clause-refused c = same_if c.let_fragments_wait.result c.args.self.now c.deref_mut.result.now c.let_fragments_wait.new.interface
    c.deref_mut.ensures.value c.let_fragments_wait.ensures.refused
