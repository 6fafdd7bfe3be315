use Rattle.std.proofs.Common.{◌≡◌, ◌∙◌, sym, refl}
use Rattle.host_machine.specs.Context.Host.{no_sockets}
use Rattle.iface_host.specs.Properties.{machine_of}
use Rattle.iface_host.proofs.GuardCalls.{limit_left, limit_made, unchanged}
use Rattle.iface_host.proofs.host.IfaceHost.keep_limit.Goals as goal

pub returns-in_default : goal.returns-in_default
returns-in_default c = rw c.in_default.is (unchanged c.args.self.now (λ H. H) (λ H h. refl))

pub returns-then-is_for_other : goal.returns-then-is_for_other
returns-then-is_for_other c =
    let known : c.neighbors.result.now ≡ (machine_of c.args.self.now).neighbors = rw c.deref.ensures at (c.neighbors.ensures no_sockets) in
    rw c.in-Some.is (limit_made c.args.self.now _ c.neighbors.result.now c.in-Some.limit known (sym c.is_for_other.ensures ∙ c.if-is_for_other.true)
    (rw c.deref_mut.ensures.value at c.limit_neighbor.ensures))

pub returns-else-is_for_other : goal.returns-else-is_for_other
returns-else-is_for_other c =
    let known : c.neighbors.result.now ≡ (machine_of c.args.self.now).neighbors = rw c.deref.ensures at (c.neighbors.ensures no_sockets) in
    rw c.in-Some.is (limit_left c.args.self.now c.neighbors.result.now c.in-Some.limit known (sym c.is_for_other.ensures ∙ c.if-is_for_other.false))
