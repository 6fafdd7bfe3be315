use Rattle.std.proofs.Common.{◌≡◌, ◌∙◌, ap, sym, true}
use Rattle.std.specs.Prelude.{ℤ, Some}
use Rattle.host_machine.specs.Context.Host.{no_sockets}
use Rattle.iface_tables.specs.Neighbor.{Neighbors}
use Rattle.iface_host.specs.Guarded.{is_silenced}
use Rattle.iface_host.specs.Properties.{machine_of}
use Rattle.iface_host.proofs.host.IfaceHost.silence_to_keep.Goals as goal

pub returns-then-is_silenced : goal.returns-then-is_silenced
returns-then-is_silenced c =
    let is : is_silenced c.args.now c.args.self.now ≡ true = sym c.is_silenced.ensures ∙ c.if-is_silenced.true in
    let known : c.neighbors.result.now ≡ (machine_of c.args.self.now).neighbors = rw c.deref.ensures at (c.neighbors.ensures no_sockets) in
    rw is (ap (λ (t : ℤ). Some t) (c.silent_until.ensures ∙ ap (λ (k : Neighbors). k.silent_until) known))
