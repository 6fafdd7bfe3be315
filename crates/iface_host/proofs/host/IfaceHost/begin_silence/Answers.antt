use Rattle.std.proofs.Common.{◌≡◌, ◌∙◌, refl, ap}
use Rattle.std.specs.Prelude.{pos, ◌+ℤ◌}
use Rattle.iface_host.specs.Guarded.{with_silence}
use Rattle.iface_host.proofs.GuardCalls.{unchanged}
use Rattle.iface_host.proofs.RuleCalls.{changed}
use Rattle.iface_host.proofs.host.IfaceHost.begin_silence.Goals as goal

pub returns-then-silenced : goal.returns-then-silenced
returns-then-silenced c =
    let until : c.add.result ≡ c.args.now +ℤ pos 1 = c.add.ensures ∙ ap (λ n. c.args.now +ℤ pos n) c.from_micros.ensures in
    rw (c.if-silenced.true, ← until)
    (changed c.args.self.now _ (with_silence c.add.result) (rw c.deref_mut.ensures.value at c.set_silence.ensures))

pub returns-else-silenced : goal.returns-else-silenced
returns-else-silenced c = rw c.if-silenced.false (unchanged c.args.self.now (λ H. H) (λ H h. refl))
