use Rattle.std.proofs.Common.{refl}
use Rattle.iface_host.specs.Guarded.{with_silence}
use Rattle.iface_host.proofs.GuardCalls.{unchanged}
use Rattle.iface_host.proofs.RuleCalls.{changed}
use Rattle.iface_host.proofs.host.IfaceHost.keep_silence.Goals as goal

pub returns-in-Some : goal.returns-in-Some
returns-in-Some c =
    rw c.in-Some.is (changed c.args.self.now _ (with_silence c.in-Some.until) (rw c.deref_mut.ensures.value at c.set_silence.ensures))

pub returns-in_default : goal.returns-in_default
returns-in_default c = rw c.in_default.is (unchanged c.args.self.now (λ H. H) (λ H h. refl))
