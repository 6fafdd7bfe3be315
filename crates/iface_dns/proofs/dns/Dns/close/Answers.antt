use Rattle.std.proofs.Common.{ℕ, subst}
use Rattle.iface_dns.specs.Dns.{ClosesFrom}
use Rattle.iface_dns.proofs.Loops.{closed_all, closed_one}
use Rattle.iface_dns.proofs.dns.Dns.close.Goals as goal

pub loop-place-preserved : goal.loop-place-preserved
loop-place-preserved c = λ d host rest. c.loop-place.invariant d host
    (closed_one c.places-count.result c.loop-place.place c.loop-place.self c.close_at.new.self d c.loop-place.host
    c.close_at.new.host host c.loop-place-test.true c.close_at.ensures rest)

pub returns : goal.returns
returns c = subst (λ (k : ℕ). ClosesFrom k 0 c.args.self.now c.loop-place.self c.args.host.now c.loop-place.host)
    c.places-count.ensures
    (c.loop-place.invariant c.loop-place.self c.loop-place.host
    (closed_all c.places-count.result c.loop-place.place c.loop-place.self c.loop-place.host c.loop-place-test.false))
