use Rattle.std.proofs.Common.{ℕ, subst}
use Rattle.iface_dns.specs.Poll.{PollsFrom}
use Rattle.iface_dns.proofs.Loops.{polled_all, polled_one}
use Rattle.iface_dns.proofs.dns.Dns.poll_each.Goals as goal

pub loop-place-preserved : goal.loop-place-preserved
loop-place-preserved c = λ d host rest. c.loop-place.invariant d host
    (polled_one c.args.now c.places-count.result c.loop-place.place c.loop-place.self c.poll_at_place.new.self d c.loop-place.host
    c.poll_at_place.new.host host c.loop-place-test.true c.poll_at_place.ensures rest)

pub returns : goal.returns
returns c = subst (λ (k : ℕ). PollsFrom c.args.now k 0 c.args.self.now c.loop-place.self c.args.host.now c.loop-place.host)
    c.places-count.ensures
    (c.loop-place.invariant c.loop-place.self c.loop-place.host
    (polled_all c.args.now c.places-count.result c.loop-place.place c.loop-place.self c.loop-place.host c.loop-place-test.false))
