use Rattle.iface_dns.proofs.Loops.{took_all, took_one}
use Rattle.iface_dns.proofs.errors.take_all.Goals as goal

pub loop-preserved : goal.loop-preserved
loop-preserved c = λ r host rest. c.loop.invariant r host
    (took_one c.args.port c.args.place c.args.count c.loop.counter c.loop.resolver c.take_first.new.resolver r c.loop.host
    c.take_first.new.host host c.loop-test.true c.take_first.ensures rest)

pub returns : goal.returns
returns c = c.loop.invariant c.loop.resolver c.loop.host
    (took_all c.args.port c.args.place c.args.count c.loop.counter c.loop.resolver c.loop.host c.loop-test.false)
