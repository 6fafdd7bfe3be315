use Rattle.iface_dns.proofs.Loops.{heard_all, heard_one}
use Rattle.iface_dns.proofs.hear.hear_all.Goals as goal

pub loop-preserved : goal.loop-preserved
loop-preserved c = λ r host rest. c.loop.invariant r host
    (heard_one c.args.number c.args.port c.args.count c.loop.counter c.loop.resolver c.hear_first.new.resolver r c.loop.host
    c.hear_first.new.host host c.loop-test.true c.hear_first.ensures rest)

pub returns : goal.returns
returns c = c.loop.invariant c.loop.resolver c.loop.host
    (heard_all c.args.number c.args.port c.args.count c.loop.counter c.loop.resolver c.loop.host c.loop-test.false)
