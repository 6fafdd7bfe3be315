use Rattle.iface_dhcp.specs.Hear.{HearsRaw}
use Rattle.iface_dhcp.proofs.Hearing.{heard_all, heard_one}
use Rattle.iface_dhcp.proofs.dhcp.Dhcp.overhear_all.Goals as goal

pub loop-preserved : goal.loop-preserved
loop-preserved c = λ d host rest. c.loop.invariant d host
    (heard_one (HearsRaw c.args.number) c.args.count c.loop.counter c.loop.self c.overhear_first.new.self d c.loop.host c.overhear_first.new.host host c.loop-test.true
    c.overhear_first.ensures rest)

pub returns : goal.returns
returns c = c.loop.invariant c.loop.self c.loop.host
    (heard_all (HearsRaw c.args.number) c.args.count c.loop.counter c.loop.self c.loop.host c.loop-test.false)
