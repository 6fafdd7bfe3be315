use Rattle.std.proofs.Common.{◌≡◌, true, arith}
use Rattle.host_machine.specs.Interface.Egress.{Egress}
use Rattle.host_machine.specs.declared.results.PollResult.TheVariants.{None as Nothing}
use Rattle.host_machine.specs.Interface.Polling.{is_changed}
use Rattle.interface.specs.Stands.{StandsFor}
use Rattle.interface.proofs.PollLoop.{begins, again, spent, done, or_true}
use Rattle.interface.proofs.interface.Interface.send_until.Goals as goal

pub loop-init : goal.loop-init
loop-init g c = λ H h.
    begins g.D.Device.tells g.met.D.Device.tells_on (Egress c.args.timestamp) Nothing is_changed c.args.device.now H
    (StandsFor c.args.self.now c.args.sockets.now) (g.met.D.Device.tells_nothing c.args.device.now) h

pub returns-in-None : goal.returns-in-None
returns-in-None g c = λ H h.
    done g.D.Device.tells g.met.D.Device.tells_on (Egress c.args.timestamp) Nothing is_changed c.args.device.now c.loop.device
    c.poll_egress.new.device H c.loop.counter c.args.budget c.loop.changed
    (StandsFor c.loop.self c.loop.sockets) (StandsFor c.poll_egress.new.self c.poll_egress.new.sockets)
    (c.loop.invariant H h) c.loop-test.true c.in-None.ensures

pub loop-preserved : goal.loop-preserved
loop-preserved g c = λ H h.
    again g.D.Device.tells g.met.D.Device.tells_on
    (Egress c.args.timestamp) Nothing is_changed c.args.device.now c.loop.device c.poll_egress.new.device H c.loop.counter c.loop.changed true
    (StandsFor c.loop.self c.loop.sockets) (StandsFor c.poll_egress.new.self c.poll_egress.new.sockets) c.poll_egress.result (c.loop.invariant H h)
    (λ none. let is = c.in-SocketStateChanged.is in absurd cc) c.poll_egress.ensures (rw c.in-SocketStateChanged.is (or_true c.loop.changed))

pub returns : goal.returns
returns g c = λ H h.
    let all : c.loop.counter ≡ c.args.budget = omega arith in
    rw (← all) (spent g.D.Device.tells g.met.D.Device.tells_on (Egress c.args.timestamp) Nothing is_changed c.args.device.now c.loop.device H
    c.loop.counter c.loop.changed (StandsFor c.loop.self c.loop.sockets) (c.loop.invariant H h))
