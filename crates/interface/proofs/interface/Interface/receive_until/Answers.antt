use Rattle.std.proofs.Common.{◌≡◌, ◌∙◌, arith}
use Rattle.host_machine.specs.Interface.Ingress.{Ingress}
use Rattle.host_machine.specs.declared.results.PollIngressSingleResult.TheVariants.{None as Nothing}
use Rattle.host_machine.specs.Interface.Polling.{may_change}
use Rattle.interface.specs.Stands.{StandsFor}
use Rattle.interface.proofs.PollLoop.{begins, again, spent, done, or_true, or_false}
use Rattle.interface.proofs.interface.Interface.receive_until.Goals.{in-PacketProcessed, in-SocketStateChanged}
use Rattle.interface.proofs.interface.Interface.receive_until.Goals as goal

pub loop-init : goal.loop-init
loop-init g c = λ H h.
    begins g.D.Device.tells g.met.D.Device.tells_on (Ingress c.args.timestamp) Nothing may_change c.args.device.now H
    (StandsFor c.args.self.now c.args.sockets.now) (g.met.D.Device.tells_nothing c.args.device.now) h

pub returns-in-None : goal.returns-in-None
returns-in-None g c = λ H h.
    done g.D.Device.tells g.met.D.Device.tells_on (Ingress c.args.timestamp) Nothing may_change c.args.device.now c.loop.device
    c.poll_ingress_single.new.device H c.loop.counter c.args.budget c.loop.changed
    (StandsFor c.loop.self c.loop.sockets) (StandsFor c.poll_ingress_single.new.self c.poll_ingress_single.new.sockets)
    (c.loop.invariant H h) c.loop-test.true c.in-None.ensures

pub loop-preserved : goal.loop-preserved
loop-preserved g c = λ H h.
    let more = again g.D.Device.tells g.met.D.Device.tells_on
    (Ingress c.args.timestamp) Nothing may_change c.args.device.now c.loop.device c.poll_ingress_single.new.device H c.loop.counter c.loop.changed
    c.match-poll_ingress_single.changed (StandsFor c.loop.self c.loop.sockets)
    (StandsFor c.poll_ingress_single.new.self c.poll_ingress_single.new.sockets) c.poll_ingress_single.result (c.loop.invariant H h) in
    elim c.match-poll_ingress_single.branch [
      | in-PacketProcessed w ↦ more (λ none. let is = w.in-PacketProcessed.is in absurd cc) c.poll_ingress_single.ensures
          (w.changed-is ∙ rw w.in-PacketProcessed.is (or_false c.loop.changed))
      | in-SocketStateChanged w ↦ more (λ none. let is = w.in-SocketStateChanged.is in absurd cc) c.poll_ingress_single.ensures
          (w.changed-is ∙ rw w.in-SocketStateChanged.is (or_true c.loop.changed))
    ]

pub returns : goal.returns
returns g c = λ H h.
    let all : c.loop.counter ≡ c.args.budget = omega arith in
    rw (← all) (spent g.D.Device.tells g.met.D.Device.tells_on (Ingress c.args.timestamp) Nothing may_change c.args.device.now c.loop.device H
    c.loop.counter c.loop.changed (StandsFor c.loop.self c.loop.sockets) (c.loop.invariant H h))
