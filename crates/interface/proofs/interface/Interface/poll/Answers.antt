use Rattle.host_machine.specs.Context.Host.{at}
use Rattle.host_machine.specs.Interface.Polling.{after_maintenance}
use Rattle.interface.specs.Stands.{StandsFor}
use Rattle.interface.proofs.PollLoop.{polled_whole}
use Rattle.interface.proofs.interface.Interface.poll.Goals as goal

pub returns : goal.returns
returns g c = λ H h.
    polled_whole g.D.Device.tells g.met.D.Device.tells_on c.args.device.now c.receive_until-received.new.device c.send_until-went.new.device
    c.args.timestamp c.args.budget c.receive_until-received.result c.send_until-went.result c.poll_result.result
    (StandsFor c.receive_until-received.new.self c.receive_until-received.new.sockets)
    (StandsFor c.send_until-went.new.self c.send_until-went.new.sockets) H
    (c.receive_until-received.ensures (after_maintenance (at H c.args.timestamp)) (c.poll_maintenance.ensures c.args.sockets.now H h))
    c.send_until-went.ensures c.poll_result.ensures
