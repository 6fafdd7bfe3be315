use Rattle.iface_host.proofs.FrameCalls.{polled_into, same_references}
use Rattle.iface_host.proofs.frames.poll_over.Goals as goal

pub returns-clause-same_outbox : goal.returns-clause-same_outbox
returns-clause-same_outbox c =
    (same_references c.args.now c.poll.result c.args.interface.now c.poll.new.self c.args.sockets.now c.poll.new.sockets
    c.args.device.now c.poll.new.device (c.stands_for_a_host.ensures c.args.sockets.now) c.poll.ensures).0

pub returns-clause-same_buffer : goal.returns-clause-same_buffer
returns-clause-same_buffer c =
    (same_references c.args.now c.poll.result c.args.interface.now c.poll.new.self c.args.sockets.now c.poll.new.sockets
    c.args.device.now c.poll.new.device (c.stands_for_a_host.ensures c.args.sockets.now) c.poll.ensures).1

pub returns-clause-polled : goal.returns-clause-polled
returns-clause-polled c = λ fresh.
    polled_into c.args.now c.poll.result c.args.interface.now c.poll.new.self c.args.sockets.now c.poll.new.sockets c.args.device.now c.poll.new.device fresh
    (c.stands_for_a_host.ensures c.args.sockets.now) c.poll.ensures
