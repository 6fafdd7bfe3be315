use Rattle.std.proofs.Common.{sym}
use Rattle.tcp_sockets.specs.Packets.{value_of}
use Rattle.tcp_sockets.specs.Polls.{state}
use Rattle.tcp_sockets.proofs.QueueLemmas.{endless, stranded, queued}
use Rattle.tcp_sockets.proofs.TurnLemmas.{segment_is}
use Rattle.tcp_sockets.proofs.tcp_sockets.TcpSockets.queue_from.Goals as goal

pub returns : goal.returns
returns g c = λ m due of.
    queued (goal.F-post g c.args.has_neighbor.now) c.args.place c.args.now c.args.own.now m (state c.args.self.now c.args.host.now c.args.sockets.now)
    c.in-Some.segment.endpoints c.in-Some-version_between.version c.is_heard.result c.is_near-is_near.result (value_of c.in-Some.segment) c.queue.result
    (state c.queue.new.self c.args.host.now c.queue.new.sockets)
    c.in-Some.ensures.ends (sym c.in-Some-version_between.ensures) c.is_heard.ensures c.is_near-is_near.ensures
    (segment_is c.in-Some.segment c.args.place c.args.now c.args.action.now m c.args.host.now due of
    c.in-Some.ensures.header c.in-Some.ensures.blocks c.in-Some.ensures.octets c.in-Some.ensures.mss c.in-Some.ensures.scale
    c.in-Some.ensures.hop_limit)
    (c.queue.ensures.fate c.args.host.now) (c.queue.ensures.after c.args.host.now)
