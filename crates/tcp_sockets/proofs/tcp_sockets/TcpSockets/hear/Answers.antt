use Rattle.std.proofs.Common.{rules, refl}
use Rattle.tcp_sockets.specs.Polls.{state}
use Rattle.tcp_sockets.proofs.PollLemmas.{hears_first}
use Rattle.tcp_sockets.proofs.tcp_sockets.TcpSockets.hear.Goals as goal

pub returns : goal.returns
returns g c =
    hears_first (goal.F-post g c.args.has_neighbor.now) c.args.version c.args.near c.args.now c.args.own.now c.rx-checked.result
    c.in-Some.socket.now c.receive-answer.new.socket c.receive-answer.result c.receive-answer.new.host
    (state c.args.self.now c.args.host.now c.args.sockets.now)
    (state c.answer.new.self c.receive-answer.new.host c.answer.new.sockets) c.in-Some.ensures.value (search rules)
    c.receive-answer.ensures.host c.receive-answer.ensures.socket c.answer.ensures refl
