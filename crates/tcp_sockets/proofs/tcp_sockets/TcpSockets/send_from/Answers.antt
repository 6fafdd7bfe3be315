use Rattle.std.proofs.Common.{◌∙◌, ap, refl}
use Rattle.tcp_host.specs.Host.{Host}
use Rattle.tcp_host.specs.Turns.{sent_if}
use Rattle.tcp_sockets.specs.Polls.{state}
use Rattle.tcp_sockets.proofs.StrandedLemmas.{sends_stranded}
use Rattle.tcp_sockets.proofs.tcp_sockets.TcpSockets.send_from.Goals as goal

pub returns-in-Stranded : goal.returns-in-Stranded
returns-in-Stranded g c = λ m due of.
    sends_stranded (goal.F-post g c.args.has_neighbor.now) c.args.place c.args.now c.args.own.now m
    (state c.args.self.now c.args.host.now c.args.sockets.now) (state c.queue_from.new.self c.args.host.now c.queue_from.new.sockets)
    c.sent.new.self (c.in-Stranded.ensures m due of)
    (c.sent.ensures ∙ ap (λ (h : Host). sent_if c.args.place c.args.now h) c.abort_at.ensures)
