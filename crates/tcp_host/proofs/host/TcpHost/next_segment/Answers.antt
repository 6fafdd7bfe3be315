use Rattle.std.proofs.Common.{ap, sym, ◌∙◌, length, subst}
use Rattle.tcp_host.specs.Alarms.{IsLeast}
use Rattle.tcp_host.specs.Host.{Host}
use Rattle.tcp_host.proofs.IdleTurns.{idle_turn}
use Rattle.tcp_host.proofs.host.TcpHost.next_segment.Goals as goal

pub returns-then-now-least : goal.returns-then-now-least
returns-then-now-least c =
    let alarms = ap (λ (h : Host). h.alarms) c.self.view_is in
    let slots = ap (λ (h : Host). h.slots) c.self.view_is in
    idle_turn c.args.now c.least.result c.args.self.now (rw alarms at c.least.ensures) c.if-now-least.true
    (sym (ap length alarms) ∙ (c.self.invariant.1 ∙ ap length slots))
