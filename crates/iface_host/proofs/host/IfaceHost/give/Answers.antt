use Rattle.std.proofs.Common.{◌≡◌, sym, ◌∙◌, rules}
use Rattle.iface_host.proofs.FrameCalls.{none_waits, of_round}
use Rattle.iface_host.proofs.host.IfaceHost.give.Goals as goal

pub returns-clause-given : goal.returns-clause-given
returns-clause-given c =
    let none : c.len.result ≡ 0 = search rules in
    of_round c.args.now c.args.out.now c.round.new.out c.args.self.now c.round.new.self
    (none_waits c.args.self.now.outbox.frames (sym c.len.ensures ∙ none)) c.round.result c.round.ensures.went
