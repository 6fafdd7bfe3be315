use Rattle.std.proofs.Common.{◌≡◌, rules}
use Rattle.iface_host.proofs.FrameCalls.{noted}
use Rattle.iface_host.proofs.host.IfaceHost.next.Goals as goal

pub returns-clause-next : goal.returns-clause-next
returns-clause-next c =
    let same : c.in_ok-now.now ≡ c.args.now = search rules in
    noted c.args.now c.in_ok-now.now same c.in_ok-len.len c.args.out.now c.give.new.out c.args.self.now c.give.new.self c.note_sent.new.self
    c.in_ok-len.ensures.given c.note_sent.ensures
