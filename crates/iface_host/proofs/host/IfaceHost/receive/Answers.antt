use Rattle.std.proofs.Common.{◌≡◌, rules}
use Rattle.iface_host.proofs.FrameCalls.{heard}
use Rattle.iface_host.proofs.host.IfaceHost.receive.Goals as goal

pub returns-clause-received : goal.returns-clause-received
returns-clause-received c =
    let same : c.in_ok-now.now ≡ c.args.now = search rules in
    heard c.args.now c.in_ok-now.now same c.args.frame.now c.hear.result c.args.out.now c.hear.new.out c.args.self.now c.hear.new.self c.hear.ensures
