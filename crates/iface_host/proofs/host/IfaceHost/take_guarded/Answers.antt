use Rattle.std.proofs.Common.{◌≡◌, false, true, rules}
use Rattle.iface_host.proofs.GuardCalls.{tells_all}
use Rattle.iface_host.proofs.GuardCalls.{unguarded}
use Rattle.iface_host.proofs.host.IfaceHost.take_guarded.Goals as goal

pub returns-then-not-self : goal.returns-then-not-self
returns-then-not-self c =
    let off : c.args.self.now.watch.is_on ≡ false = search rules in
    unguarded c.args.now c.args.frame.now c.take_frame.result c.args.out.now c.take_frame.new.out c.args.self.now c.take_frame.new.self off
    c.take_frame.ensures

pub take_and_keep-requires-clause-tells : goal.take_and_keep-requires-clause-tells
take_and_keep-requires-clause-tells c =
    let on : c.args.self.now.watch.is_on ≡ true = search rules in
    tells_all c.args.frame.now c.args.self.now on c.requires.special
