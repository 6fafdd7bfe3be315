use Rattle.std.proofs.Common.{◌≡◌, ◌∙◌, true, rules}
use Rattle.host_machine.specs.Context.Host.{no_sockets}
use Rattle.iface_host.specs.Calls.{addresses_of}
use Rattle.iface_host.proofs.GuardCalls.{ordinary_as}
use Rattle.iface_host.proofs.host.IfaceHost.is_ordinary.Goals as goal

pub returns-then-self : goal.returns-then-self
returns-then-self c =
    let on : c.args.self.now.watch.is_on ≡ true = search rules in
    let own : c.ip_addrs.result.now ≡ addresses_of c.args.self.now = rw c.deref.ensures at (c.ip_addrs.ensures.value no_sockets) in
    c.is_ordinary.ensures ∙ ordinary_as c.args.frame.now c.args.self.now c.ip_addrs.result.now own on
