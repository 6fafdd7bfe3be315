use Rattle.std.proofs.Common.{◌≡◌, ◌∙◌, true, rules}
use Rattle.host_machine.specs.Context.Host.{no_sockets}
use Rattle.iface_host.specs.Calls.{addresses_of}
use Rattle.iface_host.specs.Properties.{machine_of}
use Rattle.iface_host.proofs.GuardCalls.{limit_as}
use Rattle.iface_host.proofs.host.IfaceHost.limit_on.Goals as goal

pub returns : goal.returns
returns c =
    let on : c.args.self.now.watch.is_on ≡ true = search rules in
    let own : c.ip_addrs-own.result.now ≡ addresses_of c.args.self.now = rw c.deref.ensures at (c.ip_addrs-own.ensures.value no_sockets) in
    let known : c.neighbors.result.now ≡ (machine_of c.args.self.now).neighbors = rw c.deref-2.ensures at (c.neighbors.ensures no_sockets) in
    c.limit_for.ensures ∙ limit_as c.args.now c.args.frame.now c.args.self.now c.ip_addrs-own.result.now c.neighbors.result.now own known on
