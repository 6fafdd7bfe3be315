use Rattle.std.proofs.Common.{◌≡◌, ◌∙◌, sym, refl, Some, None}
use Rattle.host_machine.specs.Context.Host.{no_sockets}
use Rattle.iface_host.specs.Calls.{addresses_of}
use Rattle.iface_host.proofs.ErrorCalls.{noted_as}
use Rattle.iface_host.proofs.host.IfaceHost.note_icmp.Goals as goal

pub returns-in-Some : goal.returns-in-Some
returns-in-Some c =
    let own : c.ip_addrs-own.result.now ≡ addresses_of c.args.self.now = rw c.deref.ensures at (c.ip_addrs-own.ensures.value no_sockets) in
    noted_as c.args.frame.now c.args.self.now c.capabilities.result c.capabilities.ensures c.ip_addrs-own.result.now own (Some c.in-Some.error)
    (sym c.error_in.ensures ∙ c.in-Some.is) c.push.new.self c.push.ensures

pub returns-in-None : goal.returns-in-None
returns-in-None c =
    let own : c.ip_addrs-own.result.now ≡ addresses_of c.args.self.now = rw c.deref.ensures at (c.ip_addrs-own.ensures.value no_sockets) in
    noted_as c.args.frame.now c.args.self.now c.capabilities.result c.capabilities.ensures c.ip_addrs-own.result.now own None
    (sym c.error_in.ensures ∙ c.in-None.is) c.args.self.now.errors refl
