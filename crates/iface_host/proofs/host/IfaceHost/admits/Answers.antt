use Rattle.std.proofs.Common.{◌≡◌, ◌∙◌, ap, Bool}
use Rattle.std.specs.Prelude.{◌&&◌}
use Rattle.guard.specs.Guard.{is_ordinary}
use Rattle.host_machine.specs.Context.Host.{no_sockets}
use Rattle.iface_host.specs.Calls.{addresses_of}
use Rattle.iface_host.specs.Guarded.{hardware_addr_of}
use Rattle.iface_host.proofs.FrameCalls.{admits_as, arrives_as}
use Rattle.iface_host.proofs.host.IfaceHost.admits.Goals as goal

pub returns-clause-admitted : goal.returns-clause-admitted
returns-clause-admitted c =
    let own : c.ip_addrs-own.result.now ≡ addresses_of c.args.self.now = rw c.deref.ensures at (c.ip_addrs-own.ensures.value no_sockets) in
    let hardware : c.hardware_addr-hardware.result ≡ hardware_addr_of c.args.self.now = rw c.deref-2.ensures at (c.hardware_addr-hardware.ensures no_sockets) in
    c.admits.ensures.admitted ∙ admits_as c.args.now c.args.frame.now _ _ hardware _ _ own c.args.self.now.watch

pub returns-clause-rest : goal.returns-clause-rest
returns-clause-rest c =
    let own : c.ip_addrs-own.result.now ≡ addresses_of c.args.self.now = rw c.deref.ensures at (c.ip_addrs-own.ensures.value no_sockets) in
    let hardware : c.hardware_addr-hardware.result ≡ hardware_addr_of c.args.self.now = rw c.deref-2.ensures at (c.hardware_addr-hardware.ensures no_sockets) in
    arrives_as c.args.now c.args.frame.now _ _ hardware _ _ own c.args.self.now c.admits.new.self c.admits.ensures.watch

pub returns-clause-ordinary : goal.returns-clause-ordinary
returns-clause-ordinary c = ap (λ (b : Bool). b && is_ordinary c.args.frame.now (addresses_of c.args.self.now)) c.admits.ensures.on
