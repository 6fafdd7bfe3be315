use Rattle.std.proofs.Common.{◌≡◌, ◌∙◌, ap, refl, sym}
use Rattle.host_machine.specs.Context.Host.{no_sockets}
use Rattle.guard.specs.Guard.{is_ordinary}
use Rattle.iface_host.specs.Calls.{addresses_of}
use Rattle.iface_host.specs.Guarded.{hardware_addr_of}
use Rattle.iface_host.specs.Properties.{machine_of}
use Rattle.iface_host.proofs.FrameCalls.{admits_as, arrives_as}
use Rattle.iface_host.proofs.GuardCalls.{limit_as, ordinary_on}
use Rattle.iface_host.proofs.host.IfaceHost.take_ordinary.Goals as goal

pub limit_of_ordinary-limit-requires-clause-ordinary : goal.limit_of_ordinary-limit-requires-clause-ordinary
limit_of_ordinary-limit-requires-clause-ordinary c =
    let own : c.ip_addrs-own.result.now ≡ addresses_of c.args.self.now = rw c.deref.ensures at (c.ip_addrs-own.ensures.value no_sockets) in
    let is = ordinary_on c.args.self.now.watch.is_on (is_ordinary c.args.frame.now (addresses_of c.args.self.now)) c.requires.ordinary in
    ap (is_ordinary c.args.frame.now) own ∙ is.1

pub take_limited-requires-clause-limit : goal.take_limited-requires-clause-limit
take_limited-requires-clause-limit c =
    let own : c.ip_addrs-own.result.now ≡ addresses_of c.args.self.now = rw c.deref.ensures at (c.ip_addrs-own.ensures.value no_sockets) in
    let known : c.neighbors-neighbors.result.now ≡ (machine_of c.args.self.now).neighbors =
    rw c.deref-2.ensures at (c.neighbors-neighbors.ensures no_sockets) in
    let is = ordinary_on c.args.self.now.watch.is_on (is_ordinary c.args.frame.now (addresses_of c.args.self.now)) c.requires.ordinary in
    c.limit_of_ordinary-limit.ensures
    ∙ limit_as c.args.now c.args.frame.now c.args.self.now c.ip_addrs-own.result.now c.neighbors-neighbors.result.now own known is.0

pub returns-clause-admitted : goal.returns-clause-admitted
returns-clause-admitted c =
    let own : c.ip_addrs-own.result.now ≡ addresses_of c.args.self.now = rw c.deref.ensures at (c.ip_addrs-own.ensures.value no_sockets) in
    let is = ordinary_on c.args.self.now.watch.is_on (is_ordinary c.args.frame.now (addresses_of c.args.self.now)) c.requires.ordinary in
    let left = c.leaves_ordinary.ensures (ap (is_ordinary c.args.frame.now) own ∙ is.1) c.args.now (hardware_addr_of c.args.self.now) in
    sym (admits_as c.args.now c.args.frame.now (hardware_addr_of c.args.self.now) (hardware_addr_of c.args.self.now) refl
    c.ip_addrs-own.result.now (addresses_of c.args.self.now) own c.args.self.now.watch) ∙ left.0

pub returns-clause-same : goal.returns-clause-same
returns-clause-same c =
    let own : c.ip_addrs-own.result.now ≡ addresses_of c.args.self.now = rw c.deref.ensures at (c.ip_addrs-own.ensures.value no_sockets) in
    let is = ordinary_on c.args.self.now.watch.is_on (is_ordinary c.args.frame.now (addresses_of c.args.self.now)) c.requires.ordinary in
    let left = c.leaves_ordinary.ensures (ap (is_ordinary c.args.frame.now) own ∙ is.1) c.args.now (hardware_addr_of c.args.self.now) in
    sym (arrives_as c.args.now c.args.frame.now (hardware_addr_of c.args.self.now) (hardware_addr_of c.args.self.now) refl
    c.ip_addrs-own.result.now (addresses_of c.args.self.now) own c.args.self.now c.args.self.now.watch (sym left.1))
