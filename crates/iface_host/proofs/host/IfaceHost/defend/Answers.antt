use Rattle.std.proofs.Common.{◌≡◌, Some, None, refl}
use Rattle.host_machine.specs.Context.Host.{no_sockets}
use Rattle.iface_host.specs.Guarded.{hardware_addr_of}
use Rattle.iface_host.proofs.FrameCalls.{defended}
use Rattle.iface_host.proofs.host.IfaceHost.defend.Goals as goal

pub returns-in-None : goal.returns-in-None
returns-in-None c =
    let own : c.hardware_addr.result ≡ hardware_addr_of c.args.self.now = rw c.deref.ensures at (c.hardware_addr.ensures no_sockets) in
    defended 0 c.args.out.now c.args.out.now c.args.self.now c.hardware_addr.result own None _ c.announcement_due.ensures.due c.in-None.is
    (refl, refl) c.announcement_due.new.self c.announcement_due.ensures.taken c.args.self.now.frames refl

pub returns-in-Some : goal.returns-in-Some
returns-in-Some c =
    let own : c.hardware_addr.result ≡ hardware_addr_of c.args.self.now = rw c.deref.ensures at (c.hardware_addr.ensures no_sockets) in
    defended c.write_front-len.result c.args.out.now c.write_front-len.new.buffer c.args.self.now c.hardware_addr.result own
    (Some c.in-Some.frame) _ c.announcement_due.ensures.due c.in-Some.is
    (c.write_front-len.ensures.len, c.write_front-len.ensures.front, c.write_front-len.ensures.rest)
    c.announcement_due.new.self c.announcement_due.ensures.taken c.hand_over.new.self c.hand_over.ensures
