use Rattle.std.proofs.Common.{◌≡◌, false, rules}
use Rattle.iface_host.specs.Errors.{may_tell_at, packet_at}
use Rattle.iface_host.proofs.ErrorLaws.{nothing_kept}
use Rattle.iface_host.proofs.host.IfaceHost.note_error.Goals as goal

pub returns-else-may_tell : goal.returns-else-may_tell
returns-else-may_tell c =
    let none : may_tell_at (packet_at c.args.self.now.outbox.capabilities.medium) c.args.frame.now ≡ false = search rules in
    nothing_kept c.args.frame.now c.args.self.now none
