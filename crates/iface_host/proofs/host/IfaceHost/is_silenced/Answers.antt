use Rattle.std.proofs.Common.{◌≡◌, ◌∙◌, true, rules}
use Rattle.host_machine.specs.Context.Host.{no_sockets}
use Rattle.iface_host.specs.Properties.{machine_of}
use Rattle.iface_host.proofs.GuardCalls.{silenced_as}
use Rattle.iface_host.proofs.host.IfaceHost.is_silenced.Goals as goal

pub returns : goal.returns
returns c =
    let on : c.args.self.now.watch.is_on ≡ true = search rules in
    let waits : c.args.self.now.schedule.is_waiting ≡ true = search rules in
    let known : c.neighbors.result.now ≡ (machine_of c.args.self.now).neighbors = rw c.deref.ensures at (c.neighbors.ensures no_sockets) in
    c.is_turn_of_sockets.ensures ∙ silenced_as c.args.now c.args.self.now c.neighbors.result.now known on waits
