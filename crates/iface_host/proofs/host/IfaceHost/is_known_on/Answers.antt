use Rattle.std.proofs.Common.{◌≡◌, ◌∙◌, true, rules}
use Rattle.host_machine.specs.Context.Host.{no_sockets}
use Rattle.guard.specs.Answers.{is_short}
use Rattle.guard.specs.Guard.{micros}
use Rattle.iface_host.specs.Properties.{machine_of}
use Rattle.iface_host.proofs.GuardCalls.{known_as}
use Rattle.iface_host.proofs.host.IfaceHost.is_known_on.Goals as goal

pub returns : goal.returns
returns c =
    let on : c.args.self.now.watch.is_on ≡ true = search rules in
    let short : is_short (micros c.args.now) c.args.self.now.watch.answers ≡ true = search rules in
    let known : c.neighbors.result.now ≡ (machine_of c.args.self.now).neighbors = rw c.deref.ensures at (c.neighbors.ensures no_sockets) in
    c.comes_from_known.ensures ∙ known_as c.args.now c.args.frame.now c.args.self.now c.neighbors.result.now known on short
