use Rattle.std.proofs.Common.{◌≡◌, Some, subst}
use Rattle.host_machine.specs.declared.command.Command.TheVariants.{PollIngressSingle}
use Rattle.net_base.specs.MemoryDevice.{Memory, Tells}
use Rattle.interface.specs.Stands.{StandsFor}
use Rattle.host.specs.Commands.{HostRefinesCommand}
use Rattle.host.specs.Link.{OneFrame, sent_since}
use Rattle.host.proofs.link.hand_over.Goals as goal

pub returns-clause-done : goal.returns-clause-done
returns-clause-done g c =
    let at : sent_since c.args.before c.args.from.now c.args.k ≡ Some c.in-Some.frame.now = c.in-Some.ensures in
    OneFrame c.in-Some.frame.now c.run.result at
    (subst (λ (d : Memory). HostRefinesCommand Tells g.O.Owner.did d c.run.new.host.device c.args.to.now.owner c.run.new.host.owner
    (PollIngressSingle c.args.timestamp) c.run.result (StandsFor c.args.to.now.interface c.args.to.now.sockets)
    (StandsFor c.run.new.host.interface c.run.new.host.sockets))
    c.in_ok-push.ensures.ok c.run.ensures)
