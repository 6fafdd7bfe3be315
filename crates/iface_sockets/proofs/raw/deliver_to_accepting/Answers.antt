use Rattle.std.proofs.Common.{◌∙◌, sym}
use Rattle.iface_context.specs.Stands.{host_of}
use Rattle.host_machine.proofs.Sockets.SocketIteration.{none_delivered}
use Rattle.iface_sockets.proofs.raw.deliver_to_accepting.Goals as goal

pub returns-then-not-is_accepted-clause-heard : goal.returns-then-not-is_accepted-clause-heard
returns-then-not-is_accepted-clause-heard c = none_delivered c.args.header.now c.args.payload.now (host_of c.args.context.now c.args.sockets.now)
    (sym c.is_accepted.ensures ∙ c.if-not-is_accepted.true)
