use Rattle.std.proofs.Common.{sym}
use Rattle.socket_set.specs.SocketSet.{socket_at}
use Rattle.host_machine.specs.Sockets.Raw.{takes}
use Rattle.iface_context.specs.Stands.{host_of}
use Rattle.host_machine.proofs.Sockets.SocketIteration.{none_delivered}
use Rattle.host_machine.proofs.Sockets.OtherPorts.{none_accepts_at_all, not_raw}
use Rattle.iface_sockets.proofs.raw.deliver.Goals as goal

pub returns-then-not-may_have_portless-clause-taken : goal.returns-then-not-may_have_portless-clause-taken
returns-then-not-may_have_portless-clause-taken c =
    let ported = c.may_have_portless.ensures c.if-not-may_have_portless.true in
    sym
    (none_accepts_at_all (takes c.args.header.now) c.args.sockets.now (λ k. not_raw c.args.header.now (socket_at c.args.sockets.now k) (ported k)))

pub returns-then-not-may_have_portless-clause-heard : goal.returns-then-not-may_have_portless-clause-heard
returns-then-not-may_have_portless-clause-heard c =
    let ported = c.may_have_portless.ensures c.if-not-may_have_portless.true in
    none_delivered c.args.header.now c.args.payload.now (host_of c.args.context.now c.args.sockets.now)
    (none_accepts_at_all (takes c.args.header.now) c.args.sockets.now (λ k. not_raw c.args.header.now (socket_at c.args.sockets.now k) (ported k)))
