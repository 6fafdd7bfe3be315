use Rattle.iface_discovery.proofs.RouterSolicitations.{not_asked}
use Rattle.iface_discovery.proofs.router_solicitation.ndisc_rs_egress.Goals as goal

pub returns-then-not-may_solicit : goal.returns-then-not-may_solicit
returns-then-not-may_solicit g c =
    not_asked c.args.context.now (g.met.D.Device.tells_nothing c.args.device.now) (c.may_solicit.ensures c.if-not-may_solicit.true)
