use Rattle.std.proofs.Common.{sym, ◌∙◌}
use Rattle.host_machine.specs.Context.Host.{no_sockets}
use Rattle.interface.specs.Stands.{host_with}
use Rattle.iface_host.proofs.KnownCalls.{known_is}
use Rattle.iface_host.proofs.known.is_known_to.Goals as goal

pub returns : goal.returns
returns c =
    known_is c.router_is_one.ensures c.best_is_found.ensures (host_with c.args.interface.now no_sockets) c.args.address.now c.has_neighbor.result
    (sym c.is_unicast.ensures ∙ c.if-not-is_unicast.false) (c.has_neighbor.ensures no_sockets)
