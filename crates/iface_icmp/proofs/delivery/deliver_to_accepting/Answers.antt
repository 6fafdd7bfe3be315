use Rattle.std.proofs.Common.{sym, ◌∙◌}
use Rattle.host_machine.proofs.Sockets.SocketIteration.{set_kept}
use Rattle.iface_icmp.proofs.delivery.deliver_to_accepting.Goals as goal

pub returns-else-is_accepted : goal.returns-else-is_accepted
returns-else-is_accepted c = set_kept _ _ c.args.sockets.now (sym c.is_accepted.ensures ∙ c.if-is_accepted.false)
