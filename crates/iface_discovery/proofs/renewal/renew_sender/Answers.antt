use Rattle.std.proofs.Common.{ap, sym, ◌∙◌}
use Rattle.host_machine.specs.Context.Host.{with_slots}
use Rattle.iface_discovery.proofs.renewal.renew_sender.Goals as goal

pub returns-then-is_unicast : goal.returns-then-is_unicast
returns-then-is_unicast c = λ slots sockets. rw (← c.dst_addr.ensures, ← c.src_addr.ensures, sym c.is_unicast.ensures ∙ c.if-is_unicast.true)
    (ap (λ H. with_slots H slots) (c.renew_neighbor.ensures sockets))
