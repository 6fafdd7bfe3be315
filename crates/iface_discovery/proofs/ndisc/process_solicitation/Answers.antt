use Rattle.std.proofs.Common.{Some, refl, sym, ◌∙◌}
use Rattle.host_machine.specs.Receive.Reply.{Ip}
use Rattle.host_machine.specs.Discovery.Ndisc.{NoUnicast, advertisement_of}
use Rattle.iface_context.specs.Stands.{host_in}
use Rattle.iface_context.proofs.Processing.{answered, dispatched, dropped, unanswered}
use Rattle.iface_discovery.proofs.NeighborMessages.{solicited_by}
use Rattle.iface_discovery.proofs.ndisc.process_solicitation.Goals as goal

pub returns-then-has_no_unicast : goal.returns-then-has_no_unicast
returns-then-has_no_unicast c = λ sockets.
    unanswered c.requires.empty (λ slots. NoUnicast c.args.target_addr.now c.args.lladdr.now (sym c.has_no_unicast.ensures ∙ c.if-has_no_unicast.true)
    (dropped (host_in c.args.context.now slots sockets)))

pub returns-then-is_asked : goal.returns-then-is_asked
returns-then-is_asked c = λ sockets.
    answered sockets (Some (Ip (advertisement_of c.args.own c.args.header.now c.args.target_addr.now)))
    (λ slots. solicited_by c.args.own c.args.header.now (host_in c.args.context.now slots sockets)
    (host_in c.learn.new.context slots sockets) c.args.target_addr.now c.args.lladdr.now
    c.usable_lladdr.result c.is_target-is_asked.result _ (sym c.has_no_unicast.ensures ∙ c.if-has_no_unicast.false) c.usable_lladdr.ensures.told
    (c.learn.ensures slots sockets) c.is_target-is_asked.ensures
    (rw c.if-is_asked.true refl))
    (rw c.advertisement_of-packet.ensures at (dispatched _ c.dispatch.result c.dispatch.ensures))

pub returns-else-is_asked : goal.returns-else-is_asked
returns-else-is_asked c = λ sockets.
    unanswered c.requires.empty
    (λ slots. solicited_by c.args.own c.args.header.now (host_in c.args.context.now slots sockets)
    (host_in c.learn.new.context slots sockets) c.args.target_addr.now c.args.lladdr.now
    c.usable_lladdr.result c.is_target-is_asked.result _ (sym c.has_no_unicast.ensures ∙ c.if-has_no_unicast.false) c.usable_lladdr.ensures.told
    (c.learn.ensures slots sockets) c.is_target-is_asked.ensures
    (rw c.if-is_asked.false refl))
