use Rattle.std.proofs.Common.{sym, ◌∙◌}
use Rattle.host_machine.specs.Receive.Ethernet.{Malformed}
use Rattle.iface_context.specs.Stands.{host_in}
use Rattle.iface_context.proofs.Processing.{by_law, dropped, in_place, unanswered}
use Rattle.iface_receive.proofs.PacketRules.{ethernet_read, ethernet_refused}
use Rattle.iface_receive.proofs.ethernet.process_ethernet.Goals as goal

pub returns-in_default : goal.returns-in_default
returns-in_default c =
    in_place (unanswered c.requires.empty (λ slots. Malformed c.in_default.ensures (dropped (host_in c.args.context.now slots c.args.sockets.now))))

pub returns-then-is_for : goal.returns-then-is_for
returns-then-is_for c = by_law c.process_ethertype.ensures (λ H stands reply notes taken takes.
    ethernet_read c.args.own H taken c.args.frame.now c.in-Some.payload.now c.in-Some.header reply notes c.in-Some.ensures
    (sym c.is_for.ensures ∙ c.if-is_for.true) takes)

pub returns-else-is_for : goal.returns-else-is_for
returns-else-is_for c =
    in_place (unanswered c.requires.empty (λ slots. ethernet_refused c.args.own (host_in c.args.context.now slots c.args.sockets.now)
    c.args.frame.now c.in-Some.payload.now c.in-Some.header c.in-Some.ensures (sym c.is_for.ensures ∙ c.if-is_for.false)))
