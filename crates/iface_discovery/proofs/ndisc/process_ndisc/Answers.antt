use Rattle.std.proofs.Common.{refl, sym, ◌∙◌}
use Rattle.std.proofs.lemmas.Bool.{eq-eqb, ne_eqb}
use Rattle.host_machine.specs.Discovery.Ndisc.{Advertised, FromAfar, WithoutAddresses}
use Rattle.iface_context.specs.Stands.{host_in}
use Rattle.iface_context.proofs.Processing.{by_rule, dropped, unanswered}
use Rattle.iface_discovery.proofs.NeighborMessages.{from_neighbor}
use Rattle.iface_discovery.proofs.ndisc.process_ndisc.Goals as goal

pub returns-in_default : goal.returns-in_default
returns-in_default c = λ sockets. unanswered c.requires.empty
    (λ slots. WithoutAddresses (sym c.hardware_addr.ensures ∙ c.in_default.is) (dropped (host_in c.args.context.now slots sockets)))

pub returns-then-header : goal.returns-then-header
returns-then-header c = λ sockets. unanswered c.requires.empty
    (λ slots. FromAfar (ne_eqb c.args.header.now.hop_limit 255 c.if-header.true) (dropped (host_in c.args.context.now slots sockets)))

pub returns-in-NeighborAdvert : goal.returns-in-NeighborAdvert
returns-in-NeighborAdvert c = λ sockets.
    unanswered c.requires.empty (λ slots. from_neighbor c.in-Ethernet.own c.args.header.now c.args.message.now _
    (host_in c.args.context.now slots sockets) (host_in c.process_advertisement.new.context slots sockets) _ _
    (sym c.hardware_addr.ensures ∙ c.in-Ethernet.is) (eq-eqb c.args.header.now.hop_limit 255 c.if-header.false) c.in-NeighborAdvert.is
    (Advertised c.in-NeighborAdvert.flags c.in-NeighborAdvert.target_addr c.in-NeighborAdvert.lladdr
    (c.process_advertisement.ensures slots sockets) refl refl))

pub returns-in-NeighborSolicit : goal.returns-in-NeighborSolicit
returns-in-NeighborSolicit c = λ sockets.
    by_rule (c.process_solicitation.ensures sockets) (λ slots reply notes taken takes.
    from_neighbor c.in-Ethernet.own c.args.header.now c.args.message.now _ (host_in c.args.context.now slots sockets) taken reply notes
    (sym c.hardware_addr.ensures ∙ c.in-Ethernet.is) (eq-eqb c.args.header.now.hop_limit 255 c.if-header.false) c.in-NeighborSolicit.is takes)
