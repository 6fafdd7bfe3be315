use Rattle.std.proofs.Common.{refl, ap, sym, ◌∙◌}
use Rattle.host_machine.specs.Context.Host.{no_sockets, with_slots}
use Rattle.host_machine.specs.Discovery.Arp.{Malformed}
use Rattle.iface_context.specs.Stands.{host_in, host_of}
use Rattle.iface_context.proofs.Processing.{answered, dropped, unanswered}
use Rattle.iface_discovery.proofs.ArpRules.{arp_learnt, arp_not_accepted}
use Rattle.iface_discovery.proofs.arp.process_arp.Goals as goal

pub returns-in_default : goal.returns-in_default
returns-in_default c =
    λ sockets. unanswered c.requires.empty (λ slots. Malformed c.in_default.ensures (dropped (host_in c.args.context.now slots sockets)))

pub returns-then-not-is_for_us : goal.returns-then-not-is_for_us
returns-then-not-is_for_us c = λ sockets.
    unanswered c.requires.empty (λ slots. arp_not_accepted c.args.own (host_in c.args.context.now slots sockets) c.args.payload.now c.in-Some.packet
    c.in-Some.ensures (sym c.is_for_us.ensures.is_for_us ∙ c.if-not-is_for_us.true))

pub returns : goal.returns
returns c = λ sockets.
    answered sockets _ (λ slots. arp_learnt c.args.own (host_in c.args.context.now slots sockets)
    (host_in c.fill_neighbor.new.context slots sockets) c.args.payload.now c.in-Some.packet
    (host_of c.fill_neighbor.new.context no_sockets).neighbors _ c.in-Some.ensures (sym c.is_for_us.ensures.is_for_us ∙ c.if-not-is_for_us.false)
    c.fill_neighbor.ensures.neighbors (ap (λ H. with_slots H slots) (c.fill_neighbor.ensures.same sockets)) refl) c.answer.ensures
