use Rattle.std.proofs.Common.{[], refl}
use Rattle.control_wire.specs.declared.icmpv6.Icmpv6Repr.TheVariants.{Ndisc}
use Rattle.control_wire.specs.Icmpv6.{Neighbor}
use Rattle.iface_context.specs.Stands.{host_in}
use Rattle.iface_context.proofs.Processing.{by_rule, unanswered}
use Rattle.iface_receive.proofs.Messages.{a_neighbor, of_neighbors}
use Rattle.iface_receive.proofs.Icmpv6Rules.{icmpv6_malformed, icmpv6_taken}
use Rattle.iface_receive.proofs.icmpv6.process_neighbor.Goals as goal

pub returns-in_default : goal.returns-in_default
returns-in_default c =
    unanswered c.requires.empty
    (λ slots. icmpv6_malformed (host_in c.args.context.now slots c.args.sockets.now) c.args.header.now c.args.octets.now _ refl
    (λ m. c.in_default.ensures (a_neighbor c.args.octets.now c.requires.kind m.body)))

pub returns : goal.returns
returns c = rw c.deliver.ensures (
    by_rule (c.process_ndisc.ensures _) (λ slots reply notes taken takes. icmpv6_taken (host_in c.args.context.now slots c.args.sockets.now)
    taken c.args.header.now c.args.octets.now [] (Ndisc c.in-Some.message) _ _ reply notes refl (
      record { whole_header = c.requires.sound.0; sum = c.requires.sound.1; body = Neighbor c.in-Some.ensures.0 },
      of_neighbors c.args.octets.now c.in-Some.message c.requires.kind c.in-Some.ensures.1,
    ) refl takes))
