use Rattle.std.proofs.Common.{ℕ, List, refl, ap, sym, ◌∙◌}
use Rattle.control_wire.specs.declared.icmpv6.Icmpv6Repr.{Icmpv6Repr}
use Rattle.iface_context.specs.Stands.{host_in}
use Rattle.iface_context.proofs.Processing.{by_rule, unanswered}
use Rattle.iface_receive.proofs.Messages.{no_neighbor}
use Rattle.iface_receive.proofs.Icmpv6Rules.{icmpv6_malformed, icmpv6_taken}
use Rattle.iface_receive.proofs.icmpv6.process_other.Goals as goal

pub returns-in_default : goal.returns-in_default
returns-in_default c =
    unanswered c.requires.empty
    (λ slots. icmpv6_malformed (host_in c.args.context.now slots c.args.sockets.now) c.args.header.now c.args.octets.now _ refl
    (λ m. c.in_default.ensures m.body))

pub process_message-requires-clause-no_neighbor : goal.process_message-requires-clause-no_neighbor
process_message-requires-clause-no_neighbor c = λ m is.
    no_neighbor c.args.octets.now m c.requires.no_solicitation c.requires.no_advertisement
    (sym (ap (λ (p : Icmpv6Repr × List ℕ). p.0) c.in-Some.ensures.1) ∙ is)

pub returns : goal.returns
returns c = rw c.deliver.ensures (
    by_rule (c.process_message.ensures _)
    (λ slots reply notes taken takes. icmpv6_taken (host_in c.args.context.now slots c.args.sockets.now) taken c.args.header.now c.args.octets.now
    c.in-Some.contents.now c.in-Some.message _ _ reply notes refl
    (record { whole_header = c.requires.sound.0; sum = c.requires.sound.1; body = c.in-Some.ensures.0 }, c.in-Some.ensures.1) refl takes))
