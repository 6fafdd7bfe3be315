use Rattle.std.proofs.Common.{ap, ◌∙◌, refl}
use Rattle.net_base.specs.Checksum.{is_rx}
use Rattle.iface_context.specs.Stands.{host_in}
use Rattle.iface_context.proofs.Processing.{answered, unanswered}
use Rattle.iface_icmp.proofs.IcmpRules.{icmpv4_malformed, icmpv4_taken}
use Rattle.iface_icmp.proofs.icmpv4.process_icmpv4.Goals as goal

pub returns-in_default : goal.returns-in_default
returns-in_default c =
    unanswered c.requires.empty
    (λ slots. icmpv4_malformed (host_in c.args.context.now slots c.args.sockets.now) c.args.header.now c.args.octets.now c.rx-checked.result
    (c.rx-checked.ensures ∙ ap (λ x. is_rx x.checksum.icmpv4) c.capabilities.ensures) (λ is. c.in_default.ensures (c.requires.short, is)))

pub returns : goal.returns
returns c = rw c.deliver.ensures (
    answered _ _ (λ slots. icmpv4_taken (host_in c.args.context.now slots c.args.sockets.now) c.args.header.now c.args.octets.now
    c.in-Some.contents.now c.in-Some.message c.rx-checked.result _ _
    (c.rx-checked.ensures ∙ ap (λ x. is_rx x.checksum.icmpv4) c.capabilities.ensures) (c.in-Some.ensures.0.1, c.in-Some.ensures.1) refl refl)
    c.answer.ensures)
