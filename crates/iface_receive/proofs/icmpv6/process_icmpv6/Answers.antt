use Rattle.std.proofs.Common.{ap, ◌∙◌}
use Rattle.net_base.specs.Checksum.{is_rx}
use Rattle.iface_context.specs.Stands.{host_in}
use Rattle.iface_context.proofs.Processing.{unanswered}
use Rattle.iface_receive.proofs.Icmpv6Rules.{icmpv6_malformed}
use Rattle.iface_receive.proofs.icmpv6.process_icmpv6.Goals as goal

pub returns-then-not-is_sound : goal.returns-then-not-is_sound
returns-then-not-is_sound c =
    unanswered c.requires.empty
    (λ slots. icmpv6_malformed (host_in c.args.context.now slots c.args.sockets.now) c.args.header.now c.args.octets.now c.rx-checked.result
    (c.rx-checked.ensures ∙ ap (λ x. is_rx x.checksum.icmpv6) c.capabilities.ensures)
    (λ m. c.is_sound.ensures.unsound c.if-not-is_sound.true (m.whole_header, m.sum)))
