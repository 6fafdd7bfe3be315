use Rattle.std.proofs.Common.{take, ap, ◌∙◌}
use Rattle.std.proofs.lemmas.List.{take_min}
use Rattle.iface_icmp.proofs.icmpv4.quotation_of.Goals as goal

pub returns : goal.returns
returns c = ap (λ n. take n c.args.payload.now) c.icmp_reply_payload_len.ensures ∙ take_min 528 c.args.payload.now
