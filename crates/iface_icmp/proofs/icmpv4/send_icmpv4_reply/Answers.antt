use Rattle.iface_context.proofs.Processing.{dispatched}
use Rattle.iface_icmp.proofs.icmpv4.send_icmpv4_reply.Goals as goal

pub returns : goal.returns
returns g c = rw (← c.reply_source.ensures, c.in-Some.is, ← c.requires.carried) (dispatched _ c.dispatch.result c.dispatch.ensures)
