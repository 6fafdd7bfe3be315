use Rattle.iface_context.proofs.Processing.{dispatched}
use Rattle.iface_icmp.proofs.icmpv6.send_message.Goals as goal

pub returns : goal.returns
returns c = rw (← c.reply_source.ensures) (dispatched _ c.dispatch.result c.dispatch.ensures)
