use Rattle.iface_context.proofs.Processing.{dispatched}
use Rattle.iface_sockets.proofs.tcp.send_tcp_reply.Goals as goal

pub returns-in-Ipv4 : goal.returns-in-Ipv4
returns-in-Ipv4 c = rw (c.in-Some.is, c.in-Ipv4.is, ← c.back-packet.ensures) (dispatched _ c.dispatch.result c.dispatch.ensures)

pub returns-in-Ipv6 : goal.returns-in-Ipv6
returns-in-Ipv6 c =
    rw (c.in-Some.is, c.in-Ipv6.is, ← c.back-packet-in-Ipv6.ensures) (dispatched _ c.dispatch-in-Ipv6.result c.dispatch-in-Ipv6.ensures)
