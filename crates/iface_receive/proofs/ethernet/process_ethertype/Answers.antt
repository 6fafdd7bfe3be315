use Rattle.iface_context.specs.Stands.{host_in}
use Rattle.iface_context.proofs.Processing.{in_place, unanswered}
use Rattle.iface_receive.proofs.PacketRules.{payload_dropped}
use Rattle.iface_receive.proofs.ethernet.process_ethertype.Goals as goal

pub returns-in-Arp : goal.returns-in-Arp
returns-in-Arp c = rw c.in-Arp.is (in_place (c.process_arp.ensures c.args.sockets.now))

pub returns-in-Ipv4 : goal.returns-in-Ipv4
returns-in-Ipv4 c = rw c.in-Ipv4.is c.process_ipv4.ensures

pub returns-in-Ipv6 : goal.returns-in-Ipv6
returns-in-Ipv6 c = rw c.in-Ipv6.is (in_place c.process_ipv6.ensures)

pub returns-in-Unknown : goal.returns-in-Unknown
returns-in-Unknown c = in_place (unanswered c.requires.empty (λ slots. payload_dropped _ c.args.own c.args.header.now.src_addr
    (host_in c.args.context.now slots c.args.sockets.now) c.args.payload.now (_, c.in-Unknown.is)))
