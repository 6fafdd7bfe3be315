use Rattle.iface_context.specs.Stands.{host_in}
use Rattle.iface_context.proofs.Processing.{answered, by_rule}
use Rattle.iface_receive.proofs.PacketRulesV6.{protocol_refused_v6, taken_by_protocol_v6}
use Rattle.iface_receive.proofs.ipv6.process_protocol.Goals as goal

pub returns-in-Icmpv6 : goal.returns-in-Icmpv6
returns-in-Icmpv6 c = by_rule c.process_icmpv6.ensures (λ slots reply notes taken takes. taken_by_protocol_v6 _ _ c.args.handled_by_raw_socket
    c.args.header.now (host_in c.args.context.now slots c.args.sockets.now) taken c.args.payload.now reply notes c.in-Icmpv6.is takes)

pub returns-in-Udp : goal.returns-in-Udp
returns-in-Udp c = by_rule c.process_udp_in_ipv6.ensures (λ slots reply notes taken takes. taken_by_protocol_v6 _ _ c.args.handled_by_raw_socket
    c.args.header.now (host_in c.args.context.now slots c.args.sockets.now) taken c.args.payload.now reply notes c.in-Udp.is takes)

pub returns-in-Tcp : goal.returns-in-Tcp
returns-in-Tcp c = by_rule c.process_tcp_in_ipv6.ensures (λ slots reply notes taken takes. taken_by_protocol_v6 _ _ c.args.handled_by_raw_socket
    c.args.header.now (host_in c.args.context.now slots c.args.sockets.now) taken c.args.payload.now reply notes c.in-Tcp.is takes)

pub returns-in-Icmp : goal.returns-in-Icmp
returns-in-Icmp c =
    answered _ _ (λ slots. protocol_refused_v6 _ c.args.handled_by_raw_socket c.args.header.now
    (host_in c.args.context.now slots c.args.sockets.now) c.args.payload.now c.in-Icmp.is) c.refuse_protocol.ensures
