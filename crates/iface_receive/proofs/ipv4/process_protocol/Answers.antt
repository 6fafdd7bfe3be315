use Rattle.iface_context.specs.Stands.{host_in}
use Rattle.iface_context.proofs.Processing.{answered, by_rule, unanswered}
use Rattle.iface_receive.proofs.PacketRules.{protocol_refused, taken_by_protocol}
use Rattle.iface_receive.proofs.ipv4.process_protocol.Goals as goal

pub returns-in-Icmp : goal.returns-in-Icmp
returns-in-Icmp c = by_rule c.process_icmpv4.ensures (λ slots reply notes taken takes. taken_by_protocol _ _ c.args.handled_by_raw_socket
    c.args.header.now (host_in c.args.context.now slots c.args.sockets.now) taken c.args.payload.now reply notes c.in-Icmp.is takes)

pub returns-in-Udp : goal.returns-in-Udp
returns-in-Udp c = by_rule c.process_udp_in_ipv4.ensures (λ slots reply notes taken takes. taken_by_protocol _ _ c.args.handled_by_raw_socket
    c.args.header.now (host_in c.args.context.now slots c.args.sockets.now) taken c.args.payload.now reply notes c.in-Udp.is takes)

pub returns-in-Tcp : goal.returns-in-Tcp
returns-in-Tcp c = by_rule c.process_tcp_in_ipv4.ensures (λ slots reply notes taken takes. taken_by_protocol _ _ c.args.handled_by_raw_socket
    c.args.header.now (host_in c.args.context.now slots c.args.sockets.now) taken c.args.payload.now reply notes c.in-Tcp.is takes)

pub returns-in-Igmp : goal.returns-in-Igmp
returns-in-Igmp c = unanswered c.requires.empty (λ slots. taken_by_protocol _ _ c.args.handled_by_raw_socket c.args.header.now
    (host_in c.args.context.now slots c.args.sockets.now) (host_in c.process_igmp_in_ipv4.new.context slots c.args.sockets.now) c.args.payload.now _ _
    c.in-Igmp.is (c.process_igmp_in_ipv4.ensures slots c.args.sockets.now))

pub returns-in-HopByHop : goal.returns-in-HopByHop
returns-in-HopByHop c =
    answered _ _ (λ slots. protocol_refused _ c.args.handled_by_raw_socket c.args.header.now
    (host_in c.args.context.now slots c.args.sockets.now) c.args.payload.now c.in-HopByHop.is) c.refuse_protocol.ensures
