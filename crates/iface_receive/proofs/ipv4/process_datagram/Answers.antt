use Rattle.std.proofs.Common.{ap, sym, ◌∙◌}
use Rattle.host_machine.specs.Context.Host.{with_slots}
use Rattle.iface_context.specs.Stands.{host_in}
use Rattle.iface_context.proofs.Processing.{by_rule, unanswered}
use Rattle.iface_receive.proofs.PacketRules.{packet_accepted, packet_for_others}
use Rattle.iface_receive.proofs.ipv4.process_datagram.Goals as goal

pub returns-then-not-is_for_host : goal.returns-then-not-is_for_host
returns-then-not-is_for_host c =
    unanswered c.requires.empty (λ slots. packet_for_others c.args.source (host_in c.args.context.now slots c.args.sockets.now)
    (host_in c.args.context.now slots c.deliver-handled_by_raw_socket.new.sockets) c.args.header.now c.args.payload.now
    (rw c.dst_addr.ensures at (sym c.is_for_host.ensures ∙ c.if-not-is_for_host.true))
    (ap (λ H. with_slots H slots) c.deliver-handled_by_raw_socket.ensures.heard))

pub returns : goal.returns
returns c = by_rule c.process_protocol.ensures (λ slots reply notes taken takes.
    packet_accepted c.args.source (host_in c.args.context.now slots c.args.sockets.now)
    (host_in c.args.context.now slots c.deliver-handled_by_raw_socket.new.sockets)
    (host_in c.renew_sender.new.context slots c.deliver-handled_by_raw_socket.new.sockets) taken
    c.args.header.now c.args.payload.now c.deliver-handled_by_raw_socket.result reply notes
    (rw c.dst_addr.ensures at (sym c.is_for_host.ensures ∙ c.if-not-is_for_host.false))
    c.deliver-handled_by_raw_socket.ensures.taken (ap (λ H. with_slots H slots) c.deliver-handled_by_raw_socket.ensures.heard)
    (c.renew_sender.ensures slots c.deliver-handled_by_raw_socket.new.sockets) takes)
