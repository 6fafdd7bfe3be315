use Rattle.std.proofs.Common.{ap, sym, ◌∙◌}
use Rattle.iface_context.proofs.Processing.{by_law}
use Rattle.iface_receive.proofs.PacketRules.{frame_taken, packet_taken}
use Rattle.iface_receive.proofs.ethernet.process_frame.Goals as goal

pub returns-in-Ethernet : goal.returns-in-Ethernet
returns-in-Ethernet c = by_law c.process_ethernet.ensures (λ H stands reply notes taken takes.
    frame_taken H.hardware_addr c.in-Ethernet.own H taken c.args.frame.now reply notes
    (ap (λ K. K.hardware_addr) stands.same ∙ sym c.hardware_addr.ensures ∙ c.in-Ethernet.is) takes)

pub returns-in-Ip : goal.returns-in-Ip
returns-in-Ip c = by_law c.process_ip.ensures (λ H stands reply notes taken takes.
    packet_taken H.hardware_addr H taken c.args.frame.now reply notes
    (ap (λ K. K.hardware_addr) stands.same ∙ sym c.hardware_addr.ensures ∙ c.in-Ip.is) takes)
