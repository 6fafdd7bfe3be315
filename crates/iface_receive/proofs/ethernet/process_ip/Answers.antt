use Rattle.host_machine.specs.Receive.Ethernet.{Ipv4, Ipv6, OtherVersion}
use Rattle.iface_context.specs.Stands.{host_in}
use Rattle.iface_context.proofs.Processing.{by_law, dropped, in_place, unanswered}
use Rattle.iface_receive.proofs.ethernet.process_ip.Goals as goal

pub returns-in-4 : goal.returns-in-4
returns-in-4 c = by_law c.process_ipv4.ensures (λ H stands reply notes taken takes. Ipv4 c.in-4.is takes)

pub returns-in-6 : goal.returns-in-6
returns-in-6 c = by_law (in_place c.process_ipv6.ensures) (λ H stands reply notes taken takes. Ipv6 c.in-6.is takes)

pub returns-in_default : goal.returns-in_default
returns-in_default c = in_place (unanswered c.requires.empty (λ slots. OtherVersion c.in_default.in_default-own.rest.0.1
    c.in_default.in_default-own.rest.1 (dropped (host_in c.args.context.now slots c.args.sockets.now))))
