use Rattle.std.proofs.Common.{sym, ◌∙◌, rules}
use Rattle.iface_context.proofs.Building.{nothing, by_rule}
use Rattle.iface_send.proofs.Destinations.{by_medium, to_many, to_neighbor, no_hop, silent, asked}
use Rattle.iface_send.proofs.dispatch.destination_of.Goals as goal

pub returns-in_default-clause-reached : goal.returns-in_default-clause-reached
returns-in_default-clause-reached c = by_medium c.args.context.now c.args.dst_addr.now (sym c.hardware_addr.ensures ∙ c.in_default.is)

pub returns-in-Some-clause-reached : goal.returns-in-Some-clause-reached
returns-in-Some-clause-reached c =
    to_many c.args.context.now c.args.dst_addr.now c.in-Ethernet.own c.in-Some.many (sym c.hardware_addr.ensures ∙ c.in-Ethernet.is)
    (sym c.multicast_hardware_addr.ensures.value ∙ c.in-Some.is) (search rules)

pub returns-in_default-next_hop-clause-refused : goal.returns-in_default-next_hop-clause-refused
returns-in_default-next_hop-clause-refused c =
    no_hop c.args.context.now c.args.dst_addr.now c.in-Ethernet.own c.requires.empty (sym c.hardware_addr.ensures ∙ c.in-Ethernet.is)
    (sym c.multicast_hardware_addr.ensures.value ∙ c.in_default-multicast_hardware_addr.is)
    (λ slots sockets. rw c.in_default-next_hop.is at (c.next_hop.ensures.hop slots sockets))

pub returns-in-Found-clause-reached : goal.returns-in-Found-clause-reached
returns-in-Found-clause-reached c =
    to_neighbor c.args.context.now c.args.dst_addr.now c.in-Some-next_hop.hop c.in-Ethernet.own c.in-Found.destination (sym c.hardware_addr.ensures ∙ c.in-Ethernet.is)
    (sym c.multicast_hardware_addr.ensures.value ∙ c.in_default-multicast_hardware_addr.is)
    (λ slots sockets. rw c.in-Some-next_hop.is at (c.next_hop.ensures.hop slots sockets)) (sym c.lookup.ensures ∙ c.in-Found.is)

pub returns-in-RateLimited-clause-refused : goal.returns-in-RateLimited-clause-refused
returns-in-RateLimited-clause-refused c = λ id p to. nothing c.requires.empty (λ slots sockets.
    silent id p c.args.context.now c.args.dst_addr.now c.in-Some-next_hop.hop c.in-Ethernet.own slots sockets to (sym c.hardware_addr.ensures ∙ c.in-Ethernet.is)
    (sym c.multicast_hardware_addr.ensures.value ∙ c.in_default-multicast_hardware_addr.is)
    (rw c.in-Some-next_hop.is at (c.next_hop.ensures.hop slots sockets)) (sym c.lookup.ensures ∙ c.in-RateLimited.is))

pub returns-in-NotFound-clause-refused : goal.returns-in-NotFound-clause-refused
returns-in-NotFound-clause-refused c = λ id p to. by_rule c.discover_by_copy.ensures (λ slots sockets frames notes discovers.
    asked id p c.args.context.now c.args.dst_addr.now c.in-Some-next_hop.hop c.in-Ethernet.own slots sockets to (sym c.hardware_addr.ensures ∙ c.in-Ethernet.is)
    (sym c.multicast_hardware_addr.ensures.value ∙ c.in_default-multicast_hardware_addr.is)
    (rw c.in-Some-next_hop.is at (c.next_hop.ensures.hop slots sockets)) (sym c.lookup.ensures ∙ c.in-NotFound.is) discovers)
