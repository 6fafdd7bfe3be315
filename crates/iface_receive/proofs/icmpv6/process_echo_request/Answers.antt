use Rattle.std.proofs.Common.{ℕ, List, [], Some, drop, refl}
use Rattle.ip_address.specs.declared.ip.IpAddress.TheVariants.{Ipv6}
use Rattle.control_wire.specs.declared.icmp.IcmpRepr.TheVariants.{Ipv6 as Ipv6Message}
use Rattle.control_wire.specs.Icmpv6.{Request, echo_reply_to, echo_request_in}
use Rattle.socket_set.specs.SocketSet.{with_places}
use Rattle.host_machine.specs.Sockets.Delivery.{to_each}
use Rattle.host_machine.specs.Context.Host.{SocketSet, no_sockets}
use Rattle.host_machine.specs.Icmp.Delivery.{accepts, storage_after_delivery}
use Rattle.host_machine.specs.Icmp.Icmpv6.{message_back}
use Rattle.std.proofs.lemmas.List.{take_rest}
use Rattle.iface_context.specs.Stands.{host_in, host_of}
use Rattle.iface_context.proofs.Processing.{answered}
use Rattle.iface_receive.proofs.Messages.{of_request}
use Rattle.iface_receive.proofs.Icmpv6Rules.{icmpv6_taken}
use Rattle.iface_receive.proofs.icmpv6.process_echo_request.Goals as goal

pub returns : goal.returns
returns c =
    let octets : List ℕ = c.args.octets.now in
    let request = c.requires.request in
    let heard : SocketSet = with_places c.args.sockets.now (to_each (accepts (Ipv6Message (echo_request_in octets)) (drop 8 octets))
    (storage_after_delivery (Ipv6 c.args.header.now.src_addr) octets) c.args.sockets.now.places) in
    rw (c.deliver.ensures, c.u16_at.ensures, c.u16_at-2.ensures, take_rest octets 8) (
    answered heard (Some (message_back (host_of c.args.context.now no_sockets).ip_addrs c.args.header.now (echo_reply_to octets) (drop 8 octets)))
    (λ slots. icmpv6_taken (host_in c.args.context.now slots c.args.sockets.now) (host_in c.args.context.now slots heard) c.args.header.now octets
    (drop 8 octets) (echo_request_in octets) _ _ _ [] refl
    (record { whole_header = request.whole_header; sum = λ t. request.sum; body = Request request.type request.code }, of_request octets request.type)
    refl (refl, refl, refl))
    (rw c.new-request.ensures at c.send_icmpv6_reply.ensures))
