use Rattle.std.proofs.Common.{◌≡◌, [], ◌∷◌, refl, ◌∙◌, ap, arith}
use Rattle.ip_address.specs.declared.ethernet_address.EthernetAddress.{EthernetAddress}
use Rattle.ip_address.specs.declared.ipv6.Ipv6Address.{Ipv6Address}
use Rattle.host_machine.specs.Packet.Packet.{Packet}
use Rattle.iface_context.specs.Details.PacketValues as value_of
use Rattle.ip_address.specs.declared.hardware.HardwareAddress.TheVariants as hardware
use Rattle.ip_address.specs.Ipv6.{solicited_node}
use Rattle.ip_address.specs.AddressSelection.Ipv6.{source_v6}
use Rattle.host_machine.specs.Context.Note.{OfDiscovery, OfIdentification, Ask, Identify}
use Rattle.host_machine.specs.Context.Host.{Host, no_sockets, with_neighbors, with_slots, with_next_id}
use Rattle.host_machine.specs.Discovery.Ndisc.{solicitation_for}
use Rattle.host_machine.specs.Packet.Frame.{ip_frame}
use Rattle.host_machine.specs.Send.Requests.{Solicited, with_silence}
use Rattle.host_machine.specs.Send.Hops.{group_address_v6}
use Rattle.iface_context.specs.Stands.{host_of}
use Rattle.iface_context.proofs.Building.{one}
use Rattle.iface_send.proofs.requests.send_neighbor_solicit.Goals as goal

pub returns : goal.returns
returns c =
    let H = host_of c.args.context.now no_sockets in
    let mid = host_of c.take_id.new.context no_sockets in
    let asked = solicitation_for c.args.own (source_v6 c.args.context.now.ip_addrs.items c.args.target.now) c.args.target.now in
    let packet : value_of.packet c.solicitation_for-packet.result ≡ asked = c.solicitation_for-packet.ensures
    ∙ ap (λ (source : Ipv6Address). solicitation_for c.args.own source c.args.target.now) c.get_source_address_ipv6-source.ensures in
    let group : c.group_address_v6-group.result ≡ group_address_v6 (solicited_node c.args.target.now) = c.group_address_v6-group.ensures
    ∙ ap group_address_v6 c.solicited_node.ensures in
    one (ip_frame H (hardware.Ethernet (group_address_v6 (solicited_node c.args.target.now))) asked)
    (OfIdentification (Identify c.args.context.now.ipv4_id) ∷ OfDiscovery (Ask c.args.context.now.moment) ∷ [])
    (c.emit_frame.ensures.items
    ∙ ap (λ (to : EthernetAddress). ip_frame H (hardware.Ethernet to) (value_of.packet c.solicitation_for-packet.result)) group
    ∙ ap (λ (p : Packet). ip_frame H (hardware.Ethernet (group_address_v6 (solicited_node c.args.target.now))) p) packet)
    (omega (arith, c.emit_frame.ensures.some))
    (λ slots sockets. Solicited c.args.target.now refl refl refl refl (ap (λ (K : Host). with_slots K slots) (c.limit_rate.ensures sockets
    ∙ ap (λ (K : Host). with_neighbors K (with_silence mid.neighbors mid)) (c.take_id.ensures.taken sockets)
    ∙ ap (λ (M : Host). with_neighbors (with_next_id (host_of c.args.context.now sockets)) (with_silence M.neighbors M))
    (c.take_id.ensures.taken no_sockets))))
