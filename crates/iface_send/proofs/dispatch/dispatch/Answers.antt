use Rattle.std.proofs.Common.{◌≡◌, ◌≤◌, ℕ, List, [], ◌∷◌, ◌++◌, refl, sym, ap, ◌∙◌, subst, Ok, Err, arith, rules}
use Rattle.ip_address.specs.declared.ip.IpAddress.{IpAddress}
use Rattle.ip_wire.specs.declared.ethernet.EthernetProtocol.{EthernetProtocol}
use Rattle.net_base.specs.Checksum.{ip_mtu_of}
use Rattle.host_machine.specs.Packet.Packet.{total_len}
use Rattle.host_machine.specs.Context.Note.{OfIdentification, Identify}
use Rattle.host_machine.specs.Context.Host.{no_sockets}
use Rattle.host_machine.specs.Packet.Frame.{ip_frame, link_header, packet_text}
use Rattle.host_machine.specs.Send.Dispatch.{Emits, ToUnspecified, ToSpecified, Whole}
use Rattle.iface_context.specs.declared.context.Context.{Context}
use Rattle.iface_send.specs.Destination.{ethertype_to}
use Rattle.iface_context.specs.Stands.{host_in, host_of}
use Rattle.iface_context.proofs.Building.{unsent, nothing, noting, one}
use Rattle.iface_send.proofs.Destinations.{same_ethertype, some_octets}
use Rattle.iface_send.proofs.Identified.{with_id}
use Rattle.iface_send.proofs.dispatch.dispatch.Goals as goal

pub returns-then-is_unspecified : goal.returns-then-is_unspecified
returns-then-is_unspecified g c = nothing c.requires.empty (λ slots sockets.
    ToUnspecified (rw (← c.dst_addr-dst_addr.ensures, ← c.is_unspecified.ensures) c.if-is_unspecified.true) refl (unsent _))

pub returns-then-total_len-ip_mtu : goal.returns-then-total_len-ip_mtu
returns-then-total_len-ip_mtu g c =
    noting (OfIdentification (Identify c.args.context.now.ipv4_id)) c.dispatch_long_by_copy.ensures (λ slots sockets frames notes sends.
    ToSpecified notes (rw (← c.dst_addr-dst_addr.ensures, ← c.is_unspecified.ensures) c.if-is_unspecified.false)
    (with_id c.take_id-identification.result c.args.context.now c.take_id-identification.new.context (g.Q.AnyPacket.stands_for c.args.packet.now)
    _ frames notes _ slots sockets c.take_id-identification.ensures.value c.take_id-identification.ensures.taken sends) refl)

pub returns-in_err-begin_frame : goal.returns-in_err-begin_frame
returns-in_err-begin_frame g c =
    let same : c.from_residual.result ≡ Err c.in_err-begin_frame.field-0.0 = search rules in
    rw same (
    noting (OfIdentification (Identify c.args.context.now.ipv4_id))
    (c.in_err-begin_frame.ensures.refused c.take_id-identification.result (g.Q.AnyPacket.stands_for c.args.packet.now) (sym c.dst_addr-dst_addr.ensures))
    (λ slots sockets frames notes sends.
    ToSpecified notes (rw (← c.dst_addr-dst_addr.ensures, ← c.is_unspecified.ensures) c.if-is_unspecified.false)
    (with_id c.take_id-identification.result c.args.context.now c.take_id-identification.new.context (g.Q.AnyPacket.stands_for c.args.packet.now)
    _ frames notes _ slots sockets c.take_id-identification.ensures.value c.take_id-identification.ensures.taken sends) refl))

pub returns : goal.returns
returns g c =
    let p = g.Q.AnyPacket.stands_for c.args.packet.now in
    let k = c.begin_frame.new.context in
    let same = c.in_ok-begin_frame.ensures.unchanged in
    let begun = c.in_ok-begin_frame.ensures.begun in
    let id = c.take_id-identification.result in
    let fits : total_len p ≤ ip_mtu_of c.take_id-identification.new.context.capabilities =
    rw (← c.total_len.ensures, ← c.ip_mtu.ensures) c.if-total_len-ip_mtu.false in
    let built : c.emit.new.out ≡ ip_frame (host_of k no_sockets) begun.destination p =
    (rw c.lent_capabilities.ensures at c.emit.ensures.items)
    ∙ ap (λ (xs : List ℕ). xs ++ packet_text k.capabilities p) (begun.header
    ∙ ap (λ (x : Context). link_header x.hardware_addr begun.destination (ethertype_to c.dst_addr-dst_addr.result)) (sym same)
    ∙ ap (λ (a : IpAddress). link_header k.hardware_addr begun.destination (ethertype_to a)) c.dst_addr-dst_addr.ensures
    ∙ ap (λ (e : EthernetProtocol). link_header k.hardware_addr begun.destination e) (same_ethertype p)) in
    one (ip_frame (host_of k no_sockets) begun.destination p) (OfIdentification (Identify c.args.context.now.ipv4_id) ∷ []) built
    (omega (arith, c.emit.ensures.len, some_octets p)) (λ slots sockets.
    ToSpecified [] (rw (← c.dst_addr-dst_addr.ensures, ← c.is_unspecified.ensures) c.if-is_unspecified.false)
    (with_id id c.args.context.now c.take_id-identification.new.context p (Ok tt) (ip_frame (host_of k no_sockets) begun.destination p ∷ []) []
    (host_in k slots sockets) slots sockets c.take_id-identification.ensures.value c.take_id-identification.ensures.taken
    (begun.reached.sends id p (Ok tt) slots sockets (ip_frame (host_of k no_sockets) begun.destination p ∷ []) []
    (host_in k slots sockets) (sym c.dst_addr-dst_addr.ensures)
    (subst (λ (x : Context). Emits id p begun.destination (Ok tt) (host_in x slots sockets)
    (ip_frame (host_of k no_sockets) begun.destination p ∷ []) [] (host_in k slots sockets)) same
    (Whole (subst (λ (x : Context). total_len p ≤ ip_mtu_of x.capabilities) (sym same) fits) c.emit.ensures.formed refl refl refl refl)))) refl)
