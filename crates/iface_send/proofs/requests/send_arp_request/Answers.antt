use Rattle.std.proofs.Common.{[], ◌∷◌, refl, sym, ◌∙◌, ap, arith}
use Rattle.host_machine.specs.Context.Note.{OfDiscovery, Ask}
use Rattle.host_machine.specs.Context.Host.{Host, with_slots}
use Rattle.host_machine.specs.Discovery.Arp.{request_for}
use Rattle.host_machine.specs.Packet.Frame.{arp_frame}
use Rattle.host_machine.specs.Send.Requests.{Asked, NoSource}
use Rattle.iface_context.proofs.Building.{unsent, nothing, one}
use Rattle.iface_send.proofs.requests.send_arp_request.Goals as goal

pub returns-in_default : goal.returns-in_default
returns-in_default c =
    nothing c.requires.empty
    (λ slots sockets. NoSource c.args.target.now refl (sym c.get_source_address_ipv4.ensures ∙ c.in_default.is) refl (unsent _))

pub returns : goal.returns
returns c =
    one (arp_frame (request_for c.args.own c.in-Some.source c.args.target.now)) (OfDiscovery (Ask c.args.context.now.moment) ∷ [])
    (c.emit_arp.ensures.items ∙ ap arp_frame c.request_for.ensures) (omega (arith, c.emit_arp.ensures.len))
    (λ slots sockets. Asked c.args.target.now c.in-Some.source refl
    (sym c.get_source_address_ipv4.ensures ∙ c.in-Some.is) refl refl refl (ap (λ (H : Host). with_slots H slots) (c.limit_rate.ensures sockets)))
