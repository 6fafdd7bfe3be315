use Rattle.std.proofs.Common.{◌∙◌, refl, sym, ap}
use Rattle.sockets.specs.Udp as udp
use Rattle.sockets.specs.Kinds.{UdpOffer, up_udp}
use Rattle.iface_sockets.proofs.SocketTurns.{none_offered, packet_is, silent, turned_told, turned_untold}
use Rattle.iface_sockets.proofs.udp.give_udp_turn.Goals as goal

pub returns-in_default : goal.returns-in_default
returns-in_default g c =
    silent c.args.context.now (g.met.D.Device.tells_nothing c.args.device.now)
    (none_offered UdpOffer udp.value_of c.offer.result c.offer.ensures.value c.in_default.is) (ap up_udp c.offer.follows.holds-at-none)

pub returns-in-Some-outcome : goal.returns-in-Some-outcome
returns-in-Some-outcome g c =
    turned_told c.args.context.now c.send_datagram-turn.new.context
    (packet_is UdpOffer udp.value_of c.offer.result c.offer.ensures.value c.in-Some.datagram c.in-Some.is) (ap up_udp c.offer.follows.holds-at-none)
    c.send_datagram-turn.ensures c.in-Some-outcome.gone (sym c.outcome.ensures ∙ c.in-Some-outcome.is) (ap up_udp c.told.ensures)

pub returns-in_default-outcome : goal.returns-in_default-outcome
returns-in_default-outcome g c =
    turned_untold c.args.context.now c.send_datagram-turn.new.context
    (packet_is UdpOffer udp.value_of c.offer.result c.offer.ensures.value c.in-Some.datagram c.in-Some.is) (ap up_udp c.offer.follows.holds-at-none)
    c.send_datagram-turn.ensures (sym c.outcome.ensures ∙ c.in_default-outcome.is) refl
