use Rattle.std.proofs.Common.{◌∙◌, refl, sym, ap}
use Rattle.sockets.specs.Raw as raw
use Rattle.sockets.specs.Kinds.{RawOffer, up_raw}
use Rattle.iface_sockets.proofs.SocketTurns.{none_offered, packet_is, silent, turned_told, turned_untold}
use Rattle.iface_sockets.proofs.raw.give_raw_turn.Goals as goal

pub returns-in_default : goal.returns-in_default
returns-in_default g c =
    silent c.args.context.now (g.met.D.Device.tells_nothing c.args.device.now)
    (none_offered RawOffer raw.value_of c.offer.result c.offer.ensures.value c.in_default.is) (ap up_raw c.offer.follows.holds-at-none)

pub returns-in-Some-outcome : goal.returns-in-Some-outcome
returns-in-Some-outcome g c =
    turned_told c.args.context.now c.send-turn.new.context
    (packet_is RawOffer raw.value_of c.offer.result c.offer.ensures.value c.in-Some.packet c.in-Some.is ∙ sym c.raw_packet.ensures.value)
    (ap up_raw c.offer.follows.holds-at-none)
    c.send-turn.ensures c.in-Some-outcome.gone (sym c.outcome.ensures ∙ c.in-Some-outcome.is) (ap up_raw c.told.ensures)

pub returns-in_default-outcome : goal.returns-in_default-outcome
returns-in_default-outcome g c =
    turned_untold c.args.context.now c.send-turn.new.context
    (packet_is RawOffer raw.value_of c.offer.result c.offer.ensures.value c.in-Some.packet c.in-Some.is ∙ sym c.raw_packet.ensures.value)
    (ap up_raw c.offer.follows.holds-at-none)
    c.send-turn.ensures (sym c.outcome.ensures ∙ c.in_default-outcome.is) refl
