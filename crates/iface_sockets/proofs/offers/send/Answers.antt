use Rattle.iface_sockets.proofs.SocketTurns.{given_gone, given_kept, not_given}
use Rattle.iface_sockets.proofs.offers.send.Goals as goal

pub returns-then-not-transmit : goal.returns-then-not-transmit
returns-then-not-transmit g c =
    not_given c.args.context.now (g.Q.AnyPacket.stands_for c.args.packet.now) (rw (c.now.ensures, c.if-not-transmit.true) at c.transmit.ensures.told)

pub returns-then-gone : goal.returns-then-gone
returns-then-gone g c =
    given_gone c.args.context.now c.dispatch.new.context g.met.D.Device.tells_on
    (g.Q.AnyPacket.stands_for c.args.packet.now) c.dispatch.result c.is_ok-gone.result
    (rw (c.now.ensures, c.if-not-transmit.false) at c.transmit.ensures.told) c.dispatch.ensures c.send_frame.ensures
    c.is_ok-gone.ensures.value c.if-gone.true

pub returns-else-gone : goal.returns-else-gone
returns-else-gone g c =
    given_kept c.args.context.now c.dispatch.new.context g.met.D.Device.tells_on
    (g.Q.AnyPacket.stands_for c.args.packet.now) c.dispatch.result c.is_ok-gone.result
    (rw (c.now.ensures, c.if-not-transmit.false) at c.transmit.ensures.told) c.dispatch.ensures c.send_frame.ensures
    c.is_ok-gone.ensures.value c.if-gone.false c.dst_addr.ensures
