use Rattle.std.proofs.Common.{refl}
use Rattle.fragmentation.specs.Slots.{free_slots}
use Rattle.host_machine.specs.Context.Host.{no_sockets}
use Rattle.iface_context.specs.Details.PacketValues as value_of
use Rattle.iface_send.proofs.DispatchFrame.{groups_stay}
use Rattle.iface_send.proofs.Offered.{not_granted, goes}
use Rattle.iface_send.proofs.transmit.send_packet.Goals as goal

pub returns-then-not-transmit-clause-told : goal.returns-then-not-transmit-clause-told
returns-then-not-transmit-clause-told g c = not_granted c.args.context.now (value_of.packet c.args.packet.now)
    (rw (c.now.ensures, c.if-not-transmit.true) at c.transmit.ensures.told) refl refl

pub returns-clause-told : goal.returns-clause-told
returns-clause-told g c =
    goes c.args.context.now c.dispatch.new.context g.met.D.Device.tells_on (value_of.packet c.args.packet.now) c.dispatch.result
    (rw (c.now.ensures, c.if-not-transmit.false) at c.transmit.ensures.told) c.dispatch.ensures c.send_frame.ensures refl refl

pub returns-clause-groups : goal.returns-clause-groups
returns-clause-groups g c = groups_stay (c.dispatch.ensures.follows (free_slots 0) no_sockets)
