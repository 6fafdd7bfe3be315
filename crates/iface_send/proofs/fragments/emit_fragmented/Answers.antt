use Rattle.iface_context.specs.Details.PacketValues as value_of
use Rattle.iface_context.proofs.Cutting.{begins}
use Rattle.iface_send.proofs.fragments.emit_fragmented.Goals as goal

pub returns : goal.returns
returns c = begins c.args.identification (value_of.packet_v4 value_of.payload c.args.packet.now) c.args.destination.now c.fragment_packet.ensures.left
    c.fragment_packet.ensures.fits c.fragment_packet.ensures.ports c.requires.long c.requires.fits c.emit_next_piece.ensures
