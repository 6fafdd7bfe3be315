use Rattle.std.proofs.Common.{sym, ◌∙◌, ap}
use Rattle.std.specs.Option.{option_map}
use Rattle.iface_context.specs.Details.PacketValues as value_of
use Rattle.iface_discovery.proofs.RouterSolicitations.{not_asked, solicitation_waits, solicitation_goes}
use Rattle.iface_discovery.proofs.router_solicitation.send_router_solicit.Goals as goal

pub returns-in_default : goal.returns-in_default
returns-in_default g c =
    not_asked c.args.context.now (g.met.D.Device.tells_nothing c.args.device.now)
    (sym c.due_solicitation.ensures.value ∙ ap (option_map value_of.packet) c.in_default.is)

pub returns-then-send_packet : goal.returns-then-send_packet
returns-then-send_packet g c =
    solicitation_goes c.args.context.now c.send_packet.new.context c.rs_sent.new.context (value_of.packet c.in-Some.packet) c.send_packet.result
    (sym c.due_solicitation.ensures.value ∙ ap (option_map value_of.packet) c.in-Some.is)
    c.if-send_packet.true c.send_packet.ensures.told c.rs_sent.ensures

pub returns-else-send_packet : goal.returns-else-send_packet
returns-else-send_packet g c =
    solicitation_waits c.args.context.now c.send_packet.new.context (value_of.packet c.in-Some.packet) c.send_packet.result
    (sym c.due_solicitation.ensures.value ∙ ap (option_map value_of.packet) c.in-Some.is) c.if-send_packet.false c.send_packet.ensures.told
