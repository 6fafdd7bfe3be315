use Rattle.std.proofs.Common.{◌≡◌, sym, subst, Ok, Err, rules}
use Rattle.host_machine.specs.Send.Dispatch.{Emits}
use Rattle.iface_context.specs.Details.PacketValues as value_of
use Rattle.iface_context.specs.declared.context.Context.{Context}
use Rattle.iface_context.specs.Stands.{host_in}
use Rattle.iface_context.proofs.Building.{by_rule}
use Rattle.iface_send.proofs.dispatch.dispatch_long.Goals as goal

pub returns-in_err-destination : goal.returns-in_err-destination
returns-in_err-destination c =
    let same : c.from_residual.result ≡ Err c.in_err-destination.field-0.0 = search rules in
    rw same (c.in_err-destination.ensures.refused c.args.identification (value_of.packet c.args.packet.now) (sym c.dst_addr.ensures))

pub returns : goal.returns
returns c =
    let p = value_of.packet c.args.packet.now in
    let found = c.in_ok-destination in
    by_rule c.emit_long_packet.ensures (λ slots sockets frames notes emits.
    found.ensures.reached.sends c.args.identification p (Ok tt) slots sockets frames notes (host_in c.emit_long_packet.new.context slots sockets)
    (sym c.dst_addr.ensures)
    (subst (λ (k : Context). Emits c.args.identification p found.destination (Ok tt) (host_in k slots sockets) frames notes
    (host_in c.emit_long_packet.new.context slots sockets)) found.ensures.unchanged.0 emits))
