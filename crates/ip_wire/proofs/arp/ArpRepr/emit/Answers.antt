-- The array is the text of the packet.
use Rattle.std.proofs.Common.{rules, ◌≡◌, ◌∙◌, ap, List, ℕ, ◌++◌}
use Rattle.std.specs.Int.{w16, to_be_bytes}
use Rattle.ip_wire.specs.Arp.{number_of}
use Rattle.ip_wire.proofs.ArpAgain.{packet_cells}
use Rattle.ip_wire.proofs.arp.ArpRepr.emit.Goals as goal

pub returns-clause-items : goal.returns-clause-items
returns-clause-items c =
    let r = c.args.self.now in
    let number : c.to_be_bytes.result ≡ to_be_bytes w16 (number_of r.operation) = c.to_be_bytes.ensures ∙ ap (to_be_bytes w16) c.number.ensures in
    c.append.ensures
    ∙ ap (λ (t : List ℕ). c.args.out.now ++ t)
    (packet_cells c.to_be_bytes.result r.source_hardware_addr.0 c.octets.result r.target_hardware_addr.0 c.octets-2.result (number_of r.operation)
    r.source_protocol_addr.bits r.target_protocol_addr.bits (search rules) (search rules) number c.octets.ensures c.octets-2.ensures)
