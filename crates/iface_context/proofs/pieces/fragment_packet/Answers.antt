use Rattle.std.proofs.Common.{rules, ◌≡◌, ◌<◌, ◌+◌, ◌-◌, ◌*◌, ◌^◌, ◌/◌, ◌++◌, length, refl, ap, arith}
use Rattle.std.proofs.lemmas.List.{length-append}
use Rattle.fragmentation.specs.Cuts.{Datagram, HasForm}
use Rattle.host_machine.proofs.Context.PendingParts.{pieces_are}
use Rattle.host_machine.proofs.Receive.Parts.{size_positive}
use Rattle.iface_context.proofs.pieces.fragment_packet.Goals as goal

pub invariant_of-context-clause-pending : goal.invariant_of-context-clause-pending
invariant_of-context-clause-pending c =
    let k = c.args.context.now in
    let d : Datagram = record {
      destination = c.args.destination.now;
      header = c.header-header.result;
      identification = c.args.identification;
      payload = c.as_slice.result.now ++ c.octets.result.now;
      size = (c.ip_mtu.result - 20) / 8 * 8;
    } in
    let source_fits : c.header-header.result.src_addr.bits < 2 ^ 32 = search rules in
    let destination_fits : c.header-header.result.dst_addr.bits < 2 ^ 32 = search rules in
    let identification_fits : c.args.identification < 2 ^ 16 = search rules in
    let whole : length d.payload ≡ length c.as_slice.result.now + length c.octets.result.now =
    length-append c.as_slice.result.now c.octets.result.now in
    let more : d.size < length d.payload =
    omega (
      arith,
      whole,
      ap length c.as_slice.ensures.value,
      ap length c.octets.ensures,
      ap length c.requires.empty,
      c.emit_header.ensures.len,
      c.ip_mtu.ensures,
      c.requires.long,
    ) in
    let form : HasForm d = record {
      source_addr = source_fits;
      destination_addr = destination_fits;
      identification = identification_fits;
      payload = omega (
        arith,
        whole,
        ap length c.as_slice.ensures.value,
        ap length c.octets.ensures,
        ap length c.requires.empty,
        c.emit_header.ensures.len,
        c.requires.fits,
      );
    } in
    rw c.fill.ensures (pieces_are k.capabilities.medium d ((c.ip_mtu.result - 20) / 8) form c.requires.of_medium refl
    (size_positive c.ip_mtu.result (rw c.ip_mtu.ensures k.long)) more)
