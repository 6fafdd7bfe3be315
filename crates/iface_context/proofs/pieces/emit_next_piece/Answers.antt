use Rattle.std.proofs.Common.{◌<◌, ap, length, arith}
use Rattle.std.proofs.lemmas.List.{length-append}
use Rattle.fragmentation.specs.Details.Pending.{Pending}
use Rattle.host_machine.specs.Context.Host.{with_left}
use Rattle.iface_context.specs.Stands.{host_of}
use Rattle.iface_context.proofs.Cutting.{next_goes, in_parts}
use Rattle.iface_context.proofs.pieces.emit_next_piece.Goals as goal

pub returns : goal.returns
returns c = next_goes c.in-Some.piece
    (rw (← c.tx-summed.ensures) (in_parts _ _ _ c.requires.empty c.emit_link_header.ensures.items c.emit.ensures.items c.append.ensures))
    some (λ sockets. ap (λ (p : Pending). with_left (host_of c.args.context.now sockets) p.pieces) c.advance.ensures)
    _ c.in-Some.is c.peek.ensures.value where
      some : 0 < length c.append.new.self
      some = rw (c.append.ensures, length-append c.emit.new.out c.in-Some.piece.octets.now, c.emit.ensures.len) (omega (arith))
