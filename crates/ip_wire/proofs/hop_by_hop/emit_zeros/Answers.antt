use Rattle.std.proofs.Common.{arith}
use Rattle.ip_wire.proofs.EmittedOptions.{zeros_after}
use Rattle.ip_wire.proofs.hop_by_hop.emit_zeros.Goals as goal

pub returns : goal.returns
returns c = rw (c.append-2.ensures, c.append.ensures, c.from.ensures)
    (zeros_after c.args.out.now c.args.option_type c.args.len c.args.len 255 (omega (arith, c.ranges.len.fits)))
