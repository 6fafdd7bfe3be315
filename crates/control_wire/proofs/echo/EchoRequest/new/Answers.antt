-- What the words behind the checksum leave.
use Rattle.std.proofs.Common.{length, refl}
use Rattle.control_wire.proofs.EchoSums.{rest_of_request}
use Rattle.control_wire.proofs.echo.EchoRequest.new.Goals as goal

pub invariant_of-result : goal.invariant_of-result
invariant_of-result c = record {
  whole_header = c.requires.request.whole_header;
  short = c.requires.short;
  leaves = rw (c.fold-rest.ensures, c.from.ensures) (
      rest_of_request c.args.src.now c.args.dst.now c.args.octets.now c.pseudo_header_sum-start.result c.u16_at-sum.result (length c.args.octets.now)
      c.requires.request refl c.pseudo_header_sum-start.ensures.folds c.u16_at-sum.ensures);
}
