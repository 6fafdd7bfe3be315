-- The request's sum, with another type.
use Rattle.std.proofs.Common.{◌≡◌, ◌+◌, length, drop, arith}
use Rattle.std.proofs.lemmas.List.{length-drop}
use Rattle.control_wire.proofs.EchoSums.{reply_checksum}
use Rattle.control_wire.proofs.echo.reply_sum.Goals as goal

pub returns : goal.returns
returns c =
    let octets = c.args.request.now.octets.now in
    let whole : 8 + length (drop 8 octets) ≡ length octets = omega (arith, length-drop 8 octets, c.requires.whole_header) in
    rw (c.fold.ensures, c.from.ensures) (
    reply_checksum c.args.src.now c.args.dst.now octets c.pseudo_header_sum-start.result c.args.request.now.rest (8 + length (drop 8 octets))
    c.requires.whole_header c.requires.ident c.requires.seq_no whole (rw whole c.pseudo_header_sum-start.ensures.folds) c.requires.leaves)
