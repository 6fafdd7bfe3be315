-- The request's checksum, with the type's word taken out.
use Rattle.std.proofs.Common.{◌∙◌, arith}
use Rattle.control_wire.proofs.Icmpv4Sums.{reply_checksum}
use Rattle.control_wire.proofs.icmpv4.reply_sum.Goals as goal

pub returns : goal.returns
returns c = rw c.requires.reply (reply_checksum c.args.request.now c.from.result c.requires.request
    (c.from.ensures ∙ c.u16_at.ensures) c.requires.ident c.requires.seq_no (omega (arith, c.if-sum-eq0.false)))
