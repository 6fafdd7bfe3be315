use Rattle.std.proofs.Common.{◌+◌, ◌/◌, ◌%◌, arith}
use Rattle.control_wire.proofs.Times.{shifted}
use Rattle.control_wire.proofs.igmp.tenths_of.Goals as goal

pub returns-clause-small : goal.returns-clause-small
returns-clause-small c =
    let mantissa = c.from-mantissa.ensures in
    let short = shifted c.from-mantissa.result (c.args.max_resp_code / 16 % 8 + 3) (omega (arith, mantissa)) (omega arith) in
    omega (arith, short)
