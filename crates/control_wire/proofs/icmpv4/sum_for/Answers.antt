use Rattle.control_wire.proofs.Icmpv4Sums.{checksum_of_parts}
use Rattle.control_wire.proofs.icmpv4.sum_for.Goals as goal

pub returns : goal.returns
returns c =
    checksum_of_parts c.args.head.now c.args.quoted.now c.args.payload.now c.part_sum.result c.part_sum-2.result c.long_sum_with.result
    c.requires.head_even c.requires.quoted_even c.part_sum.ensures.folds c.part_sum-2.ensures.folds c.long_sum_with.ensures
