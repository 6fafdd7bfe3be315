use Rattle.std.proofs.Common.{rules, ℕ, ◌+◌, length, ap}
use Rattle.control_wire.proofs.Icmpv6Sums.{sum_of_parts}
use Rattle.control_wire.proofs.icmpv6.sum_of.Goals as goal

pub returns : goal.returns
returns c =
    sum_of_parts c.args.src.now c.args.dst.now _ _ c.head_with.result _ c.args.first.now c.args.second.now _ c.args.payload.now
    c.pseudo_header_sum-start.result c.part_sum-head.result c.part_sum.result c.part_sum-2.result c.sum_with.result
    (ap (λ (k : ℕ). k + length c.args.payload.now) c.header_len.ensures.value) c.head_with.ensures (search rules)
    c.requires.first_even c.requires.second_even c.requires.body
    c.pseudo_header_sum-start.ensures.folds c.part_sum-head.ensures.folds c.part_sum.ensures.folds c.part_sum-2.ensures.folds c.sum_with.ensures
