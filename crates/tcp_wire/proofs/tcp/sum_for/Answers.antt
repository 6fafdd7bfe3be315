use Rattle.tcp_wire.proofs.Sums.{checksum_is}
use Rattle.tcp_wire.proofs.tcp.sum_for.Goals as goal

pub returns : goal.returns
returns c =
    checksum_is c.args.src.now c.args.dst.now c.pseudo_sum.result c.part_sum.result c.part_sum-2.result c.sum_with.result c.args.repr.now
    c.words_with-words.result c.args.options.now c.args.payload.now c.words_with-words.ensures c.requires.options
    c.pseudo_sum.ensures.folds c.part_sum.ensures.folds c.part_sum-2.ensures.folds c.sum_with.ensures
