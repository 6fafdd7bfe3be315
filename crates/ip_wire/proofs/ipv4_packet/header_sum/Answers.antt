-- The values of the header fold as its words.
use Rattle.std.proofs.Common.{rules, ◌∙◌, arith}
use Rattle.ip_wire.proofs.HeaderSums.{header_folds}
use Rattle.ip_wire.proofs.ipv4_packet.header_sum.Goals as goal

pub returns : goal.returns
returns c =
    c.fold.ensures
    ∙ rw (c.from.ensures, c.from-2.ensures, c.two_words-fragments.ensures.value, c.from-3.ensures, c.from-4.ensures, c.number.ensures) (
    header_folds c.args.repr.now c.args.fragment.now c.from-lengths.result c.word.result c.from-lengths.ensures c.word.ensures.value
    (omega (arith, c.from-lengths.ensures, c.requires.payload_len)) c.word.ensures.small
    c.two_words-fragments.ensures.small.0 (search rules) (search rules))
