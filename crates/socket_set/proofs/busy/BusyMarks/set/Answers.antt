use Rattle.std.proofs.Common.{◌%◌, ◌/◌, get_or, arith, w64}
use Rattle.std.proofs.lemmas.Nat.Bits.{bit_at_set_same, bit_at_set_other}
use Rattle.socket_set.proofs.BusyLemmas.{mark_set, others_stay}
use Rattle.socket_set.proofs.busy.BusyMarks.set.Goals as goal

pub returns-then-index-lt-MARKED_PLACES-clause-marked : goal.returns-then-index-lt-MARKED_PLACES-clause-marked
returns-then-index-lt-MARKED_PLACES-clause-marked c =
    let i = c.args.index in
    let words = c.self.inside.words in
    mark_set words i _ (omega arith) (bit_at_set_same w64 (get_or words (i / 64) 0) (i % 64) (omega arith))

pub returns-then-index-lt-MARKED_PLACES-clause-others : goal.returns-then-index-lt-MARKED_PLACES-clause-others
returns-then-index-lt-MARKED_PLACES-clause-others c =
    let i = c.args.index in
    let words = c.self.inside.words in
    rw (← c.self.view_is)
    (others_stay words i _ (omega arith) (λ j within other. bit_at_set_other w64 (get_or words (i / 64) 0) (i % 64) (omega arith) j other))
