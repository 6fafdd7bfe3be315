use Rattle.std.proofs.Common.{◌%◌, ◌/◌, get_or, arith, w64}
use Rattle.std.proofs.lemmas.Nat.Bits.{bit_at_clear_same, bit_at_clear_other}
use Rattle.socket_set.proofs.BusyLemmas.{mark_cleared, others_stay}
use Rattle.socket_set.proofs.busy.BusyMarks.clear.Goals as goal

pub returns-then-index-lt-MARKED_PLACES-clause-cleared : goal.returns-then-index-lt-MARKED_PLACES-clause-cleared
returns-then-index-lt-MARKED_PLACES-clause-cleared c = λ marked.
    let i = c.args.index in
    let words = c.self.inside.words in
    mark_cleared words i _ marked (omega arith) (bit_at_clear_same w64 (get_or words (i / 64) 0) (i % 64) (omega arith))

pub returns-then-index-lt-MARKED_PLACES-clause-others : goal.returns-then-index-lt-MARKED_PLACES-clause-others
returns-then-index-lt-MARKED_PLACES-clause-others c =
    let i = c.args.index in
    let words = c.self.inside.words in
    rw (← c.self.view_is)
    (others_stay words i _ (omega arith) (λ j within other. bit_at_clear_other w64 (get_or words (i / 64) 0) (i % 64) (omega arith) j within other))
