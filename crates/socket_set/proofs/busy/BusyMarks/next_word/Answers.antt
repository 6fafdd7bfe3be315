use Rattle.std.proofs.Common.{◌*◌, ◌^◌, ◌<◌, get_or, arith}
use Rattle.socket_set.proofs.BusyLemmas.{all_of_it, before_or_from, below_lowest, lowest_set}
use Rattle.socket_set.proofs.busy.BusyMarks.next_word.Goals as goal

pub returns-then-word-ne0-clause-busy : goal.returns-then-word-ne0-clause-busy
returns-then-word-ne0-clause-busy c = λ before.
    let words = c.self.inside.words in
    let at = c.loop-at.at in
    let word = get_or words at 0 in
    let fits : word < 2 ^ 64 = omega arith in
    rw (← c.self.view_is) (lowest_set words (64 * at) at 0 word (omega arith) (all_of_it word) c.min.result (omega arith) fits (omega arith) fits)

pub returns-then-word-ne0-clause-passed : goal.returns-then-word-ne0-clause-passed
returns-then-word-ne0-clause-passed c = λ i after before.
    let words = c.self.inside.words in
    let at = c.loop-at.at in
    let word = get_or words at 0 in
    let fits : word < 2 ^ 64 = omega arith in
    let some : 0 < word = omega arith in
    rw (← c.self.view_is) (before_or_from i (64 * at) (c.loop-at.invariant i after)
    (λ from. below_lowest words (64 * at) at 0 word (omega arith) (all_of_it word) i (omega arith) fits some fits from (omega arith)))
