use Rattle.std.proofs.Common.{◌+◌, ◌*◌, ◌/◌, ◌%◌, ◌^◌, ◌<◌, get_or, arith}
use Rattle.std.proofs.Math.Nat.{div-le_self}
use Rattle.socket_set.proofs.BusyLemmas.{before_or_from, below_lowest, lowest_set, none_left, shifted}
use Rattle.socket_set.proofs.busy.BusyMarks.next.Goals as goal

pub returns-then-word-ne0-clause-busy : goal.returns-then-word-ne0-clause-busy
returns-then-word-ne0-clause-busy c = λ before.
    let words = c.self.inside.words in
    let at = c.args.from / 64 in
    let k = c.args.from % 64 in
    let word = get_or words at 0 in
    let fits : word < 2 ^ 64 = omega arith in
    let rest_fits : word / 2 ^ k < 2 ^ 64 = omega (arith, div-le_self word (2 ^ k)) in
    rw (← c.self.view_is) (lowest_set words c.args.from at k (word / 2 ^ k) (omega arith)
    (shifted word k) c.min-then-word-ne0.result (omega arith) fits (omega arith) rest_fits)

pub returns-then-word-ne0-clause-passed : goal.returns-then-word-ne0-clause-passed
returns-then-word-ne0-clause-passed c = λ i after before.
    let words = c.self.inside.words in
    let at = c.args.from / 64 in
    let k = c.args.from % 64 in
    let word = get_or words at 0 in
    let fits : word < 2 ^ 64 = omega arith in
    let rest_fits : word / 2 ^ k < 2 ^ 64 = omega (arith, div-le_self word (2 ^ k)) in
    rw (← c.self.view_is) (below_lowest words c.args.from at k (word / 2 ^ k) (omega arith)
    (shifted word k) i (omega arith) fits (omega arith) rest_fits after (omega arith))

pub returns-clause-passed : goal.returns-clause-passed
returns-clause-passed c = λ i after before.
    let words = c.self.inside.words in
    let at = c.args.from / 64 in
    let k = c.args.from % 64 in
    let word = get_or words at 0 in
    before_or_from i (64 * (at + 1))
    (λ within. rw (← c.self.view_is)
    (none_left words c.args.from at k (word / 2 ^ k) (omega arith) (shifted word k) i (omega arith) c.if-word-ne0.false after within))
    (λ past. c.next_word.ensures.passed i past before)
