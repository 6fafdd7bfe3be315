use Rattle.std.proofs.Common.{◌≡◌, ◌+◌, ◌-◌, ℕ, List, length, take, drop, min, max, sym, ap, ◌∙◌, arith, Option}
use Rattle.std.proofs.lemmas.Bool.Decides.{nat_tests}
use Rattle.tcp_machine.specs.Receiving.{next, edge}
use Rattle.tcp_connection.proofs.KeptLemmas.{kept_from, cut_is, none_is}
use Rattle.tcp_connection.proofs.receive_buffer.ReceiveBuffer.take_octets.Goals as goal

pub returns-then-fit-eq0-clause-taken : goal.returns-then-fit-eq0-clause-taken
returns-then-fit-eq0-clause-taken c = λ none.
    let now = c.args.self.now in
    let octets = c.args.octets.now in
    let start = c.args.start in
    let from = max start (next now) in
    let past = min (from - start) (length octets) in
    let n = c.next-next.ensures.value in
    let f = c.max-first.ensures in
    let e = c.edge.ensures.value in
    let first : c.max-first.result ≡ from = f ∙ ap (max start) n in
    let skip : c.min-skip.result ≡ past = c.min-skip.ensures ∙ ap (λ (k : ℕ). min (k - start) (length octets)) first in
    let room : c.saturating_sub-room.result ≡ edge now - from =
    c.saturating_sub-room.ensures ∙ ap (λ (k : ℕ). k - c.max-first.result) e ∙ ap (λ (k : ℕ). edge now - k) first in
    let fit : c.min-fit.result ≡ min (edge now - from) (length octets - past) =
    c.min-fit.ensures ∙ ap (λ (k : ℕ). min k (length octets - c.min-skip.result)) room
    ∙ ap (λ (k : ℕ). min (edge now - from) (length octets - k)) skip in
    let z : c.min-fit.result ≡ 0 = grind (arith, nat_tests, none) in
    ap (λ (cs : List (Option ℕ)). record { base = now.base; cells = cs; stop = now.stop })
    (none_is (from - now.base) (edge now - from) (from - start) octets now.cells (omega arith) (sym fit ∙ z))

pub returns-else-fit-eq0-clause-taken : goal.returns-else-fit-eq0-clause-taken
returns-else-fit-eq0-clause-taken c = λ kept.
    let now = c.args.self.now in
    let octets = c.args.octets.now in
    let start = c.args.start in
    let from = max start (next now) in
    let past = min (from - start) (length octets) in
    let n = c.next-next.ensures.value in
    let f = c.max-first.ensures in
    let e = c.edge.ensures.value in
    let first : c.max-first.result ≡ from = f ∙ ap (max start) n in
    let skip : c.min-skip.result ≡ past = c.min-skip.ensures ∙ ap (λ (k : ℕ). min (k - start) (length octets)) first in
    let room : c.saturating_sub-room.result ≡ edge now - from =
    c.saturating_sub-room.ensures ∙ ap (λ (k : ℕ). k - c.max-first.result) e ∙ ap (λ (k : ℕ). edge now - k) first in
    let fit : c.min-fit.result ≡ min (edge now - from) (length octets - past) =
    c.min-fit.ensures ∙ ap (λ (k : ℕ). min k (length octets - c.min-skip.result)) room
    ∙ ap (λ (k : ℕ). min (edge now - from) (length octets - k)) skip in
    let same : c.min-skip.result + c.min-fit.result - c.min-skip.result ≡ c.min-fit.result = omega arith in
    c.keep.ensures.kept kept
    ∙ ap (λ (k : ℕ). kept_from now k (take (c.min-skip.result + c.min-fit.result - c.min-skip.result) (drop c.min-skip.result octets))) first
    ∙ ap (λ (k : ℕ). kept_from now from (take k (drop c.min-skip.result octets))) (same ∙ fit)
    ∙ ap (λ (k : ℕ). kept_from now from (take (min (edge now - from) (length octets - past)) (drop k octets))) skip
    ∙ ap (λ (cs : List (Option ℕ)). record { base = now.base; cells = cs; stop = now.stop })
    (cut_is (from - now.base) (edge now - from) (from - start) octets now.cells (omega arith))
